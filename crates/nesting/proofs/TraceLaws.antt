-- The trace's scans are document 01's sentences, for every trace.
use mathlib.Core.List.{List}
use Rattle.nesting.specs.Trace.{Entry, ScansAreWords}
use Rattle.nesting.proofs.OwnReturns.{own-return-found}
use Rattle.nesting.proofs.Opens.{opens-found, latest-found}
use Rattle.nesting.proofs.Chainings.{chainings-found, served-found}

pub scans-are-words : {X : Type 0} (l : List (Entry X)) → ScansAreWords l
scans-are-words l =
    record {
      own-return = λ t h. own-return-found t;
      open-handlers = opens-found l;
      latest-handler = latest-found l;
      its-chainings = chainings-found l;
      its-service = served-found l;
    }
