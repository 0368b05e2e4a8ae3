-- A look and a commit in the machine: their questions, what they answer and do, and what a chain is in terms of them.
use Prim.Native.Nat.{ℕ, ◌-◌, ◌<◌}
use mathlib.Core.Path.{◌≡◌, refl, sym, ap, ◌∙◌}
use mathlib.Core.Bool.{Bool, true, false, cond, ◌&&◌}
use native.Mathlib.Omega.{arith}
use lib.Seq.{get_or-set_same}
use lib.Dec.{eqb}
use borrow.Author.Tests.{ltb-true, eq-eqb, ne_eqb}
use Rattle.event.specs.Kinds as kind
use Rattle.event.specs.Event.{kind_of, address_of, head_of, UsesNeither}
use Rattle.event.proofs.Laws.{chain-shape, look-shape, commit-shape, kind-of, address-of}
use Rattle.pic_source.specs.Ranks.{rank}
use Rattle.pic_laws.proofs.Sources.{count_most}
use Rattle.handlers_stack.specs.declared.Handler.{Handler}
use Rattle.handlers_stack.specs.Stacks.{blank}
use Rattle.handlers.specs.declared.Machine.{Machine}
use Rattle.handlers.specs.Outcome.{Outcome}
use Rattle.handlers.specs.Machines.{uppermost, sound_of}
use Rattle.handlers.specs.Service.{accepted, ask, look_at, captured, chain_event, look_event, event_of, sound_step_of}
use Rattle.handlers.specs.Calls.{sound_first, chain_of, look_of, commit_of, step_of}
use Rattle.handlers_laws.specs.Commits.{first_no, LookQuestions, CommitQuestions, LooksAlone, Tells, LookTells, CommitsChain, CommitAnswers, commit_after, ChainIsLookThenCommit}
use Rattle.handlers_laws.proofs.Cases.{commit-served, of-kind}
use Rattle.handlers_laws.proofs.Facts.{facts, served-facts}
use Rattle.handlers_service.specs.Fields.{with_source}
use Rattle.handlers_laws.proofs.Service.{chain-event, look-event, commit-event, has_handler, in_handler, serves, served, followed, next_source, may_commit, committed}

-- An accepted event answered its question yes.
ask-yes : (m : Machine) (t : Bool) (q : ℕ) (o : Outcome) → (q ≡ 0 → ⊥) → (ask m t q o).refusal ≡ 0 → (t ≡ true) × (o.refusal ≡ 0)
ask-yes m true q o n h = (refl, h)
ask-yes m false q o n h = absurd (n h)

-- Questions 8, 17 and 19 are answered yes.
record Asked (m : Machine) : Type 0 where
  is_sound : sound_of m ≡ true
  handler : has_handler m ≡ true
  masked : eqb m.service.mask 0 ≡ true

asked : (m : Machine) (o : Outcome) → (sound_first m (in_handler m o)).refusal ≡ 0 → Asked m × (o.refusal ≡ 0)
asked m o h =
    let s = ask-yes m (sound_of m) 8 _ (λ e. omega arith) h in
    let d = ask-yes m (has_handler m) 17 _ (λ e. omega arith) s.1 in
    let z = ask-yes m (eqb m.service.mask 0) 19 o (λ e. omega arith) d.1 in
    (record { is_sound = s.0; handler = d.0; masked = z.0 }, z.1)

goes_on : (m : Machine) → Asked m → (o : Outcome) → sound_first m (in_handler m o) ≡ o
goes_on m a o = rw (a.is_sound, a.handler, a.masked)

-- The refusal of an event of a sound machine that asks 7, 17 and 19, and then what o asks.
first-no : (m : Machine) (o : Outcome) (seven : Bool)
    → (ask m (eqb (cond seven 0 7) 0) (cond seven 0 7) (in_handler m o)).refusal ≡ first_no m seven o.refusal
first-no m o true = go (has_handler m) (eqb m.service.mask 0)
  where
    go : (d z : Bool) → (ask m d 17 (ask m z 19 o)).refusal ≡ cond d (cond z o.refusal 19) 17
    go true true = refl
    go true false = refl
    go false z = refl
first-no m o false = refl

pub look-questions : LookQuestions
unfolding step_of sound_step_of event_of
look-questions m head value e k = rw (e, look-shape head value k, k, look-event m) (first-no m (accepted m (next_source m)) (eqb (address_of head) 0 && eqb value 0))

pub commit-questions : CommitQuestions
unfolding step_of sound_step_of event_of
commit-questions m head value e k =
    rw (e, commit-shape head value k, k, commit-event m (address_of head)) (first-no m (committed m (address_of head)) (eqb value 0) ∙ ap (first_no m (eqb value 0)) (go (may_commit m (address_of head))))
  where
    go : (t : Bool) → (ask m t 26 (served m)).refusal ≡ cond t 0 26
    go true = refl
    go false = refl

pub looks-alone : LooksAlone
unfolding event_of
looks-alone m head value k = of-kind m head value 12 (λ o. o.machine ≡ m) k (λ q. refl) (rw (look-event m) (go (has_handler m) (eqb m.service.mask 0)))
  where
    go : (d z : Bool) → (ask m d 17 (ask m z 19 (accepted m (next_source m)))).machine ≡ m
    go true true = refl
    go true false = refl
    go false z = refl

-- What a look answers, of a sound machine with a handler open.
told : (m : Machine) → sound_of m ≡ true → 0 < m.service.depth → chain_of m ≡ followed m → Tells m (next_source m)
told m e d ch = go (serves m) refl
  where
    go : (t : Bool) → serves m ≡ t → Tells m (cond t (look_at m).winner.source 0)
    go true f =
        let s = facts m e in
        let v = served-facts m s f in
        let k = v.found in
        let r : (look_at m).winner.rank ≡ (uppermost m).rank = ap rank v.ranked in
        let c : chain_of m ≡ served m = ch ∙ rw f in
        let h : Handler = with_source (uppermost m) (look_at m).winner.source in
        record {
          none = λ z. absurd (omega (arith, z, k.winner.eligible.least));
          winner = λ n. rw (← r) k.winner;
          above = λ n. omega (arith, v.above, v.ranked);
          answers = λ n. rw c k.names;
          replaces = λ n. rw c (ap (λ (q : Handler). q.source) (get_or-set_same m.service.stack (m.service.depth - 1) h blank (omega (arith, s.places, s.few, d))));
        }
    go false f =
        record {
          none = λ z. ch ∙ rw f;
          winner = λ n. absurd (n refl);
          above = λ n. absurd (n refl);
          answers = λ n. absurd (n refl);
          replaces = λ n. absurd (n refl);
        }

-- The three calls, once each: question 8, questions 17 and 19, and the rest.
look-of : (m : Machine) → look_of m ≡ sound_first m (in_handler m (accepted m (next_source m)))
unfolding look_of
look-of m = rw (look-event m)

chain-of : (m : Machine) → chain_of m ≡ sound_first m (in_handler m (followed m))
unfolding chain_of
chain-of m = rw (chain-event m)

commit-of : (m : Machine) (s : ℕ) → commit_of m s ≡ sound_first m (in_handler m (committed m s))
unfolding commit_of
commit-of m s = rw (commit-event m s)

pub look-tells : LookTells
look-tells m e h =
    let a = (asked m (accepted m (next_source m)) (rw (look-of m) at h)).0 in
    let n : (look_of m).answer ≡ next_source m = ap (λ (o : Outcome). o.answer) (look-of m ∙ goes_on m a (accepted m (next_source m))) in
    rw n (told m e (ltb-true 0 m.service.depth a.handler) (chain-of m ∙ goes_on m a (followed m)))

pub commits-chain : CommitsChain
commits-chain m s h =
    let a = asked m (committed m s) (rw (commit-of m s) at h) in
    let y = ask-yes m (may_commit m s) 26 (served m) (λ e. omega arith) a.1 in
    let w = (commit-served m s y.0).0 in
    let k = (served-facts m (facts m a.0.is_sound) w).found in
    let c : commit_of m s ≡ served m = commit-of m s ∙ goes_on m a.0 (committed m s) ∙ rw y.0 in
    record {
      as-chain = c ∙ sym (chain-of m ∙ goes_on m a.0 (followed m) ∙ rw w);
      answers = λ z. let n : (look_at m).meihap ≡ 0 = sym (ap (λ (o : Outcome). o.answer) c) ∙ z in omega (arith, n, k.names, k.winner.eligible.least);
    }

-- An event of kind 13 whose value is 0 is a commit of its address.
step-commit : (m : Machine) (head value : ℕ) → kind_of head ≡ 13 → eqb value 0 ≡ true → step_of m head value ≡ commit_of m (address_of head)
unfolding step_of sound_step_of event_of commit_of
step-commit m head value k z = rw (commit-shape head value k, z, k)

pub commit-answers : CommitAnswers
unfolding step_of
commit-answers m head value k h n = go (eqb value 0) refl
  where
    go : (t : Bool) → eqb value 0 ≡ t → ⊥
    go true z = let c = step-commit m head value k z in (commits-chain m (address_of head) (rw (← c) h)).answers (rw (← c) n)
    go false z =
        let s = ask-yes m (sound_of m) 8 (sound_step_of m head value) (λ e. omega arith) h in
        let q : (step_of m head value).refusal ≡ 7 = commit-questions m head value s.0 k ∙ rw z in
        omega (arith, q, h)

-- A commit of the source that a chain would serve.
commit-next : (m : Machine) → Asked m → serves m ≡ true → ((look_at m).winner.source ≡ 0 → ⊥) → commit_of m (look_at m).winner.source ≡ served m
commit-next m a f n =
    let s = (look_at m).winner.source in
    let y : may_commit m s ≡ true = rw (ne_eqb s 0 n, f, eq-eqb s s refl) in
    commit-of m s ∙ goes_on m a (committed m s) ∙ rw y

-- A chain that is asked no more, and the commit after such a look.
followed-commits : (m : Machine) → Asked m → followed m ≡ commit_after (accepted m (next_source m))
followed-commits m a = go (serves m) refl
  where
    go : (t : Bool) → serves m ≡ t → cond t (served m) (accepted (captured m) 0) ≡ commit_after (accepted m (cond t (look_at m).winner.source 0))
    go false f = refl
    go true f =
        let c = facts m a.is_sound in
        let k = (served-facts m c f).found in
        let s = (look_at m).winner.source in
        let n : s ≡ 0 → ⊥ = λ z. omega (arith, z, k.winner.eligible.least) in
        let b : s < 65536 = omega (arith, k.winner.eligible.most, count_most m.controller c.controller) in
        rw (ne_eqb s 0 n) (sym (step-commit m (head_of kind.commit s) 0 (kind-of kind.commit s b) refl ∙ rw (address-of kind.commit s b) (commit-next m a f n)))

chain-commits : (m : Machine) → sound_of m ≡ true → chain_event m ≡ commit_after (look_event m)
chain-commits m e = rw (chain-event m, look-event m) (go (has_handler m) refl (eqb m.service.mask 0) refl)
  where
    go : (d : Bool) → has_handler m ≡ d → (z : Bool) → eqb m.service.mask 0 ≡ z
        → ask m d 17 (ask m z 19 (followed m)) ≡ commit_after (ask m d 17 (ask m z 19 (accepted m (next_source m))))
    go false f z g = refl
    go true f false g = refl
    go true f true g = followed-commits m (record { is_sound = e; handler = f; masked = g })

-- An event of a kind that uses neither address nor value.
abbrev bare : Machine → Bool → Outcome → Outcome
bare m seven o = sound_first m (ask m (eqb (cond seven 0 7) 0) (cond seven 0 7) o)

step-bare : (m : Machine) (k a v : ℕ) → UsesNeither k → a < 65536 → step_of m (head_of k a) v ≡ bare m (eqb a 0 && eqb v 0) (event_of m k a v)
unfolding step_of sound_step_of
step-bare m k a v u h = rw (u (head_of k a) v (kind-of k a h), kind-of k a h, address-of k a h)

pub chain-is-look-then-commit : ChainIsLookThenCommit
unfolding event_of
chain-is-look-then-commit m a v h = rw (step-bare m 7 a v chain-shape h, step-bare m 12 a v look-shape h) (go (sound_of m) refl (eqb a 0 && eqb v 0))
  where
    go : (s : Bool) → sound_of m ≡ s → (seven : Bool)
        → ask m s 8 (ask m (eqb (cond seven 0 7) 0) (cond seven 0 7) (chain_event m))
        ≡ commit_after (ask m s 8 (ask m (eqb (cond seven 0 7) 0) (cond seven 0 7) (look_event m)))
    go false e seven = refl
    go true e false = refl
    go true e true = chain-commits m e
