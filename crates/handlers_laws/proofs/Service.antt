-- The events of the handler service in the machine: each question of the service is one of the machine, and what an accepted event makes of the whole machine.
use Prim.Native.Nat.{ℕ, ◌-◌}
use mathlib.Core.Path.{◌≡◌, refl, ap, ◌∙◌}
use mathlib.Core.Bool.{Bool, true, false, cond, ◌||◌}
use native.Mathlib.Omega.{arith}
use lib.Dec.{leb, eqb}
use lib.IntN.{pos}
use lib.Signed.{lt_z}
use borrow.Author.Tests.{ne_eqb}
use Rattle.pic.specs.declared.Controller.{Controller}
use Rattle.pic.specs.Calls.{current_rank, set_current}
use Rattle.handlers_stack.specs.declared.Handler.{Handler}
use Rattle.handlers_questions.specs.Questions as questions
use Rattle.handlers_service.specs.Outcome as handler
use Rattle.handlers_service.specs.Fields as fields
use Rattle.handlers_service.specs.Sound as sound
use Rattle.handlers_service.specs.Events as service
use Rattle.handlers_service.specs.Events.{take_of, open_of, chain_of, return_of, set_mask_of, look_of, commit_of}
use Rattle.handlers.specs.declared.Machine.{Machine}
use Rattle.handlers.specs.Outcome.{Outcome}
use Rattle.handlers.specs.Fields.{with_controller, with_service}
use Rattle.handlers.specs.Machines.{uppermost}
use Rattle.handlers.specs.Service.{accepted, ask, look_at, served_with, captured_in, captured, take_event, open_event, chain_event, return_event, set_mask_event, look_event, commit_event}

abbrev pub has_handler : Machine → Bool
has_handler m = service.has_handler m.service

abbrev pub is_open : Machine → Bool
is_open m = sound.is_open m.service

abbrev pub serves : Machine → Bool
serves m = service.serves m.service (look_at m)

abbrev pub next_source : Machine → ℕ
next_source m = service.next_source m.service (look_at m)

abbrev pub may_commit : Machine → ℕ → Bool
may_commit m s = questions.may_commit s (next_source m)

abbrev pub new_handler : Machine → Handler
new_handler m = service.handler_of (look_at m).winner (current_rank m.controller)

abbrev pub with_mask : Machine → ℕ → Machine
with_mask m v = with_service m (fields.with_mask m.service v)

-- The machine after each event that is accepted.
abbrev pub taken : Machine → Machine
taken m = with_controller (with_service m (service.pushed m.service (look_at m).winner (current_rank m.controller))) (captured_in m)

abbrev pub opened : Machine → Machine
opened m = with_controller (with_service m (service.marked m.service (uppermost m))) (set_current m.controller (uppermost m).rank)

abbrev pub chained : Machine → Machine
chained m = with_controller (with_service m (service.replaced m.service (look_at m).winner)) (captured_in m)

abbrev pub returned : Machine → Machine
returned m = with_controller (with_service m (service.popped m.service)) (set_current m.controller (uppermost m).saved)

abbrev pub served : Machine → Outcome
served m = accepted (chained m) (look_at m).meihap

abbrev pub followed : Machine → Outcome
followed m = cond (serves m) (served m) (accepted (captured m) 0)

abbrev pub committed : Machine → ℕ → Outcome
committed m s = ask m (may_commit m s) 26 (served m)

abbrev pub in_handler : Machine → Outcome → Outcome
in_handler m on = ask m (has_handler m) 17 (ask m (eqb m.service.mask 0) 19 on)

-- A question of the service is one of the machine.
module _ (m : Machine) (c : Controller) where
  asks : (t : Bool) (q : ℕ) (o : handler.Outcome) → (q ≡ 0 → ⊥) → served_with m (service.ask m.service t q o) c ≡ ask m t q (served_with m o c)
  asks true q o n = refl
  asks false q o n = rw (ne_eqb q 0 n)

  asks-handler : (o : handler.Outcome) → served_with m (service.in_handler m.service o) c ≡ in_handler m (served_with m o c)
  asks-handler o =
      asks (has_handler m) 17 (service.ask m.service (eqb m.service.mask 0) 19 o) (λ e. omega arith)
      ∙ ap (ask m (has_handler m) 17) (asks (eqb m.service.mask 0) 19 o (λ e. omega arith))

module _ (m : Machine) where
  pub take-event : take_event m ≡ ask m (eqb m.service.mask 1) 15 (ask m (lt_z (pos 0) (look_at m).margin) 16 (accepted (taken m) (look_at m).meihap))
  unfolding take_event take_of
  take-event =
      asks m (captured_in m) (eqb m.service.mask 1) 15 _ (λ e. omega arith)
      ∙ ap (ask m (eqb m.service.mask 1) 15) (asks m (captured_in m) (lt_z (pos 0) (look_at m).margin) 16 _ (λ e. omega arith))

  pub open-event : open_event m ≡ ask m (has_handler m) 17 (ask m (eqb (uppermost m).opened 0) 18 (accepted (opened m) (uppermost m).rank.0))
  unfolding open_event open_of
  open-event =
      asks m _ (has_handler m) 17 _ (λ e. omega arith)
      ∙ ap (ask m (has_handler m) 17) (asks m (set_current m.controller (uppermost m).rank) (eqb (uppermost m).opened 0) 18 _ (λ e. omega arith))

  pub chain-event : chain_event m ≡ in_handler m (followed m)
  unfolding chain_event chain_of
  chain-event = asks-handler m (captured_in m) _ ∙ ap (in_handler m) (go (serves m))
    where
      go : (t : Bool) → served_with m (cond t (service.served m.service (look_at m)) (service.accepted m.service 0)) (captured_in m) ≡ cond t (served m) (accepted (captured m) 0)
      go true = refl
      go false = refl

  pub return-event : return_event m ≡ in_handler m (accepted (returned m) (m.service.depth - 1))
  unfolding return_event return_of
  return-event = asks-handler m (set_current m.controller (uppermost m).saved) _

  pub set-mask-event : (v : ℕ) → set_mask_event m v ≡ ask m (leb v 1) 20 (ask m (eqb v 0 || is_open m) 21 (accepted (with_mask m v) 0))
  unfolding set_mask_event set_mask_of
  set-mask-event v =
      asks m m.controller (leb v 1) 20 _ (λ e. omega arith)
      ∙ ap (ask m (leb v 1) 20) (asks m m.controller (eqb v 0 || is_open m) 21 _ (λ e. omega arith))

  pub look-event : look_event m ≡ in_handler m (accepted m (next_source m))
  unfolding look_event look_of
  look-event = asks-handler m m.controller _

  pub commit-event : (s : ℕ) → commit_event m s ≡ in_handler m (committed m s)
  unfolding commit_event commit_of
  commit-event s =
      asks-handler m (captured_in m) (service.ask m.service (may_commit m s) 26 (service.served m.service (look_at m)))
      ∙ ap (in_handler m) (asks m (captured_in m) (may_commit m s) 26 (service.served m.service (look_at m)) (λ e. omega arith))
