-- What soundness of a machine says, in numbers: the Bool of the rules taken apart and put together; and why a handler above the current rank finds a place.
use Prim.Native.Nat.{ℕ, zero, suc, ◌-◌, ◌≤◌, ◌<◌}
use mathlib.Core.Path.{◌≡◌, refl, ap, ◌∙◌}
use mathlib.Core.Bool.{true}
use mathlib.Core.Logic.{◌⊎◌, inl, inr, ⊎_elim}
use native.Mathlib.Omega.{arith}
use lib.ListN.{length, get_or}
use lib.Dec.{eqb}
use lib.IntN.{pos}
use lib.Signed.{lt_z}
use borrow.Author.Tests.{eqb-true}
use Rattle.pic_source.specs.declared.Rank.{Rank}
use Rattle.std.proofs.lemmas.Bool.{and_parts}
use Rattle.pic_source.proofs.Bools.{all-at}
use Rattle.pic.specs.declared.Controller.{Controller}
use Rattle.pic.specs.Sound as pic
use Rattle.pic.specs.Sources.{threshold_of}
use Rattle.pic.specs.Calls.{source_count, current_rank}
use Rattle.pic_laws.proofs.Captures.{Found, look-found, margin-over, above-over}
use Rattle.counters.specs.declared.Counters.{Counters}
use Rattle.counters.specs.Whole as counters
use Rattle.handlers_stack.specs.Stacks.{level_of}
use Rattle.handlers_stack.proofs.Stacks.{Fine, rank-high, level-opened}
use Rattle.handlers_service.proofs.Facts as service
use Rattle.handlers.specs.declared.Machine.{Machine}
use Rattle.handlers.specs.Fields.{with_controller, with_counters}
use Rattle.handlers.specs.Machines.{uppermost, sound_tests, sound_of}
use Rattle.handlers.specs.Service.{look_at}
use Rattle.handlers_laws.proofs.Service.{serves}

pub record Sound (m : Machine) : Type 0 where
  pub places : length m.service.stack ≡ 15
  pub few : m.service.depth ≤ 15
  pub bit : m.service.mask ≤ 1
  pub handlers : (j : ℕ) → j < m.service.depth → Fine (source_count m.controller) m.service.depth m.service.stack j
  pub current : (m.service.depth ≡ 0) ⊎ ((current_rank m.controller).0 ≡ (level_of (uppermost m)).0)
  pub masked : (m.service.mask ≡ 0) ⊎ ((m.service.depth ≡ 0) ⊎ ((uppermost m).opened ≡ 1))
  pub controller : pic.sound_of m.controller ≡ true
  pub counters : counters.sound_of m.counters ≡ true

pub facts : (m : Machine) → sound_of m ≡ true → Sound m
unfolding sound_of
facts m e =
    let f = service.facts m.service (source_count m.controller) (current_rank m.controller) (t 0) in
    record {
      places = f.places;
      few = f.few;
      bit = f.bit;
      handlers = f.handlers;
      current = f.current;
      masked = f.masked;
      controller = t 1;
      counters = t 2;
    }
  where
    t : (i : ℕ) → get_or (sound_tests m) i true ≡ true
    t = all-at (sound_tests m) e

pub sound : (m : Machine) → Sound m → sound_of m ≡ true
unfolding sound_of
sound m f =
    rw (
      service.sound m.service (source_count m.controller) (current_rank m.controller)
          (record { places = f.places; few = f.few; bit = f.bit; handlers = f.handlers; current = f.current; masked = f.masked }),
      f.controller,
    )
    f.counters

-- Other sound counters.
pub counters-sound : (m : Machine) (t : Counters) → sound_of m ≡ true → counters.sound_of t ≡ true → sound_of (with_counters m t) ≡ true
counters-sound m t e h =
    let f = facts m e in
    sound (with_counters m t)
    (record {
      places = f.places;
      few = f.few;
      bit = f.bit;
      handlers = f.handlers;
      current = f.current;
      masked = f.masked;
      controller = f.controller;
      counters = h;
    })

-- Another sound controller with the same N, and the same current rank where there is a handler.
pub controller-sound : (m : Machine) (c : Controller) → sound_of m ≡ true → pic.sound_of c ≡ true → source_count c ≡ source_count m.controller
    → (m.service.depth ≡ 0) ⊎ (current_rank c ≡ current_rank m.controller) → sound_of (with_controller m c) ≡ true
controller-sound m c e h n k =
    let f = facts m e in
    sound (with_controller m c)
    (record {
      places = f.places;
      few = f.few;
      bit = f.bit;
      handlers = λ j b. rw n (f.handlers j b);
      current = ⊎_elim (λ z. inl z) (λ z. ⊎_elim (λ g. inl g) (λ g. inr (ap (λ (a : Rank). a.0) z ∙ g)) f.current) k;
      masked = f.masked;
      controller = h;
      counters = f.counters;
    })

-- The uppermost handler.
pub top_fine : (m : Machine) → Sound m → 0 < m.service.depth → Fine (source_count m.controller) m.service.depth m.service.stack (m.service.depth - 1)
top_fine m f h = f.handlers (m.service.depth - 1) (omega arith)

-- Its saved rank is in range.
pub saved-small : (m : Machine) → Sound m → 0 < m.service.depth → (uppermost m).saved.0 ≤ 15
saved-small m f h = let t = top_fine m f h in omega (arith, t.rank_most, t.saved-less)

-- With the mask on, the current rank is at least the number of handlers.
current-high : (m : Machine) → Sound m → (m.service.mask ≡ 0 → ⊥) → m.service.depth ≤ (current_rank m.controller).0
current-high m f h = go f.masked
  where
    top : (uppermost m).opened ≡ 1 → (m.service.depth ≡ 0) ⊎ ((current_rank m.controller).0 ≡ (level_of (uppermost m)).0) → m.service.depth ≤ (current_rank m.controller).0
    top o (inl e) = omega arith
    top o (inr e) = deep m.service.depth refl
      where
        deep : (d : ℕ) → m.service.depth ≡ d → m.service.depth ≤ (current_rank m.controller).0
        deep zero z = omega arith
        deep (suc t) z =
            let r = rank-high (source_count m.controller) m.service.depth m.service.stack (m.service.depth - 1) (omega arith) f.handlers in
            let l : (level_of (uppermost m)).0 ≡ (uppermost m).rank.0 = ap (λ (a : Rank). a.0) (level-opened (uppermost m) o) in
            omega arith

    go : (m.service.mask ≡ 0) ⊎ ((m.service.depth ≡ 0) ⊎ ((uppermost m).opened ≡ 1)) → m.service.depth ≤ (current_rank m.controller).0
    go (inl e) = absurd (h e)
    go (inr (inl e)) = omega arith
    go (inr (inr o)) = top o f.current

-- A winner above the current rank, with the mask on, leaves a place for one handler more.
pub room : (m : Machine) → Sound m → (m.service.mask ≡ 0 → ⊥) → lt_z (pos 0) (look_at m).margin ≡ true → m.service.depth < 15
room m h k e =
    let c = m.controller in
    let o = margin-over c e in
    omega (arith, o.current, (look-found c h.controller (omega (arith, o.current))).rank_most, current-high m h k)

-- The winner that a chain or a commit serves: it is of the uppermost handler's rank, and above the threshold.
pub record Served (m : Machine) : Type 0 where
  pub found : Found m.controller (look_at m)
  pub ranked : (look_at m).winner.rank.0 ≡ (uppermost m).rank.0
  pub above : (threshold_of m.controller.scalars).0 < (look_at m).winner.rank.0

pub served-facts : (m : Machine) → Sound m → serves m ≡ true → Served m
served-facts m s e =
    let p = and_parts (eqb (look_at m).winner.rank.0 (uppermost m).rank.0) (look_at m).above e in
    let a = above-over m.controller p.1 in
    record { found = look-found m.controller s.controller (omega (arith, a)); ranked = eqb-true _ _ p.0; above = a }
