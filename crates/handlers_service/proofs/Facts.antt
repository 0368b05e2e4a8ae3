-- What soundness of mask and stack says, in numbers: the Bool of the rules taken apart and put together.
use Rattle.std.proofs.Common.{◌≡◌, ℕ, ◌<◌, ◌≤◌, true, eqb, ◌⊎◌, length, get_or, inl, inr, ⊎_elim, eq-eqb, eqb-true, le-leb, leb-true}
use Rattle.pic_source.specs.declared.Rank.{Rank}
use Rattle.std.proofs.lemmas.Bool.{or_cases}
use Rattle.pic_source.proofs.Bools.{or-intro, all-at}
use Rattle.handlers_stack.specs.Stacks.{level_of}
use Rattle.handlers_stack.proofs.Stacks.{Fine, each, each_back}
use Rattle.handlers_service.specs.declared.Service.{Service}
use Rattle.handlers_service.specs.Sound.{uppermost, is_open, sound_tests, sound_of}

pub record Sound (s : Service) (n : ℕ) (r : Rank) : Type 0 where
  pub places : length s.stack ≡ 15
  pub few : s.depth ≤ 15
  pub bit : s.mask ≤ 1
  pub handlers : (j : ℕ) → j < s.depth → Fine n s.depth s.stack j
  pub current : (s.depth ≡ 0) ⊎ (r.0 ≡ (level_of (uppermost s)).0)
  pub masked : (s.mask ≡ 0) ⊎ ((s.depth ≡ 0) ⊎ ((uppermost s).opened ≡ 1))

-- There is no handler, or the uppermost is opened.
pub open-cases : (s : Service) → is_open s ≡ true → (s.depth ≡ 0) ⊎ ((uppermost s).opened ≡ 1)
open-cases s e =
    ⊎_elim (λ g. inl (eqb-true s.depth 0 g)) (λ g. inr (eqb-true (uppermost s).opened 1 g))
    (or_cases (eqb s.depth 0) (eqb (uppermost s).opened 1) e)

open-test : (s : Service) → (s.depth ≡ 0) ⊎ ((uppermost s).opened ≡ 1) → is_open s ≡ true
open-test s h =
    or-intro (eqb s.depth 0) (eqb (uppermost s).opened 1) (⊎_elim (λ g. inl (eq-eqb s.depth 0 g)) (λ g. inr (eq-eqb _ 1 g)) h)

pub facts : (s : Service) (n : ℕ) (r : Rank) → sound_of s n r ≡ true → Sound s n r
unfolding sound_of
facts s n r e =
    record {
      places = eqb-true _ _ (t 0);
      few = leb-true _ _ (t 1);
      bit = leb-true _ _ (t 2);
      handlers = each n s.depth s.stack s.depth (t 3);
      current =
          ⊎_elim (λ f. inl (eqb-true s.depth 0 f)) (λ f. inr (eqb-true _ _ f))
          (or_cases (eqb s.depth 0) (eqb r.0 (level_of (uppermost s)).0) (t 4));
      masked = ⊎_elim (λ f. inl (eqb-true s.mask 0 f)) (λ f. inr (open-cases s f)) (or_cases (eqb s.mask 0) (is_open s) (t 5));
    }
  where
    t : (i : ℕ) → get_or (sound_tests s n r) i true ≡ true
    t = all-at (sound_tests s n r) e

pub sound : (s : Service) (n : ℕ) (r : Rank) → Sound s n r → sound_of s n r ≡ true
unfolding sound_of
sound s n r f =
    rw (
      eq-eqb (length s.stack) 15 f.places,
      le-leb s.depth 15 f.few,
      le-leb s.mask 1 f.bit,
      each_back n s.depth s.stack s.depth f.handlers,
      or-intro (eqb s.depth 0) (eqb r.0 (level_of (uppermost s)).0)
          (⊎_elim (λ e. inl (eq-eqb s.depth 0 e)) (λ e. inr (eq-eqb _ _ e)) f.current),
      or-intro (eqb s.mask 0) (is_open s) (⊎_elim (λ e. inl (eq-eqb s.mask 0 e)) (λ e. inr (open-test s e)) f.masked),
    )
