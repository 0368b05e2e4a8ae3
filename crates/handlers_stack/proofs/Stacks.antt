-- The stack: one turn of its soundness test, and what the test says of each handler.
use Prim.Native.Nat.{ℕ, zero, suc, ◌+◌, ◌-◌, ◌≤◌, ◌<◌}
use mathlib.Core.Path.{◌≡◌, refl, ap}
use Rattle.std.specs.Prelude.{Option, None, Some}
use mathlib.Core.Bool.{Bool, true, ◌&&◌}
use mathlib.Core.List.{List}
use mathlib.Core.Logic.{◌⊎◌, inl, inr, ⊎_elim}
use native.Mathlib.Numerals.{add-one}
use native.Mathlib.Omega.{arith}
use lib.ListN.{length, set}
use lib.Seq.{get_or-set_same, get_or-set_other}
use lib.Dec.{ltb, eqb}
use borrow.Author.Tests.{leb-true, ltb-true, eqb-true, le-leb, lt-ltb, eq-eqb, ne_eqb}
use Rattle.std.proofs.lemmas.Bool.{and_parts, or_cases, cases_eq}
use Rattle.pic_source.proofs.Bools.{or-intro, all-at}
use Rattle.handlers_stack.specs.declared.Handler.{Handler}
use Rattle.pic_source.specs.declared.Rank.{Rank}
use Rattle.handlers_stack.specs.Stacks.{blank, handler_tests, handler_sound, sound_over, handler_at, below_of, sound_at, handlers_sound, level_of}

-- The rank of the handler below handler k, where there is one.
unfoldable pub rank_under : List Handler → ℕ → Option Rank
rank_under stack zero = None
rank_under stack (suc k) = Some (handler_at stack k).rank

-- One turn of `handlers_sound`.
module _ (n depth : ℕ) (stack : List Handler) where
  over-under : (top : Bool) (h : Handler) (k : ℕ) → sound_over n top (rank_under stack k) h ≡ handler_sound n top (eqb k 0) (below_of stack k) h
  unfolding rank_under below_of
  over-under top h zero = refl
  over-under top h (suc k) = rw (ne_eqb (suc k) 0 (λ e. omega arith))

  pub handlers_turn : (k : ℕ) {ok good : Bool} {below : Option Rank} → ok ≡ handlers_sound n depth stack k → below ≡ rank_under stack k
      → good ≡ sound_over n (eqb (k + 1) depth) below (handler_at stack k)
      → ok && good ≡ handlers_sound n depth stack (k + 1)
  unfolding handlers_sound
  handlers_turn k ho hb hg = rw (ho, hg, hb, over-under, add-one)

-- What the test says of handler k, in numbers.
pub record Fine (n depth : ℕ) (stack : List Handler) (k : ℕ) : Type 0 where
  pub source-least : 1 ≤ (handler_at stack k).source
  pub source-most : (handler_at stack k).source ≤ n
  pub rank-least : 1 ≤ (handler_at stack k).rank.0
  pub rank_most : (handler_at stack k).rank.0 ≤ 15
  pub rises : (k ≡ 0) ⊎ ((below_of stack k).0 < (handler_at stack k).rank.0)
  pub mark : (handler_at stack k).opened ≤ 1
  pub opened : (suc k ≡ depth) ⊎ ((handler_at stack k).opened ≡ 1)
  pub saves : (k ≡ 0) ⊎ ((handler_at stack k).saved.0 ≡ (below_of stack k).0)
  pub saved-less : (handler_at stack k).saved.0 < (handler_at stack k).rank.0

module _ (n depth : ℕ) (stack : List Handler) (k : ℕ) where
  tests : List Bool
  tests = handler_tests n (eqb (suc k) depth) (eqb k 0) (below_of stack k) (handler_at stack k)

  pub fine : sound_at n depth stack k ≡ true → Fine n depth stack k
  unfolding handler_sound tests
  fine e =
      let t = all-at tests e in
      record {
        source-least = leb-true _ _ (t 0);
        source-most = leb-true _ _ (t 1);
        rank-least = leb-true _ _ (t 2);
        rank_most = leb-true _ _ (t 3);
        rises = ⊎_elim (λ f. inl (eqb-true k 0 f)) (λ f. inr (ltb-true _ _ f)) (or_cases (eqb k 0) _ (t 4));
        mark = leb-true _ _ (t 5);
        opened = ⊎_elim (λ f. inl (eqb-true (suc k) depth f)) (λ f. inr (eqb-true _ 1 f)) (or_cases (eqb (suc k) depth) _ (t 6));
        saves = ⊎_elim (λ f. inl (eqb-true k 0 f)) (λ f. inr (eqb-true _ _ f)) (or_cases (eqb k 0) _ (t 7));
        saved-less = ltb-true _ _ (t 8);
      }

  pub fine_back : Fine n depth stack k → sound_at n depth stack k ≡ true
  unfolding handler_sound
  fine_back f =
      rw (
        le-leb _ _ f.source-least,
        le-leb _ _ f.source-most,
        le-leb _ _ f.rank-least,
        le-leb _ _ f.rank_most,
        or-intro (eqb k 0) (ltb (below_of stack k).0 (handler_at stack k).rank.0) (⊎_elim (λ e. inl (eq-eqb k 0 e)) (λ e. inr (lt-ltb _ _ e)) f.rises),
        le-leb _ _ f.mark,
        or-intro (eqb (suc k) depth) (eqb (handler_at stack k).opened 1) (⊎_elim (λ e. inl (eq-eqb (suc k) depth e)) (λ e. inr (eq-eqb _ 1 e)) f.opened),
        or-intro (eqb k 0) (eqb (handler_at stack k).saved.0 (below_of stack k).0) (⊎_elim (λ e. inl (eq-eqb k 0 e)) (λ e. inr (eq-eqb _ _ e)) f.saves),
        lt-ltb _ _ f.saved-less,
      )

-- Each of the lowest k handlers, and back.
module _ (n depth : ℕ) (stack : List Handler) where
  pub each : (k : ℕ) → handlers_sound n depth stack k ≡ true → (j : ℕ) → j < k → Fine n depth stack j
  unfolding handlers_sound
  each zero e j h = absurd (omega arith)
  each (suc k) e j h =
      let p = and_parts (handlers_sound n depth stack k) (sound_at n depth stack k) e in
      go (fine n depth stack k p.1) (λ l. each k p.0 j l) (cases_eq j k)
    where
      go : Fine n depth stack k → (j < k → Fine n depth stack j) → (j ≡ k) ⊎ (j ≡ k → ⊥) → Fine n depth stack j
      go f i (inl z) = rw z f
      go f i (inr z) = i (omega (arith, z))

  pub each_back : (k : ℕ) → ((j : ℕ) → j < k → Fine n depth stack j) → handlers_sound n depth stack k ≡ true
  unfolding handlers_sound
  each_back zero f = refl
  each_back (suc k) f = rw (each_back k (λ j h. f j (omega arith)), fine_back n depth stack k (f k (omega arith)))

  -- Ranks rise strictly, so the rank of handler k is above k.
  pub rank-high : (k : ℕ) → k < depth → ((j : ℕ) → j < depth → Fine n depth stack j) → k < (handler_at stack k).rank.0
  unfolding below_of
  rank-high zero h f = (f 0 h).rank-least
  rank-high (suc k) h f =
      let i = rank-high k (omega arith) f in
      ⊎_elim (λ e. absurd (omega arith)) (λ l. omega arith) (f (suc k) h).rises

-- A store at place i: the handlers below it stay, and so do the ranks under them.
module _ (stack : List Handler) (i : ℕ) (h : Handler) where
  pub below_set : (k : ℕ) → k ≤ i → below_of (set stack i h) k ≡ below_of stack k
  unfolding below_of
  below_set zero b = refl
  below_set (suc k) b = ap (λ (g : Handler). g.rank) (get_or-set_other stack i k h blank (λ e. omega arith))

  module _ (n depth : ℕ) where
    pub fine-kept : {old : ℕ} (k : ℕ) → k < i → Fine n old stack k → (suc k ≡ depth) ⊎ ((handler_at stack k).opened ≡ 1) → Fine n depth (set stack i h) k
    fine-kept k b f o =
        let s = get_or-set_other stack i k h blank (λ e. omega arith) in
        let l = below_set k (omega arith) in
        record {
          source-least = rw s f.source-least;
          source-most = rw s f.source-most;
          rank-least = rw s f.rank-least;
          rank_most = rw s f.rank_most;
          rises = rw (s, l) f.rises;
          mark = rw s f.mark;
          opened = rw s o;
          saves = rw (s, l) f.saves;
          saved-less = rw s f.saved-less;
        }

    -- The handler that is stored.
    pub record Stored : Type 0 where
      pub source-least : 1 ≤ h.source
      pub source-most : h.source ≤ n
      pub rank-least : 1 ≤ h.rank.0
      pub rank_most : h.rank.0 ≤ 15
      pub rises : (i ≡ 0) ⊎ ((below_of stack i).0 < h.rank.0)
      pub mark : h.opened ≤ 1
      pub opened : (suc i ≡ depth) ⊎ (h.opened ≡ 1)
      pub saves : (i ≡ 0) ⊎ (h.saved.0 ≡ (below_of stack i).0)
      pub saved-less : h.saved.0 < h.rank.0

    pub fine-stored : i < length stack → Stored → Fine n depth (set stack i h) i
    fine-stored b f =
        let s = get_or-set_same stack i h blank b in
        let l = below_set i (omega arith) in
        record {
          source-least = rw s f.source-least;
          source-most = rw s f.source-most;
          rank-least = rw s f.rank-least;
          rank_most = rw s f.rank_most;
          rises = rw (s, l) f.rises;
          mark = rw s f.mark;
          opened = rw s f.opened;
          saves = rw (s, l) f.saves;
          saved-less = rw s f.saved-less;
        }

-- One handler less: the others stay, all opened.
pub fine-popped : (n depth : ℕ) (stack : List Handler) (k : ℕ) → suc k < depth → Fine n depth stack k → Fine n (depth - 1) stack k
fine-popped n depth stack k b f =
    record {
      source-least = f.source-least;
      source-most = f.source-most;
      rank-least = f.rank-least;
      rank_most = f.rank_most;
      rises = f.rises;
      mark = f.mark;
      opened = ⊎_elim (λ e. absurd (omega arith)) (λ e. inr e) f.opened;
      saves = f.saves;
      saved-less = f.saved-less;
    }

-- The rank below a handler that is not the lowest.
pub below_next : (stack : List Handler) (k : ℕ) → below_of stack (suc k) ≡ (handler_at stack k).rank
unfolding below_of
below_next stack k = refl

-- The current rank that goes with an opened handler is its rank, with an unopened one its saved rank.
pub level-opened : (h : Handler) → h.opened ≡ 1 → level_of h ≡ h.rank
unfolding level_of
level-opened h e = rw (eq-eqb h.opened 1 e)

pub level-unopened : (h : Handler) → h.opened ≡ 0 → level_of h ≡ h.saved
unfolding level_of
level-unopened h e = rw (ne_eqb h.opened 1 (λ f. omega (arith, e, f)))

-- It is the same for handlers of the same rank, saved rank and mark.
pub level-same : (g h : Handler) → g.rank ≡ h.rank → g.saved ≡ h.saved → g.opened ≡ h.opened → level_of g ≡ level_of h
unfolding level_of
level-same g h r s o = rw (r, s, o)
