-- The lines of a text are the parts that its line feeds leave.
use Prim.Native.Nat.{ℕ, zero, suc}
use mathlib.Core.Bool.{Bool, true, false, cond}
use mathlib.Core.Path.{◌≡◌, refl, ap, ◌∙◌}
use mathlib.Core.List.{List, [], ◌∷◌}
use lib.ListN.{drop}
use lib.Dec.{eqb}
use denote.Ref.{Bor}
use Rattle.std.specs.declared.option.Option.{Option}
use Rattle.std.specs.declared.option.Option.TheVariants.{None, Some}
use Rattle.std.specs.List.{slice_get, slice_split, onto_first}
use Rattle.std.specs.Option.{option_map, unwrap_or}
use Rattle.refusals.specs.Lines.{start_of, first_line, line_at}

-- The first line starts at 0.
pub start_none : (text : List ℕ) → start_of text 0 ≡ 0
unfolding start_of
start_none [] = refl
start_none (c ∷ text) = refl

abbrev pub parts : List ℕ → List (List ℕ)
parts = slice_split (λ c. eqb c 10)

-- The part at n is line n; there is no line after the last part.
pub part-line : (text : List ℕ) (n : ℕ) → unwrap_or (slice_get (parts text) n) [] ≡ line_at text n
unfolding start_of first_line
part-line [] zero = refl
part-line [] (suc n) = refl
part-line (c ∷ text) zero = by-case (eqb c 10) (parts text) (part-line text zero ∙ rw (start_none text))
  where
    by-case : (b : Bool) (rest : List (List ℕ)) → unwrap_or (slice_get rest 0) [] ≡ first_line text
        → unwrap_or (slice_get (cond b ([] ∷ rest) (onto_first c rest)) 0) [] ≡ cond b [] (c ∷ first_line text)
    by-case true rest e = refl
    by-case false [] e = ap (λ l. c ∷ l) e
    by-case false (part ∷ rest) e = ap (λ l. c ∷ l) e
part-line (c ∷ text) (suc n) = by-case (eqb c 10) (parts text) (part-line text n) (part-line text (suc n))
  where
    by-case : (b : Bool) (rest : List (List ℕ)) → unwrap_or (slice_get rest n) [] ≡ line_at text n → unwrap_or (slice_get rest (suc n)) [] ≡ line_at text (suc n)
        → unwrap_or (slice_get (cond b ([] ∷ rest) (onto_first c rest)) (suc n)) []
        ≡ first_line (drop (suc (start_of text (cond b n (suc n)))) (c ∷ text))
    by-case true rest e f = e
    by-case false [] e f = f
    by-case false (part ∷ rest) e f = f

-- What a reference to the part or else to nothing points to.
pub behind : (r : Option (Bor (List ℕ))) (d : Bor (List ℕ)) → d.now ≡ [] → (unwrap_or r d).now ≡ unwrap_or (option_map (λ x. x.now) r) []
behind None d e = e
behind (Some x) d e = refl
