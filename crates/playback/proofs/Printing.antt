-- The lines of events: how long they are, and one more of them.
use Prim.Native.Nat.{ℕ, zero, suc, ◌+◌, ◌*◌, ◌^◌, ◌≤◌, ◌<◌}
use native.Mathlib.Omega.{arith}
use native.Mathlib.Nat.{zero-add, add-zero, add-suc, suc-add}
use native.Mathlib.Numerals.{add-one}
use mathlib.Core.Path.{◌≡◌, refl, sym, ap, ◌∙◌}
use mathlib.Core.List.{List, [], ◌∷◌, ◌++◌, append_assoc, append-nil}
use lib.ListN.{length, get_or, take, length-append}
use lib.Seq.{length-sets, take_all}
use Rattle.digits.specs.Digits.{decimal}
use Rattle.digits.proofs.Digits.{number-length}
use Rattle.digits.proofs.Meaning.{digits-length}
use Rattle.digits.proofs.Pieces.{Stands, two, room-second, stands-as}
use Rattle.event.specs.Event.{kind_of}
use Rattle.event.proofs.Laws.{kinds-two-digits}
use Rattle.digits.specs.Ascii.{ascii}
use Rattle.record.specs.Record.{most_events}
use Rattle.playback.specs.Size.{event_line_size, any_line_size}
use Rattle.playback.specs.Print.{event_line, event_lines, KnownKinds}

-- A number below a power of ten has at most so many digits.
digits_of : (n k : ℕ) → n < 10 ^ suc k → length (decimal n) ≤ suc k
digits_of n k h = digits-length 10 1 20 n k (omega arith) h (omega arith)

-- Numbers below a bound.
abbrev pub Each : ℕ → List ℕ → Type 0
Each bound l = (i : ℕ) → get_or l i 0 < bound

-- The line of an event, by the most digits of its index and its kind.
line-length : (most-i most-k i k a r : ℕ) → length (decimal i) ≤ most-i → length (decimal k) ≤ most-k → a < 4294967296 → r < 256
    → length (event_line i k a r) ≤ most-i + 1 + most-k + 1 + 10 + 1 + 3 + 1
unfolding ascii
line-length most-i most-k i k a r hi hk ha hr = simp (length-append) (omega (arith, hi, hk, digits_of a 9 (omega arith), digits_of r 2 (omega arith)))

-- The lines, by the most bytes of each.
lines-most : (size j : ℕ) (hs ans rs : List ℕ)
    → ((i : ℕ) → i < length hs → length (event_line (j + i) (kind_of (get_or hs i 0)) (get_or ans i 0) (get_or rs i 0)) ≤ size)
    → length (event_lines j hs ans rs) ≤ size * length hs
unfolding event_lines
lines-most size j [] ans rs h = omega arith
lines-most size j (x ∷ hs) [] rs h = omega arith
lines-most size j (x ∷ hs) (a ∷ ans) [] h = omega arith
lines-most size j (x ∷ hs) (a ∷ ans) (r ∷ rs) h =
    let line : length (event_line j (kind_of x) a r) ≤ size = rw (add-zero j) at (h 0 (omega arith)) in
    let rest = lines-most size (suc j) hs ans rs (λ i l. rw (add-suc j i, ← suc-add j i) at (h (suc i) (omega arith))) in
    rw (length-append (event_line j (kind_of x) a r) (event_lines (suc j) hs ans rs)) (omega (arith, line, rest))

-- Of an accepted record, and of any heads.
pub known-lines : (hs ans rs : List ℕ) → length hs ≤ most_events → KnownKinds hs → Each 4294967296 ans → Each 256 rs
    → length (event_lines 0 hs ans rs) ≤ event_line_size * length hs
known-lines hs ans rs few known ha hr =
    lines-most event_line_size 0 hs ans rs
    (λ i l. line-length 4 2 (0 + i) (kind_of (get_or hs i 0)) (get_or ans i 0) (get_or rs i 0) (digits_of (0 + i) 3 (omega arith)) (digits_of (kind_of (get_or hs i 0)) 1 (omega (arith, known i l, kinds-two-digits))) (ha i) (hr i))

pub any-lines : (hs ans rs : List ℕ) → ((i : ℕ) → i < length hs → get_or hs i 0 < 4294967296) → Each 4294967296 ans → Each 256 rs
    → length (event_lines 0 hs ans rs) ≤ any_line_size * length hs
any-lines hs ans rs hh ha hr =
    lines-most any_line_size 0 hs ans rs
    (λ i l. line-length 20 5 (0 + i) (kind_of (get_or hs i 0)) (get_or ans i 0) (get_or rs i 0) (number-length (0 + i)) (digits_of (kind_of (get_or hs i 0)) 4 (omega (arith, hh i l))) (ha i) (hr i))

-- One more line.
pub lines_more : (j i : ℕ) (hs ans rs : List ℕ) → i < length hs → i < length ans → i < length rs
    → event_lines j (take (suc i) hs) ans rs ≡ event_lines j (take i hs) ans rs ++ event_line (j + i) (kind_of (get_or hs i 0)) (get_or ans i 0) (get_or rs i 0)
unfolding event_lines
lines_more j i [] ans rs h₁ h₂ h₃ = absurd (omega arith)
lines_more j i (x ∷ hs) [] rs h₁ h₂ h₃ = absurd (omega arith)
lines_more j i (x ∷ hs) (a ∷ ans) [] h₁ h₂ h₃ = absurd (omega arith)
lines_more j zero (x ∷ hs) (a ∷ ans) (r ∷ rs) h₁ h₂ h₃ = rw (add-zero j) (append-nil (event_line j (kind_of x) a r))
lines_more j (suc i) (x ∷ hs) (a ∷ ans) (r ∷ rs) h₁ h₂ h₃ =
    let l₁ : i < length hs = omega arith in
    let l₂ : i < length ans = omega arith in
    let l₃ : i < length rs = omega arith in
    let line = event_line (suc j + i) (kind_of (get_or hs i 0)) (get_or ans i 0) (get_or rs i 0) in
    rw (add-suc j i, ← suc-add j i)
    (ap (λ (l : List ℕ). event_line j (kind_of x) a r ++ l) (lines_more (suc j) i hs ans rs l₁ l₂ l₃)
    ∙ sym (append_assoc (event_line j (kind_of x) a r) (event_lines (suc j) (take i hs) ans rs) line))

-- The first lines are no longer than all.
lines-part : (j i : ℕ) (hs ans rs : List ℕ) → length (event_lines j (take i hs) ans rs) ≤ length (event_lines j hs ans rs)
unfolding event_lines
lines-part j zero hs ans rs = omega arith
lines-part j (suc i) [] ans rs = omega arith
lines-part j (suc i) (x ∷ hs) [] rs = omega arith
lines-part j (suc i) (x ∷ hs) (a ∷ ans) [] = omega arith
lines-part j (suc i) (x ∷ hs) (a ∷ ans) (r ∷ rs) = simp (length-append) (omega (arith, lines-part (suc j) i hs ans rs))

-- What is known while the lines are put: i of them stand.
pub record Printed (out₀ : List ℕ) (at : ℕ) (hs ans rs out : List ℕ) (next i : ℕ) : Type 0 where
  pub answers : length hs ≤ length ans
  pub refusals : length hs ≤ length rs
  pub room : at + length (event_lines 0 hs ans rs) ≤ length out₀
  pub same : length out ≡ length out₀
  pub turn : i ≤ length hs
  pub stands : Stands out₀ at (event_lines 0 (take i hs) ans rs) next out

pub none-printed : (out : List ℕ) (at : ℕ) (hs ans rs : List ℕ)
    → (length hs ≤ length ans) × (length hs ≤ length rs) × (at + length (event_lines 0 hs ans rs) ≤ length out)
    → Printed out at hs ans rs out at 0
unfolding event_lines
none-printed out at hs ans rs (a, b, c) =
    record { answers = a; refusals = b; room = c; same = refl; turn = omega arith; stands = (sym (add-zero at), refl) }

module _ {out₀ : List ℕ} {at : ℕ} {hs ans rs out : List ℕ} {next i : ℕ} (p : Printed out₀ at hs ans rs out next i) (h : i < length hs) {k : ℕ} (e : k ≡ kind_of (get_or hs i 0)) where
  -- The lines with the next one.
  next-line : event_lines 0 (take i hs) ans rs ++ event_line i k (get_or ans i 0) (get_or rs i 0) ≡ event_lines 0 (take (suc i) hs) ans rs
  next-line =
      let line_of : ℕ → ℕ → List ℕ = λ j x. event_lines 0 (take i hs) ans rs ++ event_line j x (get_or ans i 0) (get_or rs i 0) in
      ap (λ (x : ℕ). line_of i x) e ∙ ap (λ (j : ℕ). line_of j (kind_of (get_or hs i 0))) (sym (zero-add i))
      ∙ sym (lines_more 0 i hs ans rs h (omega (arith, p.answers)) (omega (arith, p.refusals)))

  -- There is room for it.
  pub line-room : next + length (event_line i k (get_or ans i 0) (get_or rs i 0)) ≤ length out
  line-room =
      let part : length (event_lines 0 (take i hs) ans rs ++ event_line i k (get_or ans i 0) (get_or rs i 0)) ≤ length (event_lines 0 hs ans rs) = rw next-line (lines-part 0 (suc i) hs ans rs) in
      room-second out₀ at (event_lines 0 (take i hs) ans rs) (event_line i k (get_or ans i 0) (get_or rs i 0)) (omega (arith, part, p.room)) p.stands

  -- A turn.
  pub one-printed : {out' : List ℕ} {next' : ℕ} → Stands out next (event_line i k (get_or ans i 0) (get_or rs i 0)) next' out' → Printed out₀ at hs ans rs out' next' (i + 1)
  one-printed {out'} {next'} stands =
      let line = event_line i k (get_or ans i 0) (get_or rs i 0) in
      record {
        answers = p.answers;
        refusals = p.refusals;
        room = p.room;
        same = rw stands.1 (length-sets out next line) ∙ p.same;
        turn = omega arith;
        stands = rw (add-one i) (stands-as out₀ at next-line (two out₀ at (event_lines 0 (take i hs) ans rs) line p.stands stands));
      }

-- All of them.
pub all-printed : {out₀ : List ℕ} {at : ℕ} {hs ans rs out : List ℕ} {next i : ℕ} → Printed out₀ at hs ans rs out next i → length hs ≤ i
    → Stands out₀ at (event_lines 0 hs ans rs) next out
all-printed {out₀} {at} {hs} {ans} {rs} {out} {next} {i} p h =
    stands-as out₀ at (ap (λ (l : List ℕ). event_lines 0 l ans rs) (take_all i hs h)) p.stands

-- Lines look at as many answers and refusals as there are heads.
pub lines-first : (j : ℕ) (hs ans rs x y : List ℕ) → length ans ≡ length hs → length rs ≡ length hs
    → event_lines j hs (ans ++ x) (rs ++ y) ≡ event_lines j hs ans rs
unfolding event_lines
lines-first j [] ans rs x y e f = refl
lines-first j (h ∷ hs) [] rs x y e f = absurd (omega (arith, e))
lines-first j (h ∷ hs) (a ∷ ans) [] x y e f = absurd (omega (arith, f))
lines-first j (h ∷ hs) (a ∷ ans) (r ∷ rs) x y e f =
    let e' : length ans ≡ length hs = omega (arith, e) in
    let f' : length rs ≡ length hs = omega (arith, f) in
    ap (λ (l : List ℕ). event_line j (kind_of h) a r ++ l) (lines-first (suc j) hs ans rs x y e' f')
