-- Questions 12 to 14 over fifteen addresses, and a CSR of the counters after a write.
use Prim.Native.Nat.{ℕ, zero, suc, ◌+◌, ◌-◌, ◌≤◌, ◌<◌}
use mathlib.Core.Path.{◌≡◌, refl, sym, ap, ◌∙◌}
use mathlib.Core.Bool.{Bool, true, false, cond, not, ◌||◌}
use mathlib.Core.List.{List, [], ◌∷◌, ◌++◌}
use mathlib.Core.Logic.{⊎_elim}
use native.Mathlib.Omega.{arith}
use lib.Dec.{eqb}
use borrow.Author.Tests.{eqb-true, ne_eqb}
use Rattle.std.proofs.lemmas.Bool.{or_cases}
use Rattle.pic_source.proofs.Bools.{never}
use Rattle.pic.specs.Outcome as pic
use Rattle.pic_csrs.specs.declared.Csr as controller
use Rattle.pic_csrs.specs.declared.Csr.TheVariants as c
use Rattle.pic_csrs.specs.Addresses as csrs
use Rattle.pic_csrs.specs.Calls as csr-calls
use Rattle.pic_csrs.proofs.Addresses as csr-laws
use Rattle.pic_laws.proofs.Csrs.{read-12, write-12, write-refusal}
use Rattle.std.specs.Prelude.{Option, Some, None}
use Rattle.counters.specs.declared.Csr.{Csr}
use Rattle.counters.specs.declared.Csr.TheVariants.{Mitcnt, Mitb, Mitctl, Ect}
use Rattle.counters.specs.Csrs.{csr_address, is_csr, csr_at, csr_value, csr_written}
use Rattle.counters.proofs.Addresses.{address-csr, in_a_row, none_above}
use Rattle.counters.proofs.Writes.{written-each, written-sound}
use Rattle.handlers.specs.declared.Machine.{Machine}
use Rattle.handlers.specs.Outcome.{Outcome}
use Rattle.handlers.specs.Fields.{with_counters}
use Rattle.handlers.specs.Machines.{sound_of}
use Rattle.handlers.specs.Service.{accepted, refused, lifted, of_counters, may_write, csr_read_event, controller_write, csr_write_event}
use Rattle.handlers.specs.Calls.{csr_read_of, csr_write_of}
use Rattle.handlers_laws.specs.Csrs.{csrs_of01, csrs_of_timers, csrs_of_errors, is_one_of, is_one_of_fifteen, Question12, write_refusal, WriteQuestions, CountersWritten}
use Rattle.handlers_laws.proofs.Facts.{facts, counters-sound}

-- What holds of each of a list holds of one of them.
abbrev Each : (ℕ → Type 0) → List ℕ → Type 0
Each P [] = Unit {0}
Each P (b ∷ bs) = P b × Each P bs

each_of-at : (P : ℕ → Type 0) (l : List ℕ) → Each P l → (a : ℕ) → is_one_of a l ≡ true → P a
each_of-at P [] h a e = never e
each_of-at P (b ∷ bs) h a e = ⊎_elim (λ f. rw (eqb-true a b f) h.0) (λ f. each_of-at P bs h.1 a f) (or_cases (eqb a b) (is_one_of a bs) e)

one-of-both : (a : ℕ) (l k : List ℕ) → is_one_of a (l ++ k) ≡ (is_one_of a l || is_one_of a k)
one-of-both a [] k = refl
one-of-both a (b ∷ bs) k = go (eqb a b) (one-of-both a bs k)
  where
    go : (t : Bool) → is_one_of a (bs ++ k) ≡ (is_one_of a bs || is_one_of a k) → (t || is_one_of a (bs ++ k)) ≡ ((t || is_one_of a bs) || is_one_of a k)
    go true h = refl
    go false h = h

-- Two tests are alike where each gives the other.
alike : (s t : Bool) → (s ≡ true → t ≡ true) → (t ≡ true → s ≡ true) → s ≡ t
alike true t f g = sym (f refl)
alike false true f g = g refl
alike false false f g = refl

-- The six of 01 are those that the controller has.
known : (r : controller.Csr) → csrs.is_csr (csrs.csr_at (csrs.csr_address r)) ≡ true
known r = rw (csr-laws.address-csr r)

of-01 : (a : ℕ) → is_one_of a csrs_of01 ≡ csrs.is_csr (csrs.csr_at a)
of-01 a =
    alike (is_one_of a csrs_of01) (csrs.is_csr (csrs.csr_at a))
    (each_of-at (λ b. csrs.is_csr (csrs.csr_at b) ≡ true) csrs_of01
    (known c.Meivt, (known c.Meipt, (known c.Meicpct, (known c.Meicidpl, (known c.Meicurpl, (known c.Meihap, tt)))))) a)
    (λ e. go (csrs.csr_at a) refl e)
  where
    at : (r : controller.Csr) → csrs.csr_at a ≡ Some r → is_one_of (csrs.csr_address r) csrs_of01 ≡ true → is_one_of a csrs_of01 ≡ true
    at r h t = rw (csr-laws.csr-address a r h) t

    go : (r : Option controller.Csr) → csrs.csr_at a ≡ r → csrs.is_csr r ≡ true → is_one_of a csrs_of01 ≡ true
    go (Some c.Meivt) h e = at c.Meivt h refl
    go (Some c.Meipt) h e = at c.Meipt h refl
    go (Some c.Meicpct) h e = at c.Meicpct h refl
    go (Some c.Meicidpl) h e = at c.Meicidpl h refl
    go (Some c.Meicurpl) h e = at c.Meicurpl h refl
    go (Some c.Meihap) h e = at c.Meihap h refl
    go None h e = never e

-- The nine of the timers and of the error counters are those that they have.
own : (r : Csr) → is_csr (Some r) ≡ true → of_counters (csr_address r) ≡ true
own r e = rw (address-csr r e) e

abbrev csrs_of_counters : List ℕ
csrs_of_counters = csrs_of_timers ++ csrs_of_errors

of-counters : (a : ℕ) → is_one_of a csrs_of_counters ≡ of_counters a
of-counters a =
    alike (is_one_of a csrs_of_counters) (of_counters a)
    (λ e. ⊎_elim (of-timers a) (of-errors a) (or_cases (is_one_of a csrs_of_timers) (is_one_of a csrs_of_errors) (sym (one-of-both a csrs_of_timers csrs_of_errors) ∙ e)))
    (λ e. ⊎_elim (λ l. in_row 0x7D2 l (row (a - 0x7D2) (omega (arith, l.1)))) (λ l. in_row 0x7F0 l (errors-row (a - 0x7F0) (omega (arith, l.1)))) (in_a_row a e))
  where
    of-timers : (b : ℕ) → is_one_of b csrs_of_timers ≡ true → of_counters b ≡ true
    of-timers =
        each_of-at (λ b. of_counters b ≡ true) csrs_of_timers
        (own (Mitcnt 0) refl, (own (Mitb 0) refl, (own (Mitctl 0) refl, (own (Mitcnt 1) refl, (own (Mitb 1) refl, (own (Mitctl 1) refl, tt))))))

    of-errors : (b : ℕ) → is_one_of b csrs_of_errors ≡ true → of_counters b ≡ true
    of-errors = each_of-at (λ b. of_counters b ≡ true) csrs_of_errors (own (Ect 0) refl, (own (Ect 1) refl, (own (Ect 2) refl, tt)))

    -- An address in the row from l on.
    in_row : (l : ℕ) {h : ℕ} → (l ≤ a) × (a < h) → is_one_of (l + (a - l)) csrs_of_counters ≡ true → is_one_of a csrs_of_counters ≡ true
    in_row l b t = let s : a ≡ l + (a - l) = omega (arith, b.0) in rw s t

    errors-row : (k : ℕ) → k < 3 → is_one_of (0x7F0 + k) csrs_of_counters ≡ true
    errors-row zero h = refl
    errors-row (suc zero) h = refl
    errors-row (suc (suc zero)) h = refl
    errors-row (suc (suc (suc k))) h = absurd (omega arith)

    row : (k : ℕ) → k < 6 → is_one_of (0x7D2 + k) csrs_of_counters ≡ true
    row zero h = refl
    row (suc zero) h = refl
    row (suc (suc zero)) h = refl
    row (suc (suc (suc zero))) h = refl
    row (suc (suc (suc (suc zero)))) h = refl
    row (suc (suc (suc (suc (suc zero))))) h = refl
    row (suc (suc (suc (suc (suc (suc k)))))) h = absurd (omega arith)

fifteen : (a : ℕ) → is_one_of_fifteen a ≡ (csrs.is_csr (csrs.csr_at a) || of_counters a)
fifteen a = one-of-both a csrs_of01 csrs_of_counters ∙ rw (of-01 a, of-counters a)

module _ (m : Machine) (e : sound_of m ≡ true) where
  read-refusal : (a : ℕ) → (csr_read_of m a).refusal ≡ cond (is_one_of_fifteen a) 0 12
  unfolding csr_read_of csr_read_event
  read-refusal a =
      rw (e, fifteen a) (go (of_counters a) (csrs.is_csr (csrs.csr_at a)) (csr_value m.counters (csr_at a)) (csr-calls.csr_read_of m.controller a) (read-12 m.controller a 0))
    where
      go : (s t : Bool) (x : ℕ) (o : pic.Outcome) → o.refusal ≡ cond t 0 12 → (cond s (accepted m x) (lifted m o)).refusal ≡ cond (t || s) 0 12
      go true true x o h = refl
      go true false x o h = refl
      go false true x o h = h
      go false false x o h = h

  -- 0xBCC is one of the six.
  may-write : (a : ℕ) → csrs.is_csr (csrs.csr_at a) ≡ false → may_write m a ≡ true
  may-write a h = go (eqb a 0xBCC) refl
    where
      go : (t : Bool) → eqb a 0xBCC ≡ t → (not t || eqb m.service.depth 0) ≡ true
      go true f = never (sym h ∙ rw (eqb-true a 0xBCC f) (known c.Meicurpl))
      go false f = refl

  write-refused : (a v : ℕ) → csrs.is_csr (csrs.csr_at a) ≡ false → of_counters a ≡ false → csr_write_of m a v ≡ refused m 12
  unfolding csr_write_of csr_write_event controller_write
  write-refused a v h k = rw (e, k, may-write a h, write-12 m.controller a v h)

  -- No CSR of the counters is meihap or meicurpl.
  apart : (a b : ℕ) → 0x7F3 ≤ b → of_counters a ≡ true → eqb a b ≡ false
  apart a b l h = ne_eqb a b (λ z. never (sym (none_above a (omega (arith, z, l))) ∙ h))

  first-no-writing : (a v : ℕ) → (csr_write_of m a v).refusal ≡ write_refusal m a
  unfolding csr_write_of csr_write_event controller_write
  first-no-writing a v = rw (e, fifteen a) (go (of_counters a) refl)
    where
      counter : (i x b d : Bool) → x ≡ false → b ≡ false → ◌≡◌ {A = ℕ} 0 (cond (i || true) (cond (not x) (cond (not b || d) 0 14) 13) 12)
      counter true x b d f g = rw (f, g)
      counter false x b d f g = rw (f, g)

      other : (i x b d : Bool) (o : pic.Outcome) → o.refusal ≡ cond i (cond (not x) 0 13) 12 → (b ≡ true → (i ≡ true) × (x ≡ false))
          → (cond (not b || d) (lifted m o) (refused m 14)).refusal ≡ cond (i || false) (cond (not x) (cond (not b || d) 0 14) 13) 12
      other true x false d o h k = h
      other false x false d o h k = h
      other true x true true o h k = h
      other false x true true o h k = h
      other i x true false o h k = rw ((k refl).0, (k refl).1)

      go : (s : Bool) → of_counters a ≡ s
          → (cond s (accepted (with_counters m (csr_written m.counters (csr_at a) v)) 0)
          (cond (may_write m a) (lifted m (csr-calls.csr_write_of m.controller a v)) (refused m 14))).refusal
          ≡ cond (csrs.is_csr (csrs.csr_at a) || s) (cond (not (eqb a 0xFC8)) (cond (may_write m a) 0 14) 13) 12
      go true h =
          counter (csrs.is_csr (csrs.csr_at a)) (eqb a 0xFC8) (eqb a 0xBCC) (eqb m.service.depth 0) (apart a 0xFC8 (omega arith) h) (apart a 0xBCC (omega arith) h)
      go false h =
          other (csrs.is_csr (csrs.csr_at a)) (eqb a 0xFC8) (eqb a 0xBCC) (eqb m.service.depth 0) (csr-calls.csr_write_of m.controller a v) (write-refusal m.controller a v)
          (λ g. let z = eqb-true a 0xBCC g in (rw z (known c.Meicurpl), ne_eqb a 0xFC8 (λ y. omega (arith, y, z))))

  write_known : (a v : ℕ) → is_one_of_fifteen a ≡ true → (csr_write_of m a v).refusal ≡ 12 → ⊥
  write_known a v h z =
      let f : (csr_write_of m a v).refusal ≡ cond (not (eqb a 0xFC8)) (cond (may_write m a) 0 14) 13 = first-no-writing a v ∙ rw h in
      go (not (eqb a 0xFC8)) (may_write m a) (sym f ∙ z)
    where
      go : (t u : Bool) → ◌≡◌ {A = ℕ} (cond t (cond u 0 14) 13) 12 → ⊥
      go true true y = omega (arith, y)
      go true false y = omega (arith, y)
      go false u y = omega (arith, y)

-- Neither of two tests holds.
neither : (s t : Bool) → (s || t) ≡ false → (s ≡ false) × (t ≡ false)
neither true t e = never (sym e)
neither false t e = (refl, e)

pub question-12 : Question12
question-12 m a v e =
    record {
      reads = read-refusal m e a;
      refuses = λ h. let n = neither (csrs.is_csr (csrs.csr_at a)) (of_counters a) (sym (fifteen a) ∙ h) in write-refused m e a v n.0 n.1;
      goes_on = λ h. write_known m e a v h;
    }

pub write-questions : WriteQuestions
write-questions m a v e = first-no-writing m e a v

-- A read and a write of a CSR of the counters.
module _ (m : Machine) (e : sound_of m ≡ true) (r : Csr) (h : is_csr (Some r) ≡ true) where
  counter-read : csr_read_of m (csr_address r) ≡ accepted m (csr_value m.counters (Some r))
  unfolding csr_read_of csr_read_event
  counter-read = rw (e, address-csr r h, h)

  counter-write : (v : ℕ) → csr_write_of m (csr_address r) v ≡ accepted (with_counters m (csr_written m.counters (Some r) v)) 0
  unfolding csr_write_of csr_write_event
  counter-write v = rw (e, address-csr r h, h)

pub counters-written : CountersWritten
counters-written m e r v h b =
    let t = csr_written m.counters (Some r) v in
    let s = counters-sound m t e (written-sound m.counters (Some r) v b (facts m e).counters) in
    let w = written-each m.counters (Some r) v h in
    record {
      accepts = ap (λ (o : Outcome). o.refusal) (counter-write m e r h v);
      itself = rw (counter-write m e r h v, counter-read (with_counters m t) s r h) w.itself;
      others = λ q i d. rw (counter-write m e r h v, counter-read (with_counters m t) s q i, counter-read m e q i) (w.others (Some q) (λ f. d (is f)));
    }
  where
    is : {q : Csr} → Some q ≡ Some r → q ≡ r
    is f = cc
