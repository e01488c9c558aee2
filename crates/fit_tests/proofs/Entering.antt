-- From the test of a chip and the first test that fails to the fit, in the form of the needs.
use Rattle.std.specs.Prelude.{Ok, Err, Result}
use Prim.Native.Nat.{ℕ, ◌+◌, ◌*◌, min}
use mathlib.Core.Path.{◌≡◌, sym, ap, ◌∙◌}
use mathlib.Core.List.{List}
use native.Mathlib.Omega.{arith}
use mir.Syntax.{w64}
use mir.Val.{Fits}
use borrow.Author.Tests.{eqb-true, leb-true}
use Rattle.model.specs.declared.Chip.{Chip as HeldChip}
use Rattle.model.specs.declared.Refusal.{Refusal}
use Rattle.model.specs.Meaning.{Chip, chip_of}
use Rattle.refusals.specs.Tests.{first_failed, unless_failed}
use Rattle.refusals.proofs.FirstFailed.{first_passes, rest_passes, number_refused, number_none}
use Rattle.text_grammar.specs.Reading.{Reading}
use Rattle.text_grammar.specs.Writing.{tested_as}
use Rattle.chip_text.specs.Text.{read_chip, chip_text}
use Rattle.chip_text.specs.Valid.{pins_before}
use Rattle.chip_text.specs.Passed.{Passed}
use Rattle.chip_text.proofs.Passing.{Whole}
use Rattle.fit_slots.specs.Fit.{refused_by, slot_count, fit_tests, stands_for, string_for, fit_chip, fit_letters, tests_by}
use Rattle.fit_pairs.specs.Count.{letter_total}
use Rattle.fit_pairs.proofs.Counts.{chip_letters, chip_few}
use Rattle.fit_tests.specs.Entry.{SlotsEach, fitting, Ready}

-- ---- the number of slots

module _ (c : HeldChip) (pass : Passed c) (p : ℕ) (ep : p ≡ letter_total c.n c.k) where
  pub letters_fit : Fits w64 (2 * c.n + p)
  letters_fit = let b = chip_few c pass p ep in omega (arith, pass.fine.mac_count)

  module _ (q : ℕ) (eq : q ≡ min 129 (pins_before c.t c.nets)) where
    pub slots_each_law : SlotsEach c (2 * c.n + p + 2 * q)
    slots_each_law =
        let a = chip_letters c pass p ep in
        let b = chip_few c pass p ep in
        let d = pass.macs in
        let e = pass.pins in
        let h = pass.fine.pins in
        record { both = omega arith; few = omega (arith, pass.fine.mac_count) }

    pub slots_fit : Fits w64 (2 * c.n + p + 2 * q)
    slots_fit = omega (arith, slots_each_law.few)

-- both directions
pub slots_double : (c : HeldChip) (m : ℕ) → SlotsEach c m → Fits w64 (m + m)
slots_double c m e = omega (arith, e.few)

-- ---- the fit, by the first test that fails

module _ (c : HeldChip) (pass : Passed c) (s : List ℕ) (m : ℕ) (e : SlotsEach c m) (p : ℕ) (ep : p ≡ letter_total c.n c.k) (room no : ℕ) (q : no ≡ first_failed (tests_by p (m + m) (stands_for p s) room)) where
  abbrev t : List ℕ
  t = string_for (chip_of c) s

  -- the tests are those of the chip
  first : no ≡ first_failed (fit_tests (chip_of c) t room)
  first = q ∙ rw (chip_letters c pass p ep, e.both)

  fit_as : fit_letters (chip_of c) s room ≡ unless_failed refused_by no (fitting c t)
  unfolding fit_letters
  fit_as = ap (λ (r : Reading Chip). fit_chip r t room) (sym pass.read) ∙ ap (λ (k : ℕ). unless_failed refused_by k (fitting c t)) (sym first)

  pub told_refused : (no ≡ 0 → ⊥) → fit_letters (chip_of c) s room ≡ refused_by no 0
  told_refused h = fit_as ∙ sym (number_refused refused_by (fitting c t) no h)

  pub told_ready : Whole c → no ≡ 0 → Ready c s room m
  told_ready w z =
      let a = sym first ∙ z in
      let b = rest_passes 10 _ _ a in
      let d = rest_passes 11 _ _ b in
      record {
        asking = record { passed = pass; whole = w; letters = eqb-true _ _ (first_passes 10 _ _ a); slots = e };
        enough = omega (arith, e.both, leb-true (slot_count (chip_of c)) room (first_passes 14 _ _ d));
        fits = fit_as ∙ sym (number_none refused_by (fitting c t) no z);
      }

-- ---- the test of the chip

pub test_refused : (c : HeldChip) (s : List ℕ) (room : ℕ) (t : Result (Unit {0}) Refusal) → tested_as (chip_of c) t ≡ read_chip (chip_text (chip_of c)) → (f : Refusal) → t ≡ Err f → fit_letters (chip_of c) s room ≡ refused_by f.no f.line
unfolding fit_letters
test_refused c s room t e f q = ap (λ (r : Reading Chip). fit_chip r (string_for (chip_of c) s) room) (sym (ap (tested_as (chip_of c)) (sym q) ∙ e))
