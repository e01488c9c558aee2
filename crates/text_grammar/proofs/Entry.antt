-- The tests of a line before its fields: the first fault of them, and what a line that passes them has.
use mathlib.Core.Path.{◌≡◌, refl, subst}
use mathlib.Core.Bool.{Bool, true, false, not}
use Prim.Native.Nat.{ℕ, zero, suc}
use native.Mathlib.Omega.{arith}
use borrow.Author.Tests.{not-true, not-false}
use Rattle.text_grammar.specs.Reading.{Kind}
use Rattle.model.specs.Step.{Step, fault, check}
use Rattle.text_grammar.specs.Steps.{need, entry_by, in_place, on_entry, entry_fault, Entered}

passes : (b : Bool) (n m : ℕ) → need b (suc n) m ≡ 0 → (b ≡ true) × (m ≡ 0)
passes true n m e = (refl, e)
passes false n m e = absurd (omega arith)

-- the fault found, or what follows
abbrev pub found_or : {S : Type 0} → ℕ → Step S → Step S
found_or zero more = more
found_or (suc n) more = fault (suc n)

module _ {S : Type 0} where
  pub found_none : (n : ℕ) (more : Step S) → n ≡ 0 → more ≡ found_or n more
  found_none zero more h = refl
  found_none (suc n) more h = absurd (omega arith)

  pub found_fault : (n : ℕ) (more : Step S) → (n ≡ 0 → ⊥) → fault n ≡ found_or n more
  found_fault zero more h = absurd (h refl)
  found_fault (suc n) more h = refl

  pub found_check : (b : Bool) (n m : ℕ) (k more : Step S) → k ≡ found_or m more → check b (suc n) k ≡ found_or (need b (suc n) m) more
  found_check true n m k more e = e
  found_check false n m k more e = refl

-- ---- the tests of a line, in the form of the needs of the function that makes them

-- ---- a line that passes

module _ {W S : Type 0} (k : Kind W S) (s : S) (w : W) where
  module _ (entered : Entered k s w) where
    pub in_place_law : in_place k s w ≡ true
    unfolding entry_fault entry_by
    in_place_law = (passes (in_place k s w) 4 _ entered.clear).0

    pub has_room_law : k.has_room s w ≡ true
    unfolding entry_fault entry_by
    has_room_law = (passes (k.has_room s w) 5 _ (passes (in_place k s w) 4 _ entered.clear).1).0

    pub entered_as : (x : W) → w ≡ x → Entered k s x
    entered_as x e = subst (λ (y : W). Entered k s y) e entered

  -- ---- the step of a line

  pub step_word_law : (more : Step S) → on_entry k s w more ≡ found_or (entry_fault k s w) more
  unfolding entry_fault entry_by
  step_word_law more =
      found_check (in_place k s w) 4 _ _ more
      (found_check (k.has_room s w) 5 _ _ more
      (found_check (k.has_pin s w) 6 0 more more refl))
