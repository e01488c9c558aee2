-- The step of a reader of chips at an item, by the number of the item's first fault: `item_steps`.
use mathlib.Core.Path.{◌≡◌, refl}
use mathlib.Core.Bool.{Bool, true, false}
use mathlib.Core.List.{List}
use Prim.Native.Nat.{ℕ, zero, suc}
use Rattle.model.specs.Step.{Step, next, fault, check, on_next}
use Rattle.text_grammar.specs.Line.{Value}
use Rattle.text_grammar.specs.Words.{is_in}
use Rattle.text_grammar.specs.Steps.{need}
use Rattle.text_grammar.proofs.Entry.{found_or}
use Rattle.text_grammar.proofs.Items.{item_step}
use Rattle.chip_text.specs.declared.ChipWord.{ChipWord}
use Rattle.chip_text.specs.Words.{chip_words}
use Rattle.chip_text.specs.Kind.{Part, counts, counts_of, followers, room, pinned, add, chip_kind}
use Rattle.chip_text.specs.Text.{Item}
use Rattle.chip_test.proofs.Fields.{within, FieldsOf}

-- a step leads to a state that P holds of, or has the fault given
pub data Steps (P : Part → Type 0) (x : Step Part) : ℕ → Type 0 where
  goes : (s : Part) → x ≡ next s → P s → Steps P x 0
  stops : (n : ℕ) → x ≡ fault (suc n) → Steps P x (suc n)

module _ {P : Part → Type 0} where
  pub steps_check : (b : Bool) (n m : ℕ) (x : Step Part) → (b ≡ true → Steps P x m) → Steps P (check b (suc n) x) (need b (suc n) m)
  steps_check true n m x k = k refl
  steps_check false n m x k = stops n refl

  pub steps_found : (n : ℕ) (x : Step Part) → Steps P x 0 → Steps P (found_or n x) n
  steps_found zero x k = k
  steps_found (suc n) x k = stops n refl

  fields_check : (s : Part) (w : ChipWord) (vs : List Value) (b : Bool) (m : ℕ) → Steps P (add s w vs) m → Steps P (on_next (within b vs) (add s w)) (need b 4 m)
  fields_check s w vs true m k = k
  fields_check s w vs false m k = stops 3 refl

  -- an item in its place, where its tests of count, pins and ranges have the answers a, b and r
  module _ (s : Part) (i : Item) (r : Bool) (fields : FieldsOf i r) (place : is_in chip_words i.word (followers s.last) ≡ true) where
    pub item_steps : (a b : Bool) (m : ℕ) → room counts (counts_of s.chip) i.word ≡ a → pinned s.last i.word ≡ b → (a ≡ true → Steps P (add s i.word i.values) m) → Steps P (item_step chip_kind s i) (need a 6 (need b 7 (need r 4 m)))
    unfolding item_step
    item_steps a b m p q k = rw (place, p, q, fields.read) (steps_check a 5 _ _ (λ e. steps_check b 6 _ _ (λ f. fields_check s i.word i.values r m (k e))))
