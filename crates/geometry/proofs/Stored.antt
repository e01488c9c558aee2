-- Boxes stored one by one: those of a list of eight.
use mathlib.Core.Path.{◌≡◌, sym, ◌∙◌}
use mathlib.Core.List.{List, map}
use Prim.Native.Nat.{ℕ, ◌+◌, ◌≤◌, ◌<◌}
use native.Mathlib.Numerals.{add-one}
use native.Mathlib.Omega.{arith}
use lib.ListN.{length, get_or, take, set, length-map, get_or-map}
use lib.Seq.{take_all, take-suc, take-suc-set}
use Rattle.model.specs.declared.Fix.{Fix}
use Rattle.model.specs.Meaning.{blank_fix}
use Rattle.geometry.specs.declared.Box.{Box}
use Rattle.geometry.specs.Box.{box_of, blank_box}

-- the first i of the boxes ts are stored in bs
module _ (ts bs : List Box) (i : ℕ) where
  pub one_stored : length ts ≡ 8 → length bs ≡ 8 → i < 8 → (b : Box) → b ≡ get_or ts i blank_box → take i bs ≡ take i ts → take (i + 1) (set bs i b) ≡ take (i + 1) ts
  one_stored l n h b q e = rw (add-one, take-suc-set bs i b (omega arith), take-suc ts i blank_box (omega arith), e, q)

  pub all_stored : length ts ≡ 8 → length bs ≡ 8 → i ≤ 8 → 8 ≤ i → take i bs ≡ take i ts → bs ≡ ts
  all_stored l n h g e = sym (take_all i bs (omega arith)) ∙ (e ∙ take_all i ts (omega arith))
