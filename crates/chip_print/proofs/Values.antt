-- The values of an item by its word, in the form of the needs.
use mathlib.Core.Path.{◌≡◌}
use mathlib.Core.List.{List, [], ◌∷◌}
use Prim.Native.Nat.{ℕ}
use lib.ListN.{get_or}
use Rattle.model.specs.declared.Fix.{Fix}
use Rattle.model.specs.declared.Mac.{Mac}
use Rattle.model.specs.declared.Net.{Net as HeldNet}
use Rattle.model.specs.declared.Pin.{Pin as HeldPin}
use Rattle.model.specs.declared.Chip.{Chip as HeldChip}
use Rattle.model.specs.Meaning.{blank_fix, blank_mac, blank_net, blank_pin}
use Rattle.text_line.specs.Layout.{values_at, values_in}
use Rattle.chip_text.specs.declared.ChipWord.{ChipWord}
use Rattle.chip_text.specs.declared.ChipWord.TheVariants as word
use Rattle.chip_text.specs.Words.{form}
use Rattle.chip_text.specs.Text.{Item}
use Rattle.chip_print.specs.Items.{item_at}

-- the item of the word w with the numbers vs, as held
abbrev held_item : ChipWord → List ℕ → Item
held_item w vs = record { word = w; values = values_in (form w) [] vs }

module _ (c : HeldChip) (w : ChipWord) (i : ℕ) where
  pub die_values : w ≡ word.Die → held_item w (c.die.w ∷ c.die.h ∷ 0 ∷ 0 ∷ []) ≡ item_at c w i
  unfolding values_at
  die_values e = rw e

  pub fix_values : (f : Fix) → w ≡ word.Fix → f ≡ get_or c.fixes i blank_fix → held_item w (f.x ∷ f.y ∷ f.w ∷ f.h ∷ []) ≡ item_at c w i
  unfolding values_at
  fix_values f e q = rw (e, q)

  pub mac_values : (m : Mac) → w ≡ word.Mac → m ≡ get_or c.macs i blank_mac → held_item w (m.w ∷ m.h ∷ 0 ∷ 0 ∷ []) ≡ item_at c w i
  unfolding values_at
  mac_values m e q = rw (e, q)

  pub net_values_law : (t : HeldNet) → w ≡ word.Net → t ≡ get_or c.nets i blank_net → held_item w (t.weight ∷ 0 ∷ 0 ∷ 0 ∷ []) ≡ item_at c w i
  unfolding values_at
  net_values_law t e q = rw (e, q)

  pub pin_values : (p : HeldPin) → w ≡ word.Pin → p ≡ get_or c.pins i blank_pin → held_item w (p.m ∷ p.xup ∷ p.yup ∷ 0 ∷ []) ≡ item_at c w i
  unfolding values_at
  pin_values p e q = rw (e, q)

  pub end_values : w ≡ word.End → held_item w (0 ∷ 0 ∷ 0 ∷ 0 ∷ []) ≡ item_at c w i
  unfolding values_at
  end_values e = rw e
