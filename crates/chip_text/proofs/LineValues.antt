-- The parts read from lines whose values are in range are valid.
use Prim.Native.Nat.{ℕ, ◌≤◌}
use mathlib.Core.Path.{◌≡◌}
use mathlib.Core.Bool.{true, ◌&&◌}
use mathlib.Core.List.{List}
use lib.Dec.{leb}
use borrow.Author.Tests.{leb-true}
use Rattle.chip_text.specs.declared.ChipWord.{ChipWord}
use Rattle.chip_text.specs.declared.ChipWord.TheVariants as word
use Rattle.text_grammar.specs.Line.{Value}
use Rattle.text_grammar.specs.Words.{size}
use Rattle.text_grammar.proofs.Items.{Formed, Within}
use Rattle.text_grammar.proofs.Lacks.{and_left, and_right}
use Rattle.text_grammar.proofs.Values.{held_of, held_same, Passing, passing}
use Rattle.chip_text.specs.Words.{form, chip_words}
use Rattle.chip_text.specs.Text.{Item}
use Rattle.chip_text.specs.Kind.{fix_of, mac_of, pin_of}
use Rattle.chip_text.specs.Valid.{Between, ValidFix, ValidMac, ValidPin}

-- the values vs of a line of the word w, as its part holds them, pass their tests
abbrev pub Ranges : ChipWord → List Value → Type 0
Ranges w vs = Passing (form w) (held_of chip_words w vs)

pub item_ranges : (i : Item) → Formed chip_words i → Within chip_words i → Ranges i.word i.values
item_ranges i f e = rw (held_same (form i.word) i.values i.values f e) (passing (form i.word) i.values i.values e)

module _ (least v most : ℕ) (e : (leb least v && leb v most) ≡ true) where
  at_most : v ≤ most
  at_most = leb-true v most (and_right (leb least v) (leb v most) e)

  between : Between least v most
  between = record { low = leb-true least v (and_left (leb least v) (leb v most) e); high = at_most }

module _ (vs : List Value) where
  pub die_valid : Ranges word.Die vs → Between 1 (size vs 0) 1024 × Between 1 (size vs 1) 1024
  die_valid r = (between _ _ _ r.0, between _ _ _ r.1.0)

  pub fix_valid : Ranges word.Fix vs → ValidFix (fix_of vs)
  fix_valid r = record { x = at_most 0 _ _ r.0; y = at_most 0 _ _ r.1.0; w = between _ _ _ r.1.1.0; h = between _ _ _ r.1.1.1.0 }

  pub mac_valid : Ranges word.Mac vs → ValidMac (mac_of vs)
  mac_valid r = record { w = between _ _ _ r.0; h = between _ _ _ r.1.0 }

  pub weight_valid : Ranges word.Net vs → Between 1 (size vs 0) 1000
  weight_valid r = between _ _ _ r.0

  pub pin_valid : (n : ℕ) → Ranges word.Pin vs → size vs 0 ≤ n → ValidPin n (pin_of vs)
  pin_valid n r h = record { macro = h; x = r.1.0; y = r.1.1.0 }
