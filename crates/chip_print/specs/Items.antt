-- The items of a chip held as a value, by their numbers, and the parts of its text.
use Rattle.std.specs.Prelude.{ℕ, ◌-◌, List, [], ◌∷◌, ◌++◌, map, pos, get_or}
use Rattle.model.specs.declared.Fix.{Fix}
use Rattle.model.specs.declared.Mac.{Mac}
use Rattle.model.specs.declared.Net.{Net as HeldNet}
use Rattle.model.specs.declared.Chip.{Chip as HeldChip}
use Rattle.model.specs.Meaning.{Chip, blank_fix, blank_mac, blank_net, blank_pin, pin_of}
use Rattle.model.specs.Limits.{most_pins}
use Rattle.text_grammar.specs.Line.{number}
use Rattle.model.specs.Counted.{item_count}
use Rattle.text_put.specs.Run.{run}
use Rattle.chip_text.specs.declared.ChipWord.{ChipWord}
use Rattle.chip_text.specs.declared.ChipWord.TheVariants as word
use Rattle.chip_text.specs.Text.{Item, die_item, fix_item, mac_item, pin_item, end_item}

-- the line of a net held as a value
abbrev pub weight_item : HeldNet → Item
weight_item t = record { word = word.Net; values = number (pos t.weight) ∷ [] }

-- item i of a kind, a blank one past the end of its array; there is one die and one end
abbrev pub item_at : HeldChip → ChipWord → ℕ → Item
item_at c word.Die i = die_item c.die
item_at c word.Fix i = fix_item (get_or c.fixes i blank_fix)
item_at c word.Mac i = mac_item (get_or c.macs i blank_mac)
item_at c word.Net i = weight_item (get_or c.nets i blank_net)
item_at c word.Pin i = pin_item (pin_of (get_or c.pins i blank_pin))
item_at c word.End i = end_item

-- net j with the pins that its count means, from pin q on
abbrev pub net_at : HeldChip → ℕ → ℕ → List Item
net_at c j q = item_at c word.Net j ∷ run (item_at c word.Pin) q (item_count (get_or c.nets j blank_net).pins (most_pins - q))

-- the lines before the nets: die, fixes, macros
unfoldable pub block_items : Chip → List Item
block_items c = die_item c.die ∷ (map fix_item c.fixes ++ map mac_item c.macs)
