-- Reading and writing of chips: `read_chip` is what a text means, `chip_text` the one text of a chip, `write_chip` what writing leaves in a lent buffer.
use Rattle.std.specs.Prelude.{ℕ, List, [], ◌∷◌, ◌++◌, map, pos}
use Rattle.model.specs.declared.Die.{Die}
use Rattle.model.specs.declared.Fix.{Fix}
use Rattle.model.specs.declared.Mac.{Mac}
use Rattle.model.specs.Meaning.{Pin, Net, Chip}
use Rattle.text_grammar.specs.Line.{number}
use Rattle.text_grammar.specs.Words as grammar
use Rattle.text_grammar.specs.Words.{items_text}
use Rattle.text_grammar.specs.Reading.{Reading, part_read, read_text}
use Rattle.text_grammar.specs.Writing.{Written, write_text}
use Rattle.chip_text.specs.declared.ChipWord.{ChipWord}
use Rattle.chip_text.specs.declared.ChipWord.TheVariants as word
use Rattle.chip_text.specs.Words.{chip_words}
use Rattle.chip_text.specs.Kind.{start, chip_kind}

-- a text is accepted as the chip that it means, or refused with number and line
unfoldable pub read_chip : List ℕ → Reading Chip
read_chip text = part_read (λ s. s.chip) (read_text chip_kind start text)

-- ---- the lines of a chip

-- a line of a chip
abbrev pub Item : Type 0
Item = grammar.Item ChipWord

-- the line of a die, a fix, a macro, a pin and a net, and the last line
abbrev pub die_item : Die → Item
die_item d = record { word = word.Die; values = number (pos d.w) ∷ number (pos d.h) ∷ [] }

abbrev pub fix_item : Fix → Item
fix_item f = record { word = word.Fix; values = number (pos f.x) ∷ number (pos f.y) ∷ number (pos f.w) ∷ number (pos f.h) ∷ [] }

abbrev pub mac_item : Mac → Item
mac_item m = record { word = word.Mac; values = number (pos m.w) ∷ number (pos m.h) ∷ [] }

abbrev pub pin_item : Pin → Item
pin_item p = record { word = word.Pin; values = number (pos p.m) ∷ number p.x ∷ number p.y ∷ [] }

abbrev pub net_item : Net → Item
net_item t = record { word = word.Net; values = number (pos t.weight) ∷ [] }

abbrev pub end_item : Item
end_item = record { word = word.End; values = [] }

-- the lines of nets, each with the lines of its pins
unfoldable pub net_items : List Net → List Item
net_items [] = []
net_items (t ∷ ts) = net_item t ∷ (map pin_item t.pins ++ net_items ts)

-- all lines of a chip in the order of the file
unfoldable pub chip_items : Chip → List Item
chip_items c = die_item c.die ∷ (map fix_item c.fixes ++ (map mac_item c.macs ++ (net_items c.nets ++ (end_item ∷ []))))

-- the one text of a chip
unfoldable pub chip_text : Chip → List ℕ
chip_text c = items_text chip_words (chip_items c)

-- a chip held as a value is tested first as its text would be, then written
abbrev pub write_chip : Chip → List ℕ → Written
write_chip c out = write_text (read_chip (chip_text c)) (chip_text c) out
