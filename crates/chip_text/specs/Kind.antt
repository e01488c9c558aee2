-- The rules of the chip file (document 01, "The chip file" and "Refusal table"), as a kind of text.
use Rattle.std.specs.Prelude.{ℕ, ◌+◌, List, [], ◌∷◌, ◌++◌, map, Bool, true, not, ◌||◌, leb, ltb, length}
use Rattle.model.specs.declared.Die.{Die}
use Rattle.model.specs.declared.Fix.{Fix}
use Rattle.geometry.specs.Box.{box_of, in_die, clear_of}
use Rattle.model.specs.declared.Mac.{Mac}
use Rattle.model.specs.Meaning.{Pin, Net, Chip}
use Rattle.model.specs.Limits.{most_bytes, most_fixes, most_macs, most_nets, most_pins}
use Rattle.model.specs.Step.{Step, next, check}
use Rattle.text_grammar.specs.Line.{Value}
use Rattle.text_grammar.specs.Words.{is_word, value, size}
use Rattle.text_grammar.specs.Reading.{Kind, Last, before, after, is_last}
use Rattle.chip_text.specs.declared.ChipWord.{ChipWord}
use Rattle.chip_text.specs.declared.ChipWord.TheVariants as word
use Rattle.chip_text.specs.Words.{chip_words}

-- what has been read: the word of the last line, and the chip so far
pub record Part : Type 0 where
  pub last : Last ChipWord
  pub chip : Chip

-- before the first line: a chip with nothing in it
abbrev pub start : Part
start = record { last = before; chip = record { die = record { w = 0; h = 0 }; fixes = []; macs = []; nets = [] } }

-- the words that may stand after a word: the order is die, fixes, macros, nets each with its pins, end. (A net or the end right after a net is refusal 7
-- and not 5.)
abbrev pub followers : Last ChipWord → List ChipWord
followers before = word.Die ∷ []
followers (after word.Die) = word.Fix ∷ word.Mac ∷ word.Net ∷ word.End ∷ []
followers (after word.Fix) = word.Fix ∷ word.Mac ∷ word.Net ∷ word.End ∷ []
followers (after word.Mac) = word.Mac ∷ word.Net ∷ word.End ∷ []
followers (after word.Net) = word.Net ∷ word.Pin ∷ word.End ∷ []
followers (after word.Pin) = word.Net ∷ word.Pin ∷ word.End ∷ []
followers (after word.End) = []

-- how many fixes, macros, nets and pins a chip has at most
pub record Counts : Type 0 where
  pub fixes : ℕ
  pub macs : ℕ
  pub nets : ℕ
  pub pins : ℕ

-- those of document 01
abbrev pub counts : Counts
counts = record { fixes = most_fixes; macs = most_macs; nets = most_nets; pins = most_pins }

-- the number of pins in all nets
unfoldable pub pin_count : List Net → ℕ
pin_count [] = 0
pin_count (t ∷ ts) = length t.pins + pin_count ts

-- those that a chip has
abbrev pub counts_of : Chip → Counts
counts_of c = record { fixes = length c.fixes; macs = length c.macs; nets = length c.nets; pins = pin_count c.nets }

-- there is room for one more of the word's kind, beside c of at most n
abbrev pub room : Counts → Counts → ChipWord → Bool
room n c word.Die = true
room n c word.Fix = ltb c.fixes n.fixes
room n c word.Mac = ltb c.macs n.macs
room n c word.Net = ltb c.nets n.nets
room n c word.Pin = ltb c.pins n.pins
room n c word.End = true

-- the net above, if the last line is one, has a pin: this line is a pin
abbrev pub pinned : Last ChipWord → ChipWord → Bool
pinned last w = not (is_last chip_words last word.Net) || is_word chip_words w word.Pin

-- the nets with the pin p put last into the last net
unfoldable pub add_pin : Pin → List Net → List Net
add_pin p [] = []
add_pin p (t ∷ []) = record { weight = t.weight; pins = t.pins ++ (p ∷ []) } ∷ []
add_pin p (t ∷ (u ∷ ts)) = t ∷ add_pin p (u ∷ ts)

-- the die, fix, macro, net without pins, and pin with the values vs of its line
abbrev pub die_of : List Value → Die
die_of vs = record { w = size vs 0; h = size vs 1 }

abbrev pub fix_of : List Value → Fix
fix_of vs = record { x = size vs 0; y = size vs 1; w = size vs 2; h = size vs 3 }

abbrev pub mac_of : List Value → Mac
mac_of vs = record { w = size vs 0; h = size vs 1 }

abbrev pub net_of : List Value → Net
net_of vs = record { weight = size vs 0; pins = [] }

abbrev pub pin_of : List Value → Pin
pin_of vs = record { m = size vs 0; x = value vs 1; y = value vs 2 }

-- the chip with one more part: its die, or a last fix, macro, net, or pin
abbrev pub with_die : Chip → Die → Chip
with_die c d = record { die = d; fixes = c.fixes; macs = c.macs; nets = c.nets }

abbrev pub with_fix : Chip → Fix → Chip
with_fix c f = record { die = c.die; fixes = c.fixes ++ (f ∷ []); macs = c.macs; nets = c.nets }

abbrev pub with_mac : Chip → Mac → Chip
with_mac c m = record { die = c.die; fixes = c.fixes; macs = c.macs ++ (m ∷ []); nets = c.nets }

abbrev pub with_net : Chip → Net → Chip
with_net c t = record { die = c.die; fixes = c.fixes; macs = c.macs; nets = c.nets ++ (t ∷ []) }

abbrev pub with_pin : Chip → Pin → Chip
with_pin c p = record { die = c.die; fixes = c.fixes; macs = c.macs; nets = add_pin p c.nets }

-- the chip c has been read, and w is the word of the last line
abbrev pub read_to : ChipWord → Chip → Step Part
read_to w c = next (record { last = after w; chip = c })

-- what a fix adds, and its last tests: fix leaves the die 9; fix overlaps an earlier fix 10 (fixes may touch, so no gap is asked)
abbrev pub add_fix : Part → Fix → Step Part
add_fix s f =
    check (in_die s.chip.die (box_of f)) 9
    (check (clear_of 0 (box_of f) (map box_of s.chip.fixes)) 10
    (read_to word.Fix (with_fix s.chip f)))

-- what a line with that word and the values vs adds, and its last tests: those of a fix; no such macro 8
abbrev pub add : Part → ChipWord → List Value → Step Part
add s word.Die vs = read_to word.Die (with_die s.chip (die_of vs))
add s word.Fix vs = add_fix s (fix_of vs)
add s word.Mac vs = read_to word.Mac (with_mac s.chip (mac_of vs))
add s word.Net vs = read_to word.Net (with_net s.chip (net_of vs))
add s word.Pin vs =
    check (leb (size vs 0) (length s.chip.macs)) 8
    (read_to word.Pin (with_pin s.chip (pin_of vs)))
add s word.End vs = read_to word.End s.chip

-- chip files with these counts as a kind of text; `end` is the last line
abbrev pub kind_of : Counts → Kind ChipWord Part
kind_of n = record {
  words = chip_words;
  most_bytes = most_bytes;
  followers = λ s. followers s.last;
  has_room = λ s w. room n (counts_of s.chip) w;
  has_pin = λ s w. pinned s.last w;
  add = add;
  complete = λ s. is_last chip_words s.last word.End;
}

-- the chip files of document 01
abbrev pub chip_kind : Kind ChipWord Part
chip_kind = kind_of counts
