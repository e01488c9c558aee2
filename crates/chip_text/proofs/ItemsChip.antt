-- A chip can be told from its lines: `same_items`.
-- From the last line to the first, each line puts its part before the parts of the lines after it; pins wait for their net.
use mathlib.Core.Path.{◌≡◌, refl, sym, ap, ◌∙◌}
use mathlib.Core.List.{List, [], ◌∷◌, ◌++◌, map, append-nil, append_assoc}
use Rattle.model.specs.declared.Fix.{Fix}
use Rattle.model.specs.declared.Mac.{Mac}
use Rattle.model.specs.Meaning.{Pin, Net, Chip}
use Rattle.chip_text.specs.declared.ChipWord.{ChipWord}
use Rattle.chip_text.specs.declared.ChipWord.TheVariants as word
use Rattle.text_grammar.specs.Line.{Value}
use Rattle.text_grammar.specs.Words.{size}
use Rattle.chip_text.specs.Kind.{start, die_of, fix_of, mac_of, pin_of, with_die}
use Rattle.chip_text.specs.Text.{Item, fix_item, mac_item, net_item, pin_item, end_item, net_items, chip_items}

-- what lines say: pins before the first net, and a chip
record Said : Type 0 where
  pins : List Pin
  chip : Chip

abbrev nothing : Said
nothing = record { pins = []; chip = start.chip }

abbrev with_pins : List Pin → Said → Said
with_pins ps r = record { pins = ps ++ r.pins; chip = r.chip }

abbrev with_nets : List Net → Said → Said
with_nets ts r = record { pins = []; chip = record { die = r.chip.die; fixes = r.chip.fixes; macs = r.chip.macs; nets = ts ++ r.chip.nets } }

abbrev with_macs : List Mac → Said → Said
with_macs ms r = record { pins = r.pins; chip = record { die = r.chip.die; fixes = r.chip.fixes; macs = ms ++ r.chip.macs; nets = r.chip.nets } }

abbrev with_fixes : List Fix → Said → Said
with_fixes fs r = record { pins = r.pins; chip = record { die = r.chip.die; fixes = fs ++ r.chip.fixes; macs = r.chip.macs; nets = r.chip.nets } }

abbrev put : ChipWord → List Value → Said → Said
put word.Die vs r = record { pins = r.pins; chip = with_die r.chip (die_of vs) }
put word.Fix vs r = with_fixes (fix_of vs ∷ []) r
put word.Mac vs r = with_macs (mac_of vs ∷ []) r
put word.Net vs r = with_nets (record { weight = size vs 0; pins = r.pins } ∷ []) r
put word.Pin vs r = with_pins (pin_of vs ∷ []) r
put word.End vs r = r

abbrev said : List Item → Said
said [] = nothing
said (i ∷ is) = put i.word i.values (said is)

-- the lines of a list of parts put the parts there
module _ {A : Type 0} (item : A → Item) (many : List A → Said → Said) (none : (r : Said) → many [] r ≡ r) (one : (a : A) (s : List A) (r : Said) → put (item a).word (item a).values (many s r) ≡ many (a ∷ s) r) where
  said_many : (s : List A) (is : List Item) → said (map item s ++ is) ≡ many s (said is)
  said_many [] is = sym (none (said is))
  said_many (a ∷ s) is = ap (put (item a).word (item a).values) (said_many s is) ∙ one a s (said is)

said_nets : (ts : List Net) → said (net_items ts ++ (end_item ∷ [])) ≡ with_nets ts nothing
unfolding net_items
said_nets [] = refl
said_nets (t ∷ ts) = ap (put word.Net (net_item t).values)
    (ap said (append_assoc (map pin_item t.pins) (net_items ts) (end_item ∷ []))
    ∙ said_many pin_item with_pins (λ r. refl) (λ p ps r. refl) t.pins (net_items ts ++ (end_item ∷ []))
    ∙ rw (said_nets ts, append-nil t.pins))

said_chip : (c : Chip) → (said (chip_items c)).chip ≡ c
unfolding chip_items
said_chip c = rw (said_many fix_item with_fixes (λ r. refl) (λ f fs r. refl) c.fixes, said_many mac_item with_macs (λ r. refl) (λ m ms r. refl) c.macs, said_nets c.nets, append-nil c.fixes, append-nil c.macs, append-nil c.nets)

pub same_items : (c d : Chip) → chip_items c ≡ chip_items d → c ≡ d
same_items c d e = sym (said_chip c) ∙ (ap (λ is. (said is).chip) e ∙ said_chip d)
