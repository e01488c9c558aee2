-- Reading the text of a chip is a run of the chip's items.
use mathlib.Core.Path.{◌≡◌, refl, ap, ◌∙◌}
use mathlib.Core.List.{List, [], ◌∷◌, ◌++◌, map}
use Prim.{tt}
use Prim.Native.Nat.{◌≤◌}
use lib.ListN.{length}
use Rattle.model.specs.Meaning.{Net, Chip}
use Rattle.text_grammar.specs.Reading.{read_lines, part_read}
use Rattle.text_grammar.specs.Line.{lines}
use Rattle.text_grammar.proofs.FieldsText.{suits, shaped}
use Rattle.text_grammar.proofs.Every.{every_append, every_map}
use Rattle.text_grammar.proofs.Items.{Formed, WellFormed, run_items, read_items, read_text_short}
use Rattle.chip_text.specs.Kind.{start, chip_kind, Part}
use Rattle.chip_text.proofs.Told.{words_told}
use Rattle.chip_text.specs.Words.{chip_words}
use Rattle.chip_text.specs.Text.{Item, fix_item, mac_item, pin_item, net_items, chip_items, read_chip, chip_text}

-- the items of a list of parts, and items after them
many_formed : {A : Type 0} (item : A → Item) → ((a : A) → Formed chip_words (item a)) → (s : List A) (is : List Item) → WellFormed chip_kind is → WellFormed chip_kind (map item s ++ is)
many_formed item f s is g = every_append (Formed chip_words) (map item s) is (every_map (Formed chip_words) item f s) g

nets_formed : (ts : List Net) → WellFormed chip_kind (net_items ts)
unfolding net_items suits shaped
nets_formed [] = tt
nets_formed (t ∷ ts) = (refl, many_formed pin_item (λ p. refl) t.pins (net_items ts) (nets_formed ts))

pub items_formed : (c : Chip) → WellFormed chip_kind (chip_items c)
unfolding chip_items suits shaped
items_formed c = (
  refl,
  many_formed fix_item (λ f. refl) c.fixes _
      (many_formed mac_item (λ m. refl) c.macs _
      (every_append (Formed chip_words) (net_items c.nets) _ (nets_formed c.nets) (refl, tt))),
)

module _ (c : Chip) where
  pub lines_run : read_lines chip_kind start 1 (lines (chip_text c)) ≡ run_items chip_kind start 1 (chip_items c)
  unfolding chip_text
  lines_run = read_items chip_kind words_told start 1 (chip_items c) (items_formed c)

  pub chip_run : length (chip_text c) ≤ 16384 → read_chip (chip_text c) ≡ part_read (λ (s : Part). s.chip) (run_items chip_kind start 1 (chip_items c))
  unfolding read_chip
  chip_run h = ap (part_read (λ (s : Part). s.chip)) (read_text_short chip_kind start (chip_text c) h ∙ lines_run)
