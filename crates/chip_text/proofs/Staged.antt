-- Items that are read as a chip are the chip's items: `run_items_law`.
-- The items read so far are those of the chip so far. For each word that may follow (`Staged`), the parts that are written after its own are still empty (`Ready`): so the part of a line in place goes last into the chip, as its item goes last.
use mathlib.Core.Path.{◌≡◌, refl, sym}
use mathlib.Core.List.{List, [], ◌∷◌, ◌++◌, map}
use Prim.{tt}
use Prim.Native.Nat.{ℕ, ◌<◌}
use native.Mathlib.Omega.{arith}
use lib.Dec.{leb}
use lib.ListN.{length, length-append}
use Rattle.model.specs.Meaning.{Chip}
use Rattle.chip_text.specs.declared.ChipWord.{ChipWord}
use Rattle.chip_text.specs.declared.ChipWord.TheVariants as word
use Rattle.geometry.specs.Box.{box_of, in_die, clear_of}
use Rattle.model.specs.Step.{next}
use Rattle.text_grammar.specs.Line.{Value}
use Rattle.text_grammar.specs.Words.{same, size}
use Rattle.text_grammar.specs.Reading.{accepted}
use Rattle.text_grammar.proofs.Every.{Every}
use Rattle.text_grammar.proofs.Items.{WellFormed, run_items, check_next}
use Rattle.text_grammar.proofs.Values.{held_of, grows}
use Rattle.text_grammar.proofs.Ready.{Stages, Staged, staged_next, staged_on, run_ready}
use Rattle.chip_text.specs.Words.{chip_words}
use Rattle.chip_text.specs.Kind.{Part, start, die_of, fix_of, mac_of, net_of, pin_of, add, chip_kind}
use Rattle.chip_text.specs.Text.{Item, chip_items}
use Rattle.chip_text.proofs.Told.{words_told}
use Rattle.chip_text.proofs.Body.{body, nets_kept, body_end, body_pin, body_net, body_mac, body_fix, body_die}

-- the items js have been read as c, and a word may be next
data Ready (c : Chip) (js : List Item) : ChipWord → Type 0 where
  for_die : js ≡ [] → c.fixes ≡ [] → c.macs ≡ [] → c.nets ≡ [] → Ready c js word.Die
  for_fix : js ≡ body c → c.macs ≡ [] → c.nets ≡ [] → Ready c js word.Fix
  for_mac : js ≡ body c → c.nets ≡ [] → Ready c js word.Mac
  for_net : js ≡ body c → Ready c js word.Net
  for_pin : js ≡ body c → 0 < length c.nets → Ready c js word.Pin
  for_end : js ≡ body c → Ready c js word.End

abbrev stages : Stages ChipWord Part
stages = record { Ready = λ s. Ready s.chip; items = λ s. chip_items s.chip }

at_start : Staged chip_kind stages start []
at_start = ((for_die refl refl refl refl, tt), λ e. cc)

-- the words after a macro, after the die or a fix, and after a net or a pin are ready
module _ {c : Chip} {js : List Item} (e : js ≡ body c) where
  macs_on : c.nets ≡ [] → Every (Ready c js) (word.Mac ∷ word.Net ∷ word.End ∷ [])
  macs_on n = (for_mac e n, (for_net e, (for_end e, tt)))

  fixes_on : c.macs ≡ [] → c.nets ≡ [] → Every (Ready c js) (word.Fix ∷ word.Mac ∷ word.Net ∷ word.End ∷ [])
  fixes_on m n = (for_fix e m n, macs_on n)

  pins_on_law : 0 < length c.nets → Every (Ready c js) (word.Net ∷ word.Pin ∷ word.End ∷ [])
  pins_on_law h = (for_net e, (for_pin e h, (for_end e, tt)))

staged_add : (s s' : Part) (w : ChipWord) (vs : List Value) (js : List Item) → held_of chip_words w vs ≡ vs → add s w vs ≡ next s' → Ready s.chip js w → Staged chip_kind stages s' (js ++ (record { word = w; values = vs } ∷ []))
unfolding same
staged_add s s' w vs js q a (for_die e f m n) = staged_on chip_kind stages a refl (fixes_on (grows chip_words word.Die vs q e (body_die s.chip n m (die_of vs) f)) m n)
staged_add s s' w vs js q a (for_fix e m n) =
    let d = check_next (in_die s.chip.die (box_of (fix_of vs))) 9 _ s' a in
    let o = check_next (clear_of 0 (box_of (fix_of vs)) (map box_of s.chip.fixes)) 10 _ s' d.1 in
    staged_on chip_kind stages o.1 refl (fixes_on (grows chip_words word.Fix vs q e (body_fix s.chip n m (fix_of vs))) m n)
staged_add s s' w vs js q a (for_mac e n) = staged_on chip_kind stages a refl (macs_on (grows chip_words word.Mac vs q e (body_mac s.chip n (mac_of vs))) n)
staged_add s s' w vs js q a (for_net e) = staged_on chip_kind stages a refl (pins_on_law (grows chip_words word.Net vs q e (body_net s.chip (net_of vs) refl)) (rw length-append (omega arith)))
staged_add s s' w vs js q a (for_pin e h) =
    let m = check_next (leb (size vs 0) (length s.chip.macs)) 8 _ s' a in
    staged_on chip_kind stages m.1 refl (pins_on_law (grows chip_words word.Pin vs q e (body_pin s.chip (pin_of vs) h)) (nets_kept (pin_of vs) s.chip.nets h))
staged_add s s' w vs js q a (for_end e) = staged_next chip_kind stages a (tt, λ f. grows chip_words word.End vs q e (sym (body_end s.chip)))

pub run_items_law : (s' : Part) (n : ℕ) (is : List Item) → WellFormed chip_kind is → run_items chip_kind start n is ≡ accepted s' → is ≡ chip_items s'.chip
run_items_law s' n is f e = run_ready chip_kind stages words_told staged_add start s' n is f e at_start
