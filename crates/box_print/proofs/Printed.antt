-- The lines of a chip's nets written one after the other, and a record before them: in the form of the needs.
use mathlib.Core.Path.{◌≡◌, refl, sym, subst}
use mathlib.Core.List.{List, ◌++◌, append-nil}
use Prim.Native.Nat.{ℕ, suc, ◌+◌, ◌≤◌, ◌<◌, ◌^◌, min}
use native.Mathlib.Nat.{zero-add}
use native.Mathlib.Numerals.{add-one}
use native.Mathlib.Omega.{arith}
use lib.ListN.{length, get_or}
use Rattle.num_text.specs.Held.{Wrote}
use Rattle.num_text.proofs.Wrote.{wrote_then}
use Rattle.model.specs.declared.Spot.{Spot}
use Rattle.model.specs.declared.Chip.{Chip}
use Rattle.model.specs.declared.Outcome.{Outcome}
use Rattle.model.specs.declared.Outcome.TheVariants as outcome
use Rattle.model.specs.declared.Record.{Record}
use Rattle.model.specs.Meaning.{record_of, blank_net}
use Rattle.text_grammar.specs.Words.{item_text, items_text}
use Rattle.text_put.specs.Run.{run}
use Rattle.text_put.proofs.Items.{run_more}
use Rattle.record_text.specs.Text.{record_text}
use Rattle.measure_nets.specs.declared.NetBox.{NetBox}
use Rattle.measure_nets.specs.Box.{box_of}
use Rattle.measure_nets.specs.Held.{net_box_held}
use Rattle.measure_held.proofs.Lengths.{Before, next_box}
use Rattle.box_text.specs.Words.{box_words}
use Rattle.box_text.specs.Text.{box_item}
use Rattle.box_print.specs.Held.{box_line, chip_boxes, outcome_boxes, held_text}

-- the line of a box that is found
pub found_written : (n : ℕ) (v u : NetBox) (b a : List ℕ) (at r : ℕ) → v ≡ u → Wrote b a (item_text box_words (box_item n (box_of v))) at r → Wrote b a (item_text box_words (box_item n (box_of u))) at r
found_written n v u b a at r e w = subst (λ (x : NetBox). Wrote b a (item_text box_words (box_item n (box_of x))) at r) e w

-- ---- the lines of a chip's nets

module _ (c : Chip) (ps : List Spot) (b : List ℕ) (at : ℕ) where
  -- one net more
  pub box_more : (m a : List ℕ) (j k r from : ℕ) → length b < 2 ^ 64 → Before c.nets from j → length c.pins ≡ 128 → Wrote b m (items_text box_words (run (box_line c ps) 0 j)) at k → Wrote m a (item_text box_words (box_item (j + 1) (box_of (net_box_held ps c.pins (get_or c.nets j blank_net) from)))) k r → Wrote b a (items_text box_words (run (box_line c ps) 0 (j + 1))) at r
  box_more m a j k r from f h l w u =
      run_more box_words (box_line c ps) 0 b at m a j k r f w (rw zero-add (subst (λ (x : NetBox). Wrote m a (item_text box_words (box_item (suc j) (box_of x))) k r) (next_box ps c.nets c.pins from j _ h l refl) (rw add-one at u)))

  module _ (a : List ℕ) (j r : ℕ) (w : Wrote b a (items_text box_words (run (box_line c ps) 0 j)) at r) where
    pub boxes_all : j ≤ c.t → j ≤ 32 → c.t ≤ j → Wrote b a (items_text box_words (chip_boxes c ps)) at r
    boxes_all h g l = let e : min c.t 32 ≡ j = omega arith in rw e w

    pub boxes_most : j ≤ c.t → j ≤ 32 → 32 ≤ j → Wrote b a (items_text box_words (chip_boxes c ps)) at r
    boxes_most h g l = let e : min c.t 32 ≡ j = omega arith in rw e w

-- ---- the record and its boxes

module _ (c : Chip) (x : Record) (b m : List ℕ) (at k : ℕ) (w : Wrote b m (record_text (record_of x)) at k) where
  abbrev Then : Outcome → List ℕ → ℕ → Type 0
  Then o a r = Wrote b a (record_text (record_of x) ++ items_text box_words (outcome_boxes c o x.spots)) at r

  pub none_boxed : x.outcome ≡ outcome.None → Wrote b m (held_text c x) at k
  unfolding held_text items_text
  none_boxed e = subst (λ (o : Outcome). Then o m k) (sym e) (rw append-nil w)

  pub least_boxed : (wl n : ℕ) (a : List ℕ) (r : ℕ) → x.outcome ≡ outcome.Least wl n → length b < 2 ^ 64 → Wrote m a (items_text box_words (chip_boxes c x.spots)) k r → Wrote b a (held_text c x) at r
  unfolding held_text
  least_boxed wl n a r e f u = subst (λ (o : Outcome). Then o a r) (sym e) (wrote_then b m a _ _ at k r f w u)
