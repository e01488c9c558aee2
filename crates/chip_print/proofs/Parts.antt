-- The parts of a chip written one after the other: die, fixes and macros, then nets and end.
use mathlib.Core.Path.{◌≡◌, ◌∙◌}
use mathlib.Core.List.{List, [], ◌∷◌, ◌++◌, map, append_assoc}
use Prim.Native.Nat.{ℕ, ◌<◌, ◌^◌}
use native.Mathlib.Omega.{arith}
use lib.ListN.{length}
use Rattle.num_text.specs.Held.{Wrote}
use Rattle.model.specs.declared.Chip.{Chip as HeldChip}
use Rattle.model.specs.Meaning.{first_of, blank_fix, blank_mac, blank_net, nets_of, chip_of}
use Rattle.text_grammar.specs.Words.{item_text, items_text}
use Rattle.chip_text.specs.declared.ChipWord.TheVariants as word
use Rattle.chip_text.specs.Words.{chip_words}
use Rattle.chip_text.specs.Text.{Item, fix_item, mac_item, net_items, end_item, chip_items, chip_text}
use Rattle.chip_text.proofs.Passing.{Whole}
use Rattle.model.specs.Counted.{item_count}
use Rattle.text_put.specs.Run.{run}
use Rattle.text_put.proofs.Counted.{first_run}
use Rattle.text_put.proofs.Items.{items_one, items_then, then_line}
use Rattle.chip_print.specs.Items.{item_at, block_items}

module _ (c : HeldChip) (b m o a : List ℕ) (at i j r : ℕ) (h : length b < 2 ^ 64) where
  pub blocks_written : (k n : ℕ) → Whole c → k ≡ item_count c.k 8 → n ≡ item_count c.n 8 → Wrote b m (item_text chip_words (item_at c word.Die 0)) at i → Wrote m o (items_text chip_words (run (item_at c word.Fix) 0 k)) i j → Wrote o a (items_text chip_words (run (item_at c word.Mac) 0 n)) j r → Wrote b a (items_text chip_words (block_items (chip_of c))) at r
  unfolding chip_of block_items
  blocks_written k n ok e f w₁ w₂ w₃ =
      let fs : map fix_item (first_of blank_fix c.k c.fixes) ≡ run (item_at c word.Fix) 0 k = first_run blank_fix c.fixes fix_item c.k 0 (omega arith) ∙ rw (ok.fixes, e) in
      let ms : map mac_item (first_of blank_mac c.n c.macs) ≡ run (item_at c word.Mac) 0 n = first_run blank_mac c.macs mac_item c.n 0 (omega arith) ∙ rw (ok.macs, f) in
      rw (fs, ms) (items_then chip_words b o a _ at j r h (items_then chip_words b m o _ at i j h (items_one chip_words b m _ at i w₁) _ w₂) _ w₃)

  pub chip_written : Wrote b m (items_text chip_words (block_items (chip_of c))) at i → Wrote m o (items_text chip_words (net_items (chip_of c).nets)) i j → Wrote o a (item_text chip_words (item_at c word.End 0)) j r → Wrote b a (chip_text (chip_of c)) at r
  unfolding chip_of block_items chip_items chip_text
  chip_written w₁ w₂ w₃ =
      let fs : List Item = map fix_item (first_of blank_fix c.k c.fixes) in
      let ms : List Item = map mac_item (first_of blank_mac c.n c.macs) in
      let ns : List Item = net_items (nets_of (first_of blank_net c.t c.nets) c.pins) in
      rw (← append_assoc fs ms (ns ++ (end_item ∷ [])), ← append_assoc (fs ++ ms) ns (end_item ∷ []))
      (then_line chip_words b o a _ at j r h (items_then chip_words b m o _ at i j h w₁ _ w₂) _ w₃)
