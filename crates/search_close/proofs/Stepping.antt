-- The step of a branch: closed by its fit, answered by it, or a pair chosen.
use Prim.Native.Nat.{ℕ, ◌<◌}
use mathlib.Core.Path.{◌≡◌, sym, ◌∙◌}
use lib.ListN.{take}
use Rattle.model.specs.declared.Chip.{Chip as HeldChip}
use Rattle.model.specs.declared.Blocks.{Blocks}
use Rattle.model.specs.Meaning.{chip_of}
use Rattle.model.specs.Blocks.{blocks_of}
use Rattle.chip_text.specs.Passed.{Passed}
use Rattle.fit_pairs.specs.declared.Cursor.{Cursor}
use Rattle.fit_pairs.proofs.Cursors.{on_near}
use Rattle.fit_pairs.proofs.Counts.{all_letters}
use Rattle.fit_slots.specs.Fit.{letter_count}
use Rattle.model.specs.declared.Spot.{Spot}
use Rattle.model.specs.declared.Record.{Record as HeldRecord}
use mathlib.Core.List.{List}
use mathlib.Core.Bool.{Bool, true, false, not}
use Rattle.search_branches.specs.Branch.{pick, better}
use Rattle.search_best.specs.Best.{best_of, Told, Better}
use Rattle.search_close.specs.Step.{ClosedBy, OpenAt}
use Rattle.search_choose.specs.declared.Choice.{Choice}
use Rattle.search_close.proofs.Closings.{fit_closes, legal_found, chosen_open}
use Rattle.search_choose.proofs.Choosing.{chip_chosen}
use Rattle.search_node.specs.declared.Node.{Node}
use Rattle.search_node.specs.declared.Parts.{Parts}
use Rattle.search_node.specs.Node.{Given}
use Rattle.search_halves.specs.Kept.{no_couple}
use Rattle.search_choose.specs.Choice.{PlaceOf, Chosen, ChosenOf, Laid}
use Rattle.search_node.specs.Letters.{CursorAt}

-- the cursor of the pair that is chosen
chosen_placed : (c : HeldChip) → Passed c → (p s : ℕ) (at : Cursor) → PlaceOf (blocks_of c) p s at → s < p → CursorAt c s at
unfolding chip_of
chosen_placed c ok p s at o h = record {
  reached = record { i = near.0; j = near.1; fix = λ e. ok.fine.fix at.j ((o.on h).fixes e).1 };
  couple = sym (o.couple h no_couple);
}
  where
    near : (at.i < 8) × (at.j < 8)
    near = on_near c.n c.k at (o.on h) ok.fine.mac_count ok.fine.fix_count

-- ---- the blocks of a chip: what is chosen of them is chosen of the chip

module _ (c : HeldChip) (b : Blocks) (q : b ≡ blocks_of c) (ok : Passed c) (p : ℕ) (e : p ≡ letter_count (chip_of c)) (spots : List Spot) (r : ℕ) (at : Cursor) (h : ChosenOf b spots p r at) where
  laid : Laid c.n c.k p
  laid = record {
    few = ok.fine.mac_count;
    few_fixes = ok.fine.fix_count;
    count = e ∙ rw (ok.macs, ok.fixes) (all_letters c.n ok.fine.mac_count c.k ok.fine.fix_count);
  }

  own : ChosenOf (blocks_of c) spots p r at
  own = rw q at h

  blocks_chosen : Chosen (chip_of c) (take c.n spots) p r
  blocks_chosen = chip_chosen c spots p r (own.pair laid)

  blocks_place : PlaceOf (blocks_of c) p r at
  blocks_place = own.place laid

-- ---- in the form of the needs

module _ (parts : Parts) (p : ℕ) (node : Node) (best : HeldRecord) (t : Bool) where
  pub step_closed : pick t (best_of node.here) (best_of best) ≡ better (best_of best) (best_of node.here) → not t ≡ true → ClosedBy parts p node best best
  step_closed b q = record { searched = λ c tx ty g. fit_closes c node.letters p node.here best g.branch.fit g.counted g.passed node.kx node.ky t b q }

  module _ (told : Told t node.here) (q : not t ≡ false) (r : Choice) (h : ChosenOf parts.blocks node.here.spots p r.s r.at) where
    pair : (c : HeldChip) (tx ty : List ℕ) → Given c parts p tx ty node best → Chosen (chip_of c) (take c.n node.here.spots) p r.s
    pair c tx ty g = blocks_chosen c parts.blocks g.reads g.passed p g.branch.letters.count node.here.spots r.s r.at h

    pub step_found : r.s ≡ p → (a : HeldRecord) → Better best node.here a → ClosedBy parts p node best a
    step_found z a w = record { searched = λ c tx ty g. legal_found c node.letters p node.here best g.branch.fit g.counted g.passed t told q r.s (pair c tx ty g) g.branch.whole g.branch.letters z node.kx node.ky a w }

    pub step_open : (r.s ≡ p → ⊥) → OpenAt parts p node best r
    step_open z = record {
      turn = λ c tx ty g.
          let o = chosen_open c p node best g.passed g.branch g.counted t told q r.s (pair c tx ty g) z in
          record { free = o; on = chosen_placed c g.passed p r.s r.at (blocks_place c parts.blocks g.reads g.passed p g.branch.letters.count node.here.spots r.s r.at h) o.place };
    }
