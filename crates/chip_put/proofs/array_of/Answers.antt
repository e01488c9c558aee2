use Prim.Native.Nat.{ℕ}
use lib.ListN.{replicate, length-replicate}
use Rattle.chip_text.proofs.Passing.{Whole, whole}
use Rattle.chip_put.proofs.Chips.{chip_back}
use Rattle.chip_put.proofs.array_of.Goals as goal

pub returns : goal.returns
returns c =
    let w : Whole c.args.c = search whole in
    chip_back (replicate 640 0) (length-replicate {A = ℕ} 640 0) _ w _ _ _ _ c.put_macs.ensures c.put_nets.ensures c.put_pins.ensures c.put_fixes.ensures
