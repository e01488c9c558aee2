use Rattle.chip_text.proofs.Faults.{fix_leaves, fix_overlaps, fix_fine}
use Rattle.chip_text.proofs.placed_fault.Goals as goal

pub returns-then-not-inside : goal.returns-then-not-inside
returns-then-not-inside c = search fix_leaves

pub returns-then-not-clear : goal.returns-then-not-clear
returns-then-not-clear c = search fix_overlaps

pub returns : goal.returns
returns c = search fix_fine
