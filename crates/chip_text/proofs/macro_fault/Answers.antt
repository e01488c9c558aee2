use Rattle.chip_text.proofs.Faults.{no_macro, a_macro}
use Rattle.chip_text.proofs.macro_fault.Goals as goal

pub returns-then-n-m : goal.returns-then-n-m
returns-then-n-m c = search no_macro

pub returns : goal.returns
returns c = search a_macro
