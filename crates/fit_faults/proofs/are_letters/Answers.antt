use borrow.Author.Rules.{rules}
use Prim.Native.Nat.{◌-◌}
use Rattle.fit_faults.proofs.Letters.{letters_fail, letters_more, letters_all}
use Rattle.fit_faults.proofs.are_letters.Goals as goal

pub loop-i-init : goal.loop-i-init
loop-i-init c = search rules

pub returns-then-not-is_letter : goal.returns-then-not-is_letter
returns-then-not-is_letter c = search letters_fail

pub loop-i-preserved : goal.loop-i-preserved
loop-i-preserved c = search letters_more

pub returns : goal.returns
returns c = search letters_all
