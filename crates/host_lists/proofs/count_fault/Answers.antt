use borrow.Author.Rules.{rules}
use Rattle.host_lists.proofs.Lengths.{half_other, one_over, two_each}
use Rattle.host_lists.proofs.count_fault.Goals as goal

pub returns-then-length-eq0 : goal.returns-then-length-eq0
returns-then-length-eq0 c = search (rules, two_each)

pub returns-else-length-eq0 : goal.returns-else-length-eq0
returns-else-length-eq0 c = search (rules, one_over)

pub returns-else-length-n : goal.returns-else-length-n
returns-else-length-n c = search (rules, half_other)
