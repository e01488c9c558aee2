use borrow.Author.Rules.{rules}
use Rattle.axis_held.proofs.Built.{die_more, die_all}
use Rattle.axis_held.proofs.build.put_sizes.Goals as goal

pub loop-i-preserved : goal.loop-i-preserved
loop-i-preserved c = rw (c.bound.ensures, c.bound-in-loop-i.ensures) (search (rules, die_more))

pub returns : goal.returns
returns c = search die_all
