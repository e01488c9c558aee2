use borrow.Author.Rules.{rules}
use Rattle.fit_axes.proofs.Pairing.{none_written, slot_written, all_written}
use Rattle.fit_axes.proofs.pairlist.pair_slots.Goals as goal

pub loop-s-init : goal.loop-s-init
loop-s-init c = search (rules, none_written)

pub loop-s-preserved : goal.loop-s-preserved
loop-s-preserved c = search (rules, slot_written)

pub returns : goal.returns
returns c = search (rules, all_written)
