use Rattle.search_choose.proofs.Choosing.{Seen}
use Rattle.search_choose.proofs.choose_pair.Given as goal

abbrev pub invariant-loop-s : goal.invariant-loop-s
invariant-loop-s l = Seen l.blocks l.spots l.p l.at l.s l.best l.best_at l.most
