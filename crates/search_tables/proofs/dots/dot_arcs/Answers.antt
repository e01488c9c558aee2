use Rattle.search_tables.proofs.Dotting.{dotted_more}
use Rattle.search_tables.proofs.dots.dot_arcs.Goals as goal

pub loop-c-preserved : goal.loop-c-preserved
loop-c-preserved c = search dotted_more
