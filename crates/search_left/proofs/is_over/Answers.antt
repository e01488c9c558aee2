use Rattle.search_left.proofs.Differing.{over_across, over_up}
use Rattle.search_left.proofs.is_over.Goals as goal

pub returns-then-is_shut : goal.returns-then-is_shut
returns-then-is_shut c = search over_across

pub returns-else-is_shut : goal.returns-else-is_shut
returns-else-is_shut c = search over_up
