use Rattle.search.proofs.Nodes.{of_across, of_up}
use Rattle.search.proofs.branch.next_node.Goals as goal

pub returns-then-i-lt2 : goal.returns-then-i-lt2
returns-then-i-lt2 c = search of_across

pub returns-else-i-lt2 : goal.returns-else-i-lt2
returns-else-i-lt2 c = search of_up
