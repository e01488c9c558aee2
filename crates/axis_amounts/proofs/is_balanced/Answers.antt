use Rattle.axis_amounts.proofs.Gathers.{slots_modest, nets_spanned}
use Rattle.axis_amounts.proofs.is_balanced.Goals as goal

pub net_sums-b-requires-clause-modest : goal.net_sums-b-requires-clause-modest
net_sums-b-requires-clause-modest c = search slots_modest

pub net_sums-b-requires-clause-spanned : goal.net_sums-b-requires-clause-spanned
net_sums-b-requires-clause-spanned c = search nets_spanned
