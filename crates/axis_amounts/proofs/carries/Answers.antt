use Rattle.axis_amounts.proofs.Gathers.{nets_spanned, flow_few}
use Rattle.axis_amounts.proofs.carries.Goals as goal
use Rattle.axis_amounts.proofs.carries.Goals.{then-within, else-within}

pub total-requires-clause-spanned : goal.total-requires-clause-spanned
total-requires-clause-spanned c = search nets_spanned

pub is_balanced-requires-clause-within : goal.is_balanced-requires-clause-within
is_balanced-requires-clause-within c =
    elim c.if-within.branch [
      | then-within w ↦ flow_few _ c.requires.graph_within _ _ c.requires.spans_within c.requires.count_le_net_room _ _ c.total.ensures (c.within.ensures.shown w.if-within.true)
      | else-within w ↦ cc
    ]
