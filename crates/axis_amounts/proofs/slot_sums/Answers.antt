use Rattle.axis_amounts.proofs.Gathers.{slots_addable, slot_room_law, summed_none, summed_more}
use Rattle.axis_amounts.proofs.slot_sums.Goals as goal

pub loop-i-init : goal.loop-i-init
loop-i-init c = summed_none _ _ _ _ _ _ (slots_addable _ c.requires.graph_within _ c.requires.within)

pub carry-requires : goal.carry-requires
carry-requires c = search slot_room_law

pub loop-i-preserved : goal.loop-i-preserved
loop-i-preserved c =
    summed_more _ _ _ _ _ _ (slots_addable _ c.requires.graph_within _ c.requires.within) _ _ _ c.loop-i.invariant c.loop-i-test.true _ _ c.carry.ensures.into_after c.carry.ensures.out_after
