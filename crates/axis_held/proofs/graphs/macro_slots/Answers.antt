use Rattle.axis_held.proofs.HeldAxes.{shaped}
use Rattle.axis_held.proofs.HeldGraphs.{all_are}
use Rattle.axis_held.proofs.graphs.macro_slots.Goals as goal

pub returns : goal.returns
returns c =
    all_are c.args.a (search shaped) c.requires _ c.die_slots.ensures _ c.put_pairs.ensures
