use Rattle.axis_held.proofs.HeldAxes.{Shaped, shaped}
use Rattle.axis_held.proofs.HeldGraphs.{whole_built}
use Rattle.axis_held.proofs.graphs.whole.Goals as goal
use Rattle.axis_held.proofs.graphs.whole.Goals.{After-macro_slots}

-- the axis's arrays are as long as its type says
shape : (c : After-macro_slots) → Shaped c.args.a
shape c = search shaped

pub returns : goal.returns
returns c =
    whole_built c.args.a (shape (goal.at.returns c).After-macro_slots) c.requires _ c.macro_slots.ensures _ c.put_nets-listed.ensures _ c.count_pins.ensures _ c.put_ends.ensures
