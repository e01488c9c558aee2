use Rattle.search.proofs.Rooting.{root_ok}
use Rattle.search.proofs.root.root.Goals as goal

pub returns : goal.returns
returns c =
    let start = c.requires in
    root_ok _ _ start.0 start.1 _ start.2 _ _ start.3 _ _ start.4 _ start.5 _ c.closed.ensures _ c.ordered.ensures _ c.closed-2.ensures
    _ c.coordinates.ensures _ c.half_length.ensures _ c.coordinates-2.ensures _ c.half_length-2.ensures
