use Rattle.axis_held.proofs.HeldAxes.{Shaped, shaped}
use Rattle.axis_solve.proofs.Pairs.{pairs_fine, pairs_free, all_wanted, admitted_none}
use borrow.Author.Rules.{rules}
use Rattle.axis_solve.proofs.add_pairs.Goals as goal
use Rattle.axis_solve.proofs.add_pairs.Goals.{After-die_graph-g}

-- the axis's arrays are as long as its type says
shape : (t : After-die_graph-g) → Shaped t.args.a
shape t = search shaped

pub admit_all-requires : goal.admit_all-requires
admit_all-requires c =
    let a = c.args.a in
    let h = c.requires.held in
    let g = c.die_graph-g.ensures in
    record {
      graph_within = pairs_fine a (shape (goal.at.admit_all-requires c).After-die_graph-g) h _ g;
      feasible = pairs_free a (shape (goal.at.admit_all-requires c).After-die_graph-g) h _ g c.requires.none_above;
      from_le_to = search rules;
      to_le_slot_room = search rules;
      wanted = all_wanted a (shape (goal.at.admit_all-requires c).After-die_graph-g) h _ g _ c.macro_graph-full.ensures;
    }

pub returns-in-Err : goal.returns-in-Err
returns-in-Err c =
    rw c.unsolvable.ensures (admitted_none c.args.a (shape (goal.at.returns-in-Err c).After-die_graph-g) c.requires.held _ c.die_graph-g.ensures _ c.macro_graph-full.ensures _ c.in-Err.ensures)
