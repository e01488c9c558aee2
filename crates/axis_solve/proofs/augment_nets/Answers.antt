use Rattle.axis_held.proofs.HeldAxes.{Shaped, shaped, held_base}
use Rattle.axis_solve.proofs.Nets.{nets_small, nets_spread, nets_resting, nets_in_law, nets_free}
use Rattle.axis_held.proofs.Judging.{nets_fine, nets_some, nets_given, nets_solved}
use borrow.Author.Rules.{rules}
use Rattle.axis_solve.proofs.augment_nets.Goals as goal
use Rattle.axis_solve.proofs.augment_nets.Goals.{After-whole_graph-g}

-- the axis's arrays are as long as its type says
shape : (t : After-whole_graph-g) → Shaped t.args.a
shape t = search shaped

pub rebase-y-requires : goal.rebase-y-requires
rebase-y-requires c =
    let f = c.requires.feasible in
    record {
      n_le_node_room = search rules;
      values_within = nets_small c.args.a (shape (goal.at.rebase-y-requires c).After-whole_graph-g) c.requires.held c.args.x f;
      spread = nets_spread c.args.a (shape (goal.at.rebase-y-requires c).After-whole_graph-g) c.requires.held c.args.x f;
    }

pub start_values-z-requires : goal.start_values-z-requires
start_values-z-requires c =
    let a = c.args.a in
    let h = c.requires.held in
    let f = c.requires.feasible in
    let s = c.rebase-y.ensures in
    record {
      n_bound = h.macs;
      base_bound = held_base a (shape (goal.at.start_values-z-requires c).After-whole_graph-g) h;
      t_bound = h.nets;
      nets_bound = h.pins;
      resting = nets_resting a (shape (goal.at.start_values-z-requires c).After-whole_graph-g) h c.args.x f _ s;
      nets_in = nets_in_law a (shape (goal.at.start_values-z-requires c).After-whole_graph-g) h c.args.x f _ s;
    }

pub solve_axis-requires : goal.solve_axis-requires
solve_axis-requires c =
    let a = c.args.a in
    let h = c.requires.held in
    let g = c.whole_graph-g.ensures.held h in
    record {
      graph_within = nets_fine a (shape (goal.at.solve_axis-requires c).After-whole_graph-g) h _ g;
      n_nonzero = nets_some a (shape (goal.at.solve_axis-requires c).After-whole_graph-g) h _ g;
      feasible = nets_free a (shape (goal.at.solve_axis-requires c).After-whole_graph-g) h c.args.x c.requires.feasible _ c.rebase-y.ensures _ c.start_values-z.ensures _ g;
      count_le_net_room = h.nets;
      nets = nets_given a (shape (goal.at.solve_axis-requires c).After-whole_graph-g) h _ g _ (c.net_spans-e.ensures.held c.requires.held);
    }

pub returns : goal.returns
returns c =
    nets_solved c.args.a (shape (goal.at.returns c).After-whole_graph-g) c.requires.held _ (c.whole_graph-g.ensures.held c.requires.held) _ (c.net_spans-e.ensures.held c.requires.held) _ _ c.solve_axis.ensures _ c.coordinates.ensures
