use borrow.Author.Rules.{rules}
use Rattle.axis_solve.proofs.Steps.{count_low, attach_forward, attach_back}
use Rattle.axis_solve.proofs.growth.attach.Goals as goal

pub join-requires-clause-count_lt_node_room : goal.join-requires-clause-count_lt_node_room
join-requires-clause-count_lt_node_room c = search (rules, count_low)

pub join-requires-else-w-s-gt0-clause-count_lt_node_room : goal.join-requires-else-w-s-gt0-clause-count_lt_node_room
join-requires-else-w-s-gt0-clause-count_lt_node_room c = search (rules, count_low)

pub returns-then-w-s-gt0 : goal.returns-then-w-s-gt0
returns-then-w-s-gt0 c = search (rules, attach_forward)

pub returns-else-w-s-gt0 : goal.returns-else-w-s-gt0
returns-else-w-s-gt0 c =
    let wf = c.well_formed in
    attach_back _ _ _ _ _ c.requires.ready (search rules) (search rules) (search rules) c.if-w-s-gt0.false _ c.min.ensures _ c.join-else-w-s-gt0.ensures
