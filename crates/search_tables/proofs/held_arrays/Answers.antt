use Rattle.chip_text.proofs.Passing.{Whole, whole}
use Rattle.search_tables.proofs.Making.{holds}
use Rattle.search_tables.proofs.held_arrays.Goals as goal

pub returns : goal.returns
returns c =
    let g = c.well_formed in
    let w : Whole c.args.c = search whole in
    holds _ _ _ _ w c.net_table.ensures c.dot_arcs.ensures
