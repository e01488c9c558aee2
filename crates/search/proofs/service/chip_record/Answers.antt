use Rattle.search.proofs.Placing.{arrays_hold, arrays_stand, start_counted, whole_record}
use Rattle.search.proofs.Lending.{lent_given, lent_held, lent_searched}
use Rattle.search.proofs.Rooting.{first_asked}
use Rattle.search.proofs.service.chip_record.Goals as goal

pub first_fit-requires : goal.first_fit-requires
first_fit-requires c =
    let ok = c.requires in
    let across = c.first_half-fx in
    let up = c.first_half-fy in
    first_asked _ _ ok c.letter_count-p.ensures _ c.array_of-cs.ensures _ c.all_dots-letters.ensures _ _ _ _ (arrays_hold _ _ _ _ ok c.arrays_of-x.ensures) (arrays_hold _ _ _ _ ok c.arrays_of-y.ensures) _ across.result up.result across.ensures up.ensures

pub root-node-requires : goal.root-node-requires
root-node-requires c =
    let ok = c.requires in (
      ok,
      c.letter_count-p.ensures,
      c.all_dots-letters.ensures,
      arrays_hold _ _ _ _ ok c.arrays_of-x.ensures,
      arrays_hold _ _ _ _ ok c.arrays_of-y.ensures,
      lent_held _ _ c.array_of-cs.ensures _ _ _ c.first_fit.ensures,
    )

pub search-requires : goal.search-requires
search-requires c =
    let ok = c.requires in
    lent_given _ _ c.array_of-cs.ensures _ _ _ _ _ _ (record {
      passed = ok;
      reads = c.parts_of-parts.ensures;
      arrays = arrays_stand _ _ _ _ _ ok c.arrays_of-x.ensures c.arrays_of-y.ensures;
      branch = c.root-node.ensures.node;
      counted = start_counted _ _ ok c.no_record.ensures;
    })

pub returns : goal.returns
returns c =
    whole_record _ _ c.requires c.letter_count-p.ensures _ _ _ c.root-node.ensures c.no_record.ensures (lent_searched _ _ c.array_of-cs.ensures _ _ _ _ _ _ c.search.ensures)
