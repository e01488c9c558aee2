use Rattle.search.proofs.Visiting.{visits_start, visits_over, visit_child}
use Rattle.search.proofs.branch.+search.Goals as goal

pub returns-in-Break : goal.returns-in-Break
returns-in-Break t c = c.in-Break.ensures.searched _ _ _ c.requires

pub loop-i-init : goal.loop-i-init
loop-i-init t c =
    let turn = c.in-Continue.ensures.turn _ _ _ c.requires in
    visits_start _ _ _ _ _ _ _ c.requires _ _ turn _ c.try_letters-left.ensures

pub returns : goal.returns
returns t c =
    let turn = c.in-Continue.ensures.turn _ _ _ c.requires in
    visits_over _ _ _ _ _ _ _ c.requires _ _ turn _ _ c.loop-i.invariant.0 c.loop-i.invariant.1 _ c.next_child.ensures c.in_default.not-Some

pub search-b-requires : goal.search-b-requires
search-b-requires t c =
    let turn = c.in-Continue.ensures.turn _ _ _ c.requires in
    let v = visit_child _ _ _ _ _ _ _ c.requires _ _ turn _ _ c.loop-i.invariant.0 c.loop-i.invariant.1 _ c.in-Some.ensures _ c.letter_slot-t.ensures _ c.next_node-next.ensures _ c.visited-left.ensures in
    (v.falls _ c.decreases, v.given)

pub search-b-requires-else-i-lt2 : goal.search-b-requires-else-i-lt2
search-b-requires-else-i-lt2 t c =
    let turn = c.in-Continue.ensures.turn _ _ _ c.requires in
    let v = visit_child _ _ _ _ _ _ _ c.requires _ _ turn _ _ c.loop-i.invariant.0 c.loop-i.invariant.1 _ c.in-Some.ensures _ c.letter_slot-t.ensures _ c.next_node-next.ensures _ c.visited-left.ensures in
    (v.falls _ c.decreases, v.given)

pub loop-i-smaller-then-i-lt2 : goal.loop-i-smaller-then-i-lt2
loop-i-smaller-then-i-lt2 t c =
    let turn = c.in-Continue.ensures.turn _ _ _ c.requires in
    let v = visit_child _ _ _ _ _ _ _ c.requires _ _ turn _ _ c.loop-i.invariant.0 c.loop-i.invariant.1 _ c.in-Some.ensures _ c.letter_slot-t.ensures _ c.next_node-next.ensures _ c.visited-left.ensures in
    v.fewer

pub loop-i-smaller : goal.loop-i-smaller
loop-i-smaller t c =
    let turn = c.in-Continue.ensures.turn _ _ _ c.requires in
    let v = visit_child _ _ _ _ _ _ _ c.requires _ _ turn _ _ c.loop-i.invariant.0 c.loop-i.invariant.1 _ c.in-Some.ensures _ c.letter_slot-t.ensures _ c.next_node-next.ensures _ c.visited-left.ensures in
    v.fewer

pub loop-i-preserved-then-i-lt2 : goal.loop-i-preserved-then-i-lt2
loop-i-preserved-then-i-lt2 t c =
    let turn = c.in-Continue.ensures.turn _ _ _ c.requires in
    let v = visit_child _ _ _ _ _ _ _ c.requires _ _ turn _ _ c.loop-i.invariant.0 c.loop-i.invariant.1 _ c.in-Some.ensures _ c.letter_slot-t.ensures _ c.next_node-next.ensures _ c.visited-left.ensures in
    (v.left _ c.search-b.ensures, v.grown _ c.search-b.ensures)

pub loop-i-preserved : goal.loop-i-preserved
loop-i-preserved t c =
    let turn = c.in-Continue.ensures.turn _ _ _ c.requires in
    let v = visit_child _ _ _ _ _ _ _ c.requires _ _ turn _ _ c.loop-i.invariant.0 c.loop-i.invariant.1 _ c.in-Some.ensures _ c.letter_slot-t.ensures _ c.next_node-next.ensures _ c.visited-left.ensures in
    (v.left _ c.search-b-else-i-lt2.ensures, v.grown _ c.search-b-else-i-lt2.ensures)
