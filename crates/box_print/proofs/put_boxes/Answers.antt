use borrow.Author.Rules.{rules}
use Prim.Native.Nat.{◌-◌}
use Rattle.num_text.proofs.Wrote.{wrote_length}
use Rattle.text_put.proofs.Items.{run_none}
use Rattle.chip_text.proofs.Passing.{whole}
use Rattle.measure_held.proofs.Lengths.{none_before, next_before, pins_long}
use Rattle.box_text.specs.Words.{box_words}
use Rattle.box_print.proofs.Printed.{box_more, boxes_all, boxes_most}
use Rattle.box_print.proofs.put_boxes.Goals as goal

pub loop-j-init : goal.loop-j-init
loop-j-init c = (search rules, search none_before, search (rules, run_none box_words))

pub shape_of-out-then-c-j : goal.shape_of-out-then-c-j
shape_of-out-then-c-j c = search (rules, wrote_length)

pub returns-then-c-j : goal.returns-then-c-j
returns-then-c-j c = search (rules, boxes_all)

pub loop-j-preserved : goal.loop-j-preserved
loop-j-preserved c = (search rules, search (rules, next_before), search (rules, box_more, pins_long, whole))

pub shape_of-out : goal.shape_of-out
shape_of-out c = search (rules, wrote_length)

pub returns : goal.returns
returns c = search (rules, boxes_most)
