use Rattle.place_boxes.proofs.Writing.{boxes_printed}
use borrow.Author.Rules.{rules}
use Rattle.place_boxes.proofs.print_boxes.Goals as goal

pub returns : goal.returns
returns c = search (rules, boxes_printed)
