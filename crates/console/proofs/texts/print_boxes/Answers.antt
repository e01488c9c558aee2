use Rattle.std.proofs.Common.{rules, OnOk, ◌≡◌, subst}
use Rattle.std.specs.Io.KnownBytes.{Appends}
use Rattle.place_boxes.proofs.Short.{printed_boxes_short}
use Rattle.place_boxes.specs.Boxes.{printed_boxes}
use Rattle.console.specs.Buffer.{text_in}
use Rattle.console.proofs.Room.{in_buffer, text_whole}
use Rattle.console.proofs.texts.print_boxes.Goals as goal

pub write_answer-requires : goal.write_answer-requires
write_answer-requires g c = search (rules, in_buffer, printed_boxes_short)

pub returns : goal.returns
returns g c =
    let whole : text_in c.print_boxes-answer.result c.print_boxes-answer.new.out ≡ printed_boxes c.args.text.now = search (rules, text_whole, printed_boxes_short) in
    subst (λ text. OnOk c.write_answer.result (Appends (g.W.Write.contents c.args.to.now) (g.W.Write.contents c.write_answer.new.to) text)) whole c.write_answer.ensures
