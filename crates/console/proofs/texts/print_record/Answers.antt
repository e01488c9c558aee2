use Rattle.std.proofs.Common.{rules, OnOk, ◌≡◌, subst}
use Rattle.std.specs.Io.KnownBytes.{Appends}
use Rattle.place_print.proofs.PrintedShort.{printed_short}
use Rattle.place_print.specs.Printed.{printed}
use Rattle.console.specs.Buffer.{text_in}
use Rattle.console.proofs.Room.{in_buffer, text_whole}
use Rattle.console.proofs.texts.print_record.Goals as goal

pub write_answer-requires : goal.write_answer-requires
write_answer-requires g c = search (rules, in_buffer, printed_short)

pub returns : goal.returns
returns g c =
    let whole : text_in c.print_text-answer.result c.print_text-answer.new.out ≡ printed c.args.text.now = search (rules, text_whole, printed_short) in
    subst (λ text. OnOk c.write_answer.result (Appends (g.W.Write.contents c.args.to.now) (g.W.Write.contents c.write_answer.new.to) text)) whole c.write_answer.ensures
