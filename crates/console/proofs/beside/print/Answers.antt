use Rattle.std.proofs.Common.{rules, OnOk, ◌≡◌, subst}
use Rattle.std.specs.Io.KnownBytes.{Appends}
use Rattle.beside_print.proofs.Short.{beside_short}
use Rattle.beside_print.specs.Printed.{printed_beside}
use Rattle.console.specs.Buffer.{text_in}
use Rattle.console.proofs.Room.{in_buffer, text_whole}
use Rattle.console.proofs.beside.print.Goals as goal

pub write_answer-requires : goal.write_answer-requires
write_answer-requires g c = search (rules, in_buffer, beside_short)

pub returns : goal.returns
returns g c =
    let whole : text_in c.print_beside-answer.result c.print_beside-answer.new.out ≡ printed_beside c.args.chip.now c.args.beside.now = search (rules, text_whole, beside_short) in
    subst (λ text. OnOk c.write_answer.result (Appends (g.W.Write.contents c.args.to.now) (g.W.Write.contents c.write_answer.new.to) text)) whole c.write_answer.ensures
