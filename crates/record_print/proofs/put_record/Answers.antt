use Rattle.record_print.proofs.Printed.{record_written}
use borrow.Author.Rules.{rules}
use Rattle.record_print.proofs.put_record.Goals as goal

pub returns : goal.returns
returns c = search (rules, record_written)
