use Rattle.text_refusal.proofs.Refusals.{line_written}
use borrow.Author.Rules.{rules}
use Rattle.text_refusal.proofs.put_refusal.Goals as goal

pub returns : goal.returns
returns c = search (rules, line_written)
