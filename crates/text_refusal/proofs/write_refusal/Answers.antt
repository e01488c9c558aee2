use Rattle.text_refusal.proofs.Refusals.{line_too_long, line_fits}
use borrow.Author.Rules.{rules}
use Rattle.text_refusal.proofs.write_refusal.Goals as goal

pub returns-then-out-n : goal.returns-then-out-n
returns-then-out-n c = search (rules, line_too_long)

pub returns : goal.returns
returns c = search (rules, line_fits)
