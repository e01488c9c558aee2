use Rattle.num_text.proofs.Wrote.{wrote_then}
use borrow.Author.Rules.{rules}
use Rattle.text_refusal.proofs.put_marked.Goals as goal

pub returns : goal.returns
returns c = search (rules, wrote_then)
