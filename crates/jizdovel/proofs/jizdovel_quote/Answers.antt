use borrow.Author.Rules.{rules}
use Rattle.jizdovel.proofs.Handing.{text_handed, text_left}
use Rattle.jizdovel.proofs.jizdovel_quote.Goals as goal

pub returns : goal.returns
returns c = record { value_after = search (rules, text_handed); out_after = search (rules, text_left) }
