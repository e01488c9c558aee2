use Rattle.text_grammar.proofs.Entry.{entered_as}
use Rattle.record_read.proofs.Item.{read_as_is, taken_as}
use borrow.Author.Rules.{rules}
use Rattle.record_read.proofs.add_item.Goals as goal

pub add_at-requires : goal.add_at-requires
add_at-requires c = search (rules, read_as_is, entered_as)

pub returns-in-Least : goal.returns-in-Least
returns-in-Least c = search taken_as

pub returns-in-None : goal.returns-in-None
returns-in-None c = search taken_as

pub returns-in-At : goal.returns-in-At
returns-in-At c = search taken_as

pub returns-in-Done : goal.returns-in-Done
returns-in-Done c = search taken_as
