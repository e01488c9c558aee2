use Rattle.text_field.proofs.OneField.{field_absent, string_written, number_written}
use borrow.Author.Rules.{rules}
use Rattle.text_field.proofs.put_field.Goals as goal

pub returns-then-absent : goal.returns-then-absent
returns-then-absent c = search (rules, field_absent)

pub returns-then-rule-ne0 : goal.returns-then-rule-ne0
returns-then-rule-ne0 c = search (rules, string_written)

pub returns : goal.returns
returns c = search (rules, number_written)
