use borrow.Author.Rules.{rules}
use Prim.Native.Nat.{◌-◌}
use Rattle.num_text.proofs.Wrote.{wrote_length}
use Rattle.text_put.proofs.Fields.{no_field, field_more, no_rule_left, no_room_left}
use Rattle.text_put.proofs.put_fields.Goals as goal

pub loop-i-init : goal.loop-i-init
loop-i-init c = search (rules, no_field)

pub shape_of-out-then-rule-eq0 : goal.shape_of-out-then-rule-eq0
shape_of-out-then-rule-eq0 c = search (rules, wrote_length)

pub returns-then-rule-eq0 : goal.returns-then-rule-eq0
returns-then-rule-eq0 c = search no_rule_left

pub loop-i-preserved : goal.loop-i-preserved
loop-i-preserved c = search (rules, field_more)

pub shape_of-out : goal.shape_of-out
shape_of-out c = search (rules, wrote_length)

pub returns : goal.returns
returns c = search no_room_left
