use borrow.Author.Rules.{rules}
use Rattle.std.proofs.lemmas.Result.{err_from_is_err_and}
use Rattle.text_line.proofs.Laid.{rule_sane}
use Rattle.text_line.proofs.AllFields.{read_none, read_more, read_refused, no_rule_left, no_room_left}
use Rattle.text_line.proofs.read_laid.Goals as goal

pub loop-i-init : goal.loop-i-init
loop-i-init c = (search rules, search read_none)

pub returns-then-rule-eq0 : goal.returns-then-rule-eq0
returns-then-rule-eq0 c = search no_rule_left

pub read_field-requires : goal.read_field-requires
read_field-requires c = (search rules, search rule_sane)

pub loop-i-preserved : goal.loop-i-preserved
loop-i-preserved c = let t = c.loop-i-test.true in (c.in_ok-v.ensures.place, read_more _ _ _ _ _ _ c.loop-i.invariant.1 c.requires c.args.line _ c.rule_at-rule.ensures c.if-rule-eq0.false (search rules) _ _ c.in_ok-v.ensures _ c.is_absent-absent.ensures _ c.next_place-j.ensures)

pub returns-in_err-v : goal.returns-in_err-v
returns-in_err-v c = let p = err_from_is_err_and c.from_residual.result c.from_residual.ensures.1 in rw (p.1, p.2) (read_refused _ _ _ _ _ _ c.loop-i.invariant.1 c.requires c.args.line _ c.rule_at-rule.ensures c.if-rule-eq0.false (search rules) _ c.in_err-v.ensures)

pub returns : goal.returns
returns c = search no_room_left
