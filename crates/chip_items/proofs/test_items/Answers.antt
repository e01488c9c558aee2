use mathlib.Core.Path.{sym, ◌∙◌}
use Rattle.std.proofs.Common.{rules}
use Rattle.std.proofs.lemmas.Result.{err_from_is_err_and}
use Rattle.chip_items.proofs.ItemsTests.{die_refused, fixes_refused, macs_refused, nets_answer, macs_line, macs_line_fits, nets_line, nets_line_fits}
use Rattle.chip_items.proofs.test_items.Goals as goal

pub returns-then-no-ne0 : goal.returns-then-no-ne0
returns-then-no-ne0 c = search die_refused

pub returns-in_err-test_row : goal.returns-in_err-test_row
returns-in_err-test_row c =
    let p = err_from_is_err_and c.from_residual.result c.from_residual.ensures.1 in
    rw (p.1, p.2) (sym c.in_err-test_row.was ∙ fixes_refused c.args.c _ c.die_fault-no.ensures c.if-no-ne0.false _ c.test_row.ensures _ c.in_err-test_row.was)

pub overflow_add-c : goal.overflow_add-c
overflow_add-c c = macs_line_fits c.args.c _ c.test_row.ensures c.in_ok-test_row.was

pub test_row-requires-2 : goal.test_row-requires-2
test_row-requires-2 c = (search rules, macs_line c.args.c _ c.test_row.ensures c.in_ok-test_row.was)

pub returns-in_err-test_row-2 : goal.returns-in_err-test_row-2
returns-in_err-test_row-2 c =
    let p = err_from_is_err_and c.from_residual-in_err-test_row-2.result c.from_residual-in_err-test_row-2.ensures.1 in
    rw (p.1, p.2) (sym c.in_err-test_row-2.was ∙ macs_refused c.args.c _ c.die_fault-no.ensures c.if-no-ne0.false _ c.test_row.ensures c.in_ok-test_row.was _ c.test_row-2.ensures _ c.in_err-test_row-2.was)

pub overflow_add-c-2 : goal.overflow_add-c-2
overflow_add-c-2 c = macs_line_fits c.args.c _ c.test_row.ensures c.in_ok-test_row.was

pub overflow_add-c-3 : goal.overflow_add-c-3
overflow_add-c-3 c = nets_line_fits c.args.c _ c.test_row.ensures c.in_ok-test_row.was _ c.test_row-2.ensures c.in_ok-test_row-2.was

pub test_nets-requires : goal.test_nets-requires
test_nets-requires c = nets_line c.args.c _ c.test_row.ensures c.in_ok-test_row.was _ c.test_row-2.ensures c.in_ok-test_row-2.was

pub returns : goal.returns
returns c = nets_answer c.args.c _ c.die_fault-no.ensures c.if-no-ne0.false _ c.test_row.ensures c.in_ok-test_row.was _ c.test_row-2.ensures c.in_ok-test_row-2.was _ c.test_nets.ensures
