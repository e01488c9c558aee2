use Prim.Native.Nat.{◌+◌, ◌≤◌}
use native.Mathlib.Omega.{arith}
use mathlib.Core.Path.{◌≡◌, sym, ◌∙◌}
use Rattle.std.proofs.Common.{rules}
use Rattle.std.proofs.lemmas.Result.{err_from_is_err_and}
use Rattle.chip_items.proofs.NetTests.{no_net_tested, net_refuses, net_in_count, one_net_more, few_pins, pins_fit, net_passes, end_refused, end_passed}
use Rattle.chip_items.proofs.test_nets.Goals as goal

pub returns-in_err-test_net : goal.returns-in_err-test_net
returns-in_err-test_net c =
    let p = err_from_is_err_and c.from_residual.result c.from_residual.ensures.1 in
    rw (p.1, p.2) (sym c.in_err-test_net.was ∙ net_refuses _ _ _ _ _ c.loop-j.invariant.2 c.loop-j-test.true _ c.test_net.ensures _ c.in_err-test_net.was)

pub overflow_add-q : goal.overflow_add-q
overflow_add-q c = pins_fit c.args.c (c.args.first + c.loop-j.j + c.loop-j.q) c.loop-j.q c.loop-j.j _ c.test_net.ensures c.in_ok-test_net.was c.loop-j.invariant.1

pub loop-j-preserved : goal.loop-j-preserved
loop-j-preserved c = (
  one_net_more c.args.c (c.args.first + c.loop-j.j + c.loop-j.q) c.loop-j.q c.loop-j.j _ c.test_net.ensures c.in_ok-test_net.was,
  few_pins c.args.c (c.args.first + c.loop-j.j + c.loop-j.q) c.loop-j.q c.loop-j.j _ c.test_net.ensures c.in_ok-test_net.was c.loop-j.invariant.1,
  net_passes _ _ _ _ _ c.loop-j.invariant.2 c.loop-j-test.true _ c.test_net.ensures c.in_ok-test_net.was,
)

pub returns-then-bare_before : goal.returns-then-bare_before
returns-then-bare_before c = let h : c.loop-j.j ≡ c.args.c.t = omega arith in search (rules, end_refused)

pub returns : goal.returns
returns c = let h : c.loop-j.j ≡ c.args.c.t = omega arith in search (rules, end_passed)
