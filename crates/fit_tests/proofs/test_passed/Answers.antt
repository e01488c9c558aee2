use Rattle.fit_tests.proofs.Entering.{slots_double, told_refused, told_ready}
use Rattle.fit_tests.proofs.test_passed.Goals as goal

pub overflow_add-m : goal.overflow_add-m
overflow_add-m c = search slots_double

pub returns-then-no-ne0 : goal.returns-then-no-ne0
returns-then-no-ne0 c = search told_refused

pub returns : goal.returns
returns c = search told_ready
