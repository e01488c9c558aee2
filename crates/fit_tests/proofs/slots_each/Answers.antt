use Rattle.fit_tests.proofs.Entering.{letters_fit, slots_fit, slots_each_law}
use Rattle.fit_tests.proofs.slots_each.Goals as goal

pub overflow_add-result : goal.overflow_add-result
overflow_add-result c = search letters_fit

pub overflow_add-result-2 : goal.overflow_add-result-2
overflow_add-result-2 c = search slots_fit

pub returns : goal.returns
returns c = search slots_each_law
