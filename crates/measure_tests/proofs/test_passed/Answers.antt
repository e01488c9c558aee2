use Rattle.measure_tests.proofs.Testing.{tells_refused, tells_passed}
use Rattle.measure_tests.proofs.test_passed.Goals as goal

pub returns-then-no-ne0 : goal.returns-then-no-ne0
returns-then-no-ne0 c = search tells_refused

pub returns : goal.returns
returns c = search tells_passed
