use Rattle.beside_check.proofs.Reading.{tells_refused, tells_passed}
use Rattle.beside_check.proofs.Testing.{tests_same}
use Rattle.chip_text.proofs.Passing.{whole}
use Rattle.beside_check.proofs.compared.Goals as goal

pub returns-then-no-ne0 : goal.returns-then-no-ne0
returns-then-no-ne0 c = search (tells_refused, tests_same, whole)

pub returns : goal.returns
returns c = search (tells_passed, tests_same, whole)
