use Rattle.beside_tests.proofs.Faults.{none_passes, placement_tested}
use Rattle.beside_tests.proofs.record_fault.Goals as goal

pub returns-in-None : goal.returns-in-None
returns-in-None c = search none_passes

pub returns-in-Least : goal.returns-in-Least
returns-in-Least c = search placement_tested
