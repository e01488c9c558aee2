use Rattle.record_test.proofs.LinesRead.{none_passed, least_tested}
use Rattle.record_test.proofs.test_lines.Goals as goal

pub returns-in-None : goal.returns-in-None
returns-in-None c = search none_passed

pub returns-in-Least : goal.returns-in-Least
returns-in-Least c = search least_tested
