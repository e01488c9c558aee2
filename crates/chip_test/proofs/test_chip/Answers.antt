use Rattle.chip_text.proofs.Passing.{whole}
use Rattle.chip_test.proofs.Answers.{passed_read, long_read, refused_read}
use Rattle.chip_test.proofs.test_chip.Goals as goal

pub returns-in_default : goal.returns-in_default
returns-in_default c = search (passed_read, whole)

pub returns-then-put_chip-gt-TEXT_MOST : goal.returns-then-put_chip-gt-TEXT_MOST
returns-then-put_chip-gt-TEXT_MOST c = search (long_read, whole)

pub returns : goal.returns
returns c = search (refused_read, whole)
