use Rattle.record_test.proofs.LinesRead.{too_long, not_long}
use borrow.Author.Rules.{rules}
use Rattle.record_test.proofs.test_record.Goals as goal

pub returns-then-put_record-gt-TEXT_MOST : goal.returns-then-put_record-gt-TEXT_MOST
returns-then-put_record-gt-TEXT_MOST c = search (rules, too_long)

pub returns : goal.returns
returns c = search (rules, not_long)
