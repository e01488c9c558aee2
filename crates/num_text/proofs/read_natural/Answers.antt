-- A text that has no sign: the loop keeps the answer for the digits that are left.
use Rattle.std.proofs.Common.{rules}
use borrow.Author.Tests.{tests}
use Rattle.num_text.proofs.Reading.{empty, zero_first, begins, no_digit, digit_more, all_read}
use Rattle.num_text.proofs.read_natural.Goals as goal
use Rattle.num_text.proofs.read_natural.Goals.{then-is_empty-via-then-is_empty, then-is_empty-via-else-is_empty+then-s-ne1, then-s-eq48, else-s-eq48}

pub returns-then-is_empty : goal.returns-then-is_empty
returns-then-is_empty c = elim c.then-is_empty.branch [ then-is_empty-via-then-is_empty w ↦ search (rules, tests, empty) | then-is_empty-via-else-is_empty+then-s-ne1 w ↦ search (rules, zero_first) ]

pub loop-b-init : goal.loop-b-init
loop-b-init c = (search rules, search (rules, tests, begins))

pub returns-then-not-is_ascii_digit : goal.returns-then-not-is_ascii_digit
returns-then-not-is_ascii_digit c = search (rules, no_digit)

pub loop-b-preserved : goal.loop-b-preserved
loop-b-preserved c = (search rules, search (rules, digit_more))

pub returns : goal.returns
returns c = search (rules, all_read)
