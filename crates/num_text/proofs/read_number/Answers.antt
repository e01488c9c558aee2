-- A number: the sign, then the magnitude.
use Rattle.std.proofs.Common.{rules}
use Rattle.num_text.proofs.Sign.{minus_none, minus_zero, minus_some, plain_none, plain_some}
use Rattle.num_text.proofs.read_number.Goals as goal

pub returns-in_err-magnitude : goal.returns-in_err-magnitude
returns-in_err-magnitude c = search (rules, minus_none)

pub returns-then-magnitude-eq0 : goal.returns-then-magnitude-eq0
returns-then-magnitude-eq0 c = search (rules, minus_zero)

pub returns-in-45 : goal.returns-in-45
returns-in-45 c = search (rules, minus_some)

pub returns-in_err-magnitude-2 : goal.returns-in_err-magnitude-2
returns-in_err-magnitude-2 c = search (rules, plain_none)

pub returns : goal.returns
returns c = search (rules, plain_some)
