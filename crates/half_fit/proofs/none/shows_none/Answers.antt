use Rattle.half_arrays.proofs.Answers.{says_no}
use Rattle.half_fit.proofs.Chains.{says_empty}
use Rattle.half_fit.proofs.none.shows_none.Goals as goal

pub returns-then-closes : goal.returns-then-closes
returns-then-closes c = search says_empty

pub returns : goal.returns
returns c = search says_no
