use Rattle.fit_faults.proofs.Letters.{letter_l, letter_r, letter_b, letter_a, letter_dot}
use Rattle.fit_faults.proofs.is_letter.Goals as goal

pub returns-then-b-eq76 : goal.returns-then-b-eq76
returns-then-b-eq76 c = search letter_l

pub returns-then-b-eq82 : goal.returns-then-b-eq82
returns-then-b-eq82 c = search letter_r

pub returns-then-b-eq66 : goal.returns-then-b-eq66
returns-then-b-eq66 c = search letter_b

pub returns-then-b-eq65 : goal.returns-then-b-eq65
returns-then-b-eq65 c = search letter_a

pub returns : goal.returns
returns c = search letter_dot
