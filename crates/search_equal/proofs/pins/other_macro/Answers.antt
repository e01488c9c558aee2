use Rattle.search_equal.proofs.Turning.{first_turns, second_turns, other_stays}
use Rattle.search_equal.proofs.pins.other_macro.Goals as goal

pub returns-then-m-i : goal.returns-then-m-i
returns-then-m-i c = search first_turns

pub returns-then-m-j : goal.returns-then-m-j
returns-then-m-j c = search second_turns

pub returns-else-m-j : goal.returns-else-m-j
returns-else-m-j c = search other_stays
