use Rattle.search_letters.proofs.Turning.{one_excluded, one_left, one_closed}
use Rattle.search_letters.proofs.try_letter.Goals as goal

pub returns-then-is_excluded : goal.returns-then-is_excluded
returns-then-is_excluded c = search one_excluded

pub returns-then-replaces_best : goal.returns-then-replaces_best
returns-then-replaces_best c = search one_left

pub returns-else-replaces_best : goal.returns-else-replaces_best
returns-else-replaces_best c = search one_closed
