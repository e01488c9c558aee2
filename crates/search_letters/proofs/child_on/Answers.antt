use Rattle.search_letters.proofs.Children.{child_on}
use Rattle.search_letters.proofs.child_on.Goals as goal

pub returns : goal.returns
returns c = search child_on
