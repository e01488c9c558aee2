use Rattle.search_order.proofs.Ordering.{order_equal}
use Rattle.search_order.proofs.with_order.Goals as goal

pub returns-then-alike : goal.returns-then-alike
returns-then-alike c = search order_equal
