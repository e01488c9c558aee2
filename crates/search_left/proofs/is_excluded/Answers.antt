use Rattle.std.proofs.Common.{◌≡◌}
use Rattle.fit_slots.specs.declared.Direction.TheVariants.{Horizontal as horizontal, Vertical as vertical}
use Rattle.search_node.specs.Letters.{way_at}
use Rattle.search_left.proofs.Differing.{excluded_across, excluded_up}
use Rattle.search_left.proofs.is_excluded.Goals as goal

pub returns-in-Horizontal : goal.returns-in-Horizontal
returns-in-Horizontal c = let e : horizontal ≡ way_at c.args.i = cc (c.in-Horizontal.ensures) in search excluded_across

pub returns-in-Vertical : goal.returns-in-Vertical
returns-in-Vertical c = let e : vertical ≡ way_at c.args.i = cc (c.in-Vertical.ensures) in search excluded_up
