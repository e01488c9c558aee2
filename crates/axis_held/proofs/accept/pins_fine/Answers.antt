use Rattle.std.proofs.Common.{rules}
use Rattle.std.proofs.lemmas.Iterator.{cases_from_all, YieldsList-from_slice}
use Rattle.axis_bounds.specs.Axis.{WellFormedPin}
use Rattle.axis_held.proofs.Accepting.{pins_by}
use Rattle.axis_held.proofs.accept.pins_fine.Goals as goal

pub returns : goal.returns
returns c =
    pins_by c.args.n c.args.pins.now c.args.from c.args.to c.requires.from_le_to (search rules) _ (cases_from_all _ _ _ (WellFormedPin c.args.n) (λ q. WellFormedPin c.args.n q → ⊥) c.all.ensures.ran (YieldsList-from_slice _ c.iter.ensures.rest) (λ x q k. search rules) (λ x q k. search rules))
