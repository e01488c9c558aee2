use borrow.Author.Rules.{rules}
use Rattle.model.specs.Meaning.{blank_mac}
use Rattle.fit_slots.specs.declared.Direction.TheVariants.{Horizontal as horizontal, Vertical as vertical}
use Rattle.fit_slots.specs.Slots.{mac_side}
use Rattle.fit_axes.proofs.Mapped.{mapped}
use Rattle.fit_axes.proofs.mac_sides.Goals as goal

pub returns-in-Horizontal : goal.returns-in-Horizontal
returns-in-Horizontal c = rw c.in-Horizontal.is (mapped (mac_side horizontal) blank_mac 0 _ _ (search rules) (λ i h. let k = c.map.ensures.items.at i blank_mac 0 (search rules) in search rules))

pub returns-in-Vertical : goal.returns-in-Vertical
returns-in-Vertical c = rw c.in-Vertical.is (mapped (mac_side vertical) blank_mac 0 _ _ (search rules) (λ i h. let k = c.map-in-Vertical.ensures.items.at i blank_mac 0 (search rules) in search rules))
