use borrow.Author.Rules.{rules}
use Rattle.model.specs.Meaning.{blank_spot}
use Rattle.fit_slots.specs.declared.Direction.TheVariants.{Horizontal as horizontal, Vertical as vertical}
use Rattle.fit_slots.specs.Axes.{corner_on}
use Rattle.fit_axes.proofs.Mapped.{mapped}
use Rattle.search.proofs.root.coordinates.Goals as goal

pub returns-in-Horizontal : goal.returns-in-Horizontal
returns-in-Horizontal c = rw c.in-Horizontal.is (mapped (corner_on horizontal) blank_spot 0 _ _ (search rules) (λ i h. let k = c.map.ensures.items.at i blank_spot 0 (search rules) in search rules))

pub returns-in-Vertical : goal.returns-in-Vertical
returns-in-Vertical c = rw c.in-Vertical.is (mapped (corner_on vertical) blank_spot 0 _ _ (search rules) (λ i h. let k = c.map-in-Vertical.ensures.items.at i blank_spot 0 (search rules) in search rules))
