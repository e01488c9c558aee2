use borrow.Author.Rules.{rules}
use Rattle.model.specs.Meaning.{blank_pin}
use Rattle.fit_slots.specs.declared.Direction.TheVariants.{Horizontal as horizontal, Vertical as vertical}
use Rattle.fit_axes.specs.Axes.{held_pin}
use Rattle.fit_axes.proofs.Mapped.{mapped}
use Rattle.fit_axes.proofs.axis_pins.Goals as goal

pub returns-in-Horizontal : goal.returns-in-Horizontal
returns-in-Horizontal c = rw c.in-Horizontal.is (mapped (held_pin horizontal) blank_pin (held_pin horizontal blank_pin) _ _ (search rules) (λ i h. let k = c.map.ensures.items.at i blank_pin (held_pin horizontal blank_pin) (search rules) in search rules))

pub returns-in-Vertical : goal.returns-in-Vertical
returns-in-Vertical c = rw c.in-Vertical.is (mapped (held_pin vertical) blank_pin (held_pin vertical blank_pin) _ _ (search rules) (λ i h. let k = c.map-in-Vertical.ensures.items.at i blank_pin (held_pin vertical blank_pin) (search rules) in search rules))
