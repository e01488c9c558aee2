use borrow.Author.Rules.{rules}
use Rattle.model.specs.Meaning.{blank_net}
use Rattle.fit_axes.specs.Axes.{held_net}
use Rattle.fit_axes.proofs.Mapped.{mapped}
use Rattle.fit_axes.proofs.axis_nets.Goals as goal

pub returns : goal.returns
returns c = mapped held_net blank_net (held_net blank_net) _ _ (search rules) (λ i h. let k = c.map.ensures.items.at i blank_net (held_net blank_net) (search rules) in search rules)
