use mathlib.Core.Path.{◌∙◌, ap}
use lib.ListN.{length}
use Rattle.std.specs.Option.{unwrap_or}
use Rattle.text_line.proofs.Found.{before_first}
use Rattle.text_line.proofs.bytes_before.Goals as goal

pub returns : goal.returns
returns c = c.unwrap_or.ensures ∙ (ap (λ p. unwrap_or p (length c.args.s.now)) c.first.ensures ∙ before_first c.args.d c.args.s.now)
