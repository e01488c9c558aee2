use Rattle.std.proofs.Common.{rules}
use Rattle.text_line.proofs.Same.{spelled_so}
use Rattle.text_line.proofs.spells.Goals as goal

pub returns : goal.returns
returns c = let wf = c.well_formed in search (rules, spelled_so)
