use borrow.Author.Rules.{rules}
use Rattle.fit_pairs.proofs.Cursors.{first_macs, first_fixes}
use Rattle.fit_pairs.proofs.Stepping.{macs_first_law, fixes_first_law}
use Rattle.fit_pairs.proofs.first_pair.Goals as goal

pub returns-then-n-ge2 : goal.returns-then-n-ge2
returns-then-n-ge2 c = search (rules, macs_first_law, first_macs)

pub returns-else-n-ge2 : goal.returns-else-n-ge2
returns-else-n-ge2 c = search (rules, fixes_first_law, first_fixes)
