use Rattle.fit_pairs.proofs.Stepping.{stays_off, fix_column_fits, to_fix, to_fix_row, to_mac, to_mac_row, to_fixes}
use borrow.Author.Rules.{rules}
use Rattle.fit_pairs.proofs.next_pair.Goals as goal

pub returns-then-not-on_pair : goal.returns-then-not-on_pair
returns-then-not-on_pair c = search stays_off

pub overflow_add-j : goal.overflow_add-j
overflow_add-j c = search (rules, fix_column_fits)

pub returns-then-j-k : goal.returns-then-j-k
returns-then-j-k c = search to_fix

pub returns-else-j-k : goal.returns-else-j-k
returns-else-j-k c = search to_fix_row

pub returns-then-j-n : goal.returns-then-j-n
returns-then-j-n c = search to_mac

pub returns-then-i-n : goal.returns-then-i-n
returns-then-i-n c = search to_mac_row

pub returns-else-i-n : goal.returns-else-i-n
returns-else-i-n c = search to_fixes
