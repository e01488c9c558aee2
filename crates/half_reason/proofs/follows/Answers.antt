use Rattle.std.proofs.Common.{◌≡◌, true, ◌∙◌, sym, arith}
use borrow.Author.Tests.{ltb-true}
use Rattle.half_reason.proofs.Reasoning.{high_follows, low_follows}
use Rattle.half_reason.proofs.follows.Goals as goal
use Rattle.half_reason.proofs.follows.Goals.{then-amount-gt0, else-amount-gt0, then-amount-gt0-2, else-amount-gt0-2}

pub returns-then-beside : goal.returns-then-beside
returns-then-beside c = elim c.if-amount-gt0.branch [
  | then-amount-gt0 w ↦ let e : w.beside.result ≡ true = cc in search high_follows
  | else-amount-gt0 w ↦ absurd (let q = ltb-true 0 c.amount-in-High.result (sym w.value-is ∙ c.if-beside.true) in omega arith)
]

pub returns-then-beside-2 : goal.returns-then-beside-2
returns-then-beside-2 c = elim c.if-amount-gt0-2.branch [
  | then-amount-gt0-2 w ↦ let e : w.beside-then-amount-gt0-2.result ≡ true = cc in search low_follows
  | else-amount-gt0-2 w ↦ absurd (let q = ltb-true 0 c.amount-in-Low.result (sym w.value-is ∙ c.if-beside-2.true) in omega arith)
]
