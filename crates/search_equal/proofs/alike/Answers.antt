use Rattle.std.proofs.Common.{◌≤◌, ◌<◌, arith}
use borrow.Author.Rules.{rules}
use Rattle.std.proofs.lemmas.Grind.{common_steps}
use Rattle.chip_text.proofs.Passing.{Whole, whole}
use Rattle.search_equal.proofs.Meant.{macs_alike}
use Rattle.search_equal.proofs.alike.Goals as goal
use Rattle.search_equal.proofs.alike.Goals.{then-j-c, else-j-c}

pub returns-then-same_size : goal.returns-then-same_size
returns-then-same_size c =
    let wf = c.well_formed in
    let w : Whole c.args.c = search whole in
    let many : c.args.c.n ≤ 8 = grind (arith, common_steps) in
    let few : c.args.c.t ≤ 32 = grind (arith, common_steps) in
    let li : c.args.i < c.args.c.n = grind (arith, common_steps) in
    let lj : c.args.j < c.args.c.n = grind (arith, common_steps) in
    elim c.if-j-c.branch [ then-j-c v ↦ macs_alike _ w _ _ many few li lj _ _ v.same_size.ensures (search rules) c.nets_alike.ensures | else-j-c v ↦ grind (arith, common_steps) ]
