use Rattle.std.proofs.Common.{arith, ◌≡◌, ◌≤◌}
use Rattle.std.proofs.lemmas.Grind.{common_steps}
use Rattle.search_tables.proofs.Stores.{dot_die}
use Rattle.search_tables.proofs.dots.dot_bound.Goals as goal

pub returns-then-v-eq0 : goal.returns-then-v-eq0
returns-then-v-eq0 c =
    let low : c.args.u ≡ 0 → ⊥ = grind (arith, common_steps) in
    let high : c.args.u ≤ c.args.n = grind (arith, common_steps) in
    search dot_die
