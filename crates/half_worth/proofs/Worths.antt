-- The worth of all amounts, from the sums of both passes.
use Prim.Native.Nat.{ℕ, ◌+◌, ◌*◌}
use mathlib.Core.List.{List}
use native.Mathlib.Omega.{arith}
use mir.Syntax.{w64}
use mir.Val.{Fits}
use Rattle.half_arrays.specs.Arrays.{bound_at, entry_count, most_at, least_at}
use Rattle.half_arrays.specs.State.{flow_part, hi_part, lo_part}
use Rattle.half_arrays.proofs.Ranges.{bound_most, count_most, most_most, least_most}
use Rattle.half_sums.specs.Sums.{EntrySums, FlowSums}
use Rattle.half_sums.proofs.Weighing.{weigh_most, sum_most_law}
use Rattle.half_worth.specs.Amounts.{gained, lost}
use Rattle.half_worth.specs.Tests.{WorthSums}

module _ (tab arcs st : List ℕ) (o : ℕ) (nh nl th tl : List ℕ) (u d : ℕ) (is os : List ℕ) (x y : ℕ) (e : EntrySums tab st o (entry_count tab) nh nl th tl u d) (f : FlowSums arcs st o 81 is os x y) where
  pub more_fits : Fits w64 (u + y)
  more_fits = let eu = e.up in let eb = f.by in let p = weigh_most (most_at tab) st o hi_part (most_most tab) (entry_count tab) in let q = weigh_most (bound_at arcs) st o flow_part (bound_most arcs) 81 in let c = count_most tab in omega arith

  pub less_fits : Fits w64 (d + 16777216 * x)
  less_fits = let ea = f.all in let ed = e.down in let p = sum_most_law st o flow_part 81 in let q = weigh_most (least_at tab) st o lo_part (least_most tab) (entry_count tab) in let c = count_most tab in omega arith

  pub worth_is : WorthSums tab arcs st o (u + y) (d + 16777216 * x)
  unfolding gained lost
  worth_is = let eu = e.up in let ed = e.down in let ea = f.all in let eb = f.by in record { more = omega arith; less = omega arith }

pub base_fits : (arcs st : List ℕ) (o : ℕ) (is os : List ℕ) (x y : ℕ) → FlowSums arcs st o 81 is os x y → Fits w64 (16777216 * x)
base_fits arcs st o is os x y f = let ea = f.all in let p = sum_most_law st o flow_part 81 in omega arith
