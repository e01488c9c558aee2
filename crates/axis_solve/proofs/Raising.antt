-- Values raised on a set, and values moved together.
use mathlib.Core.List.{List}
use Prim.Native.Nat.{ℕ, ◌+◌, ◌<◌}
use native.Mathlib.Omega.{arith}
use mir.Syntax.{w64}
use mir.Val.{Fits}
use Rattle.axis_graph.specs.Limits.{no_slack}
use Rattle.axis_graph.specs.Graph.{at, ValuesWithin}

-- ---- raised

pub small_fits : (x : List ℕ) (k d : ℕ) → ValuesWithin x → d < no_slack → Fits w64 (at x k + d)
small_fits x k d b h = let p = b.most k in omega arith

-- ---- moved together
