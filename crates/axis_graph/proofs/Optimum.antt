-- Amounts that balance and stand on tight slots make values least: weak and strong duality at the values of a graph. Other least values
-- are tight wherever something flows (`tight_at`).
use mathlib.Core.Path.{◌≡◌}
use mathlib.Core.List.{List}
use Prim.Native.Nat.{ℕ, ◌+◌, ◌≤◌}
use native.Mathlib.Omega.{arith}
use Rattle.flow_laws.specs.Flow.{at_node, weigh, Ends, Balance}
use Rattle.flow_laws.proofs.Duality.{exchange, weak, strong, tight_at_least}
use Rattle.axis_graph.specs.declared.Graph.{Graph}
use Rattle.axis_graph.specs.declared.Span.{Span}
use Rattle.axis_bounds.specs.Listed.{tails, heads, pluses, minuses}
use Rattle.axis_graph.specs.Graph.{at, GraphWithin, Holds, Tights}
use Rattle.axis_graph.specs.Solved.{los, his, weights, NetEnds, upper, lower}

module _ (g : Graph) (nets : List Span) (c : ℕ) (fine : GraphWithin g) (ns : NetEnds g nets c) where
  lo_ends : Ends (los nets) c g.n
  lo_ends = record { lt = λ j l. ns.lo j l }

  hi_ends : Ends (his nets) c g.n
  hi_ends = record { lt = λ j l. ns.hi j l }

  abbrev sup : ℕ → ℕ
  sup = at_node (los nets) (weights nets) c

  abbrev dem : ℕ → ℕ
  dem = at_node (his nets) (weights nets) c

  -- ---- amounts that balance

  module _ (f : List ℕ) (bal : Balance (tails g.slots) (heads g.slots) (at f) sup dem g.m g.n) where
    up_is : (z : List ℕ) → weigh (at z) dem g.n ≡ upper nets c z
    unfolding upper
    up_is z = exchange (his nets) (weights nets) (at z) c g.n hi_ends

    low_is : (z : List ℕ) → weigh (at z) sup g.n ≡ lower nets c z
    unfolding lower
    low_is z = exchange (los nets) (weights nets) (at z) c g.n lo_ends

    abbrev P : ℕ
    P = weigh (pluses g.slots) (at f) g.m

    abbrev M : ℕ
    M = weigh (minuses g.slots) (at f) g.m

    pub weak_at : (z : List ℕ) → Holds g.slots g.m z → P + lower nets c z ≤ M + upper nets c z
    weak_at z h =
        let a = weak (tails g.slots) (heads g.slots) (pluses g.slots) (minuses g.slots) (at f) (at z) sup dem g.m g.n fine.tail fine.head bal h in
        let b = up_is z in let d = low_is z in omega arith

    pub strong_at : (z : List ℕ) → Tights g.slots g.m f z → P + lower nets c z ≡ M + upper nets c z
    strong_at z t =
        let a = strong (tails g.slots) (heads g.slots) (pluses g.slots) (minuses g.slots) (at f) (at z) sup dem g.m g.n fine.tail fine.head bal t in
        let b = up_is z in let d = low_is z in omega arith

    pub tight_at : (z : List ℕ) → Holds g.slots g.m z → M + upper nets c z ≤ P + lower nets c z → Tights g.slots g.m f z
    tight_at z h e =
        tight_at_least (tails g.slots) (heads g.slots) (pluses g.slots) (minuses g.slots) (at f) (at z) sup dem g.m g.n fine.tail fine.head bal h
        (let b = up_is z in let d = low_is z in omega arith)
