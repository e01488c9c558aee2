-- Nodes that lead to each other.
use mathlib.Core.Path.{◌≡◌}
use mathlib.Core.List.{List}
use mathlib.Core.Logic.{inl}
use Prim.Native.Nat.{ℕ, ◌<◌}
use native.Mathlib.Decide.{ℕ_discrete}
use native.Mathlib.Omega.{arith}
use Rattle.axis_graph.specs.declared.Graph.{Graph}
use Rattle.axis_bounds.specs.Listed.{tails, heads}
use Rattle.axis_graph.specs.Graph.{at, Closed, Leads}

-- a slot leads from its tail to its head; two ways make one
module _ (g : Graph) where
  pub leads_slot : (s : ℕ) → s < g.m → Leads g (tails g.slots s) (heads g.slots s)
  leads_slot s l = record { leads = λ f rank c t. by f rank c t (ℕ_discrete (at rank (heads g.slots s)) 0) }
    where
      by : (f rank : List ℕ) → Closed g f rank → 0 < at rank (tails g.slots s) → Dec (at rank (heads g.slots s) ≡ 0) → 0 < at rank (heads g.slots s)
      by f rank c t (yes e) = absurd (c.none s l (record { way = inl (t, e) }))
      by f rank c t (no n) = omega arith

  pub leads_on : (a b c : ℕ) → Leads g a b → Leads g b c → Leads g a c
  leads_on a b c p q = record { leads = λ f rank k t. q.leads f rank k (p.leads f rank k t) }
