-- The pairs' bounds of an axis that is held as a value: what adding them starts from, and what it answers.
use mathlib.Core.Path.{◌≡◌, sym, ap, subst, ◌∙◌}
use mathlib.Core.List.{List}
use Prim.Native.Nat.{ℕ, ◌+◌, ◌*◌}
use native.Mathlib.Omega.{arith}
use lib.ListN.{replicate}
use Rattle.axis_bounds.specs.declared.Axis.{Axis as HeldAxis}
use Rattle.axis_bounds.specs.Axis.{axis_of}
use Rattle.axis_bounds.specs.Held.{Held}
use Rattle.axis_graph.specs.declared.Graph.{Graph}
use Rattle.axis_graph.specs.Limits.{node_room, farthest}
use Rattle.axis_graph.specs.Graph.{GraphWithin}
use Rattle.axis_graph.specs.Above.{NoneAbove}
use Rattle.axis_graph.specs.Build.{die_graph, macro_graph}
use Rattle.axis_graph.specs.Service.{UnsolvableOk}
use Rattle.axis_graph.specs.Solved.{Refuted}
use Rattle.axis_graph.proofs.Graphs.{die_fine}
use Rattle.axis_held.specs.Graphs.{GraphOf}
use Rattle.axis_held.proofs.HeldAxes.{Shaped}
use Rattle.axis_held.proofs.HeldGraphs.{n_is, p_is, size_is, side_is}
use Rattle.axis_held.proofs.Judging.{refused}
use Rattle.axis_solve.specs.Admit.{target, Feasible, Wanted}
use Rattle.axis_solve.proofs.Admitted.{even, even_free, pairs_wanted}

module _ (a : HeldAxis) (sh : Shaped a) (h : Held a) (g : Graph) (of : GraphOf a (die_graph (axis_of a)) g) where
  die : die_graph (axis_of a) ≡ g
  die = sym (of.held h)

  pub pairs_fine : GraphWithin g
  pairs_fine = subst GraphWithin die (die_fine (axis_of a) h.fine)

  pub pairs_free : NoneAbove a.side a.sizes a.n → Feasible g (replicate node_room farthest)
  pairs_free f =
      subst (λ (u : Graph). Feasible u even) die
      (even_free (axis_of a) h.fine (λ i l. let e = n_is a sh h in let d = side_is a sh h in let q = size_is a sh h i (omega arith) in let r = f.le i (omega arith) in omega arith))

  module _ (full : Graph) (all : GraphOf a (macro_graph (axis_of a)) full) where
    macros : macro_graph (axis_of a) ≡ full
    macros = sym (all.held h)

    pub all_wanted : Wanted g full.slots (2 * a.n) (2 * a.n + a.p)
    all_wanted =
        subst (λ (u : Graph). Wanted u full.slots (2 * a.n) (2 * a.n + a.p)) die
        (subst (λ (u : Graph). Wanted (die_graph (axis_of a)) u.slots (2 * a.n) (2 * a.n + a.p)) macros
        (pairs_wanted (axis_of a) h.fine (2 * a.n) (2 * a.n + a.p) (let e = n_is a sh h in omega arith) (let e = p_is a sh h in omega arith)))

    reached : target g full.slots ≡ macro_graph (axis_of a)
    reached = ap (λ (u : Graph). target u full.slots) (sym die) ∙ ap (λ (u : Graph). target (die_graph (axis_of a)) u.slots) (sym macros)

    pub admitted_none : (f : List ℕ) → Refuted (target g full.slots) f → UnsolvableOk a (replicate 8 0) f
    admitted_none f ok = refused a sh h (target g full.slots) reached f ok
