-- What solving the graphs of an axis says of the axis.
use mathlib.Core.Path.{◌≡◌, refl, sym, ap, subst, ◌∙◌}
use mathlib.Core.List.{List}
use Prim.Native.Nat.{ℕ, suc, ◌≤◌, ◌<◌}
use native.Mathlib.Omega.{arith}
use lib.ListN.{length, get_or, take, length-take, replicate}
use lib.Seq.{get_or-take}
use Rattle.axis_bounds.specs.declared.Axis.{Axis as HeldAxis}
use Rattle.axis_bounds.specs.Axis.{Axis, no_net, axis_of}
use Rattle.axis_bounds.specs.Listed.{hi_node, lo_node}
use Rattle.axis_bounds.specs.Graph.{graph_slots, Coordinates}
use Rattle.axis_bounds.specs.Held.{Held}
use Rattle.axis_bounds.proofs.Sorts.{graph_macros}
use Rattle.axis_bounds.proofs.Limits.{KeptBy, holds_each, mac_from}
use Rattle.axis_bounds.proofs.Answers.{solved_on, unsolved_on}
use Rattle.axis_graph.specs.declared.Graph.{Graph}
use Rattle.axis_graph.specs.declared.Span.{Span}
use Rattle.axis_graph.specs.Graph.{at, GraphWithin}
use Rattle.axis_graph.specs.Solved.{Nets, Solved, Refuted}
use Rattle.axis_graph.specs.Build.{macro_graph, whole_graph, SpansTo}
use Rattle.axis_held.specs.Graphs.{Offsets}
use Rattle.axis_graph.specs.Service.{SolvedOk, UnsolvableOk}
use Rattle.axis_held.proofs.HeldAxes.{Shaped, held_weight}
use Rattle.axis_graph.proofs.Graphs.{whole_fine}
use Rattle.axis_graph.proofs.SolvedNets.{SpansOf, spans_nets, solved_holds, graph_solved}
use Rattle.axis_held.proofs.HeldGraphs.{n_is, t_is}
use Rattle.axis_graph.proofs.Refutes.{pairs_refuted}

module _ (a : HeldAxis) (sh : Shaped a) (h : Held a) where
  abbrev b : Axis
  b = axis_of a

  -- a chain on the slots of the macros and the pairs
  pub refused : (g : Graph) → g ≡ macro_graph (axis_of a) → (f : List ℕ) → Refuted g f → UnsolvableOk a (replicate 8 0) f
  refused g e f r =
      record {
        held = h;
        unsolved = unsolved_on (axis_of a) h.fine f (pairs_refuted (axis_of a) h.fine f (subst (λ (u : Graph). Refuted u f) e r));
        none = refl;
      }

  -- ---- what the solver gets, and its answer

  module _ (g : Graph) (eg : g ≡ whole_graph (axis_of a)) where
    pub nets_fine : GraphWithin g
    nets_fine = subst GraphWithin (sym eg) (whole_fine b h.fine)

    pub nets_some : 0 < g.n
    nets_some = subst (λ (u : Graph). 0 < u.n) (sym eg) (omega arith)

    module _ (r : List Span) (sp : SpansTo a.n a.nets a.t r) where
      spans_of : SpansOf b r
      spans_of =
          record {
            at = λ j l.
                let e = t_is a sh h in
                sp.at j (omega arith)
                ∙ ap (λ (n : ℕ). record { lo = lo_node n j; hi = hi_node n j; weight = (get_or a.nets j no_net).weight }) (sym (n_is a sh h))
                ∙ ap (λ (w : ℕ). record { lo = lo_node (length b.sizes) j; hi = hi_node (length b.sizes) j; weight = w }) (sym (held_weight a sh h j (omega arith)));
          }

      pub nets_given : Nets g r a.t
      nets_given = subst (λ (u : Graph). Nets u r a.t) (sym eg) (subst (Nets (whole_graph b) r) (t_is a sh h) (spans_nets b h.fine r spans_of))

      module _ (v f : List ℕ) (s : Solved g r a.t v f) where
        whole_solved : Solved (whole_graph b) r (length b.nets) v f
        whole_solved = subst (λ (t : ℕ). Solved (whole_graph b) r t v f) (sym (t_is a sh h)) (subst (λ (u : Graph). Solved u r a.t v f) eg s)

        -- no macro lies before the die corner
        onwards : (i : ℕ) → i < a.n → at v 0 ≤ at v (suc i)
        onwards i l = mac_from b h.fine v (graph_macros b (KeptBy v) (holds_each (graph_slots b) v (solved_holds b h.fine r spans_of v f whole_solved))) (suc i) (let e = n_is a sh h in omega arith)

        pub nets_solved : (z : List ℕ) → Offsets v z a.n → SolvedOk a z f
        nets_solved z p =
            record {
              held = h;
              solved = solved_on b h.fine v f (take a.n z) (graph_solved b h.fine r spans_of v f whole_solved) spots;
              rest = p.rest;
            }
          where
            spots : Coordinates (length b.sizes) v (take a.n z)
            spots =
                let e = n_is a sh h in
                let m = h.macs in
                let o = p.long in
                record {
                  long = let q = length-take a.n z in omega arith;
                  at = λ i l. let q = get_or-take a.n z i 0 (omega arith) in let w = p.at i (omega arith) (omega arith) in let s = onwards i (omega arith) in omega arith;
                }
