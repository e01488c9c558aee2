-- What the tests of proposed answers show of an axis within the limits.
use Rattle.std.proofs.Common.{◌≡◌, ℕ, Bool, true, List, replicate}
use Rattle.axis_bounds.specs.declared.Axis.{Axis as HeldAxis}
use Rattle.axis_bounds.specs.Axis.{axis_of}
use Rattle.axis_bounds.specs.Held.{Held}
use Rattle.axis_graph.specs.declared.Graph.{Graph}
use Rattle.axis_graph.specs.declared.Span.{Span}
use Rattle.axis_graph.specs.Graph.{Shows}
use Rattle.axis_graph.specs.Solved.{Refuted}
use Rattle.axis_graph.specs.Build.{macro_graph, whole_graph}
use Rattle.axis_graph.specs.Service.{UnsolvableOk}
use Rattle.axis_held.specs.Graphs.{GraphOf, SpansOfAxis}
use Rattle.axis_held.proofs.HeldAxes.{Shaped}
use Rattle.axis_held.proofs.Judging.{refused, nets_some, nets_solved}
use Rattle.axis_values.specs.Values.{Rests}
use Rattle.axis_amounts.specs.Amounts.{Flow}
use Rattle.axis.specs.Shown.{ShownFit}
use Rattle.axis.proofs.Certified.{certified}

module _ (a : HeldAxis) (sh : Shaped a) (h : Held a) where
  pub fit_shown : (g : Graph) → GraphOf a (whole_graph (axis_of a)) g → (e : List Span) → SpansOfAxis a e → (x f parents : List ℕ) (b : Bool) → Shows b (Flow g e a.t f) → b ≡ true → (r : Bool) → Shows r (Rests g f x parents) → Shows r (ShownFit a x f)
  fit_shown g of e sp x f parents b fl bn r rest =
      record { shown = λ o. record { solved = nets_solved a sh h g (of.held h) e (sp.held h) x f (certified g e a.t x f parents (nets_some a sh h g (of.held h)) (fl.shown bn) (rest.shown o)) } }

  pub chain_shown : (g : Graph) → GraphOf a (macro_graph (axis_of a)) g → (f : List ℕ) (b : Bool) → Shows b (Refuted g f) → b ≡ true → UnsolvableOk a (replicate 8 0) f
  chain_shown g of f b s e = refused a sh h g (of.held h) f (s.shown e)
