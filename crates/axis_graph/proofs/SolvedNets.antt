-- The nets: the ends and weights that the solver gets, and what its answer says of the axis.
use mathlib.Core.Path.{◌≡◌, sym, ap, subst, ◌∙◌}
use mathlib.Core.List.{List}
use Prim.Native.Nat.{ℕ, ◌+◌, ◌*◌, ◌<◌}
use native.Mathlib.Omega.{arith}
use lib.ListN.{length, get_or}
use lib.Dec.{eqb}
use Rattle.num_laws.specs.Sum.{sum, when}
use Rattle.num_laws.proofs.Sums.{sum_eq}
use Rattle.flow_laws.specs.Flow.{at_node, weigh, Balance}
use Rattle.axis_bounds.specs.declared.Slot.{Slot}
use Rattle.axis_bounds.specs.Axis.{Axis, WellFormed as FineAxis}
use Rattle.axis_bounds.specs.Listed.{slot_at, tails, heads, pluses, minuses, hi_node, lo_node, node_count, weight_of}
use Rattle.axis_bounds.specs.Answer.{supply, demand}
use Rattle.axis_bounds.specs.Graph.{graph_slots, Holds as HoldsList, upper as upper_on, lower as lower_on, GraphSolved}
use Rattle.axis_bounds.proofs.Counts.{few_slots}
use Rattle.axis_bounds.proofs.Answers.{weights_most}
use Rattle.axis_graph.specs.declared.Span.{Span}
use Rattle.axis_graph.specs.Graph.{at, Holds, Net}
use Rattle.axis_graph.specs.Solved.{no_span, los, his, weights, Nets, upper, lower, Solved}
use Rattle.axis_graph.specs.Build.{slots_from, whole_graph}
use Rattle.axis_graph.proofs.Graphs.{slots_at, slots_same, list_holds, array_holds, whole_zero, whole_net}

-- the span of each net
pub record SpansOf (b : Axis) (r : List Span) : Type 0 where
  pub at : (j : ℕ) → j < length b.nets → get_or r j no_span ≡ record { lo = lo_node (length b.sizes) j; hi = hi_node (length b.sizes) j; weight = weight_of b j }

module _ (b : Axis) (fine : FineAxis b) (r : List Span) (sp : SpansOf b r) where
  abbrev n : ℕ
  n = length b.sizes

  abbrev t : ℕ
  t = length b.nets

  lo_is : (j : ℕ) → j < t → los r j ≡ lo_node n j
  lo_is j l = ap (λ (s : Span). s.lo) (sp.at j l)

  hi_is : (j : ℕ) → j < t → his r j ≡ hi_node n j
  hi_is j l = ap (λ (s : Span). s.hi) (sp.at j l)

  weight_is : (j : ℕ) → j < t → weights r j ≡ weight_of b j
  weight_is j l = ap (λ (s : Span). s.weight) (sp.at j l)

  sum_is : sum (weights r) t ≡ sum (weight_of b) t
  sum_is = sum_eq (weights r) (weight_of b) t weight_is

  pub spans_nets : Nets (whole_graph b) r t
  spans_nets =
      record {
        net = λ j l. subst (λ (u : ℕ). Net (whole_graph b) (los r j) u) (sym (hi_is j l)) (subst (λ (u : ℕ). Net (whole_graph b) u (hi_node n j)) (sym (lo_is j l)) (whole_net b fine j l));
        total = let e = sum_is in let w = weights_most b fine in omega arith;
      }

  supply_is : (k : ℕ) → at_node (los r) (weights r) t k ≡ supply b k
  unfolding at_node
  supply_is k = sum_eq (λ j. when (eqb (los r j) k) (weights r j)) (λ j. when (eqb (lo_node n j) k) (weight_of b j)) t (λ j l. ap (λ (u : ℕ). when (eqb u k) (weights r j)) (lo_is j l) ∙ ap (when (eqb (lo_node n j) k)) (weight_is j l))

  demand_is : (k : ℕ) → at_node (his r) (weights r) t k ≡ demand b k
  unfolding at_node
  demand_is k = sum_eq (λ j. when (eqb (his r j) k) (weights r j)) (λ j. when (eqb (hi_node n j) k) (weight_of b j)) t (λ j l. ap (λ (u : ℕ). when (eqb u k) (weights r j)) (hi_is j l) ∙ ap (when (eqb (hi_node n j) k)) (weight_is j l))

  upper_is : (x : List ℕ) → upper r t x ≡ upper_on b x
  unfolding upper upper_on weigh
  upper_is x = sum_eq (λ j. at x (his r j) * weights r j) (λ j. at x (hi_node n j) * weight_of b j) t (λ j l. ap (λ (u : ℕ). at x u * weights r j) (hi_is j l) ∙ ap (λ (u : ℕ). at x (hi_node n j) * u) (weight_is j l))

  lower_is : (x : List ℕ) → lower r t x ≡ lower_on b x
  unfolding lower lower_on weigh
  lower_is x = sum_eq (λ j. at x (los r j) * weights r j) (λ j. at x (lo_node n j) * weight_of b j) t (λ j l. ap (λ (u : ℕ). at x u * weights r j) (lo_is j l) ∙ ap (λ (u : ℕ). at x (lo_node n j) * u) (weight_is j l))

  abbrev G : List Slot
  G = graph_slots b

  module _ (x f : List ℕ) (s : Solved (whole_graph b) r t x f) where
    same : slot_at (slots_from G) ≡ slot_at G
    same = slots_same G (few_slots b fine)

    balance_is : Balance (tails G) (heads G) (at f) (supply b) (demand b) (length G) (node_count b)
    balance_is =
        let h = subst (λ (u : ℕ → Slot). Balance (λ i. (u i).tail) (λ i. (u i).head) (at f) (at_node (los r) (weights r) t) (at_node (his r) (weights r) t) (length G) (node_count b)) same s.balance in
        record { eq = λ k l. let p = h.eq k l in let q = supply_is k in let o = demand_is k in omega arith }

    costs : (weigh (pluses G) (at f) (length G)) + lower r t x ≡ weigh (minuses G) (at f) (length G) + upper r t x
    costs = subst (λ (u : ℕ → Slot). weigh (λ i. (u i).plus) (at f) (length G) + lower r t x ≡ weigh (λ i. (u i).minus) (at f) (length G) + upper r t x) same s.reaches

    keeps : (z : List ℕ) → HoldsList G z → Holds (slots_from G) (length G) z
    keeps z h = array_holds G (few_slots b fine) (length G) z h

    pub solved_holds : HoldsList G x
    solved_holds = list_holds G (few_slots b fine) (length G) (omega arith) x s.holds

    pub graph_solved : GraphSolved b x f
    graph_solved =
        record {
          holds = solved_holds;
          most = λ i. let p = s.most i in let q = sum_is in omega arith;
          idle = λ i e. s.idle i (ap (λ (u : Slot). u.tail) (slots_at G (few_slots b fine) i) ∙ e ∙ sym (ap (λ (u : Slot). u.head) (slots_at G (few_slots b fine) i)));
          balance = balance_is;
          reaches = let p = costs in let q = upper_is x in let o = lower_is x in omega arith;
          least = λ z h. let p = s.least z (keeps z h) in let q = upper_is x in let o = lower_is x in let v = upper_is z in let w = lower_is z in omega arith;
          smallest = λ z h e k l. s.smallest z (keeps z h) (let q = upper_is x in let o = lower_is x in let v = upper_is z in let w = lower_is z in omega arith) k (whole_zero b fine k l);
        }
