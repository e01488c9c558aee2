-- The graphs of an axis that is held as a value: what the code writes is what the definitions say.
use mathlib.Core.Path.{◌≡◌, refl, sym, ap, ◌∙◌}
use mathlib.Core.List.{List, [], ◌∷◌}
use Prim.Native.Nat.{ℕ, suc, ◌+◌, ◌*◌, ◌<◌}
use native.Mathlib.Omega.{arith}
use lib.ListN.{length, get_or, take, replicate}
use lib.Seq.{sets, get_or-take}
use Rattle.axis_bounds.specs.declared.Slot.{Slot}
use Rattle.axis_bounds.specs.declared.Axis.{Axis as HeldAxis}
use Rattle.axis_bounds.specs.Axis.{NetOn, no_slot, nets_of, axis_of}
use Rattle.axis_bounds.specs.Listed.{slot, die_slots, net_slots, listed}
use Rattle.axis_bounds.specs.Graph.{far, end_slots, graph_slots, macro_slots}
use Rattle.axis_bounds.specs.Held.{pins_before, Held}
use Rattle.axis_bounds.proofs.Counts.{length_die, length_macros, length_listed, length_graph_all}
use Rattle.axis_bounds.proofs.Sorts.{listed_is, graph_is}
use Rattle.axis_graph.specs.declared.Graph.{Graph}
use Rattle.axis_graph.specs.Limits.{slot_room}
use Rattle.axis_graph.specs.Build.{slots_from, die_graph, macro_graph, whole_graph}
use Rattle.axis_held.specs.Graphs.{GraphOf}
use Rattle.axis_held.specs.Ends.{ends_of}
use Rattle.num_laws.proofs.Stores.{sets_append}
use Rattle.axis_held.proofs.HeldAxes.{Shaped, length_sizes, length_pairs, length_of_nets, count_of_nets}

same_graph : (n n' m m' : ℕ) (ss ss' : List Slot) → n ≡ n' → m ≡ m' → ss ≡ ss' → ◌≡◌ {A = Graph} (record { n = n; m = m; slots = ss }) (record { n = n'; m = m'; slots = ss' })
same_graph n n' m m' ss ss' p q r =
    ap (λ (k : ℕ). record { n = k; m = m; slots = ss }) p
    ∙ ap (λ (k : ℕ). record { n = n'; m = k; slots = ss }) q
    ∙ ap (λ (u : List Slot). record { n = n'; m = m'; slots = u }) r

module _ (a : HeldAxis) (sh : Shaped a) (h : Held a) where
  pub n_is : length (axis_of a).sizes ≡ a.n
  n_is = length_sizes a sh h.macs

  pub p_is : length (axis_of a).pairs ≡ a.p
  p_is = length_pairs a sh h.pairs

  pub t_is : length (axis_of a).nets ≡ a.t
  t_is = length_of_nets a sh h.nets

  pub size_is : (i : ℕ) → i < a.n → get_or (axis_of a).sizes i 0 ≡ get_or a.sizes i 0
  unfolding axis_of
  size_is i l = get_or-take a.n a.sizes i 0 l

  pub side_is : (axis_of a).side ≡ a.side
  unfolding axis_of
  side_is = refl

  -- ---- the macros and the pairs

  n_one : a.n + 1 ≡ suc (length (axis_of a).sizes)
  n_one = let p = n_is in omega arith

  m_is : length (macro_slots (axis_of a)) ≡ 2 * a.n + a.p
  m_is = let e = length_macros (axis_of a) in let p = n_is in let q = p_is in omega arith

  module _ (die : List Slot) (ed : die ≡ sets (replicate slot_room no_slot) 0 (die_slots a.side 1 (take a.n a.sizes))) where
    die_is : die ≡ slots_from (die_slots (axis_of a).side 1 (axis_of a).sizes)
    unfolding axis_of
    die_is = ed

    pub die_built : record { n = a.n + 1; m = 2 * a.n + a.p; slots = die } ≡ die_graph (axis_of a)
    die_built = same_graph _ _ _ _ _ _ n_one (sym m_is) die_is

    module _ (all : List Slot) (ea : all ≡ sets die (2 * a.n) (take a.p a.pairs)) where
      pub all_are : all ≡ slots_from (macro_slots (axis_of a))
      unfolding axis_of macro_slots
      all_are =
          ea
          ∙ ap (λ (ss : List Slot). sets ss (2 * a.n) (take a.p a.pairs)) ed
          ∙ ap (λ (k : ℕ). sets (sets (replicate slot_room no_slot) 0 D) k (take a.p a.pairs)) (let e = length_die a.side 1 (take a.n a.sizes) in let d = n_is in let z : 2 * a.n ≡ 0 + length D = omega arith in z)
          ∙ sym (sets_append D (take a.p a.pairs) (replicate slot_room no_slot) 0)
        where
          D : List Slot
          D = die_slots a.side 1 (take a.n a.sizes)

  -- the slots of the macros and the pairs
  pub macros_built : (all : List Slot) → all ≡ slots_from (macro_slots (axis_of a)) → record { n = a.n + 1; m = 2 * a.n + a.p; slots = all } ≡ macro_graph (axis_of a)
  macros_built all e = same_graph _ _ _ _ _ _ n_one (sym m_is) e

  -- ---- the whole graph

  ends_are : (h' : ℕ) (ts : List NetOn) → ends_of h' (length ts) ≡ end_slots h' ts
  unfolding ends_of end_slots
  ends_are h' [] = refl
  ends_are h' (t ∷ ts) = ap (λ (ss : List Slot). slot h' 0 0 far ∷ slot 0 (suc h') 0 far ∷ ss) (ends_are (suc (suc h')) ts)

  c_is : (c : ℕ) → c ≡ pins_before a.t a.nets → length (listed (axis_of a)) ≡ 2 * a.n + a.p + 2 * c
  c_is c e = let l = length_listed (axis_of a) in let q = count_of_nets a sh h.nets h.pins in let x = n_is in let y = p_is in omega arith

  module _ (ss : List Slot) (es : ss ≡ slots_from (macro_slots (axis_of a))) (s : List Slot) (en : s ≡ sets ss (2 * a.n + a.p) (net_slots a.base (a.n + 1) (nets_of (take a.t a.nets) a.pins))) where
    abbrev N : List Slot
    N = net_slots a.base (a.n + 1) (nets_of (take a.t a.nets) a.pins)

    nets_part : N ≡ net_slots (axis_of a).base (suc (length (axis_of a).sizes)) (axis_of a).nets
    unfolding axis_of
    nets_part = ap (λ (k : ℕ). net_slots a.base k (nets_of (take a.t a.nets) a.pins)) n_one

    listed_from : s ≡ slots_from (listed (axis_of a))
    listed_from =
        en
        ∙ ap (λ (u : List Slot). sets u (2 * a.n + a.p) N) es
        ∙ ap (sets (slots_from (macro_slots (axis_of a))) (2 * a.n + a.p)) nets_part
        ∙ ap (λ (k : ℕ). sets (slots_from (macro_slots (axis_of a))) k part) (let e = length_macros (axis_of a) in let p = n_is in let q = p_is in let z : 2 * a.n + a.p ≡ 0 + length (macro_slots (axis_of a)) = omega arith in z)
        ∙ sym (sets_append (macro_slots (axis_of a)) part (replicate slot_room no_slot) 0)
        ∙ ap slots_from (sym (listed_is (axis_of a)))
      where
        part : List Slot
        part = net_slots (axis_of a).base (suc (length (axis_of a).sizes)) (axis_of a).nets

    module _ (c : ℕ) (ec : c ≡ pins_before a.t a.nets) (r : List Slot) (er : r ≡ sets s (2 * a.n + a.p + 2 * c) (ends_of (a.n + 1) a.t)) where
      whole_from : r ≡ slots_from (graph_slots (axis_of a))
      whole_from =
          er
          ∙ ap (λ (u : List Slot). sets u (2 * a.n + a.p + 2 * c) (ends_of (a.n + 1) a.t)) listed_from
          ∙ ap (λ (k : ℕ). sets (slots_from (listed (axis_of a))) k (ends_of (a.n + 1) a.t)) (let e = c_is c ec in let z : 2 * a.n + a.p + 2 * c ≡ 0 + length (listed (axis_of a)) = omega arith in z)
          ∙ ap (λ (k : ℕ). sets (slots_from (listed (axis_of a))) (0 + length (listed (axis_of a))) (ends_of k a.t)) n_one
          ∙ ap (λ (k : ℕ). sets (slots_from (listed (axis_of a))) (0 + length (listed (axis_of a))) (ends_of (suc (length (axis_of a).sizes)) k)) (sym t_is)
          ∙ ap (sets (slots_from (listed (axis_of a))) (0 + length (listed (axis_of a)))) (ends_are (suc (length (axis_of a).sizes)) (axis_of a).nets)
          ∙ sym (sets_append (listed (axis_of a)) (end_slots (suc (length (axis_of a).sizes)) (axis_of a).nets) (replicate slot_room no_slot) 0)
          ∙ ap slots_from (sym (graph_is (axis_of a)))

      pub whole_built : record { n = a.n + 1 + 2 * a.t; m = 2 * a.n + a.p + 2 * c + 2 * a.t; slots = r } ≡ whole_graph (axis_of a)
      whole_built =
          same_graph _ _ _ _ _ _
          (let p = n_is in let q = t_is in omega arith)
          (let e = c_is c ec in let l = length_listed (axis_of a) in let q = t_is in let g = length_graph_all (axis_of a) in omega arith)
          whole_from

-- ---- the graph of an axis that passed the test

pub graph_held : (a : HeldAxis) (g r : Graph) → Held a → r ≡ g → GraphOf a g r
graph_held a g r h e = record { held = λ k. e; beyond = λ n. absurd (n h) }
