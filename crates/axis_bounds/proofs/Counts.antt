-- How many slots and nodes an axis has.
use Prim.Native.Nat.{ℕ, suc, ◌+◌, ◌*◌, ◌≤◌}
use mathlib.Core.Path.{◌≡◌, refl}
use mathlib.Core.List.{List, [], ◌∷◌, ◌++◌}
use native.Mathlib.Omega.{arith}
use lib.ListN.{length, length-append}
use Rattle.axis_bounds.specs.declared.AxisPin.{AxisPin}
use Rattle.axis_bounds.specs.Axis.{Axis, NetOn, pin_count, WellFormed}
use Rattle.axis_bounds.specs.Listed.{die_slots, pin_slots, net_slots, listed, node_count}
use Rattle.axis_bounds.specs.Graph.{end_slots, graph_slots, macro_slots}

pub length_die : (side i : ℕ) (ws : List ℕ) → length (die_slots side i ws) ≡ 2 * length ws
unfolding die_slots
length_die side i [] = refl
length_die side i (w ∷ ws) = let h = length_die side (suc i) ws in omega arith

pub length_pins : (base hi lo : ℕ) (ps : List AxisPin) → length (pin_slots base hi lo ps) ≡ 2 * length ps
unfolding pin_slots
length_pins base hi lo [] = refl
length_pins base hi lo (p ∷ ps) = let h = length_pins base hi lo ps in omega arith

pub length_nets : (base h : ℕ) (ts : List NetOn) → length (net_slots base h ts) ≡ 2 * pin_count ts
unfolding net_slots pin_count
length_nets base h [] = refl
length_nets base h (t ∷ ts) =
    let p = length-append (pin_slots base h (suc h) t.pins) (net_slots base (suc (suc h)) ts) in
    let q = length_pins base h (suc h) t.pins in
    let r = length_nets base (suc (suc h)) ts in
    omega arith

pub length_ends : (h : ℕ) (ts : List NetOn) → length (end_slots h ts) ≡ 2 * length ts
unfolding end_slots
length_ends h [] = refl
length_ends h (t ∷ ts) = let q = length_ends (suc (suc h)) ts in omega arith

module _ (a : Axis) where
  pub length_macros : length (macro_slots a) ≡ 2 * length a.sizes + length a.pairs
  unfolding macro_slots
  length_macros =
      let p = length-append (die_slots a.side 1 a.sizes) a.pairs in
      let q = length_die a.side 1 a.sizes in
      omega arith

  pub length_listed : length (listed a) ≡ 2 * length a.sizes + length a.pairs + 2 * pin_count a.nets
  unfolding listed
  length_listed =
      let p = length-append (die_slots a.side 1 a.sizes) (a.pairs ++ net_slots a.base (suc (length a.sizes)) a.nets) in
      let q = length-append a.pairs (net_slots a.base (suc (length a.sizes)) a.nets) in
      let r = length_die a.side 1 a.sizes in
      let s = length_nets a.base (suc (length a.sizes)) a.nets in
      omega arith

  pub length_graph : length (graph_slots a) ≡ length (listed a) + 2 * length a.nets
  unfolding graph_slots
  length_graph =
      let p = length-append (listed a) (end_slots (suc (length a.sizes)) a.nets) in
      let q = length_ends (suc (length a.sizes)) a.nets in
      omega arith

  pub length_graph_all : length (graph_slots a) ≡ 2 * length a.sizes + length a.pairs + 2 * pin_count a.nets + 2 * length a.nets
  length_graph_all = let p = length_graph in let q = length_listed in omega arith

  module _ (fine : WellFormed a) where
    pub few_macro_slots : length (macro_slots a) ≤ 136
    few_macro_slots = let p = length_macros in let q = fine.macs in let r = fine.pairs in omega arith

    pub few_listed : length (listed a) ≤ 392
    few_listed = let p = length_listed in let q = fine.macs in let r = fine.pairs in let s = fine.pins in omega arith

    pub few_slots : length (graph_slots a) ≤ 456
    few_slots = let p = length_graph in let q = few_listed in let r = fine.nets in omega arith

    pub few_nodes : node_count a ≤ 73
    few_nodes = let q = fine.macs in let r = fine.nets in omega arith
