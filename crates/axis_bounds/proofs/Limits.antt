-- Limits of an axis's slots, and of the values that hold: the ends are nodes, the numbers are small, and no two values lie far apart.
use Prim.Native.Nat.{ℕ, zero, suc, ◌+◌, ◌≤◌, ◌<◌}
use mathlib.Core.List.{List}
use native.Mathlib.Omega.{arith}
use lib.ListN.{length}
use Rattle.flow_laws.specs.Flow.{Ends}
use Rattle.axis_bounds.specs.declared.Slot.{Slot}
use Rattle.axis_bounds.specs.Axis.{Axis, WellFormed}
use Rattle.axis_bounds.specs.Listed.{listed, tails, heads, amount, hi_node, lo_node, node_count}
use Rattle.axis_bounds.specs.Graph.{graph_slots, macro_slots, Holds}
use Rattle.axis_bounds.proofs.Members.{Each}
use Rattle.axis_bounds.proofs.Sorts.{OfMacros, OfPins, OfEnds, macros_each, each_macros, listed_each, graph_each, graph_macros, graph_pins, graph_ends, by_node}

-- a slot between nodes below n, of small numbers
pub record WellFormedSlot (n : ℕ) (e : Slot) : Type 0 where
  pub tail : e.tail < n
  pub head : e.head < n
  pub plus : e.plus ≤ 32768
  pub minus : e.minus ≤ 32768

-- the values x keep the bound of slot e
pub record KeptBy (x : List ℕ) (e : Slot) : Type 0 where
  pub le : amount x e.tail + e.plus ≤ amount x e.head + e.minus

pub holds_each : (ss : List Slot) (x : List ℕ) → Holds ss x → Each (KeptBy x) ss
holds_each ss x h = record { at = λ s l. record { le = h.le s l } }

pub each_holds : (ss : List Slot) (x : List ℕ) → Each (KeptBy x) ss → Holds ss x
each_holds ss x h = record { le = λ s l. (h.at s l).le }

-- value k lies near value 0
record Close (x : List ℕ) (k : ℕ) : Type 0 where
  above : amount x k ≤ amount x 0 + 40000
  below : amount x 0 ≤ amount x k + 40000

close_near : (n : ℕ) (x : List ℕ) → ((k : ℕ) → k < n → Close x k) → (j k : ℕ) → j < n → k < n → amount x j ≤ amount x k + 250000
close_near n x h j k l m = let a = (h j l).above in let b = (h k m).below in omega arith

module _ (a : Axis) (fine : WellFormed a) where
  abbrev count : ℕ
  count = length a.sizes

  fine_macros : (n : ℕ) → count < n → OfMacros a (WellFormedSlot n)
  fine_macros n l =
      record {
        rise = λ i q. record { tail = omega arith; head = omega arith; plus = omega arith; minus = omega arith };
        fall = λ i q. let s = fine.side in let w = fine.size i q in record { tail = omega arith; head = omega arith; plus = omega arith; minus = omega arith };
        pair = λ j q. let p = fine.pair j q in let t = p.tail in let h = p.head in let u = p.plus in let m = p.minus in record { tail = omega arith; head = omega arith; plus = omega arith; minus = omega arith };
      }

  fine_pins : OfPins a (WellFormedSlot (node_count a))
  fine_pins =
      record {
        high = λ j l i q. let p = (fine.net j l).pin i q in let n = p.node in let u = p.up in let b = fine.base in record { tail = omega arith; head = omega arith; plus = omega arith; minus = omega arith };
        low = λ j l i q. let p = (fine.net j l).pin i q in let n = p.node in let u = p.up in let b = fine.base in record { tail = omega arith; head = omega arith; plus = omega arith; minus = omega arith };
      }

  fine_ends : OfEnds a (WellFormedSlot (node_count a))
  fine_ends =
      record {
        high = λ j l. record { tail = omega arith; head = omega arith; plus = omega arith; minus = omega arith };
        low = λ j l. record { tail = omega arith; head = omega arith; plus = omega arith; minus = omega arith };
      }

  -- each slot of the graph, of the list and of the macros
  pub graph_fine : Each (WellFormedSlot (node_count a)) (graph_slots a)
  graph_fine = graph_each a _ (fine_macros (node_count a) (omega arith)) fine_pins fine_ends

  pub listed_fine : Each (WellFormedSlot (node_count a)) (listed a)
  listed_fine = listed_each a _ (fine_macros (node_count a) (omega arith)) fine_pins

  pub macro_fine : Each (WellFormedSlot (suc (length a.sizes))) (macro_slots a)
  macro_fine = macros_each a _ (fine_macros (suc count) (omega arith))

  pub graph_tails : Ends (tails (graph_slots a)) (length (graph_slots a)) (node_count a)
  graph_tails = record { lt = λ s l. (graph_fine.at s l).tail }

  pub graph_heads : Ends (heads (graph_slots a)) (length (graph_slots a)) (node_count a)
  graph_heads = record { lt = λ s l. (graph_fine.at s l).head }

  pub listed_tails : Ends (tails (listed a)) (length (listed a)) (node_count a)
  listed_tails = record { lt = λ s l. (listed_fine.at s l).tail }

  pub listed_heads : Ends (heads (listed a)) (length (listed a)) (node_count a)
  listed_heads = record { lt = λ s l. (listed_fine.at s l).head }

  pub macro_tails : Ends (tails (macro_slots a)) (length (macro_slots a)) (suc (length a.sizes))
  macro_tails = record { lt = λ s l. (macro_fine.at s l).tail }

  pub macro_heads : Ends (heads (macro_slots a)) (length (macro_slots a)) (suc (length a.sizes))
  macro_heads = record { lt = λ s l. (macro_fine.at s l).head }

  module _ (x : List ℕ) where
    -- a macro lies at most a side above the die corner, and not below it
    pub mac_from : OfMacros a (KeptBy x) → (k : ℕ) → k ≤ length a.sizes → amount x 0 ≤ amount x k
    mac_from m zero l = omega arith
    mac_from m (suc i) l = let p = (m.rise i l).le in omega arith

    pub mac_to : OfMacros a (KeptBy x) → (k : ℕ) → k ≤ length a.sizes → amount x k ≤ amount x 0 + a.side
    mac_to m zero l = omega arith
    mac_to m (suc i) l = let p = (m.fall i l).le in omega arith

    macs_close : OfMacros a (KeptBy x) → (k : ℕ) → k ≤ length a.sizes → Close x k
    macs_close m k l = let p = mac_from m k l in let q = mac_to m k l in let s = fine.side in record { above = omega arith; below = omega arith }

    module _ (m : OfMacros a (KeptBy x)) (p : OfPins a (KeptBy x)) (e : OfEnds a (KeptBy x)) (j : ℕ) (l : j < length a.nets) where
      hi_close : Close x (hi_node (length a.sizes) j)
      hi_close =
          let f = fine.net j l in
          let b = (p.high j l 0 f.some).le in
          let c = mac_from m _ (f.pin 0 f.some).node in
          let d = (e.high j l).le in
          let o = fine.base in
          record { above = omega arith; below = omega arith }

      lo_close : Close x (lo_node (length a.sizes) j)
      lo_close =
          let f = fine.net j l in
          let b = (p.low j l 0 f.some).le in
          let c = mac_to m _ (f.pin 0 f.some).node in
          let u = (f.pin 0 f.some).up in
          let d = (e.low j l).le in
          let s = fine.side in
          record { above = omega arith; below = omega arith }

  pub near : (y : List ℕ) → Holds (graph_slots a) y → (j k : ℕ) → j < node_count a → k < node_count a → amount y j ≤ amount y k + 250000
  near y h =
      let g = holds_each _ _ h in
      let m = graph_macros a _ g in
      let p = graph_pins a _ g in
      let e = graph_ends a _ g in
      close_near (node_count a) y (by_node (length a.sizes) (length a.nets) (Close y) (macs_close y m) (hi_close y m p e) (lo_close y m p e))

  pub macro_near : (y : List ℕ) → Holds (macro_slots a) y → (j k : ℕ) → j < suc (length a.sizes) → k < suc (length a.sizes) → amount y j ≤ amount y k + 250000
  macro_near y h =
      let g = each_macros a _ (holds_each _ _ h) in
      close_near (suc (length a.sizes)) y (λ k l. macs_close y g k (omega arith))
