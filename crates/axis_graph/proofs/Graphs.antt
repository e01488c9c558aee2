-- The graphs of an axis within the limits: their slots are those of the lists, their values lie near each other, and every net
-- has a way from its lo to its hi.
use mathlib.Core.Path.{◌≡◌, refl, sym, ap, subst, ◌∙◌, fun_ext}
use mathlib.Core.List.{List, [], ◌++◌, append-nil}
use Prim.Native.Nat.{ℕ, zero, suc, ◌+◌, ◌-◌, ◌≤◌, ◌<◌}
use native.Mathlib.Decide.{dec_lt}
use native.Mathlib.Omega.{arith}
use lib.ListN.{length, drop, replicate, length-replicate, get_or-append}
use lib.Seq.{sets-eq, length-sets, get_or-drop}
use Rattle.axis_bounds.specs.declared.Slot.{Slot}
use Rattle.axis_bounds.specs.Axis.{Axis, no_slot, WellFormed as FineAxis}
use Rattle.axis_bounds.specs.Listed.{die_slots, slot_at, tails, heads, pluses, minuses, hi_node, lo_node, node_count}
use Rattle.axis_bounds.specs.Graph.{graph_slots, macro_slots, Holds as HoldsList}
use Rattle.axis_bounds.proofs.Counts.{length_die, length_macros, few_macro_slots, few_slots, few_nodes}
use Rattle.axis_bounds.proofs.Members.{Each, Stands, slot_right}
use Rattle.axis_bounds.proofs.Sorts.{OfMacros, each_macros, graph_macros, graph_pins}
use Rattle.axis_bounds.proofs.Limits.{WellFormedSlot as FineOn, graph_fine, macro_fine, near, macro_near}
use Rattle.axis_bounds.proofs.Idle.{past_end}
use Rattle.axis_graph.specs.declared.Graph.{Graph}
use Rattle.axis_graph.specs.Limits.{node_room, slot_room}
use Rattle.axis_graph.specs.Graph.{at, GraphWithin, Holds, CloseValues, Leads, Net}
use Rattle.axis_graph.specs.Build.{slots_from, die_graph, whole_graph}
use Rattle.axis_graph.proofs.Ways.{leads_slot, leads_on}

-- ---- an array that holds the slots of a list

past_all : (n k : ℕ) → slot_at (replicate n no_slot) k ≡ no_slot
past_all zero k = refl
past_all (suc n) zero = refl
past_all (suc n) (suc k) = past_all n k

pub length_from : (ss : List Slot) → length (slots_from ss) ≡ slot_room
length_from ss = length-sets (replicate slot_room no_slot) 0 ss ∙ length-replicate slot_room no_slot

module _ (ss : List Slot) (few : length ss ≤ slot_room) where
  whole_is : slots_from ss ≡ ss ++ drop (length ss) (replicate slot_room no_slot)
  whole_is = sets-eq ss (replicate slot_room no_slot) 0 (let e = length-replicate slot_room no_slot in omega arith) ∙ ap (λ (k : ℕ). ss ++ drop k (replicate slot_room no_slot)) (let z : 0 + length ss ≡ length ss = omega arith in z)

  pub slots_at : (s : ℕ) → slot_at (slots_from ss) s ≡ slot_at ss s
  slots_at s = ap (λ (u : List Slot). slot_at u s) whole_is ∙ by (dec_lt s (length ss))
    where
      by : Dec (s < length ss) → slot_at (ss ++ drop (length ss) (replicate slot_room no_slot)) s ≡ slot_at ss s
      by (yes l) = get_or-append ss (drop (length ss) (replicate slot_room no_slot)) no_slot s l
      by (no n) =
          slot_right ss (drop (length ss) (replicate slot_room no_slot)) s (omega arith)
          ∙ get_or-drop (length ss) (replicate slot_room no_slot) (s - length ss) no_slot
          ∙ past_all slot_room (length ss + (s - length ss))
          ∙ sym (past_end ss s (omega arith))

  pub slots_same : slot_at (slots_from ss) ≡ slot_at ss
  slots_same = fun_ext slots_at

  -- values that keep the array's slots keep the list's
  pub list_holds : (m : ℕ) → length ss ≤ m → (x : List ℕ) → Holds (slots_from ss) m x → HoldsList ss x
  list_holds m l x h = record { le = λ s k. subst (λ (u : ℕ → Slot). at x (u s).tail + (u s).plus ≤ at x (u s).head + (u s).minus) slots_same (h.le s (omega arith)) }

  -- the other way: slots past the last ask nothing
  pub array_holds : (m : ℕ) (x : List ℕ) → HoldsList ss x → Holds (slots_from ss) m x
  array_holds m x h = record { le = λ s l. subst (λ (u : ℕ → Slot). at x (u s).tail + (u s).plus ≤ at x (u s).head + (u s).minus) (sym slots_same) (by s (dec_lt s (length ss))) }
    where
      by : (s : ℕ) → Dec (s < length ss) → at x (tails ss s) + pluses ss s ≤ at x (heads ss s) + minuses ss s
      by s (yes l) = h.le s l
      by s (no n) = subst (λ (u : Slot). at x u.tail + u.plus ≤ at x u.head + u.minus) (sym (past_end ss s (omega arith))) (omega arith)

  module _ (m n : ℕ) (few-m : m ≤ slot_room) (few-n : n ≤ node_room) (some : 0 < n) (each : Each (FineOn n) ss) where
    fine_at : (s : ℕ) → FineOn n (slot_at (slots_from ss) s)
    fine_at s = subst (λ (u : ℕ → Slot). FineOn n (u s)) (sym slots_same) (by (dec_lt s (length ss)))
      where
        by : Dec (s < length ss) → FineOn n (slot_at ss s)
        by (yes l) = each.at s l
        by (no o) = subst (FineOn n) (sym (past_end ss s (omega arith))) (record { tail = some; head = some; plus = omega arith; minus = omega arith })

    pub fine_array : GraphWithin (record { n = n; m = m; slots = slots_from ss })
    fine_array =
        record {
          nodes = few-n;
          slots = few-m;
          tail = record { lt = λ s l. (fine_at s).tail };
          head = record { lt = λ s l. (fine_at s).head };
          fine = λ s l. let p = (fine_at s).tail in let q = (fine_at s).head in record { tail = omega arith; head = omega arith; plus = (fine_at s).plus; minus = (fine_at s).minus };
        }

  -- a slot that stands in the list leads from its tail to its head
  module _ (m n : ℕ) (l : length ss ≤ m) where
    pub leads_by : (e : Slot) → Stands ss e → Leads (record { n = n; m = m; slots = slots_from ss }) e.tail e.head
    leads_by e s =
        subst (λ (u : Slot). Leads g u.tail u.head) (slots_at s.index ∙ s.is)
        (leads_slot g s.index (let q = s.lt in omega arith))
      where
        g : Graph
        g = record { n = n; m = m; slots = slots_from ss }

pub leads_self : (g : Graph) (k : ℕ) → Leads g k k
leads_self g k = record { leads = λ f rank c t. t }

-- node 0 leads to each macro, and each macro to node 0
module _ (b : Axis) (g : Graph) (m : OfMacros b (λ (e : Slot). Leads g e.tail e.head)) where
  pub zero_to : (k : ℕ) → k ≤ length b.sizes → Leads g 0 k
  zero_to zero l = leads_self g 0
  zero_to (suc i) l = m.rise i l

  pub to_zero : (k : ℕ) → k ≤ length b.sizes → Leads g k 0
  to_zero zero l = leads_self g 0
  to_zero (suc i) l = m.fall i l

-- ---- the macros alone: the axis without its pairs

abbrev pub bare : Axis → Axis
bare b = record { side = b.side; sizes = b.sizes; pairs = []; base = b.base; nets = b.nets }

module _ (b : Axis) (fine : FineAxis b) where
  abbrev pub dies : List Slot
  dies = die_slots b.side 1 b.sizes

  pub fine_bare : FineAxis (bare b)
  fine_bare =
      record { macs = fine.macs; pairs = omega arith; nets = fine.nets; pins = fine.pins; side = fine.side; base = fine.base; size = fine.size; pair = λ j l. absurd (omega arith); net = fine.net }

  pub bare_is : macro_slots (bare b) ≡ dies
  unfolding macro_slots
  bare_is = append-nil dies

  pub macros_are : macro_slots b ≡ dies ++ b.pairs
  unfolding macro_slots
  macros_are = refl

  -- ---- counts

  pub few_macros : length (macro_slots b) ≤ slot_room
  few_macros = let e = few_macro_slots b fine in omega arith

  pub short_dies : length dies ≤ length (macro_slots b)
  short_dies = let e = length_macros b in let d = length_die b.side 1 b.sizes in omega arith

  pub few_dies : length dies ≤ slot_room
  few_dies = let e = few_macros in let d = short_dies in omega arith

  -- ---- within the limits

  pub die_fine : GraphWithin (die_graph b)
  die_fine = fine_array dies few_dies (length (macro_slots b)) (suc (length b.sizes)) few_macros (let e = fine.macs in omega arith) (omega arith) (subst (Each (FineOn (suc (length b.sizes)))) bare_is (macro_fine (bare b) fine_bare))

  pub whole_fine : GraphWithin (whole_graph b)
  whole_fine = fine_array (graph_slots b) (few_slots b fine) (length (graph_slots b)) (node_count b) (few_slots b fine) (let e = few_nodes b fine in omega arith) (omega arith) (graph_fine b fine)

  -- ---- values that lie near each other

  die_list : (y : List ℕ) → Holds (slots_from dies) (length (macro_slots b)) y → HoldsList (macro_slots (bare b)) y
  die_list y h = subst (λ (ss : List Slot). HoldsList ss y) (sym bare_is) (list_holds dies few_dies (length (macro_slots b)) short_dies y h)

  pub die_near : CloseValues (slots_from dies) (length (macro_slots b)) (suc (length b.sizes))
  die_near = record { near = λ y h. macro_near (bare b) fine_bare y (die_list y h) }

  pub whole_near : CloseValues (slots_from (graph_slots b)) (length (graph_slots b)) (node_count b)
  whole_near = record { near = λ y h. near b fine y (list_holds (graph_slots b) (few_slots b fine) (length (graph_slots b)) (omega arith) y h) }

  -- ---- ways

  die_ways : OfMacros (bare b) (λ (e : Slot). Leads (die_graph b) e.tail e.head)
  die_ways = each_macros (bare b) _ (subst (Each (λ (e : Slot). Leads (die_graph b) e.tail e.head)) (sym bare_is) (record { at = λ s l. leads_by dies few_dies (length (macro_slots b)) (suc (length b.sizes)) short_dies _ (record { index = s; lt = l; is = refl }) }))

  pub die_net : (j k : ℕ) → j ≤ length b.sizes → k ≤ length b.sizes → Net (die_graph b) j k
  die_net j k p q =
      let m = fine.macs in
      record { lo_in = omega arith; hi_in = omega arith; lo_room = omega arith; hi_room = omega arith; chain = leads_on (die_graph b) j 0 k (to_zero (bare b) (die_graph b) die_ways j p) (zero_to (bare b) (die_graph b) die_ways k q) }

  whole_each : Each (λ (e : Slot). Leads (whole_graph b) e.tail e.head) (graph_slots b)
  whole_each = record { at = λ s l. leads_by (graph_slots b) (few_slots b fine) (length (graph_slots b)) (node_count b) (omega arith) _ (record { index = s; lt = l; is = refl }) }

  pub whole_zero : (k : ℕ) → k ≤ length b.sizes → Leads (whole_graph b) 0 k
  whole_zero = zero_to b (whole_graph b) (graph_macros b _ whole_each)

  pub whole_net : (j : ℕ) → j < length b.nets → Net (whole_graph b) (lo_node (length b.sizes) j) (hi_node (length b.sizes) j)
  whole_net j l =
      let n = few_nodes b fine in
      let p = graph_pins b _ whole_each in
      let s = (fine.net j l).some in
      record { lo_in = omega arith; hi_in = omega arith; lo_room = omega arith; hi_room = omega arith; chain = leads_on (whole_graph b) _ _ _ (p.low j l 0 s) (p.high j l 0 s) }
