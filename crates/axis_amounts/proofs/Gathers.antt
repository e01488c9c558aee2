-- Sums at the nodes, and of the chain: what the tests add up.
use mathlib.Core.Path.{◌≡◌, refl, ap, ◌∙◌}
use mathlib.Core.List.{List}
use Prim.Native.Nat.{ℕ, zero, suc, ◌+◌, ◌*◌, ◌≤◌, ◌<◌}
use native.Mathlib.Nat.{mul-le-mul_right}
use native.Mathlib.Numerals.{add-one}
use native.Mathlib.Omega.{arith}
use mir.Syntax.{w64}
use mir.Val.{Fits}
use lib.ListN.{length, set, length-set, length-replicate}
use Rattle.num_laws.specs.Sum.{sum}
use Rattle.num_laws.proofs.Sums.{sum_grows}
use Rattle.flow_laws.specs.Flow.{at_node, weigh}
use Rattle.flow_laws.proofs.Gathering.{node_none, node_most, node_sum, node_added}
use Rattle.axis_bounds.specs.declared.Slot.{Slot}
use Rattle.axis_bounds.specs.Listed.{tails, heads, pluses, minuses}
use Rattle.axis_graph.specs.declared.Graph.{Graph}
use Rattle.axis_graph.specs.declared.Span.{Span}
use Rattle.axis_graph.specs.Limits.{node_room, slot_room, net_room, side_most, weight_most, amount_most}
use Rattle.axis_graph.specs.Graph.{at, GraphWithin}
use Rattle.axis_graph.specs.Solved.{los, his, weights}
use Rattle.axis_amounts.specs.Amounts.{no_sums, added_at, sum_most, RoomFor, Within, Gathered, Summed, Modest, SpansWithin, Spanned}
use Rattle.num_laws.proofs.Stores.{zero_at}

-- ---- sums at the nodes

module _ (end f : ℕ → ℕ) where
  gathered_none : (b : List ℕ) → length b ≡ node_room → Gathered b end f 0 b
  gathered_none b e = record { long = e; is = λ k l. let z = node_none end f k in omega arith }

  gathered_more : (b : List ℕ) (i : ℕ) (r : List ℕ) → Gathered b end f i r → end i < node_room → Gathered b end f (i + 1) (set r (end i) (at r (end i) + f i))
  gathered_more b i r h l = record { long = length-set r (end i) (at r (end i) + f i) ∙ h.long; is = λ k m. node_added end f (at b) i r k (let o = h.long in omega arith) (h.is k m) }

-- amounts that may be added in turn: their ends are nodes, and no sum is above the limit
pub record Addable (into₀ out₀ : List ℕ) (to from f : ℕ → ℕ) (c : ℕ) : Type 0 where
  pub long_into : length into₀ ≡ node_room
  pub long_out : length out₀ ≡ node_room
  pub to_node_law : (i : ℕ) → i < c → to i < node_room
  pub from_node_law : (i : ℕ) → i < c → from i < node_room
  pub into_most : (i k : ℕ) → i < c → k < node_room → at into₀ k + at_node to f i k + f i ≤ sum_most
  pub out_most : (i k : ℕ) → i < c → k < node_room → at out₀ k + at_node from f i k + f i ≤ sum_most

module _ (into₀ out₀ : List ℕ) (to from f : ℕ → ℕ) (c : ℕ) (ok : Addable into₀ out₀ to from f c) where
  pub summed_none : Summed into₀ out₀ to from f 0 into₀ out₀
  summed_none = record { into_at = gathered_none to f into₀ ok.long_into; out_at = gathered_none from f out₀ ok.long_out }

  module _ (i : ℕ) (into out : List ℕ) (s : Summed into₀ out₀ to from f i into out) where
    module _ (l : i < c) where
      room_here : RoomFor into out (from i) (to i) (f i)
      room_here = record {
        from_node_law = ok.from_node_law i l;
        to_node_law = ok.to_node_law i l;
        into_most = let a = s.into_at.is (to i) (ok.to_node_law i l) in let b = ok.into_most i (to i) l (ok.to_node_law i l) in omega arith;
        out_most = let a = s.out_at.is (from i) (ok.from_node_law i l) in let b = ok.out_most i (from i) l (ok.from_node_law i l) in omega arith;
      }

      pub summed_more : (into' out' : List ℕ) → into' ≡ added_at into (to i) (f i) → out' ≡ added_at out (from i) (f i) → Summed into₀ out₀ to from f (i + 1) into' out'
      summed_more into' out' p q = rw (p, q) (record { into_at = gathered_more to f into₀ i into s.into_at (ok.to_node_law i l); out_at = gathered_more from f out₀ i out s.out_at (ok.from_node_law i l) })

-- ---- the slots

module _ (g : Graph) (fine : GraphWithin g) (f : List ℕ) (w : Within f amount_most) where
  slots_most : (end : ℕ → ℕ) (i k : ℕ) → i ≤ g.m → at_node end (at f) i k ≤ slot_room * amount_most
  slots_most end i k l = let a = node_most end (at f) amount_most w.most i k in let b = fine.slots in omega arith

  pub slots_addable : Addable no_sums no_sums (heads g.slots) (tails g.slots) (at f) g.m
  slots_addable = record {
    long_into = length-replicate {A = ℕ} node_room 0;
    long_out = length-replicate {A = ℕ} node_room 0;
    to_node_law = λ i l. (fine.fine i l).head;
    from_node_law = λ i l. (fine.fine i l).tail;
    into_most = within (heads g.slots);
    out_most = within (tails g.slots);
  }
    where
      within : (end : ℕ → ℕ) (i k : ℕ) → i < g.m → k < node_room → at no_sums k + at_node end (at f) i k + at f i ≤ sum_most
      within end i k l o = let a = slots_most end i k (omega arith) in let b = w.most i in let z = zero_at node_room k in omega arith

  pub slot_room_law : (i : ℕ) (into out : List ℕ) → Summed no_sums no_sums (heads g.slots) (tails g.slots) (at f) i into out → i < g.m → RoomFor into out (tails g.slots i) (heads g.slots i) (at f i)
  slot_room_law = room_here no_sums no_sums (heads g.slots) (tails g.slots) (at f) g.m slots_addable

  module _ (into out : List ℕ) (s : Summed no_sums no_sums (heads g.slots) (tails g.slots) (at f) g.m into out) where
    pub slots_modest : Modest into out
    slots_modest = record {
      long_into = s.into_at.long;
      long_out = s.out_at.long;
      into_most = λ k l. let a = slots_most (heads g.slots) g.m k (omega arith) in let b = s.into_at.is k l in let z = zero_at node_room k in omega arith;
      out_most = λ k l. let a = slots_most (tails g.slots) g.m k (omega arith) in let b = s.out_at.is k l in let z = zero_at node_room k in omega arith;
    }

-- ---- the nets

-- the weights of c nets within the limit
weights_most : (n : ℕ) (nets : List Span) (c : ℕ) → SpansWithin n nets c → sum (weights nets) c ≤ c * weight_most
unfolding sum
weights_most n nets zero h = omega arith
weights_most n nets (suc c) h = let a = weights_most n nets c (record { at = λ j l. h.at j (omega arith) }) in let b = (h.at c (omega arith)).weight in omega arith

-- what the test of the nets shows
module _ (g : Graph) (fine : GraphWithin g) (nets : List Span) (c : ℕ) (h : SpansWithin g.n nets c) where
  pub nets_spanned : c ≤ net_room → Spanned nets c
  nets_spanned l = let a = fine.nodes in record { lo = λ j k. let p = (h.at j k).lo in omega arith; hi = λ j k. let p = (h.at j k).hi in omega arith; total = let w = weights_most g.n nets c h in omega arith }

module _ (nets : List Span) (c : ℕ) (sp : Spanned nets c) (i : ℕ) (l : i < c) where
  weight_room : sum (weights nets) i + weights nets i ≤ amount_most
  unfolding sum
  weight_room = let a = sum_grows (weights nets) (suc i) c l in let b = sp.total in omega arith

  pub weight_fits : (w : ℕ) → w ≡ sum (weights nets) i → Fits w64 (w + weights nets i)
  weight_fits w e = let a = weight_room in omega arith

  pub weight_more : (w : ℕ) → w ≡ sum (weights nets) i → w + weights nets i ≡ sum (weights nets) (i + 1)
  unfolding sum
  weight_more w e = rw (add-one i) (ap (λ (u : ℕ). u + weights nets i) e)

module _ (nets : List Span) where
  pub total_none : ◌≡◌ {A = ℕ} 0 (sum (weights nets) 0)
  unfolding sum
  total_none = refl

  module _ (into₀ out₀ : List ℕ) (mo : Modest into₀ out₀) (c : ℕ) (sp : Spanned nets c) where
    -- the weights may be added to sums of the slots
    pub nets_addable : Addable into₀ out₀ (los nets) (his nets) (weights nets) c
    nets_addable = record {
      long_into = mo.long_into;
      long_out = mo.long_out;
      to_node_law = sp.lo;
      from_node_law = sp.hi;
      into_most = λ i k l o. let a = mo.into_most k o in let b = node_sum (los nets) (weights nets) i k in let d = weight_room nets c sp i l in omega arith;
      out_most = λ i k l o. let a = mo.out_most k o in let b = node_sum (his nets) (weights nets) i k in let d = weight_room nets c sp i l in omega arith;
    }

    pub net_room_law : (i : ℕ) (into out : List ℕ) → Summed into₀ out₀ (los nets) (his nets) (weights nets) i into out → i < c → RoomFor into out (his nets i) (los nets i) (weights nets i)
    net_room_law = room_here into₀ out₀ (los nets) (his nets) (weights nets) c nets_addable

-- ---- the chain

module _ (a f : ℕ → ℕ) where
  weigh_next : (i : ℕ) → weigh a f (i + 1) ≡ weigh a f i + a i * f i
  unfolding weigh sum
  weigh_next i = rw (add-one i) refl

  weigh_most : (q : ℕ) (i : ℕ) → ((s : ℕ) → s < i → a s ≤ q) → ((s : ℕ) → f s ≤ 1) → weigh a f i ≤ i * q
  unfolding weigh sum
  weigh_most q zero h k = omega arith
  weigh_most q (suc i) h k =
      let b = weigh_most q i (λ s l. h s (omega arith)) k in
      let c : f i * a i ≤ 1 * a i = mul-le-mul_right (a i) (k i) in
      let d = h i (omega arith) in
      omega arith

  weigh_one : (i w : ℕ) → w ≡ weigh a f i → 0 < f i → f i ≤ 1 → w + a i ≡ weigh a f (i + 1)
  weigh_one i w e p q =
      let n = weigh_next i in
      let u : f i ≡ 1 = omega arith in
      let v : a i * f i ≡ a i * 1 = ap (λ (t : ℕ). a i * t) u in
      omega arith

  weigh_idle : (i w : ℕ) → w ≡ weigh a f i → f i ≤ 0 → w ≡ weigh a f (i + 1)
  weigh_idle i w e p =
      let n = weigh_next i in
      let u : f i ≡ 0 = omega arith in
      let v : a i * f i ≡ a i * 0 = ap (λ (t : ℕ). a i * t) u in
      omega arith

  pub weigh_none : ◌≡◌ {A = ℕ} 0 (weigh a f 0)
  unfolding weigh sum
  weigh_none = refl

module _ (ss : List Slot) (f : List ℕ) (i w : ℕ) where
  pub plus_idle : w ≡ weigh (pluses ss) (at f) i → at f i ≤ 0 → w ≡ weigh (pluses ss) (at f) (i + 1)
  plus_idle = weigh_idle (pluses ss) (at f) i w

  pub minus_idle : w ≡ weigh (minuses ss) (at f) i → at f i ≤ 0 → w ≡ weigh (minuses ss) (at f) (i + 1)
  minus_idle = weigh_idle (minuses ss) (at f) i w

  module _ (wi : Within f 1) where
    pub plus_one : w ≡ weigh (pluses ss) (at f) i → 0 < at f i → w + pluses ss i ≡ weigh (pluses ss) (at f) (i + 1)
    plus_one e p = weigh_one (pluses ss) (at f) i w e p (wi.most i)

    pub minus_one : w ≡ weigh (minuses ss) (at f) i → 0 < at f i → w + minuses ss i ≡ weigh (minuses ss) (at f) (i + 1)
    minus_one e p = weigh_one (minuses ss) (at f) i w e p (wi.most i)

module _ (g : Graph) (f : List ℕ) (fine : GraphWithin g) (wi : Within f 1) (i : ℕ) (l : i < g.m) (w : ℕ) where
  pub plus_fits : w ≡ weigh (pluses g.slots) (at f) i → Fits w64 (w + pluses g.slots i)
  plus_fits e = let a = weigh_most (pluses g.slots) (at f) side_most i (λ s k. (fine.fine s (omega arith)).plus) wi.most in let b = (fine.fine i l).plus in let o = fine.slots in omega arith

  pub minus_fits : w ≡ weigh (minuses g.slots) (at f) i → Fits w64 (w + minuses g.slots i)
  minus_fits e = let a = weigh_most (minuses g.slots) (at f) side_most i (λ s k. (fine.fine s (omega arith)).minus) wi.most in let b = (fine.fine i l).minus in let o = fine.slots in omega arith

-- ---- amounts that the first test passed

pub flow_few : (g : Graph) → GraphWithin g → (nets : List Span) (c : ℕ) → SpansWithin g.n nets c → c ≤ net_room → (f : List ℕ) (q : ℕ) → q ≡ sum (weights nets) c → Within f q → Within f amount_most
flow_few g fine nets c h l f q e w = record { most = λ k. let p = w.most k in let t = (nets_spanned g fine nets c h l).total in omega arith }
