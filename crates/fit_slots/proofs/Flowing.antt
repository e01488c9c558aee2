-- A flow on the solver's axis is a flow on the slots of document 01, and so for a closed chain.
use Prim.Native.Nat.{ℕ, suc, ◌+◌, ◌*◌, ◌≤◌, ◌<◌}
use mathlib.Core.Path.{◌≡◌, refl, ap, ◌∙◌}
use mathlib.Core.List.{List, [], ◌∷◌, map}
use native.Mathlib.Decide.{dec_lt}
use native.Mathlib.Omega.{arith}
use lib.Dec.{eqb}
use lib.ListN.{length, get_or, length-map}
use borrow.Author.Tests.{ne_eqb}
use Rattle.model.specs.Meaning.{Net, Chip}
use Rattle.num_laws.specs.Sum.{sum, when}
use Rattle.num_laws.proofs.Sums.{sum_eq, sum_first, sum_zero}
use Rattle.flow_laws.specs.Flow.{at_node, Ends, Balance}
use Rattle.placement.specs.Letters.{Letter}
use Rattle.axis_bounds.specs.Axis.{Axis, bare_net}
use Rattle.axis_bounds.specs.Listed.{listed, tails, heads, hi_node, lo_node, node_count, weight_of}
use Rattle.axis_bounds.specs.Answer.{supply, demand}
use Rattle.fit_slots.specs.declared.Direction.{Direction}
use Rattle.fit_slots.specs.Slots.{Slot, mac_side, first_hi}
use Rattle.fit_slots.specs.Amounts.{weight_at, hi_weight, lo_weight}
use Rattle.fit_slots.specs.Axes.{axis_net, axis_for}
use Rattle.fit_slots.proofs.Amounting.{cond_when}

-- the weights at the nets' ends
weights_at : (d : Direction) (e : ℕ) (ts : List Net) (k : ℕ) → weight_at e ts k ≡ sum (λ j. when (eqb (e + 2 * j) k) (get_or (map (axis_net d) ts) j bare_net).weight) (length ts)
unfolding weight_at sum
weights_at d e [] k = refl
weights_at d e (t ∷ ts) k =
    let ih = weights_at d (suc (suc e)) ts k in
    let w = cond_when (eqb e k) t.weight in
    let q = sum_first (λ j. when (eqb (e + 2 * j) k) (get_or (map (axis_net d) (t ∷ ts)) j bare_net).weight) (length ts) in
    let z : when (eqb (e + 2 * 0) k) t.weight ≡ when (eqb e k) t.weight = ap (λ (m : ℕ). when (eqb m k) t.weight) (zero_more e) in
    let s = sum_eq (λ j. when (eqb (suc (suc e) + 2 * j) k) (get_or (map (axis_net d) ts) j bare_net).weight) (λ j. when (eqb (e + 2 * suc j) k) (get_or (map (axis_net d) ts) j bare_net).weight) (length ts)
    (λ j l. ap (λ (m : ℕ). when (eqb m k) (get_or (map (axis_net d) ts) j bare_net).weight) (two_more e j)) in
    omega arith
  where
    zero_more : (e : ℕ) → e + 2 * 0 ≡ e
    zero_more e = omega arith

    two_more : (e j : ℕ) → suc (suc e) + 2 * j ≡ e + 2 * suc j
    two_more e j = omega arith

module _ (d : Direction) (c : Chip) (ls : List Letter) where
  abbrev a : Axis
  a = axis_for d c ls

  pub demand_is : (k : ℕ) → hi_weight c k ≡ demand a k
  unfolding axis_for at_node
  demand_is k = rw (length-map c.macs (mac_side d), length-map c.nets (axis_net d)) (weights_at d (first_hi c) c.nets k)

  pub supply_is : (k : ℕ) → lo_weight c k ≡ supply a k
  unfolding axis_for at_node
  supply_is k = rw (length-map c.macs (mac_side d), length-map c.nets (axis_net d)) (weights_at d (suc (first_hi c)) c.nets k
      ∙ sum_eq (λ j. when (eqb (suc (first_hi c) + 2 * j) k) (weight_of a j)) (λ j. when (eqb (suc (first_hi c + 2 * j)) k) (weight_of a j)) (length c.nets) (λ j l. ap (λ (m : ℕ). when (eqb m k) (weight_of a j)) (one_more (first_hi c) j)))
    where
      one_more : (h j : ℕ) → suc h + 2 * j ≡ suc (h + 2 * j)
      one_more h j = omega arith

-- nothing ends past the last node
none_ends : (end f : ℕ → ℕ) (m n k : ℕ) → Ends end m n → n ≤ k → at_node end f m k ≡ 0
unfolding at_node
none_ends end f m n k e l = sum_eq (λ s. when (eqb (end s) k) (f s)) (λ s. 0) m (λ s h. let q = e.lt s h in rw (ne_eqb (end s) k (λ r. omega arith))) ∙ sum_zero m

-- a balance at the nodes is one everywhere
pub everywhere : (a : Axis) (f : ℕ → ℕ) → Ends (tails (listed a)) (length (listed a)) (node_count a) → Ends (heads (listed a)) (length (listed a)) (node_count a) → (sup dem : ℕ → ℕ) → ((k : ℕ) → node_count a ≤ k → sup k ≡ 0) → ((k : ℕ) → node_count a ≤ k → dem k ≡ 0) → Balance (tails (listed a)) (heads (listed a)) f sup dem (length (listed a)) (node_count a) → (k : ℕ) → at_node (heads (listed a)) f (length (listed a)) k + sup k ≡ at_node (tails (listed a)) f (length (listed a)) k + dem k
everywhere a f te he sup dem su de b k = by (dec_lt k (node_count a))
  where
    by : Dec (k < node_count a) → at_node (heads (listed a)) f (length (listed a)) k + sup k ≡ at_node (tails (listed a)) f (length (listed a)) k + dem k
    by (yes l) = b.eq k l
    by (no n) =
        let p = none_ends (heads (listed a)) f (length (listed a)) (node_count a) k he (omega arith) in
        let q = none_ends (tails (listed a)) f (length (listed a)) (node_count a) k te (omega arith) in
        let r = su k (omega arith) in
        let s = de k (omega arith) in
        omega arith

module _ (a : Axis) (k : ℕ) (l : node_count a ≤ k) where
  pub no_supply : supply a k ≡ 0
  no_supply = none_ends (lo_node (length a.sizes)) (weight_of a) (length a.nets) (node_count a) k (record { lt = λ j h. omega arith }) l

  pub no_demand : demand a k ≡ 0
  no_demand = none_ends (hi_node (length a.sizes)) (weight_of a) (length a.nets) (node_count a) k (record { lt = λ j h. omega arith }) l

-- the amounts g of one direction are those of the solver, f
pub record Agrees (ss : List Slot) (f g : List ℕ) : Type 0 where
  pub long : length g ≡ length ss
  pub at : (s : ℕ) → get_or g s 0 ≡ get_or f s 0
