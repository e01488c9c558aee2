-- Amounts that balance over the arrays are worth at most the length of any coordinates that keep their bounds. Where they are worth as much, what carries is tight.
use Prim.Native.Nat.{ℕ, zero, suc, ◌+◌, ◌*◌, ◌≤◌, ◌<◌}
use mathlib.Core.Path.{◌≡◌, refl, ap, ◌∙◌}
use mathlib.Core.List.{List}
use native.Mathlib.Nat.{mul-le-mul_right}
use native.Mathlib.Omega.{arith}
use Rattle.num_laws.specs.Sum.{sum}
use Rattle.num_laws.proofs.Sums.{sum_le, sum_eq, sum_add, sum_tight}
use Rattle.num_laws.proofs.Spreads.{top_bottom}
use Rattle.flow_laws.specs.Flow.{weigh, Ends, Bounds, Tight}
use Rattle.flow_laws.proofs.Duality.{exchange, weak, cancel, tight_at_least}
use Rattle.axis_bounds.specs.Axis.{Keeps, length_on, places, value_at}
use Rattle.half_arrays.specs.Arrays.{raised, from_node, to_node, bound_at, entry_count, node_at, most_at, least_at, net_at, weight_at, entry_pins, axis_on}
use Rattle.half_arrays.proofs.Ranges.{node_below, net_below}
use Rattle.half_arrays.proofs.Arcs.{keeps_on}
use Rattle.half_arrays.proofs.Nets.{top_on, bottom_on, spread_on, nets_length_law, under_top, over_bottom}
use Rattle.half_worth.specs.Amounts.{at_macro, on_net, Balances, Passes, gained, lost, WorthLength}

scaled : (f a b : ℕ) → a ≤ b → a * f ≤ b * f
scaled f a b h = mul-le-mul_right f h

module _ (tab arcs : List ℕ) (f h l : ℕ → ℕ) (s : Passes tab f h l) (y : List ℕ) (k : Keeps (axis_on tab arcs) y) where
  abbrev m : ℕ
  m = entry_count tab

  abbrev pub x : ℕ → ℕ
  x i = value_at y i

  pub arcs_kept : Bounds from_node to_node (bound_at arcs) (λ c. raised) x 81
  arcs_kept = record { le = (keeps_on tab arcs y k).at }

  nodes_end : Ends (node_at tab) m 9
  nodes_end = record { lt = λ e q. node_below tab e (node_at tab e) refl }

  nets_end : Ends (net_at tab) m 32
  nets_end = record { lt = λ e q. net_below tab e (net_at tab e) refl }

  bounds_worth : weigh (bound_at arcs) f 81 + weigh x (at_macro tab l) 9 ≤ weigh (λ c. raised) f 81 + weigh x (at_macro tab h) 9
  unfolding Balances
  bounds_worth = weak from_node to_node (bound_at arcs) (λ c. raised) f x (at_macro tab l) (at_macro tab h) 81 9 (record { lt = λ c q. omega arith }) (record { lt = λ c q. omega arith }) s.balance arcs_kept

  raised_sum : (n : ℕ) → weigh (λ c. raised) f n ≡ raised * sum f n
  unfolding weigh sum
  raised_sum zero = refl
  raised_sum (suc n) = let q = raised_sum n in omega arith

  same_weighed : (a u w : ℕ → ℕ) (n : ℕ) → ((j : ℕ) → j < n → u j ≡ w j) → weigh a u n ≡ weigh a w n
  unfolding weigh
  same_weighed a u w n e = sum_eq (λ j. a j * u j) (λ j. a j * w j) n (λ j q. ap (λ (t : ℕ). a j * t) (e j q))

  tops : weigh (top_on tab y) (weight_at tab) 32 ≡ weigh (λ e. top_on tab y (net_at tab e)) h m
  tops = let q = exchange (net_at tab) h (top_on tab y) m 32 nets_end in let p = same_weighed (top_on tab y) (on_net tab h) (weight_at tab) 32 s.weights.high in omega arith

  bottoms : weigh (bottom_on tab y) (weight_at tab) 32 ≡ weigh (λ e. bottom_on tab y (net_at tab e)) l m
  bottoms = let q = exchange (net_at tab) l (bottom_on tab y) m 32 nets_end in let p = same_weighed (bottom_on tab y) (on_net tab l) (weight_at tab) 32 s.weights.low in omega arith

  highs : weigh (λ e. x (node_at tab e)) h m + weigh (most_at tab) h m ≤ weigh (λ e. top_on tab y (net_at tab e)) h m
  unfolding weigh
  highs =
      let p = sum_add (λ e. x (node_at tab e) * h e) (λ e. most_at tab e * h e) m in
      let q = sum_le (λ e. x (node_at tab e) * h e + most_at tab e * h e) (λ e. top_on tab y (net_at tab e) * h e) m (λ e r. let t = scaled (h e) _ _ (under_top tab y e r) in omega arith) in
      omega arith

  lows : weigh (λ e. bottom_on tab y (net_at tab e)) l m ≤ weigh (λ e. x (node_at tab e)) l m + weigh (least_at tab) l m
  unfolding weigh
  lows =
      let p = sum_add (λ e. x (node_at tab e) * l e) (λ e. least_at tab e * l e) m in
      let q = sum_le (λ e. bottom_on tab y (net_at tab e) * l e) (λ e. x (node_at tab e) * l e + least_at tab e * l e) m (λ e r. let t = scaled (l e) _ _ (over_bottom tab y e r) in omega arith) in
      omega arith

  lengths : weigh (top_on tab y) (weight_at tab) 32 ≡ weigh (bottom_on tab y) (weight_at tab) 32 + length_on (axis_on tab arcs) y
  unfolding weigh
  lengths =
      let n = nets_length_law tab y in
      let p = sum_add (λ j. bottom_on tab y j * weight_at tab j) (λ j. spread_on tab y j * weight_at tab j) 32 in
      let q = sum_eq (λ j. top_on tab y j * weight_at tab j) (λ j. bottom_on tab y j * weight_at tab j + spread_on tab y j * weight_at tab j) 32 (λ j r. ap (λ (t : ℕ). t * weight_at tab j) (top_bottom (places y (entry_pins tab j (entry_count tab)))) ∙ omega arith) in
      omega arith

  -- they are worth at most the length
  pub worth_most : gained tab arcs f h ≤ lost tab f l + length_on (axis_on tab arcs) y
  unfolding gained lost
  worth_most =
      let a = bounds_worth in let b = raised_sum 81 in
      let c = exchange (node_at tab) l x m 9 nodes_end in let d = exchange (node_at tab) h x m 9 nodes_end in
      let e = tops in let g = bottoms in let i = highs in let j = lows in let n = lengths in
      omega arith

  -- where the amounts are worth the length, what carries is tight
  module _ (w : WorthLength tab arcs f h l y) where
    pub bounds_tight : Tight from_node to_node (bound_at arcs) (λ c. raised) f x 81
    unfolding Balances gained lost
    bounds_tight = tight_at_least from_node to_node (bound_at arcs) (λ c. raised) f x (at_macro tab l) (at_macro tab h) 81 9 (record { lt = λ c q. omega arith }) (record { lt = λ c q. omega arith }) s.balance arcs_kept
        (let b = raised_sum 81 in
        let c = exchange (node_at tab) l x m 9 nodes_end in let d = exchange (node_at tab) h x m 9 nodes_end in
        let e = tops in let g = bottoms in let i = highs in let j = lows in let n = lengths in
        omega arith)

    tops_reached : weigh (λ e. top_on tab y (net_at tab e)) h m ≤ weigh (λ e. x (node_at tab e)) h m + weigh (most_at tab) h m
    unfolding gained lost
    tops_reached =
        let a = bounds_worth in let b = raised_sum 81 in
        let c = exchange (node_at tab) l x m 9 nodes_end in let d = exchange (node_at tab) h x m 9 nodes_end in
        let e = tops in let g = bottoms in let j = lows in let n = lengths in
        omega arith

    bottoms_reached : weigh (λ e. x (node_at tab e)) l m + weigh (least_at tab) l m ≤ weigh (λ e. bottom_on tab y (net_at tab e)) l m
    unfolding gained lost
    bottoms_reached =
        let a = bounds_worth in let b = raised_sum 81 in
        let c = exchange (node_at tab) l x m 9 nodes_end in let d = exchange (node_at tab) h x m 9 nodes_end in
        let e = tops in let g = bottoms in let i = highs in let n = lengths in
        omega arith

    -- an entry that carries to its net's hi lies at the net's greatest place
    pub high_tight : (e : ℕ) → e < entry_count tab → 0 < h e → value_at y (node_at tab e) + most_at tab e ≡ top_on tab y (net_at tab e)
    unfolding weigh
    high_tight e q c =
        let p = sum_add (λ i. x (node_at tab i) * h i) (λ i. most_at tab i * h i) m in
        let t = sum_tight (λ i. x (node_at tab i) * h i + most_at tab i * h i) (λ i. top_on tab y (net_at tab i) * h i) m (λ i r. let u = scaled (h i) _ _ (under_top tab y i r) in omega arith) (let v = tops_reached in omega arith) e q in
        cancel (h e) _ _ c (omega arith) (under_top tab y e q)

    -- an entry that carries from its net's lo lies at the net's least place
    pub low_tight : (e : ℕ) → e < entry_count tab → 0 < l e → bottom_on tab y (net_at tab e) ≡ value_at y (node_at tab e) + least_at tab e
    unfolding weigh
    low_tight e q c =
        let p = sum_add (λ i. x (node_at tab i) * l i) (λ i. least_at tab i * l i) m in
        let t = sum_tight (λ i. bottom_on tab y (net_at tab i) * l i) (λ i. x (node_at tab i) * l i + least_at tab i * l i) m (λ i r. let u = scaled (l i) _ _ (over_bottom tab y i r) in omega arith) (let v = bottoms_reached in omega arith) e q in
        cancel (l e) _ _ c (omega arith) (over_bottom tab y e q)
