-- The passes over the entries and over the bounds, in the shape of the code's needs.
use Prim.Native.Nat.{ℕ, ◌+◌, ◌*◌, ◌/◌, ◌%◌, ◌≤◌, ◌<◌}
use mathlib.Core.Path.{◌≡◌, refl}
use mathlib.Core.List.{List}
use native.Mathlib.Omega.{arith}
use lib.ListN.{get_or, set, replicate}
use mir.Syntax.{w64}
use mir.Val.{Fits}
use Rattle.half_arrays.specs.Arrays.{from_node, to_node, bound_at, entry_count, node_at, most_at, least_at, net_at}
use Rattle.half_arrays.specs.State.{flow_part, hi_part, lo_part, flow_at, hi_at, lo_at}
use Rattle.half_arrays.proofs.Ranges.{amount_most_law, bound_most, count_most, most_most, least_most, node_below, net_below}
use Rattle.half_sums.specs.Sums.{EntrySums, FlowSums, SumsWithin}
use Rattle.half_sums.proofs.Gathering.{any_none, any_small, any_fits, any_more, any_same}
use Rattle.half_sums.proofs.Weighing.{weigh_none, product_fits, adds_fits, adds_more, weighs_same, sum_most_law, sum_next, sum_none}

-- ---- entries

pub entries_none : (tab st : List ℕ) (o : ℕ) → EntrySums tab st o 0 (replicate 9 0) (replicate 9 0) (replicate 32 0) (replicate 32 0) 0 0
entries_none tab st o = record {
  node_high = any_none (node_at tab) st o hi_part 9;
  node_low = any_none (node_at tab) st o lo_part 9;
  net_high = any_none (net_at tab) st o hi_part 32;
  net_low = any_none (net_at tab) st o lo_part 32;
  up = weigh_none (most_at tab) (hi_at st o);
  down = weigh_none (least_at tab) (lo_at st o);
}

module _ (tab st : List ℕ) (o i : ℕ) (nh nl th tl : List ℕ) (u d : ℕ) (s : EntrySums tab st o i nh nl th tl u d) where
  pub high_small : i ≤ 128 → SumsWithin nh
  high_small = any_small (node_at tab) st o hi_part 9 i nh s.node_high

  pub low_small : i ≤ 128 → SumsWithin nl
  low_small = any_small (node_at tab) st o lo_part 9 i nl s.node_low

  pub entries_all : (m : ℕ) → i ≤ m → m ≤ i → m ≡ entry_count tab → EntrySums tab st o (entry_count tab) nh nl th tl u d
  entries_all m l g e = let q : i ≡ entry_count tab = omega arith in rw (← q) s

  module _ (m : ℕ) (lt : i < m) (em : m ≡ entry_count tab) where
    few : i ≤ 128
    few = let c = count_most tab in omega arith

    module _ (k a : ℕ) (dk : k ≡ node_at tab i) where
      pub node_high_fits : a ≡ hi_at st o i → Fits w64 (get_or nh k 0 + a)
      node_high_fits e = any_fits (node_at tab) st o hi_part 9 i k a nh s.node_high e (node_below tab i k dk) few

      pub node_low_fits : a ≡ lo_at st o i → Fits w64 (get_or nl k 0 + a)
      node_low_fits e = any_fits (node_at tab) st o lo_part 9 i k a nl s.node_low e (node_below tab i k dk) few

    module _ (j a : ℕ) (dj : j ≡ net_at tab i) where
      pub net_high_fits : a ≡ hi_at st o i → Fits w64 (get_or th j 0 + a)
      net_high_fits e = any_fits (net_at tab) st o hi_part 32 i j a th s.net_high e (net_below tab i j dj) few

      pub net_low_fits : a ≡ lo_at st o i → Fits w64 (get_or tl j 0 + a)
      net_low_fits e = any_fits (net_at tab) st o lo_part 32 i j a tl s.net_low e (net_below tab i j dj) few

    pub up_fits : (p a : ℕ) → p ≡ most_at tab i → a ≡ hi_at st o i → Fits w64 (u + p * a)
    up_fits p a = adds_fits (most_at tab) st o hi_part (most_most tab) i u p a few s.up

    pub down_fits : (q b : ℕ) → q ≡ least_at tab i → b ≡ lo_at st o i → Fits w64 (d + q * b)
    down_fits q b = adds_fits (least_at tab) st o lo_part (least_most tab) i d q b few s.down

  pub entries_more : (k j p q a b : ℕ) → k ≡ node_at tab i → j ≡ net_at tab i → p ≡ most_at tab i → q ≡ least_at tab i → a ≡ hi_at st o i → b ≡ lo_at st o i → EntrySums tab st o (i + 1) (set nh k (get_or nh k 0 + a)) (set nl k (get_or nl k 0 + b)) (set th j (get_or th j 0 + a)) (set tl j (get_or tl j 0 + b)) (u + p * a) (d + q * b)
  entries_more k j p q a b dk dj ep eq ea eb =
      let lk = node_below tab i (node_at tab i) refl in
      let lj = net_below tab i (net_at tab i) refl in
      record {
        node_high = any_more (node_at tab) st o hi_part 9 i k a nh s.node_high ea dk lk;
        node_low = any_more (node_at tab) st o lo_part 9 i k b nl s.node_low eb dk lk;
        net_high = any_more (net_at tab) st o hi_part 32 i j a th s.net_high ea dj lj;
        net_low = any_more (net_at tab) st o lo_part 32 i j b tl s.net_low eb dj lj;
        up = adds_more (most_at tab) st o hi_part (most_most tab) i u p a s.up ep ea;
        down = adds_more (least_at tab) st o lo_part (least_most tab) i d q b s.down eq eb;
      }

pub most_product : (tab st : List ℕ) (o i p a : ℕ) → p ≡ most_at tab i → a ≡ hi_at st o i → Fits w64 (p * a)
most_product tab st o i p a = product_fits (most_at tab) st o hi_part (most_most tab) i p a

pub least_product : (tab st : List ℕ) (o i q b : ℕ) → q ≡ least_at tab i → b ≡ lo_at st o i → Fits w64 (q * b)
least_product tab st o i q b = product_fits (least_at tab) st o lo_part (least_most tab) i q b

-- ---- bounds

pub flows_none : (arcs st : List ℕ) (o : ℕ) → FlowSums arcs st o 0 (replicate 9 0) (replicate 9 0) 0 0
flows_none arcs st o = record {
  into = any_none to_node st o flow_part 9;
  out = any_none from_node st o flow_part 9;
  all = sum_none (flow_at st o);
  by = weigh_none (bound_at arcs) (flow_at st o);
}

pub bound_product : (arcs st : List ℕ) (o i b a : ℕ) → b ≡ bound_at arcs i → a ≡ flow_at st o i → Fits w64 (b * a)
bound_product arcs st o i b a = product_fits (bound_at arcs) st o flow_part (bound_most arcs) i b a

module _ (arcs st : List ℕ) (o i : ℕ) (is os : List ℕ) (x y : ℕ) (s : FlowSums arcs st o i is os x y) where
  pub into_small : i ≤ 81 → SumsWithin is
  into_small l = any_small to_node st o flow_part 9 i is s.into (omega arith)

  pub out_small : i ≤ 81 → SumsWithin os
  out_small l = any_small from_node st o flow_part 9 i os s.out (omega arith)

  pub flows_all : i ≤ 81 → 81 ≤ i → FlowSums arcs st o 81 is os x y
  flows_all l g = let q : i ≡ 81 = omega arith in rw (← q) s

  module _ (a : ℕ) (ea : a ≡ flow_at st o i) where
    pub flows_same : a ≤ 0 → FlowSums arcs st o (i + 1) is os x y
    flows_same z = record {
      into = any_same to_node st o flow_part 9 i 0 a is s.into ea z;
      out = any_same from_node st o flow_part 9 i 0 a os s.out ea z;
      all = let q = sum_next st o flow_part i in let w = s.all in omega arith;
      by = weighs_same (bound_at arcs) st o flow_part (bound_most arcs) i y a s.by ea z;
    }

    module _ (lt : i < 81) where
      pub into_fits : Fits w64 (get_or is (i % 9) 0 + a)
      into_fits = any_fits to_node st o flow_part 9 i (i % 9) a is s.into ea (omega arith) (omega arith)

      pub out_fits : Fits w64 (get_or os (i / 9) 0 + a)
      out_fits = any_fits from_node st o flow_part 9 i (i / 9) a os s.out ea (omega arith) (omega arith)

      pub all_fits : Fits w64 (x + a)
      all_fits = let q = sum_most_law st o flow_part i in let r = amount_most_law st o flow_part i in let w = s.all in omega arith

      pub by_fits : (b : ℕ) → b ≡ bound_at arcs i → Fits w64 (y + b * a)
      by_fits b eb = adds_fits (bound_at arcs) st o flow_part (bound_most arcs) i y b a (omega arith) s.by eb ea

      pub flows_more : (b : ℕ) → b ≡ bound_at arcs i → FlowSums arcs st o (i + 1) (set is (i % 9) (get_or is (i % 9) 0 + a)) (set os (i / 9) (get_or os (i / 9) 0 + a)) (x + a) (y + b * a)
      flows_more b eb = record {
        into = any_more to_node st o flow_part 9 i (i % 9) a is s.into ea refl (omega arith);
        out = any_more from_node st o flow_part 9 i (i / 9) a os s.out ea refl (omega arith);
        all = let q = sum_next st o flow_part i in let w = s.all in omega arith;
        by = adds_more (bound_at arcs) st o flow_part (bound_most arcs) i y b a s.by eb ea;
      }
