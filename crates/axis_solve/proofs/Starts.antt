-- The values that the whole graph starts from: hi of a net at the greatest place of its pins, lo at the least.
use mathlib.Core.Path.{◌≡◌, refl, sym, ap, subst, ◌∙◌}
use mathlib.Core.List.{List}
use Prim.Native.Nat.{ℕ, suc, ◌+◌, ◌-◌, ◌*◌, ◌≤◌, ◌<◌}
use native.Mathlib.Decide.{ℕ_discrete}
use native.Mathlib.Omega.{arith}
use mir.Syntax.{w64}
use mir.Val.{Fits}
use lib.ListN.{length, get_or, set, length-set}
use lib.Seq.{get_or-set_same, get_or-set_other}
use Rattle.axis_bounds.specs.declared.AxisPin.{AxisPin}
use Rattle.axis_bounds.specs.declared.AxisNet.{AxisNet}
use Rattle.axis_bounds.specs.Axis.{no_net}
use Rattle.axis_bounds.specs.Listed.{hi_node, lo_node}
use Rattle.axis_bounds.specs.Held.{pins_before}
use Rattle.axis_graph.specs.Limits.{low_most}
use Rattle.axis_graph.specs.Graph.{at}
use Rattle.axis_solve.specs.Start.{pin_at, PinsIn, NetsIn, Around, Resting, Started}
use Rattle.axis_held.proofs.NetPins.{pins_next, pins_within}

-- ---- the pins of one net

module _ (x : List ℕ) (ps : List AxisPin) (from : ℕ) where
  module _ (c : ℕ) (h : PinsIn x ps from (from + c)) (i : ℕ) (l : i < c) where
    pub end_fits : Fits w64 (pin_at x ps (from + i))
    end_fits = let a = h.high (from + i) (omega arith) (omega arith) in omega arith

-- ---- the nets: those before j have their values, and the first `from` pins

pub record Starting (n base : ℕ) (ts : List AxisNet) (ps : List AxisPin) (x y : List ℕ) (from j : ℕ) : Type 0 where
  pub place : from ≡ pins_before j ts
  pub started : Started n base ts ps x y j

module _ (n base : ℕ) (ts : List AxisNet) (ps : List AxisPin) (x : List ℕ) where
  pub start_none : length x ≡ 80 → Resting x → Starting n base ts ps x x 0 0
  unfolding pins_before
  start_none lx r = record { place = refl; started = record { long = lx; same = λ i l. refl; most = r.most; net = λ j l. absurd (omega arith) } }

  module _ (y : List ℕ) (from j : ℕ) (s : Starting n base ts ps x y from j) where
    module _ (t : ℕ) (l : j < t) (room : pins_before t ts ≤ 128) where
      pub start_few : from + (get_or ts j no_net).pins ≤ 128
      start_few = let a = s.place in let b = pins_within j t ts l in omega arith

      pub start_fits : Fits w64 (from + (get_or ts j no_net).pins)
      start_fits = let a = start_few in omega arith

      -- where the pins of net j end
      same_end : pins_before (suc j) ts ≡ from + (get_or ts j no_net).pins
      same_end = let a = s.place in let b = pins_next j ts in omega arith

      pub start_pins : NetsIn x ts ps t → PinsIn x ps from (from + (get_or ts j no_net).pins)
      start_pins h = subst (λ (k : ℕ). PinsIn x ps from k) same_end (subst (λ (k : ℕ). PinsIn x ps k (pins_before (suc j) ts)) (sym s.place) (h.at j l))

      module _ (lo hi : ℕ) (a : Around x ps from (from + (get_or ts j no_net).pins) lo hi) (b : base ≤ 16384) where
        pub start_hi : base ≤ hi
        start_hi = let q = a.middle.1 in omega arith

        pub start_lo : base ≤ lo
        start_lo = let q = a.bottom in omega arith

        module _ (few : n ≤ 8) (most : t ≤ 32) where
          abbrev H : ℕ
          H = n + 1 + 2 * j

          abbrev y' : List ℕ
          y' = set (set y H (hi - base)) (H + 1) (lo - base)

          at_hi : at y' H ≡ hi - base
          at_hi = get_or-set_other (set y H (hi - base)) (H + 1) H (lo - base) 0 (λ e. omega arith) ∙ get_or-set_same y H (hi - base) 0 (let z = s.started.long in omega arith)

          at_lo : at y' (H + 1) ≡ lo - base
          at_lo = get_or-set_same (set y H (hi - base)) (H + 1) (lo - base) 0 (let z = s.started.long in let u = length-set y H (hi - base) in omega arith)

          at_old : (k : ℕ) → (k ≡ H → ⊥) → (k ≡ H + 1 → ⊥) → at y' k ≡ at y k
          at_old k p q = get_or-set_other (set y H (hi - base)) (H + 1) k (lo - base) 0 q ∙ get_or-set_other y H k (hi - base) 0 p

          pub start_more : Starting n base ts ps x y' (from + (get_or ts j no_net).pins) (j + 1)
          start_more =
              record {
                place = sym same_end ∙ ap (λ (k : ℕ). pins_before k ts) (let z : suc j ≡ j + 1 = omega arith in z);
                started = record {
                  long = length-set (set y H (hi - base)) (H + 1) (lo - base) ∙ length-set y H (hi - base) ∙ s.started.long;
                  same = λ k m. at_old k (λ e. omega arith) (λ e. omega arith) ∙ s.started.same k m;
                  most = λ k. most' k (ℕ_discrete k H) (ℕ_discrete k (H + 1));
                  net = λ k m. net k m (ℕ_discrete k j);
                };
              }
            where
              most' : (k : ℕ) → Dec (k ≡ H) → Dec (k ≡ H + 1) → at y' k ≤ low_most
              most' k (yes e) d = rw (e, at_hi) (let q = a.top in omega arith)
              most' k (no e) (yes d) = rw (d, at_lo) (let q = a.middle.0 in omega arith)
              most' k (no e) (no d) = rw (at_old k e d) (s.started.most k)

              here : Around x ps from (from + (get_or ts j no_net).pins) (at y' (lo_node n j) + base) (at y' (hi_node n j) + base)
              here =
                  subst (λ (u : ℕ). Around x ps from (from + (get_or ts j no_net).pins) u (at y' (hi_node n j) + base)) (sym (ap (λ (k : ℕ). at y' k + base) (let z : lo_node n j ≡ H + 1 = omega arith in z) ∙ ap (λ (k : ℕ). k + base) at_lo ∙ (let q = start_lo in let z : lo - base + base ≡ lo = omega arith in z)))
                  (subst (λ (u : ℕ). Around x ps from (from + (get_or ts j no_net).pins) lo u) (sym (ap (λ (k : ℕ). at y' k + base) (let z : hi_node n j ≡ H = omega arith in z) ∙ ap (λ (k : ℕ). k + base) at_hi ∙ (let q = start_hi in let z : hi - base + base ≡ hi = omega arith in z))) a)

              net : (k : ℕ) → k < j + 1 → Dec (k ≡ j) → Around x ps (pins_before k ts) (pins_before (suc k) ts) (at y' (lo_node n k) + base) (at y' (hi_node n k) + base)
              net k m (yes e) = rw e (subst (λ (u : ℕ). Around x ps u (pins_before (suc j) ts) (at y' (lo_node n j) + base) (at y' (hi_node n j) + base)) s.place (subst (λ (u : ℕ). Around x ps from u (at y' (lo_node n j) + base) (at y' (hi_node n j) + base)) (sym same_end) here))
              net k m (no o) = rw (at_old (lo_node n k) (λ e. omega arith) (λ e. omega arith), at_old (hi_node n k) (λ e. omega arith) (λ e. omega arith)) (s.started.net k (omega arith))
