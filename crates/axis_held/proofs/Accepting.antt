-- The test of an axis: the pins between two places, and the nets one after the other.
use mathlib.Core.Path.{◌≡◌, refl, sym, ap, subst, ◌∙◌}
use mathlib.Core.Bool.{Bool, true, false}
use mathlib.Core.List.{List}
use Prim.Native.Nat.{ℕ, suc, ◌+◌, ◌-◌, ◌≤◌, ◌<◌}
use native.Mathlib.Decide.{ℕ_discrete}
use native.Mathlib.Omega.{arith}
use lib.ListN.{get_or, length, take, drop, length-take, length-drop}
use lib.Seq.{get_or-take, get_or-drop}
use Rattle.std.specs.Bool.{MatchBool}
use Rattle.std.specs.List.{AllWithin, HoldsAt}
use Rattle.axis_bounds.specs.declared.AxisPin.{AxisPin}
use Rattle.axis_bounds.specs.declared.AxisNet.{AxisNet}
use Rattle.axis_bounds.specs.Axis.{no_pin, no_net, WellFormedPin}
use Rattle.axis_bounds.specs.Held.{pins_before}
use Rattle.axis_graph.specs.Graph.{Decides}
use Rattle.axis_held.specs.Accept.{PinsTo, NetCounts, NetTo, NetsTo}
use Rattle.axis_graph.proofs.Answers.{says_yes, says_no}
use Rattle.axis_held.proofs.NetPins.{pins_next}

-- ---- the pins between two places

module _ (n : ℕ) (ps : List AxisPin) (from to : ℕ) (l : from ≤ to) (m : to ≤ length ps) where
  pin_between : (k : ℕ) → from + k < to → get_or (take (to - from) (drop from ps)) k no_pin ≡ get_or ps (from + k) no_pin
  pin_between k o = get_or-take (to - from) (drop from ps) k no_pin (omega arith) ∙ get_or-drop from ps k no_pin

  count_between : length (take (to - from) (drop from ps)) ≡ to - from
  count_between = let a = length-drop from ps in let b = length-take (to - from) (drop from ps) in omega arith

  pub pins_by : (r : Bool) → MatchBool r (AllWithin (WellFormedPin n) (take (to - from) (drop from ps)) 0 (length (take (to - from) (drop from ps)))) ((k : ℕ) × (k < length (take (to - from) (drop from ps))) × HoldsAt (λ q. WellFormedPin n q → ⊥) (take (to - from) (drop from ps)) k) → Decides r (PinsTo n ps from to)
  pins_by true h = says_yes (record { at = λ i a b. let e = count_between in subst (λ (u : ℕ). WellFormedPin n (get_or ps u no_pin)) (let z : from + (i - from) ≡ i = omega arith in z) (subst (WellFormedPin n) (pin_between (i - from) (omega arith)) (h (i - from) no_pin (omega arith) (omega arith))) })
  pins_by false h = says_no (λ p. let e = count_between in let o = h.1 in h.2 no_pin (subst (WellFormedPin n) (sym (pin_between h.0 (omega arith))) (p.at (from + h.0) (omega arith) (omega arith))))

-- ---- the nets: those before j are fine, and have the first `from` pins

pub record NetsRead (n : ℕ) (ts : List AxisNet) (ps : List AxisPin) (from j : ℕ) : Type 0 where
  pub place : from ≡ pins_before j ts
  pub few : from ≤ 128
  pub fine : NetsTo n ts ps j

module _ (n : ℕ) (ts : List AxisNet) (ps : List AxisPin) where
  pub nets_none : NetsRead n ts ps 0 0
  unfolding pins_before
  nets_none = record { place = refl; few = omega arith; fine = record { at = λ j l. absurd (omega arith) } }

  module _ (from j t : ℕ) (h : NetsRead n ts ps from j) (l : j < t) (k : AxisNet) (is : k ≡ get_or ts j no_net) (b : Bool) (d : Decides b (NetCounts k from)) where
    pub counts_no : b ≡ false → Decides false (NetsTo n ts ps t)
    counts_no e = says_no (λ q. d.fails e (subst (λ (u : AxisNet). NetCounts u from) (sym is) (rw h.place (q.at j l).counts)))

    module _ (e : b ≡ true) (r : Bool) (p : Decides r (PinsTo n ps from (from + k.pins))) where
      same : pins_before (suc j) ts ≡ from + k.pins
      same = let a = pins_next j ts in let o = h.place in let c = ap (λ (u : AxisNet). u.pins) is in omega arith

      pub net_no : r ≡ false → Decides false (NetsTo n ts ps t)
      net_no o = says_no (λ q. p.fails o (subst (λ (u : ℕ). PinsTo n ps from u) same (subst (λ (u : ℕ). PinsTo n ps u (pins_before (suc j) ts)) (sym h.place) (q.at j l).pins)))

      pub nets_more : r ≡ true → NetsRead n ts ps (from + k.pins) (j + 1)
      nets_more o = record { place = sym same ∙ ap (λ (u : ℕ). pins_before u ts) (omega arith); few = let q = (d.holds e).fit in let s = h.few in omega arith; fine = record { at = λ i m. by i m (ℕ_discrete i j) } }
        where
          here : NetTo n ts ps j
          here = record { counts = subst (NetCounts (get_or ts j no_net)) h.place (subst (λ (u : AxisNet). NetCounts u from) is (d.holds e)); pins = subst (λ (u : ℕ). PinsTo n ps u (pins_before (suc j) ts)) h.place (subst (λ (u : ℕ). PinsTo n ps from u) (sym same) (p.holds o)) }

          by : (i : ℕ) → i < j + 1 → Dec (i ≡ j) → NetTo n ts ps i
          by i m (yes q) = rw q here
          by i m (no q) = h.fine.at i (omega arith)
