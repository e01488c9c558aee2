-- Of a net's pins on one node only the greatest and the least place count. An axis with other bounds and other pins that keeps the same coordinates and gives them the same length has the same half fit.
use Prim.Native.Nat.{ℕ, ◌≤◌, ◌<◌}
use mathlib.Core.Path.{◌≡◌, ap}
use mathlib.Core.List.{List}
use native.Mathlib.Omega.{arith}
use lib.ListN.{length, get_or}
use Rattle.num_laws.specs.Spread.{top, bottom, spread}
use Rattle.num_laws.proofs.Spreads.{top_bottom, each_le_top, bottom_le_each, top_le, le_bottom}
use Rattle.axis_bounds.specs.declared.AxisPin.{AxisPin}
use Rattle.axis_bounds.specs.Axis.{no_pin, value_at, places}
use Rattle.axis_bounds.proofs.Places.{length_places, place_at_law}

-- one of the pins is on the node of p, and its place is not less than that of p
pub record Over (qs : List AxisPin) (p : AxisPin) : Type 0 where
  pub place : ℕ
  pub lt : place < length qs
  pub node : (get_or qs place no_pin).node ≡ p.node
  pub up : p.up ≤ (get_or qs place no_pin).up

-- or not more
pub record Under (qs : List AxisPin) (p : AxisPin) : Type 0 where
  pub place : ℕ
  pub lt : place < length qs
  pub node : (get_or qs place no_pin).node ≡ p.node
  pub up : (get_or qs place no_pin).up ≤ p.up

-- each pin of one list lies between two pins of the other on its node
pub record Covered (ps qs : List AxisPin) : Type 0 where
  pub some : 0 < length ps
  pub over : (k : ℕ) → k < length ps → Over qs (get_or ps k no_pin)
  pub under : (k : ℕ) → k < length ps → Under qs (get_or ps k no_pin)

module _ (z : List ℕ) (ps qs : List AxisPin) (h : Covered ps qs) where
  top_covered : top (places z ps) ≤ top (places z qs)
  top_covered = top_le (top (places z qs)) (places z ps) (record {
    at = λ k l.
        let e = length_places z ps in let f = length_places z qs in
        let o = h.over k (omega arith) in let lt = o.lt in let up = o.up in
        let n : value_at z (get_or qs o.place no_pin).node ≡ value_at z (get_or ps k no_pin).node = ap (value_at z) o.node in
        let a = place_at_law z ps k in let b = place_at_law z qs o.place in
        let t = each_le_top (places z qs) o.place (omega arith) in
        omega arith;
  })

  bottom_covered : bottom (places z qs) ≤ bottom (places z ps)
  bottom_covered = le_bottom (bottom (places z qs)) (places z ps) (let e = length_places z ps in let s = h.some in omega arith) (record {
    at = λ k l.
        let e = length_places z ps in let f = length_places z qs in
        let o = h.under k (omega arith) in let lt = o.lt in let up = o.up in
        let n : value_at z (get_or qs o.place no_pin).node ≡ value_at z (get_or ps k no_pin).node = ap (value_at z) o.node in
        let a = place_at_law z ps k in let b = place_at_law z qs o.place in
        let t = bottom_le_each (places z qs) o.place (omega arith) in
        omega arith;
  })

-- two lists of pins that cover each other span the same
pub entries_spread : (z : List ℕ) (ps qs : List AxisPin) → Covered ps qs → Covered qs ps → spread (places z ps) ≡ spread (places z qs)
entries_spread z ps qs f g =
    let a = top_covered z ps qs f in let b = top_covered z qs ps g in let c = bottom_covered z ps qs f in let d = bottom_covered z qs ps g in
    let e = top_bottom (places z ps) in let h = top_bottom (places z qs) in
    omega arith
