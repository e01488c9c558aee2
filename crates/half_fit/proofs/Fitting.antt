-- A proposal that passes every test is the half fit.
use Rattle.std.proofs.Common.{◌≡◌, ℕ, suc, ◌-◌, ◌<◌, ◌≤◌, Bool, true, List, get_or, refl, ap, ◌∙◌, subst, arith}
use native.Mathlib.Decide.{dec_lt}
use lib.ListN.{get_or-eq_default}
use Rattle.axis_bounds.specs.Axis.{Keeps, length_on, nets_length}
use Rattle.axis_bounds.specs.Half.{HalfOn}
use Rattle.half_arrays.specs.Says.{Says}
use Rattle.half_arrays.specs.Arrays.{nets_from, axis_on, KeepsTo}
use Rattle.half_arrays.specs.State.{flow_at, hi_at, lo_at, rank_at, coordinates, limited}
use Rattle.half_worth.specs.Amounts.{Passes, WorthLength}
use Rattle.half_reason.specs.Reasons.{Reasons}
use Rattle.half_worth.specs.Tests.{WorthSums}
use Rattle.half_worth.proofs.Duality.{worth_most}
use Rattle.half_fit.proofs.Smallest.{none_smaller}
use Rattle.half_arrays.proofs.Arcs.{on_keeps}
use Rattle.half_values.proofs.Valuing.{coordinates_small, coordinates_long, limited_coordinates}

-- amounts that pass, coordinates that keep the axis and are no longer than the amounts are worth, a reason for each
pub passes_half : (tab arcs : List ℕ) (f h l : ℕ → ℕ) (z : List ℕ) (rank : ℕ → ℕ) → Passes tab f h l → Keeps (axis_on tab arcs) z → WorthLength tab arcs f h l z → Reasons tab arcs f h l z rank 9 → HalfOn (axis_on tab arcs) (length_on (axis_on tab arcs) z) z
passes_half tab arcs f h l z rank s k w r = record { least = record { keeps = k; least = λ y ky. let q = worth_most tab arcs f h l s y ky in omega arith; smallest = λ y ky e i. each y ky e i (dec_lt i 8) }; long = refl }
  where
    each : (y : List ℕ) → Keeps (axis_on tab arcs) y → length_on (axis_on tab arcs) y ≡ length_on (axis_on tab arcs) z → (i : ℕ) → Dec (i < 8) → get_or z i 0 ≤ get_or y i 0
    each y ky e i (yes q) = none_smaller tab arcs f h l s z k w rank r y ky (omega arith) (suc i) (omega arith)
    each y ky e i (no q) = let n = k.long in let o = get_or-eq_default z 0 {n = i} (omega arith) in omega arith

module _ (tab arcs st : List ℕ) (o : ℕ) (z : List ℕ) (e : z ≡ coordinates st o) where
  coordinates_of : limited z ≡ coordinates st o
  coordinates_of = ap limited e ∙ limited_coordinates st o

  pub shows_fit : (a b c : Bool) (l more less : ℕ) → Says a (KeepsTo arcs (limited z) 81) → a ≡ true → Says b (Reasons tab arcs (flow_at st o) (hi_at st o) (lo_at st o) (coordinates st o) (rank_at st o) 9) → b ≡ true → l ≡ nets_length (limited z) (nets_from tab 0 32) → WorthSums tab arcs st o more less → Says c (Passes tab (flow_at st o) (hi_at st o) (lo_at st o)) → c ≡ true → less ≤ more → l ≤ more - less → HalfOn (axis_on tab arcs) l (coordinates st o)
  shows_fit a b c l more less sa ea sb eb el w sc ec p q =
      let y = coordinates st o in
      let k = on_keeps tab arcs y (coordinates_long st o) (λ i. let r = coordinates_small st o i in omega arith) (subst (λ (t : List ℕ). KeepsTo arcs t 81) coordinates_of (sa.then ea)) in
      let n : l ≡ nets_length y (nets_from tab 0 32) = el ∙ ap (λ (t : List ℕ). nets_length t (nets_from tab 0 32)) coordinates_of in
      let g = w.more in let d = w.less in
      let h = passes_half tab arcs (flow_at st o) (hi_at st o) (lo_at st o) y (rank_at st o) (sc.then ec) k (omega arith) (sb.then eb) in
      rw n h
