-- The differences of equal macros, which the chip's earliest least placement keeps.
use Prim.Native.Nat.{ℕ, suc, ◌+◌, ◌%◌, ◌≤◌, ◌<◌}
use mathlib.Core.Path.{◌≡◌, ap}
use mathlib.Core.Bool.{Bool, true}
use mathlib.Core.List.{List}
use native.Mathlib.Omega.{arith}
use lib.ListN.{get_or}
use Rattle.model.specs.declared.Spot.{Spot}
use Rattle.model.specs.Meaning.{Chip, blank_spot}
use Rattle.axis_bounds.specs.Listed.{slot}
use Rattle.fit_slots.specs.declared.Direction.TheVariants.{Horizontal as horizontal}
use Rattle.fit_slots.proofs.Pairs.{value_corner}
use Rattle.search_halves.specs.Exchange.{Alike}
use Rattle.search_halves.specs.Kept.{value_on}
use Rattle.search_equal.specs.Answer.{Yes}
use Rattle.search_kept.specs.Differences.{Adds, Holds, limited}
use Rattle.search_order.specs.Order.{OrderKept}

pub order_equal : (c : Chip) (e : List ℕ) (i j : ℕ) → j < 8 → i < j → (b : Bool) → Yes b (Alike c i j) → b ≡ true → (r : List ℕ) → Adds e (limited (slot (i + 1) (j + 1) 0 0)) r → OrderKept c e r
order_equal c e i j lj h b y q r a = record { to = λ ps o k. a.to (value_on horizontal ps) k (holds ps (o.le i j h (y.then q))) }
  where
    holds : (ps : List Spot) → (get_or ps i blank_spot).x ≤ (get_or ps j blank_spot).x → Holds (value_on horizontal ps) (limited (slot (i + 1) (j + 1) 0 0))
    holds ps le =
        let ei : (i + 1) % 9 ≡ suc i = omega arith in
        let ej : (j + 1) % 9 ≡ suc j = omega arith in
        let p : value_on horizontal ps ((i + 1) % 9) ≡ value_on horizontal ps (suc i) = ap (λ (k : ℕ). value_on horizontal ps k) ei in
        let s : value_on horizontal ps ((j + 1) % 9) ≡ value_on horizontal ps (suc j) = ap (λ (k : ℕ). value_on horizontal ps k) ej in
        let u = value_corner horizontal ps (suc i) in let v = value_corner horizontal ps (suc j) in
        omega arith
