-- Differences of both directions: one more in either, tables that nothing keeps, and a letter that they exclude.
use Prim.Native.Nat.{ℕ, ◌≤◌, ◌<◌}
use mathlib.Core.Path.{◌≡◌, sym, subst, ◌∙◌}
use mathlib.Core.Bool.{Bool}
use mathlib.Core.List.{List}
use native.Mathlib.Omega.{arith}
use Rattle.axis_bounds.specs.declared.Slot.{Slot}
use Rattle.fit_slots.specs.declared.Direction.{Direction}
use Rattle.fit_slots.specs.declared.Direction.TheVariants.{Horizontal as horizontal, Vertical as vertical}
use Rattle.search_halves.specs.Kept.{value_on}
use Rattle.search_kept.specs.Differences.{Adds, Holds, limited, excluded, contradicts}
use Rattle.search_kept.proofs.Adding.{excluded_none, contradicts_none, limited_small}
use Rattle.search_node.specs.Letters.{way_at}
use Rattle.search_left.specs.Left.{AddsOn, Over, ExcludedBy}
use Rattle.search_node.proofs.Asking.{way_across, way_up}

pub across_not_up : horizontal ≡ vertical → ⊥
across_not_up q = let w : ◌≡◌ {A = ℕ} 0 1 = cc in absurd (omega arith)

module _ (kx ky : List ℕ) (s : Slot) where
  adds_x : (r : List ℕ) → Adds kx s r → AddsOn horizontal kx ky s r ky
  adds_x r a = record {
    to = λ ps k h. record { x = a.to (value_on horizontal ps) k.x h; y = k.y };
    back = λ ps k. record { x = a.back (value_on horizontal ps) k.x; y = k.y };
    own = λ ps k. a.own (value_on horizontal ps) k.x;
  }

  adds_y : (r : List ℕ) → Adds ky s r → AddsOn vertical kx ky s kx r
  adds_y r a = record {
    to = λ ps k h. record { x = k.x; y = a.to (value_on vertical ps) k.y h };
    back = λ ps k. record { x = k.x; y = a.back (value_on vertical ps) k.y };
    own = λ ps k. a.own (value_on vertical ps) k.y;
  }

  pub adds_across : (i : ℕ) → i < 2 → (rx ry : List ℕ) → Adds kx s rx → ry ≡ ky → AddsOn (way_at i) kx ky s rx ry
  adds_across i h rx ry a e = subst (λ (d : Direction). AddsOn d kx ky s rx ry) (way_across i h) (rw e (adds_x rx a))

  pub adds_up : (i : ℕ) → 2 ≤ i → (rx ry : List ℕ) → rx ≡ kx → Adds ky s ry → AddsOn (way_at i) kx ky s rx ry
  adds_up i h rx ry e a = subst (λ (d : Direction). AddsOn d kx ky s rx ry) (way_up i h) (rw e (adds_y ry a))

-- ---- what is left of a node

module _ (kx ky : List ℕ) where
  pub over_across : (b : Bool) → b ≡ contradicts kx → Over b kx ky
  over_across b e = record { none = λ q ps k. contradicts_none kx (sym e ∙ q) (value_on horizontal ps) k.x }

  pub over_up : (b : Bool) → b ≡ contradicts ky → Over b kx ky
  over_up b e = record { none = λ q ps k. contradicts_none ky (sym e ∙ q) (value_on vertical ps) k.y }

  module _ (i : ℕ) (s : Slot) where
    pub excluded_across : horizontal ≡ way_at i → (b : Bool) → b ≡ excluded kx (limited s) → ExcludedBy b i s kx ky
    excluded_across l b e = record { none = λ q ps k h. excluded_none kx (limited s) (limited_small s) (sym e ∙ q) (value_on horizontal ps) k.x (subst (λ (d : Direction). Holds (value_on d ps) (limited s)) (sym l) h) }

    pub excluded_up : vertical ≡ way_at i → (b : Bool) → b ≡ excluded ky (limited s) → ExcludedBy b i s kx ky
    excluded_up l b e = record { none = λ q ps k h. excluded_none ky (limited s) (limited_small s) (sym e ∙ q) (value_on vertical ps) k.y (subst (λ (d : Direction). Holds (value_on d ps) (limited s)) (sym l) h) }
