-- A form and its values from one rule on: what the rule ends or begins, and the way that is taken after it.
use mathlib.Core.Path.{◌≡◌, refl}
use mathlib.Core.Bool.{Bool, true, false}
use mathlib.Core.List.{List, [], ◌∷◌}
use Prim.Native.Nat.{ℕ, zero, suc}
use lib.ListN.{get_or}
use borrow.Author.Tests.{eq-eqb, ne_eqb}
use Rattle.text_grammar.specs.Line.{over}
use Rattle.text_grammar.specs.Choice.{next_place}
use Rattle.text_line.specs.declared.Rule.{Rule as HeldRule}
use Rattle.text_line.specs.Layout.{rule_at, pick, way_of, form_at, value_in, place_after, values_at}

module _ (k : ℕ) (rs : List HeldRule) (j : ℕ) where
  module _ (h : (rule_at rs j).size ≡ 0) where
    pub form_ends : form_at k rs j ≡ over
    unfolding form_at
    form_ends = by k
      where
        by : (k : ℕ) → form_at k rs j ≡ over
        by zero = refl
        by (suc k) = rw (eq-eqb (rule_at rs j).size 0 h)

    pub values_end : (s vs : List ℕ) (i : ℕ) → values_at k rs s vs j i ≡ []
    unfolding values_at
    values_end s vs i = by k
      where
        by : (k : ℕ) → values_at k rs s vs j i ≡ []
        by zero = refl
        by (suc k) = rw (eq-eqb (rule_at rs j).size 0 h)

  module _ (h : (rule_at rs j).size ≡ 0 → ⊥) where
    pub form_goes_on : form_at (suc k) rs j ≡ way_of (rule_at rs j) (form_at k rs (next_place j (rule_at rs j).other false)) (form_at k rs (next_place j (rule_at rs j).other true))
    unfolding form_at
    form_goes_on = rw (ne_eqb (rule_at rs j).size 0 h)

    pub values_go_on : (s vs : List ℕ) (i : ℕ) → values_at (suc k) rs s vs j i ≡ value_in s (rule_at rs j) (get_or vs i 0) ∷ values_at k rs s vs (place_after rs j (get_or vs i 0)) (suc i)
    unfolding values_at
    values_go_on s vs i = rw (ne_eqb (rule_at rs j).size 0 h)

  -- the way that is taken
  pub way_taken : (o : ℕ) (b : Bool) → pick b (form_at k rs (next_place j o true)) (form_at k rs (next_place j o false)) ≡ form_at k rs (next_place j o b)
  way_taken o true = refl
  way_taken o false = refl
