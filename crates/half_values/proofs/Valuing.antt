-- Coordinates and the values of the nodes.
use Prim.Native.Nat.{ℕ, zero, suc, ◌%◌, ◌≤◌, ◌<◌}
use mathlib.Core.Path.{◌≡◌, refl, ap, sym, subst, ◌∙◌}
use mathlib.Core.List.{List, [], ◌∷◌}
use native.Mathlib.Omega.{arith}
use lib.ListN.{length, get_or}
use Rattle.axis_bounds.specs.Axis.{value_at}
use Rattle.half_arrays.specs.State.{coordinates, limited}
use Rattle.half_values.specs.Values.{Values, ValuesOf, macros}

-- ---- eight numbers

abbrev eight : ℕ → ℕ → ℕ → ℕ → ℕ → ℕ → ℕ → ℕ → List ℕ
eight a b c d e f g h = a ∷ b ∷ c ∷ d ∷ e ∷ f ∷ g ∷ h ∷ []

-- a list of eight numbers by its numbers
by_eight : (z : List ℕ) → length z ≡ 8 → eight (get_or z 0 0) (get_or z 1 0) (get_or z 2 0) (get_or z 3 0) (get_or z 4 0) (get_or z 5 0) (get_or z 6 0) (get_or z 7 0) ≡ z
by_eight [] l = absurd (omega arith)
by_eight (a ∷ []) l = absurd (omega arith)
by_eight (a ∷ b ∷ []) l = absurd (omega arith)
by_eight (a ∷ b ∷ c ∷ []) l = absurd (omega arith)
by_eight (a ∷ b ∷ c ∷ d ∷ []) l = absurd (omega arith)
by_eight (a ∷ b ∷ c ∷ d ∷ e ∷ []) l = absurd (omega arith)
by_eight (a ∷ b ∷ c ∷ d ∷ e ∷ f ∷ []) l = absurd (omega arith)
by_eight (a ∷ b ∷ c ∷ d ∷ e ∷ f ∷ g ∷ []) l = absurd (omega arith)
by_eight (a ∷ b ∷ c ∷ d ∷ e ∷ f ∷ g ∷ h ∷ []) l = refl
by_eight (a ∷ b ∷ c ∷ d ∷ e ∷ f ∷ g ∷ h ∷ i ∷ s) l = absurd (omega arith)

-- each at most 8191
eight_small : (a b c d e f g h : ℕ) → a ≤ 8191 → b ≤ 8191 → c ≤ 8191 → d ≤ 8191 → e ≤ 8191 → f ≤ 8191 → g ≤ 8191 → h ≤ 8191 → (k : ℕ) → get_or (eight a b c d e f g h) k 0 ≤ 8191
eight_small a b c d e f g h la lb lc ld le lf lg lh zero = la
eight_small a b c d e f g h la lb lc ld le lf lg lh (suc zero) = lb
eight_small a b c d e f g h la lb lc ld le lf lg lh (suc (suc zero)) = lc
eight_small a b c d e f g h la lb lc ld le lf lg lh (suc (suc (suc zero))) = ld
eight_small a b c d e f g h la lb lc ld le lf lg lh (suc (suc (suc (suc zero)))) = le
eight_small a b c d e f g h la lb lc ld le lf lg lh (suc (suc (suc (suc (suc zero))))) = lf
eight_small a b c d e f g h la lb lc ld le lf lg lh (suc (suc (suc (suc (suc (suc zero)))))) = lg
eight_small a b c d e f g h la lb lc ld le lf lg lh (suc (suc (suc (suc (suc (suc (suc zero))))))) = lh
eight_small a b c d e f g h la lb lc ld le lf lg lh (suc (suc (suc (suc (suc (suc (suc (suc k)))))))) = omega arith

-- ---- limited numbers

pub limited_same : (z : List ℕ) → ((i : ℕ) → i < length z → get_or z i 0 < 8192) → limited z ≡ z
unfolding limited
limited_same [] h = refl
limited_same (a ∷ s) h =
    let e : a % 8192 ≡ a = let q = h 0 (omega arith) in omega arith in
    ap (λ (t : ℕ). t ∷ limited s) e ∙ ap (λ (t : List ℕ). a ∷ t) (limited_same s (λ i l. h (suc i) (omega arith)))

pub coordinates_small : (st : List ℕ) (o k : ℕ) → get_or (coordinates st o) k 0 ≤ 8191
unfolding coordinates
coordinates_small st o k = eight_small _ _ _ _ _ _ _ _ (omega arith) (omega arith) (omega arith) (omega arith) (omega arith) (omega arith) (omega arith) (omega arith) k

pub coordinates_long : (st : List ℕ) (o : ℕ) → length (coordinates st o) ≡ 8
unfolding coordinates
coordinates_long st o = refl

pub limited_coordinates : (st : List ℕ) (o : ℕ) → limited (coordinates st o) ≡ coordinates st o
limited_coordinates st o = limited_same (coordinates st o) (λ i l. let q = coordinates_small st o i in omega arith)

-- ---- values

limited_most : (z : List ℕ) (k : ℕ) → get_or (limited z) k 0 ≤ 8191
unfolding limited
limited_most [] k = omega arith
limited_most (a ∷ z) zero = omega arith
limited_most (a ∷ z) (suc k) = limited_most z k

limited_long : (z : List ℕ) → length (limited z) ≡ length z
unfolding limited
limited_long [] = refl
limited_long (a ∷ z) = let q = limited_long z in omega arith

pub values_are : (z r : List ℕ) → length z ≡ 8 → r ≡ limited z → ValuesOf (limited z) (0 ∷ eight (get_or r 0 0) (get_or r 1 0) (get_or r 2 0) (get_or r 3 0) (get_or r 4 0) (get_or r 5 0) (get_or r 6 0) (get_or r 7 0))
values_are z r l e = record { values = record { long = refl; corner = refl; small = small }; is = is }
  where
    is : eight (get_or r 0 0) (get_or r 1 0) (get_or r 2 0) (get_or r 3 0) (get_or r 4 0) (get_or r 5 0) (get_or r 6 0) (get_or r 7 0) ≡ limited z
    is = by_eight r (ap length e ∙ limited_long z ∙ l) ∙ e

    small : (k : ℕ) → get_or (0 ∷ eight (get_or r 0 0) (get_or r 1 0) (get_or r 2 0) (get_or r 3 0) (get_or r 4 0) (get_or r 5 0) (get_or r 6 0) (get_or r 7 0)) k 0 ≤ 8191
    small zero = omega arith
    small (suc k) = subst (λ (t : List ℕ). get_or t k 0 ≤ 8191) (sym is) (limited_most z k)

-- coordinates of a state are below the die's side already
pub state_values : (st : List ℕ) (o : ℕ) (z x : List ℕ) → z ≡ coordinates st o → ValuesOf (limited z) x → ValuesOf (coordinates st o) x
state_values st o z x e v = record { values = v.values; is = v.is ∙ ap limited e ∙ limited_coordinates st o }

rest_at : (x : List ℕ) (i : ℕ) → get_or (macros x) i 0 ≡ get_or x (suc i) 0
rest_at [] i = refl
rest_at (a ∷ s) i = refl

-- the values of the nodes, read from the list
pub value_is : (x : List ℕ) → Values x → (k : ℕ) → value_at (macros x) k ≡ get_or x k 0
value_is x v zero = sym v.corner
value_is x v (suc i) = rest_at x i
