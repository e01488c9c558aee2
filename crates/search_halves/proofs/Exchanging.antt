-- Lists with two elements exchanged, and the order of placements.
use Prim.Native.Nat.{ℕ, zero, suc, ◌<◌}
use mathlib.Core.Path.{◌≡◌, refl, sym, ap, ◌∙◌}
use mathlib.Core.Bool.{true}
use mathlib.Core.List.{List, [], ◌∷◌}
use native.Mathlib.Decide.{ℕ_discrete}
use native.Mathlib.Omega.{arith}
use lib.ListN.{length, get_or, set, length-set}
use lib.Seq.{get_or-set_same, get_or-set_other, lt-length-set}
use borrow.Author.Tests.{lt-ltb, le-ltb, eq-eqb, ne_eqb}
use Rattle.model.specs.declared.Spot.{Spot}
use Rattle.model.specs.Meaning.{blank_spot}
use Rattle.placement.specs.Order.{keys, first_smaller, before}
use Rattle.search_halves.specs.Exchange.{turned, exchanged, renumbered}

-- ---- the exchanged number

pub turned_first : (i j : ℕ) → turned i j i ≡ j
unfolding turned
turned_first i j = rw (eq-eqb i i refl)

pub turned_second : (i j : ℕ) → turned i j j ≡ i
unfolding turned
turned_second i j = by (ℕ_discrete j i)
  where
    by : Dec (j ≡ i) → turned i j j ≡ i
    by (yes e) = rw (eq-eqb j i e) e
    by (no n) = rw (ne_eqb j i n, eq-eqb j j refl)

pub turned_other : (i j k : ℕ) → (k ≡ i → ⊥) → (k ≡ j → ⊥) → turned i j k ≡ k
unfolding turned
turned_other i j k m n = rw (ne_eqb k i m, ne_eqb k j n)

-- a fact about i, j and each other number
pub by_turned : (i j : ℕ) (P : ℕ → ℕ → Type 0) → P i j → P j i → ((k : ℕ) → (k ≡ i → ⊥) → (k ≡ j → ⊥) → P k k) → (k : ℕ) → P k (turned i j k)
by_turned i j P p q r k = by (ℕ_discrete k i) (ℕ_discrete k j)
  where
    by : Dec (k ≡ i) → Dec (k ≡ j) → P k (turned i j k)
    by (yes e) d = rw (e, turned_first i j) p
    by (no n) (yes e) = rw (e, turned_second i j) q
    by (no n) (no m) = rw (turned_other i j k n m) (r k n m)

pub turned_twice : (i j k : ℕ) → turned i j (turned i j k) ≡ k
turned_twice i j k = by_turned i j (λ a b. turned i j b ≡ a) (turned_second i j) (turned_first i j) (λ a m n. turned_other i j a m n) k

pub turned_below : (i j n : ℕ) → i < n → j < n → (k : ℕ) → k < n → turned i j k < n
turned_below i j n p q k = by_turned i j (λ a b. a < n → b < n) (λ l. q) (λ l. p) (λ a x y l. l) k

pub turned_apart : (i j k l : ℕ) → (k ≡ l → ⊥) → turned i j k ≡ turned i j l → ⊥
turned_apart i j k l n e = n (sym (turned_twice i j k) ∙ (ap (turned i j) e ∙ turned_twice i j l))

pub renumbered_twice : (i j k : ℕ) → renumbered i j (renumbered i j k) ≡ k
renumbered_twice i j zero = refl
renumbered_twice i j (suc k) = ap {B = ℕ} (λ (n : ℕ). suc n) (turned_twice i j k)

-- ---- the exchanged list

module _ (i j : ℕ) (ps : List Spot) (p : i < length ps) (q : j < length ps) where
  pub exchanged_long : length (exchanged i j ps) ≡ length ps
  exchanged_long = length-set (set ps i (get_or ps j blank_spot)) j (get_or ps i blank_spot) ∙ length-set ps i (get_or ps j blank_spot)

  at_second : get_or (exchanged i j ps) j blank_spot ≡ get_or ps i blank_spot
  at_second = get_or-set_same (set ps i (get_or ps j blank_spot)) j (get_or ps i blank_spot) blank_spot (lt-length-set ps i (get_or ps j blank_spot) q)

  at_first : get_or (exchanged i j ps) i blank_spot ≡ get_or ps j blank_spot
  at_first = by (ℕ_discrete i j)
    where
      by : Dec (i ≡ j) → get_or (exchanged i j ps) i blank_spot ≡ get_or ps j blank_spot
      by (yes e) = ap (λ (k : ℕ). get_or (exchanged i j ps) k blank_spot) e ∙ (at_second ∙ ap (λ (k : ℕ). get_or ps k blank_spot) e)
      by (no n) = get_or-set_other (set ps i (get_or ps j blank_spot)) j i (get_or ps i blank_spot) blank_spot n ∙ get_or-set_same ps i (get_or ps j blank_spot) blank_spot p

  pub exchanged_at : (k : ℕ) → get_or (exchanged i j ps) k blank_spot ≡ get_or ps (turned i j k) blank_spot
  exchanged_at k = by_turned i j (λ a b. get_or (exchanged i j ps) a blank_spot ≡ get_or ps b blank_spot) at_first at_second
      (λ a m n. get_or-set_other (set ps i (get_or ps j blank_spot)) j a (get_or ps i blank_spot) blank_spot n ∙ get_or-set_other ps i a (get_or ps j blank_spot) blank_spot m) k

-- ---- the order

same_first : (p : Spot) (ps qs : List Spot) → before ps qs ≡ true → before (p ∷ ps) (p ∷ qs) ≡ true
unfolding keys first_smaller
same_first p ps qs h = rw (le-ltb p.x p.x (omega arith), eq-eqb p.x p.x refl, le-ltb p.y p.y (omega arith), eq-eqb p.y p.y refl) h

-- a smaller x at place i, and whatever stands at a later place
pub smaller_at : (i j : ℕ) (ps : List Spot) (p q : Spot) → i < j → i < length ps → p.x < (get_or ps i blank_spot).x → before (set (set ps i p) j q) ps ≡ true
unfolding keys first_smaller
smaller_at i j [] p q l h x = absurd (omega arith)
smaller_at i zero (a ∷ ps) p q l h x = absurd (omega arith)
smaller_at zero (suc j) (a ∷ ps) p q l h x = rw (lt-ltb p.x a.x x)
smaller_at (suc i) (suc j) (a ∷ ps) p q l h x = same_first a (set (set ps i p) j q) ps (smaller_at i j ps p q (omega arith) (omega arith) x)

-- the later macro further left: exchanged they come earlier
pub exchanged_earlier : (i j : ℕ) (ps : List Spot) → i < j → j < length ps → (get_or ps j blank_spot).x < (get_or ps i blank_spot).x → before (exchanged i j ps) ps ≡ true
exchanged_earlier i j ps l h x = smaller_at i j ps (get_or ps j blank_spot) (get_or ps i blank_spot) l (omega arith) x
