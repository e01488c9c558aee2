-- The search tries every placement with its corners in the die, in the order of placements; every legal placement is one of them.
-- So what the search finds is the earliest least legal placement, and where it finds nothing no placement is legal.
use Prim.{Unit, tt}
use Prim.Native.Nat.{ℕ, zero, suc, ◌+◌, ◌≤◌, ◌<◌}
use mathlib.Core.Path.{◌≡◌, refl, sym, ap, subst, ◌∙◌, fun_ext}
use mathlib.Core.Logic.{◌⊎◌, inl, inr}
use mathlib.Core.Bool.{Bool, true, or-true}
use mathlib.Core.List.Memᴰ
use mathlib.Core.List.{List, [], ◌∷◌, ◌++◌, map, Memᴰ, zip_with, flat_map}
use native.Mathlib.Decide.{ℕ_discrete}
use native.Mathlib.Omega.{arith}
use lib.Dec.{ltb}
use lib.ListN.{length}
use borrow.Author.Tests.{lt-ltb, le-ltb, eq-eqb}
use Rattle.num_text.specs.Number.{all_of}
use Rattle.model.specs.declared.Mac.{Mac}
use Rattle.model.specs.declared.Spot.{Spot}
use Rattle.model.specs.Meaning.{Chip}
use Rattle.text_grammar.proofs.Every.{Every}
use Rattle.text_grammar.proofs.Lacks.{and_left, and_right}
use Rattle.geometry.specs.Box.{box_at, in_die}
use Rattle.placement.specs.Legal.{boxes, within, legal}
use Rattle.placement.specs.Length.{wirelength}
use Rattle.placement.specs.Order.{keys, first_smaller, before}
use Rattle.placement.specs.Least.{up_from, corners, placements, Best, nothing, found, try_all, first_least, earliest_least, fit_of}
use Rattle.placement.specs.Demand.{EarliestLeast}
use Rattle.placement.specs.Integers.{Corner, legal_z, EarliestLeastZ, integers}
use Rattle.placement.specs.Letters.{Letter, keeps_letters_z}
use Rattle.placement.specs.Pairs.{pairs, keeps_all, keeps_letters}
use Rattle.placement.proofs.Integers.{legal_same, letters_same, legal_natural, natural_legal, letters_natural, natural_letters, naturals, length_same, earliest_integers}
use Rattle.placement.proofs.Nearby.{corner_inside, within_long, boxes_inside, legal_inside}
use Rattle.placement.proofs.FirstLeast.{Is, LeastAt, NonePasses, first_least_law}

abbrev spot : ℕ → ℕ → Spot
spot x y = record { x = x; y = y }

-- the corners with that x, those with one of the xs, and the placements with one of the corners in front
abbrev column : ℕ → List ℕ → List Spot
column x ys = map (spot x) ys

abbrev grid : List ℕ → List ℕ → List Spot
grid xs ys = flat_map (λ (x : ℕ). column x ys) xs

abbrev in_front : List Spot → List (List Spot) → List (List Spot)
in_front ps rest = flat_map (λ (p : Spot). map (λ (q : List Spot). p ∷ q) rest) ps

-- what the lists hold
pub up_from_has : (a k x : ℕ) → a ≤ x → x < a + k → Memᴰ x (up_from a k)
unfolding up_from
up_from_has a zero x l h = absurd (omega arith)
up_from_has a (suc k) x l h = by (ℕ_discrete x a) (up_from_has (suc a) k x)
  where
    by : Dec (x ≡ a) → (suc a ≤ x → x < suc a + k → Memᴰ x (up_from (suc a) k)) → Memᴰ x (a ∷ up_from (suc a) k)
    by (yes e) ih = Memᴰ.head e
    by (no n) ih = Memᴰ.tail (ih (omega arith) (omega arith))

pub column_has : (x y : ℕ) (ys : List ℕ) → Memᴰ y ys → Memᴰ (spot x y) (column x ys)
column_has x y [] x'' = elim x'' [ ]
column_has x y (b ∷ ys) (Memᴰ.head e) = Memᴰ.head (ap (spot x) e)
column_has x y (b ∷ ys) (Memᴰ.tail m) = Memᴰ.tail (column_has x y ys m)

pub grid_has : (x y : ℕ) (xs ys : List ℕ) → Memᴰ x xs → Memᴰ y ys → Memᴰ (spot x y) (grid xs ys)
unfolding flat_map
grid_has x y [] ys x3 n = elim x3 [ ]
grid_has x y (a ∷ xs) ys (Memᴰ.head e) n = Memᴰ.append_left (grid xs ys) (Memᴰ.cast (ap (λ (z : ℕ). spot z y) e) (column_has a y ys n))
grid_has x y (a ∷ xs) ys (Memᴰ.tail m) n = Memᴰ.append_right (column a ys) (grid_has x y xs ys m n)

pub corners_have : (c : Chip) (p : Spot) → p.x ≤ c.die.w → p.y ≤ c.die.h → Memᴰ p (corners c)
corners_have c p l h = grid_has p.x p.y (up_from 0 (suc c.die.w)) (up_from 0 (suc c.die.h)) (up_from_has 0 (suc c.die.w) p.x (omega arith) (omega arith)) (up_from_has 0 (suc c.die.h) p.y (omega arith) (omega arith))

pub in_front_has : (p : Spot) (ps : List Spot) (all : List Spot) (rest : List (List Spot)) → Memᴰ p all → Memᴰ ps rest → Memᴰ (p ∷ ps) (in_front all rest)
unfolding flat_map
in_front_has p ps [] rest x'' n = elim x'' [ ]
in_front_has p ps (a ∷ all) rest (Memᴰ.head e) n = Memᴰ.append_left (in_front all rest) (Memᴰ.cast (ap (λ (q : Spot). q ∷ ps) e) (Memᴰ.map (λ (q : List Spot). a ∷ q) n))
in_front_has p ps (a ∷ all) rest (Memᴰ.tail m) n = Memᴰ.append_right (map (λ (q : List Spot). a ∷ q) rest) (in_front_has p ps all rest m n)

-- every list of corners, one for each macro, is among the placements
pub placements_have : (ms : List Mac) (all ps : List Spot) → length ps ≡ length ms → Every (λ (p : Spot). Memᴰ p all) ps → Memᴰ ps (placements ms all)
unfolding placements
placements_have [] all [] e i = Memᴰ.head refl
placements_have [] all (p ∷ ps) e i = absurd (omega arith)
placements_have (m ∷ ms) all [] e i = absurd (omega arith)
placements_have (m ∷ ms) all (p ∷ ps) e i = in_front_has p ps all (placements ms all) i.0 (placements_have ms all ps (omega arith) i.1)

in_front_split : (all : List Spot) (rest : List (List Spot)) (ps : List Spot) → Memᴰ ps (in_front all rest)
    → (p : Spot) × (q : List Spot) × (Memᴰ p all) × (Memᴰ q rest) × (ps ≡ p ∷ q)
unfolding flat_map
in_front_split [] rest ps m = absurd (Memᴰ.not-nil m)
in_front_split (a ∷ all) rest ps m = by (Memᴰ.append_cases (map (λ (q : List Spot). a ∷ q) rest) m) (in_front_split all rest ps)
  where
    by : Memᴰ ps (map (λ (q : List Spot). a ∷ q) rest) ⊎ Memᴰ ps (in_front all rest)
        → (Memᴰ ps (in_front all rest) → (p : Spot) × (q : List Spot) × (Memᴰ p all) × (Memᴰ q rest) × (ps ≡ p ∷ q))
        → (p : Spot) × (q : List Spot) × (Memᴰ p (a ∷ all)) × (Memᴰ q rest) × (ps ≡ p ∷ q)
    by (inl n) ih = let r = Memᴰ.of_map (λ (q : List Spot). a ∷ q) rest n in (a, r.0, Memᴰ.head refl, r.1, sym r.2)
    by (inr n) ih = let r = ih n in (r.0, r.1, Memᴰ.tail r.2, r.3, r.4)

-- and every placement there has a corner for each macro
pub placements_long : (ms : List Mac) (all ps : List Spot) → Memᴰ ps (placements ms all) → length ps ≡ length ms
unfolding placements
placements_long [] all ps m = ap {B = ℕ} (λ (s : List Spot). length s) (Memᴰ.eq_of_singleton m)
placements_long (m ∷ ms) all ps k = let r = in_front_split all (placements ms all) ps k in
    let q = placements_long ms all r.1 r.3 in
    ap {B = ℕ} (λ (s : List Spot). length s) r.4 ∙ ap {B = ℕ} (λ (n : ℕ). suc n) q

-- a list in which each element stands before all later ones
module _ {A : Type 0} where
  abbrev pub Ascending : (A → A → Type 0) → List A → Type 0
  Ascending R [] = Unit {0}
  Ascending R (a ∷ s) = ((b : A) → Memᴰ b s → R a b) × Ascending R s

  ascending_append : (R : A → A → Type 0) (s t : List A) → Ascending R s → Ascending R t → ((a b : A) → Memᴰ a s → Memᴰ b t → R a b) → Ascending R (s ++ t)
  ascending_append R [] t p q h = q
  ascending_append R (a ∷ s) t p q h = (λ b m. by b (Memᴰ.append_cases s m), ascending_append R s t p.1 q (λ x y m n. h x y (Memᴰ.tail m) n))
    where
      by : (b : A) → Memᴰ b s ⊎ Memᴰ b t → R a b
      by b (inl m) = p.0 b m
      by b (inr m) = h a b (Memᴰ.head refl) m

  pub ascending_at : (R : A → A → Type 0) (front : List A) (a : A) (behind : List A) → Ascending R (front ++ (a ∷ behind)) → (b : A) → Memᴰ b behind → R a b
  ascending_at R [] a behind p b m = p.0 b m
  ascending_at R (x ∷ front) a behind p b m = ascending_at R front a behind p.1 b m

ascending_map : {A B : Type 0} (S : B → B → Type 0) (R : A → A → Type 0) (f : B → A) → ((a b : B) → S a b → R (f a) (f b)) → (s : List B) → Ascending S s → Ascending R (map f s)
ascending_map S R f h [] p = tt
ascending_map {A = A} S R f h (a ∷ s) p = (λ b m. let r = Memᴰ.of_map f s m in subst (λ (z : A). R (f a) z) r.2 (h a r.0 (p.0 r.0 r.1)), ascending_map S R f h s p.1)

-- the corners ascend
up_from_least : (a k x : ℕ) → Memᴰ x (up_from a k) → a ≤ x
unfolding up_from
up_from_least a zero x m = absurd (Memᴰ.not-nil m)
up_from_least a (suc k) x m = by (Memᴰ.cases_cons m) (up_from_least (suc a) k x)
  where
    by : (x ≡ a) ⊎ Memᴰ x (up_from (suc a) k) → (Memᴰ x (up_from (suc a) k) → suc a ≤ x) → a ≤ x
    by (inl e) ih = omega arith
    by (inr n) ih = let q = ih n in omega arith

up_from_ascends : (a k : ℕ) → Ascending (λ (x y : ℕ). x < y) (up_from a k)
unfolding up_from
up_from_ascends a zero = tt
up_from_ascends a (suc k) = (λ b m. up_from_least (suc a) k b m, up_from_ascends (suc a) k)

abbrev pub Ahead : Spot → Spot → Type 0
Ahead p q = (p.x < q.x) ⊎ ((p.x ≡ q.x) × (p.y < q.y))

column_holds : (x : ℕ) (ys : List ℕ) (q : Spot) → Memᴰ q (column x ys) → (q.x ≡ x) × Memᴰ q.y ys
column_holds x [] q m = absurd (Memᴰ.not-nil m)
column_holds x (y ∷ ys) q m = by (Memᴰ.cases_cons m) (column_holds x ys q)
  where
    by : (q ≡ spot x y) ⊎ Memᴰ q (column x ys) → (Memᴰ q (column x ys) → (q.x ≡ x) × Memᴰ q.y ys) → (q.x ≡ x) × Memᴰ q.y (y ∷ ys)
    by (inl e) ih = (ap {B = ℕ} (λ (s : Spot). s.x) e, Memᴰ.head (ap {B = ℕ} (λ (s : Spot). s.y) e))
    by (inr n) ih = let r = ih n in (r.0, Memᴰ.tail r.1)

grid_holds : (xs ys : List ℕ) (q : Spot) → Memᴰ q (grid xs ys) → Memᴰ q.x xs
unfolding flat_map
grid_holds [] ys q m = absurd (Memᴰ.not-nil m)
grid_holds (x ∷ xs) ys q m = by (Memᴰ.append_cases (column x ys) m) (grid_holds xs ys q)
  where
    by : Memᴰ q (column x ys) ⊎ Memᴰ q (grid xs ys) → (Memᴰ q (grid xs ys) → Memᴰ q.x xs) → Memᴰ q.x (x ∷ xs)
    by (inl n) ih = Memᴰ.head (column_holds x ys q n).0
    by (inr n) ih = Memᴰ.tail (ih n)

column_ascends : (x : ℕ) (ys : List ℕ) → Ascending (λ (a b : ℕ). a < b) ys → Ascending Ahead (column x ys)
column_ascends x [] p = tt
column_ascends x (y ∷ ys) p = (λ q m. let r = column_holds x ys q m in inr (sym r.0, p.0 q.y r.1), column_ascends x ys p.1)

grid_ascends : (xs ys : List ℕ) → Ascending (λ (a b : ℕ). a < b) xs → Ascending (λ (a b : ℕ). a < b) ys → Ascending Ahead (grid xs ys)
unfolding flat_map
grid_ascends [] ys p h = tt
grid_ascends (x ∷ xs) ys p h = ascending_append Ahead (column x ys) (grid xs ys) (column_ascends x ys h) (grid_ascends xs ys p.1 h)
    (λ a b m n. let e = (column_holds x ys a m).0 in let l = p.0 b.x (grid_holds xs ys b n) in inl (omega arith))

pub corners_ascend : (c : Chip) → Ascending Ahead (corners c)
corners_ascend c = grid_ascends (up_from 0 (suc c.die.w)) (up_from 0 (suc c.die.h)) (up_from_ascends 0 (suc c.die.w)) (up_from_ascends 0 (suc c.die.h))

-- and so do the placements
abbrev pub Before : List Spot → List Spot → Type 0
Before ps qs = before ps qs ≡ true

first_differs : (p q : Spot) (ps qs : List Spot) → Ahead p q → Before (p ∷ ps) (q ∷ qs)
unfolding keys first_smaller
first_differs p q ps qs (inl h) = rw (lt-ltb p.x q.x h)
first_differs p q ps qs (inr h) = rw (eq-eqb p.x q.x h.0, lt-ltb p.y q.y h.1) (or-true (ltb p.x q.x))

first_same : (p : Spot) (ps qs : List Spot) → Before ps qs → Before (p ∷ ps) (p ∷ qs)
unfolding keys first_smaller
first_same p ps qs h = rw (le-ltb p.x p.x (omega arith), eq-eqb p.x p.x refl, le-ltb p.y p.y (omega arith), eq-eqb p.y p.y refl) h

in_front_ascends : (all : List Spot) (rest : List (List Spot)) → Ascending Ahead all → Ascending Before rest → Ascending Before (in_front all rest)
unfolding flat_map
in_front_ascends [] rest p h = tt
in_front_ascends (a ∷ all) rest p h = ascending_append Before (map (λ (q : List Spot). a ∷ q) rest) (in_front all rest)
    (ascending_map Before Before (λ (q : List Spot). a ∷ q) (λ x y z. first_same a x y z) rest h)
    (in_front_ascends all rest p.1 h) across
  where
    across : (s t : List Spot) → Memᴰ s (map (λ (q : List Spot). a ∷ q) rest) → Memᴰ t (in_front all rest) → Before s t
    across s t m n = let u = Memᴰ.of_map (λ (q : List Spot). a ∷ q) rest m in let v = in_front_split all rest t n in
        subst (λ (z : List Spot). Before z t) u.2 (subst (λ (z : List Spot). Before (a ∷ u.0) z) (sym v.4) (first_differs a v.0 u.0 v.1 (p.0 v.0 v.2)))

pub placements_ascend : (ms : List Mac) (all : List Spot) → Ascending Ahead all → Ascending Before (placements ms all)
unfolding placements
placements_ascend [] all p = (λ b m. absurd (Memᴰ.not-nil m), tt)
placements_ascend (m ∷ ms) all p = in_front_ascends all (placements ms all) p (placements_ascend ms all p)

-- what stands behind a placement in the list comes after it
pub behind_after : (c : Chip) (ms : List Mac) (front : List (List Spot)) (ps : List Spot) (behind : List (List Spot)) → placements ms (corners c) ≡ front ++ (ps ∷ behind) → (qs : List Spot) → Memᴰ qs behind → before ps qs ≡ true
behind_after c ms front ps behind e = ascending_at Before front ps behind (subst (λ (s : List (List Spot)). Ascending Before s) e (placements_ascend ms (corners c) (corners_ascend c)))

-- a legal placement is one of those tried
spots_in_corners : (c : Chip) (ms : List Mac) (ps : List Spot) → length ps ≡ length ms → all_of (in_die c.die) (boxes ms ps) ≡ true → Every (λ (p : Spot). Memᴰ p (corners c)) ps
unfolding zip_with all_of
spots_in_corners c ms [] e h = tt
spots_in_corners c [] (p ∷ ps) e h = absurd (omega arith)
spots_in_corners c (m ∷ ms) (p ∷ ps) e h =
    let a = corner_inside c m p (and_left (in_die c.die (box_at m p)) (all_of (in_die c.die) (boxes ms ps)) h) in
    (corners_have c p a.0 a.1, spots_in_corners c ms ps (omega arith) (and_right (in_die c.die (box_at m p)) (all_of (in_die c.die) (boxes ms ps)) h))

pub within_in_corners : (c : Chip) (ps : List Spot) → within c ps ≡ true → Memᴰ ps (placements c.macs (corners c))
within_in_corners c ps h =
    let e = within_long c ps h in
    placements_have c.macs (corners c) ps e (spots_in_corners c c.macs ps e (boxes_inside c ps h))

pub legal_in_corners : (c : Chip) (ps : List Spot) → legal c ps ≡ true → Memᴰ ps (placements c.macs (corners c))
legal_in_corners c ps h = within_in_corners c ps (legal_inside c ps h)

-- for every test that only a placement of the list can pass
module _ (c : Chip) (passesZ : List Corner → Bool) (passes : List Spot → Bool) (same : (ps : List Spot) → passesZ (integers ps) ≡ passes ps) (listed : (qs : List Spot) → passes qs ≡ true → Memᴰ qs (placements c.macs (corners c))) where
  abbrev Tried : Best → Type 0
  Tried b = Is c passes (placements c.macs (corners c)) b

  -- trying with the lengths and tests over integers is trying with those over natural corners
  tried_same : first_least c passesZ ≡ try_all (wirelength c) passes (placements c.macs (corners c)) nothing
  unfolding first_least
  tried_same =
      ap (λ (f : List Spot → ℕ). try_all f (λ ps. passesZ (integers ps)) (placements c.macs (corners c)) nothing) (fun_ext (λ (ps : List Spot). length_same c ps))
      ∙ ap (λ (f : List Spot → Bool). try_all (wirelength c) f (placements c.macs (corners c)) nothing) (fun_ext same)

  tried_all : Tried (first_least c passesZ)
  tried_all = subst Tried (sym tried_same) (first_least_law c passes (placements c.macs (corners c)))

  pub found_earliest_least : (l : ℕ) (ps : List Spot) → first_least c passesZ ≡ found l ps → EarliestLeast c passes l ps
  found_earliest_least l ps e = record {
    passed = i.passed;
    long = i.long;
    least = λ qs t. i.least qs (listed qs t) t;
    earliest = λ qs t w n. by qs t w n (Memᴰ.append_cases i.front (subst (λ (s : List (List Spot)). Memᴰ qs s) i.stands (listed qs t)));
  }
    where
      i : LeastAt c passes (placements c.macs (corners c)) l ps
      i = subst Tried e tried_all

      behind : (qs : List Spot) → (qs ≡ ps → ⊥) → (qs ≡ ps) ⊎ Memᴰ qs i.behind → before ps qs ≡ true
      behind qs n (inl q) = absurd (n q)
      behind qs n (inr m) = behind_after c c.macs i.front ps i.behind i.stands qs m

      by : (qs : List Spot) → passes qs ≡ true → l ≡ wirelength c qs → (qs ≡ ps → ⊥) → Memᴰ qs i.front ⊎ Memᴰ qs (ps ∷ i.behind) → before ps qs ≡ true
      by qs t w n (inl m) = let z = i.earliest qs m t in absurd (omega arith)
      by qs t w n (inr m) = behind qs n (Memᴰ.cases_cons m)

  pub found_nothing : first_least c passesZ ≡ nothing → (qs : List Spot) → passes qs ≡ true → ⊥
  found_nothing e qs t = i.fails qs (listed qs t) t
    where
      i : NonePasses passes (placements c.macs (corners c))
      i = subst Tried e tried_all

-- the earliest least legal placement, and where there is none
pub earliest_least_found : (c : Chip) (l : ℕ) (ps : List Spot) → earliest_least c ≡ found l ps → EarliestLeast c (legal c) l ps
earliest_least_found c = found_earliest_least c (legal_z c) (legal c) (legal_same c) (legal_in_corners c)

pub nothing_legal : (c : Chip) → earliest_least c ≡ nothing → (qs : List Spot) → legal c qs ≡ true → ⊥
nothing_legal c = found_nothing c (legal_z c) (legal c) (legal_same c) (legal_in_corners c)

-- the fit of letters: the least that keeps them, of those the earliest, and where there is none
letters_in_corners : (c : Chip) (ls : List Letter) (ps : List Spot) → keeps_letters c ls ps ≡ true → Memᴰ ps (placements c.macs (corners c))
unfolding keeps_letters
letters_in_corners c ls ps h = within_in_corners c ps (and_left (within c ps) (keeps_all c ls (pairs c ps)) h)

pub fit_found : (c : Chip) (ls : List Letter) (l : ℕ) (ps : List Spot) → fit_of c ls ≡ found l ps → EarliestLeast c (keeps_letters c ls) l ps
fit_found c ls = found_earliest_least c (keeps_letters_z c ls) (keeps_letters c ls) (letters_same c ls) (letters_in_corners c ls)

pub nothing_fits : (c : Chip) (ls : List Letter) → fit_of c ls ≡ nothing → (qs : List Spot) → keeps_letters c ls qs ≡ true → ⊥
nothing_fits c ls = found_nothing c (keeps_letters_z c ls) (keeps_letters c ls) (letters_same c ls) (letters_in_corners c ls)

-- ---- the same over all placements with integer corners

pub earliest_least_integers : (c : Chip) (l : ℕ) (ps : List Spot) → earliest_least c ≡ found l ps → EarliestLeastZ c (legal_z c) l (integers ps)
earliest_least_integers c l ps e = earliest_integers c (legal_z c) (legal c) (legal_same c) (legal_natural c) l ps (earliest_least_found c l ps e)

pub nothing_legal_integers : (c : Chip) → earliest_least c ≡ nothing → (qs : List Corner) → legal_z c qs ≡ true → ⊥
nothing_legal_integers c e qs t = nothing_legal c e (naturals qs) (natural_legal c qs t)

pub fit_found_integers : (c : Chip) (ls : List Letter) (l : ℕ) (ps : List Spot) → fit_of c ls ≡ found l ps → EarliestLeastZ c (keeps_letters_z c ls) l (integers ps)
fit_found_integers c ls l ps e = earliest_integers c (keeps_letters_z c ls) (keeps_letters c ls) (letters_same c ls) (letters_natural c ls) l ps (fit_found c ls l ps e)

pub nothing_fits_integers : (c : Chip) (ls : List Letter) → fit_of c ls ≡ nothing → (qs : List Corner) → keeps_letters_z c ls qs ≡ true → ⊥
nothing_fits_integers c ls e qs t = nothing_fits c ls e (naturals qs) (natural_letters c ls qs t)
