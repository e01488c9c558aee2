-- Items of one kind stored side by side, w numbers each, and read back. Stores further on leave them as they are.
use Prim.Native.Nat.{ℕ, zero, suc, ◌+◌, ◌*◌, ◌≤◌, ◌<◌}
use mathlib.Core.Path.{◌≡◌, refl, sym, ap, ◌∙◌}
use mathlib.Core.List.{List, [], ◌∷◌, ◌++◌, flat_map, append-nil, append_assoc}
use native.Mathlib.Nat.{le_of_suc-le-suc, mul-le-mul_left}
use native.Mathlib.Numerals.{add-one}
use native.Mathlib.Omega.{arith}
use lib.ListN.{length, get_or, take, set, length-set, length-append, get_or-append}
use lib.Seq.{sets, take-suc, take_all, length-take-le, get_or-set_same, get_or-set_other, get_or-append-add}
use Rattle.num_laws.proofs.Stores.{sets_append}
use Rattle.chip_array.specs.Array.{tabulate}
use Rattle.chip_array.proofs.Tables.{tabulate_of}

-- ---- runs of stores

pub sets_before : (d vs : List ℕ) (a j : ℕ) → j < a → get_or (sets d a vs) j 0 ≡ get_or d j 0
sets_before d [] a j h = refl
sets_before d (v ∷ vs) a j h = sets_before (set d a v) vs (suc a) j (omega arith) ∙ get_or-set_other d a j v 0 (λ e. omega arith)

pub sets_in : (d vs : List ℕ) (a j : ℕ) → j < length vs → a + length vs ≤ length d → get_or (sets d a vs) (a + j) 0 ≡ get_or vs j 0
sets_in d [] a j h g = absurd (omega arith)
sets_in d (v ∷ vs) a zero h g =
    let q : a + 0 ≡ a = omega arith in
    ap (λ (k : ℕ). get_or (sets (set d a v) (suc a) vs) k 0) q ∙ sets_before (set d a v) vs (suc a) a (omega arith) ∙ get_or-set_same d a v 0 (omega arith)
sets_in d (v ∷ vs) a (suc j) h g =
    let q : a + suc j ≡ suc a + j = omega arith in
    let l = length-set d a v in
    ap (λ (k : ℕ). get_or (sets (set d a v) (suc a) vs) k 0) q ∙ sets_in (set d a v) vs (suc a) j (le_of_suc-le-suc h) (omega arith)

-- numbers stored one by one
module _ (d s v : List ℕ) (p q : ℕ) (e : s ≡ sets d p (take q v)) where
  pub put_more : (w : ℕ) → length v ≡ 4 → w ≤ 4 → q < w → set s (p + q) (get_or v q 0) ≡ sets d p (take (q + 1) v)
  put_more w k g h = let l = length-take-le q v (omega arith) in rw (add-one, take-suc v q 0 (omega arith), sets_append, l, e)

  pub put_all : (w : ℕ) → q ≤ w → w ≤ q → s ≡ sets d p (take w v)
  put_all w h g = let k : q ≡ w = omega arith in e ∙ ap (λ (t : ℕ). sets d p (take t v)) k

-- ---- items

-- none stored, and all
module _ {A : Type 0} (numbers : A → List ℕ) where
  pub items_none : (d : List ℕ) (at : ℕ) (xs : List A) → d ≡ sets d at (flat_map numbers (take 0 xs))
  unfolding flat_map
  items_none d at xs = refl

  pub items_all : (n : ℕ) (d s : List ℕ) (at i : ℕ) (xs : List A) → length xs ≡ n → n ≤ i
      → s ≡ sets d at (flat_map numbers (take i xs)) → s ≡ sets d at (flat_map numbers xs)
  items_all n d s at i xs l h e = e ∙ ap (λ (t : List A). sets d at (flat_map numbers t)) (take_all i xs (omega arith))

module _ {A : Type 0} (numbers : A → List ℕ) (w : ℕ) (wide : (a : A) → length (numbers a) ≡ w) where
  pub length_items : (xs : List A) → length (flat_map numbers xs) ≡ w * length xs
  unfolding flat_map
  length_items [] = omega arith
  length_items (x ∷ xs) =
      let i = length_items xs in
      let e = wide x in
      let l = length-append (numbers x) (flat_map numbers xs) in
      omega arith

  items_append : (xs ys : List A) → flat_map numbers (xs ++ ys) ≡ flat_map numbers xs ++ flat_map numbers ys
  unfolding flat_map
  items_append [] ys = refl
  items_append (x ∷ xs) ys = ap (λ (t : List ℕ). numbers x ++ t) (items_append xs ys)
      ∙ sym (append_assoc (numbers x) (flat_map numbers xs) (flat_map numbers ys))

  items_suc : (xs : List A) (i : ℕ) (z : A) → i < length xs
      → flat_map numbers (take (suc i) xs) ≡ flat_map numbers (take i xs) ++ numbers (get_or xs i z)
  unfolding flat_map
  items_suc xs i z h =
      ap (flat_map numbers) (take-suc xs i z h) ∙ items_append (take i xs) (get_or xs i z ∷ [])
      ∙ ap (λ (t : List ℕ). flat_map numbers (take i xs) ++ t) (append-nil (numbers (get_or xs i z)))

  -- number q of item i
  item_at_law : (xs : List A) (i q : ℕ) (z : A) → i < length xs → q < w
      → get_or (flat_map numbers xs) (w * i + q) 0 ≡ get_or (numbers (get_or xs i z)) q 0
  unfolding flat_map
  item_at_law [] i q z h g = absurd (omega arith)
  item_at_law (x ∷ xs) zero q z h g =
      let e = wide x in
      let p : w * 0 + q ≡ q = omega arith in
      ap (λ (k : ℕ). get_or (numbers x ++ flat_map numbers xs) k 0) p ∙ get_or-append (numbers x) (flat_map numbers xs) 0 q (omega arith)
  item_at_law (x ∷ xs) (suc i) q z h g =
      let e = wide x in
      let p : w * suc i + q ≡ length (numbers x) + (w * i + q) = omega arith in
      ap (λ (k : ℕ). get_or (numbers x ++ flat_map numbers xs) k 0) p
      ∙ get_or-append-add (numbers x) (flat_map numbers xs) (w * i + q) 0 ∙ item_at_law xs i q z (le_of_suc-le-suc h) g

  -- one item more is stored
  pub items_more : (d s t : List ℕ) (at i : ℕ) (xs : List A) (z : A) → i < length xs
      → s ≡ sets d at (flat_map numbers (take i xs)) → t ≡ sets s (at + w * i) (numbers (get_or xs i z)) → t ≡ sets d at (flat_map numbers (take (i + 1) xs))
  items_more d s t at i xs z h e f =
      let k = length-take-le i xs (omega arith) in
      let l : length (flat_map numbers (take i xs)) ≡ w * i = length_items (take i xs) ∙ ap (λ (k : ℕ). w * k) k in
      rw (f, add-one, items_suc xs i z h, sets_append, l, e)

  -- item i ends before the items' end
  item_ends : (n i q : ℕ) → i < n → q < w → w * i + q < w * n
  item_ends n i q h g =
      let m = mul-le-mul_left w h in
      let e : w * suc i ≡ w * i + w = omega arith in
      omega arith

  -- n items stored into d at place p are read from every s that is the same up to their end: `read` makes an item of its numbers
  module _ (p n : ℕ) (xs : List A) (l : length xs ≡ n) (z : A) (d s : List ℕ) (fit : p + w * n ≤ length d)
      (same : (j : ℕ) → j < p + w * n → get_or s j 0 ≡ get_or (sets d p (flat_map numbers xs)) j 0) where
    number_at : (i q : ℕ) → i < n → q < w → get_or s (p + w * i + q) 0 ≡ get_or (numbers (get_or xs i z)) q 0
    number_at i q a b =
        let k = length_items xs ∙ ap (λ (t : ℕ). w * t) l in
        let m = item_ends n i q a b in
        let e : p + w * i + q ≡ p + (w * i + q) = omega arith in
        same (p + w * i + q) (omega arith) ∙ ap (λ (k : ℕ). get_or (sets d p (flat_map numbers xs)) k 0) e
        ∙ sets_in d (flat_map numbers xs) p (w * i + q) (omega arith) (omega arith) ∙ item_at_law xs i q z (omega arith) b

    pub items_back : (read : ℕ → A) → 0 < w
        → ((i : ℕ) (a : A) → get_or s (p + w * i) 0 ≡ get_or (numbers a) 0 0 → ((q : ℕ) → q < w → get_or s (p + w * i + q) 0 ≡ get_or (numbers a) q 0) → read i ≡ a)
        → tabulate read n ≡ xs
    items_back read some is = tabulate_of read n xs z l (λ i h.
        let e : p + w * i ≡ p + w * i + 0 = omega arith in
        is i (get_or xs i z) (ap (λ (k : ℕ). get_or s k 0) e ∙ number_at i 0 h some) (λ q g. number_at i q h g))
