-- The greatest and the least place of each net, one entry after the other; and so the length of all nets.
use Prim.Native.Nat.{ℕ, zero, suc, ◌+◌, ◌-◌, ◌*◌, ◌≤◌, ◌<◌, min, max}
use mathlib.Core.Path.{◌≡◌, refl, ap, sym, subst, ◌∙◌}
use mathlib.Core.List.{List, [], ◌∷◌}
use native.Mathlib.Nat.{mul-le-mul}
use native.Mathlib.Numerals.{add-one}
use native.Mathlib.Decide.{ℕ_discrete}
use native.Mathlib.Omega.{arith}
use lib.ListN.{length, get_or, set, replicate, length-set, length-replicate, get_or-replicate}
use lib.Seq.{get_or-set_same, get_or-set_other}
use borrow.Author.Tests.{eq-eqb, ne_eqb}
use mir.Syntax.{w64}
use mir.Val.{Fits}
use Rattle.num_laws.specs.Sum.{sum}
use Rattle.num_laws.proofs.Sums.{sum_eq}
use Rattle.num_laws.proofs.Spreads.{spread_le, top_bottom, top_found, bottom_found}
use Rattle.num_laws.specs.Spread.{most, fewest, spread}
use Rattle.axis_bounds.specs.Axis.{nets_length, value_at, no_pin}
use Rattle.axis_bounds.proofs.Places.{place_at_law}
use Rattle.half_arrays.specs.Arrays.{entry_count, node_at, most_at, least_at, net_at, weight_at, entry_pins, nets_from}
use Rattle.half_arrays.proofs.Nets.{spread_on, nets_length_law}
use Rattle.half_values.specs.Values.{Values, ValuesOf, macros, far, places_on, NetEnds}
use Rattle.half_values.proofs.Valuing.{value_is}

-- ---- one number more

most_max : (s : List ℕ) (a b : ℕ) → most (max a b) s ≡ max (most a s) b
unfolding most
most_max [] a b = refl
most_max (c ∷ s) a b = let e : max (max a b) c ≡ max (max a c) b = omega arith in ap (λ (t : ℕ). most t s) e ∙ most_max s (max a c) b

fewest_min : (s : List ℕ) (a b : ℕ) → fewest (min a b) s ≡ min (fewest a s) b
unfolding fewest
fewest_min [] a b = refl
fewest_min (c ∷ s) a b = let e : min (min a b) c ≡ min (min a c) b = omega arith in ap (λ (t : ℕ). fewest t s) e ∙ fewest_min s (min a c) b

most_two : (s : List ℕ) (a b c : ℕ) → most a (b ∷ c ∷ s) ≡ max (most a s) (max b c)
unfolding most
most_two s a b c = let p = most_max s (max a b) c in let q = most_max s a b in omega arith

fewest_two : (s : List ℕ) (a b c : ℕ) → fewest a (b ∷ c ∷ s) ≡ min (fewest a s) (min b c)
unfolding fewest
fewest_two s a b c = let p = fewest_min s (min a b) c in let q = fewest_min s a b in omega arith

-- ---- one entry more

module _ (tab z : List ℕ) (k j : ℕ) where
  abbrev highest : ℕ
  highest = value_at z (node_at tab k) + max (most_at tab k) (least_at tab k)

  abbrev lowest : ℕ
  lowest = value_at z (node_at tab k) + min (most_at tab k) (least_at tab k)

  places_on_law : net_at tab k ≡ j → places_on tab z (k + 1) j ≡ (value_at z (node_at tab k) + most_at tab k) ∷ (value_at z (node_at tab k) + least_at tab k) ∷ places_on tab z k j
  unfolding entry_pins
  places_on_law e = rw (add-one k, eq-eqb (net_at tab k) j e) refl

  places_off : (net_at tab k ≡ j → ⊥) → places_on tab z (k + 1) j ≡ places_on tab z k j
  unfolding entry_pins
  places_off n = rw (add-one k, ne_eqb (net_at tab k) j n) refl

  top_on_law : net_at tab k ≡ j → most 0 (places_on tab z (k + 1) j) ≡ max (most 0 (places_on tab z k j)) highest
  top_on_law e = ap (most 0) (places_on_law e) ∙ most_two (places_on tab z k j) 0 _ _ ∙ omega arith

  bottom_on_law : net_at tab k ≡ j → fewest far (places_on tab z (k + 1) j) ≡ min (fewest far (places_on tab z k j)) lowest
  bottom_on_law e = ap (fewest far) (places_on_law e) ∙ fewest_two (places_on tab z k j) far _ _ ∙ omega arith

-- a store at the entry's net
at_store : (f g : ℕ → ℕ) (ts : List ℕ) (i b : ℕ) → length ts ≡ 32 → i < 32 → ((j : ℕ) → j < 32 → get_or ts j 0 ≡ f j) → b ≡ g i → ((j : ℕ) → (i ≡ j → ⊥) → g j ≡ f j) → (j : ℕ) → j < 32 → get_or (set ts i b) j 0 ≡ g j
at_store f g ts i b n li h e o j l = by (ℕ_discrete i j)
  where
    by : Dec (i ≡ j) → get_or (set ts i b) j 0 ≡ g j
    by (yes q) = subst (λ (t : ℕ). get_or (set ts i b) t 0 ≡ g t) q (get_or-set_same ts i b 0 (omega arith) ∙ e)
    by (no q) = get_or-set_other ts i j b 0 (λ r. q (sym r)) ∙ h j l ∙ sym (o j q)

pub ends_none : (tab z : List ℕ) → NetEnds tab z 0 (replicate 32 0) (replicate 32 131072)
unfolding entry_pins most fewest
ends_none tab z = record { tops = length-replicate {A = ℕ} 32 0; bottoms = length-replicate {A = ℕ} 32 131072; top = λ j l. get_or-replicate 32 j 0 0 l; bottom = λ j l. get_or-replicate 32 j 131072 0 l }

module _ (tab x : List ℕ) (v : Values x) (k n p q a : ℕ) (en : n ≡ node_at tab k) (ep : p ≡ most_at tab k) (eq : q ≡ least_at tab k) where
  pub highest_adds : a ≡ max p q → Fits w64 (get_or x n 0 + a)
  unfolding most_at least_at
  highest_adds ea = let s = v.small n in omega arith

  pub lowest_adds : a ≡ min p q → Fits w64 (get_or x n 0 + a)
  unfolding most_at least_at
  lowest_adds ea = let s = v.small n in omega arith

  value_of : value_at (macros x) (node_at tab k) ≡ get_or x n 0
  value_of = value_is x v (node_at tab k) ∙ ap (λ (t : ℕ). get_or x t 0) (sym en)

  pub ends_more : (ts bs : List ℕ) (j b c d : ℕ) → NetEnds tab (macros x) k ts bs → j ≡ net_at tab k → a ≡ max p q → b ≡ max (get_or ts j 0) (get_or x n 0 + a) → c ≡ min p q → d ≡ min (get_or bs j 0) (get_or x n 0 + c) → NetEnds tab (macros x) (k + 1) (set ts j b) (set bs j d)
  unfolding net_at
  ends_more ts bs j b c d h ej ea eb ec ed =
      let l : j < 32 = omega arith in
      record {
        tops = length-set ts j b ∙ h.tops;
        bottoms = length-set bs j d ∙ h.bottoms;
        top = at_store (λ i. most 0 (places_on tab (macros x) k i)) (λ i. most 0 (places_on tab (macros x) (k + 1) i)) ts j b h.tops l h.top (let w = value_of in let t = top_on_law tab (macros x) k j (sym ej) in let u = h.top j l in omega arith) (λ i o. ap (most 0) (places_off tab (macros x) k i (λ e. o (ej ∙ e))));
        bottom = at_store (λ i. fewest far (places_on tab (macros x) k i)) (λ i. fewest far (places_on tab (macros x) (k + 1) i)) bs j d h.bottoms l h.bottom (let w = value_of in let t = bottom_on_law tab (macros x) k j (sym ej) in let u = h.bottom j l in omega arith) (λ i o. ap (fewest far) (places_off tab (macros x) k i (λ e. o (ej ∙ e))));
      }

pub net_ends_all : (tab z ts bs : List ℕ) (i m : ℕ) → i ≤ m → m ≤ i → m ≡ entry_count tab → NetEnds tab z i ts bs → NetEnds tab z (entry_count tab) ts bs
net_ends_all tab z ts bs i m le ge em h = let e : entry_count tab ≡ i = omega arith in rw e h

-- ---- the length

-- the spread by the two, where all places are below the start of the least
spread_is : (s : List ℕ) → ((i : ℕ) → i < length s → get_or s i 0 ≤ far) → spread s ≡ most 0 s - fewest far s
unfolding spread most fewest
spread_is [] h = refl
spread_is (a ∷ s) h = let p = top_bottom (a ∷ s) in let q = top_found (a ∷ s) in let r = bottom_found far a s (h 0 (omega arith)) in omega arith

pin_up_law : (tab : List ℕ) (j k i : ℕ) → (get_or (entry_pins tab j k) i no_pin).up ≤ 65535
unfolding entry_pins most_at least_at
pin_up_law tab j zero i = omega arith
pin_up_law tab j (suc k) i = by i (ℕ_discrete (net_at tab k) j) (λ e. pin_up_law tab j k e)
  where
    by : (i : ℕ) → Dec (net_at tab k ≡ j) → ((e : ℕ) → (get_or (entry_pins tab j k) e no_pin).up ≤ 65535) → (get_or (entry_pins tab j (suc k)) i no_pin).up ≤ 65535
    by zero (yes q) ih = rw (eq-eqb (net_at tab k) j q) (omega arith)
    by (suc zero) (yes q) ih = rw (eq-eqb (net_at tab k) j q) (omega arith)
    by (suc (suc e)) (yes q) ih = rw (eq-eqb (net_at tab k) j q) (ih e)
    by e (no q) ih = rw (ne_eqb (net_at tab k) j q) (ih e)

-- the weighed spread of net j
abbrev pub net_term : List ℕ → List ℕ → ℕ → ℕ
net_term tab z j = weight_at tab j * spread (places_on tab z (entry_count tab) j)

pub terms_length : (tab z : List ℕ) → nets_length z (nets_from tab 0 32) ≡ sum (net_term tab z) 32
terms_length tab z = nets_length_law tab z ∙ sum_eq (λ j. spread_on tab z j * weight_at tab j) (net_term tab z) 32 (λ j l. omega arith)

module _ (tab x : List ℕ) (v : Values x) where
  place_most : (k j i : ℕ) → get_or (places_on tab (macros x) k j) i 0 ≤ 73726
  place_most k j i =
      let p = place_at_law (macros x) (entry_pins tab j k) i in
      let n = (get_or (entry_pins tab j k) i no_pin).node in
      let u = pin_up_law tab j k i in
      let w = value_is x v n in
      let s = v.small n in
      omega arith

  term_most : (j : ℕ) → net_term tab (macros x) j ≤ 4831633410
  unfolding weight_at
  term_most j =
      let a = spread_le 73726 (places_on tab (macros x) (entry_count tab) j) (record { at = λ i l. place_most (entry_count tab) j i }) in
      let b : weight_at tab j ≤ 65535 = omega arith in
      let r = mul-le-mul b a in
      omega arith

  terms_most : (j : ℕ) → sum (net_term tab (macros x)) j ≤ j * 4831633410
  unfolding sum
  terms_most zero = omega arith
  terms_most (suc j) = let p = terms_most j in let q = term_most j in omega arith

  module _ (ts bs : List ℕ) (h : NetEnds tab (macros x) (entry_count tab) ts bs) (j w : ℕ) (l : j < 32) (ew : w ≡ weight_at tab j) (c : ℕ) (ec : c ≡ get_or ts j 0 - get_or bs j 0) where
    term_is : w * c ≡ net_term tab (macros x) j
    term_is =
        let s = spread_is (places_on tab (macros x) (entry_count tab) j) (λ i k. let p = place_most (entry_count tab) j i in omega arith) in
        let a = h.top j l in let b = h.bottom j l in
        let d : c ≡ spread (places_on tab (macros x) (entry_count tab) j) = omega arith in
        rw (ew, d) refl

    pub term_fits : Fits w64 (w * c)
    term_fits = let e = term_is in let m = term_most j in omega arith

    module _ (a : ℕ) (ea : a ≡ sum (net_term tab (macros x)) j) where
      pub terms_fits : Fits w64 (a + w * c)
      terms_fits = let e = term_is in let m = term_most j in let n = terms_most j in omega arith

      pub terms_more : a + w * c ≡ sum (net_term tab (macros x)) (j + 1)
      unfolding sum
      terms_more = rw (add-one j) (let e = term_is in omega arith)

pub terms_none : (tab z : List ℕ) → 0 ≡ sum (net_term tab z) 0
unfolding sum
terms_none tab z = refl

pub terms_all : (tab z : List ℕ) (j a : ℕ) → j ≤ 32 → 32 ≤ j → a ≡ sum (net_term tab z) j → a ≡ nets_length z (nets_from tab 0 32)
terms_all tab z j a le ge e = let r : j ≡ 32 = omega arith in e ∙ ap (sum (net_term tab z)) r ∙ sym (terms_length tab z)

pub limited_length : (tab z x : List ℕ) (a : ℕ) → ValuesOf z x → a ≡ nets_length (macros x) (nets_from tab 0 32) → a ≡ nets_length z (nets_from tab 0 32)
limited_length tab z x a v e = e ∙ ap (λ (t : List ℕ). nets_length t (nets_from tab 0 32)) v.is
