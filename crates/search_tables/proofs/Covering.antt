-- The pins that the entries of a net stand for, and its own pins cover each other; so the nets of the array are as long as the chip's.
use Prim.Native.Nat.{ℕ, zero, suc, ◌+◌, ◌-◌, ◌*◌, ◌≤◌, ◌<◌}
use mathlib.Core.Path.{◌≡◌, refl, sym, ap, subst, ◌∙◌}
use mathlib.Core.List.{List, [], ◌∷◌}
use native.Mathlib.Decide.{ℕ_discrete}
use native.Mathlib.Omega.{arith}
use lib.ListN.{length, get_or}
use borrow.Author.Tests.{eq-eqb, ne_eqb}
use Rattle.num_laws.specs.Spread.{spread}
use Rattle.axis_bounds.specs.declared.AxisPin.{AxisPin}
use Rattle.axis_bounds.specs.Axis.{NetOn, no_pin, bare_net, places, nets_length}
use Rattle.search_halves.proofs.Entries.{Covered}
use Rattle.half_arrays.specs.Arrays.{entry_count, node_at, most_at, least_at, net_at, weight_at, pin_at, entry_pins, nets_from}
use Rattle.search_tables.specs.Entries.{Lies, Backed, Entered}
use Rattle.search_tables.proofs.Entering.{PinsWithin}

-- ---- the pins of an array's net

-- where the two pins of entry x stand
record Paired (tab : List ℕ) (ps : List AxisPin) (x : ℕ) : Type 0 where
  place : ℕ
  lt : suc place < length ps
  most : get_or ps place no_pin ≡ pin_at (node_at tab x) (most_at tab x)
  least : get_or ps (suc place) no_pin ≡ pin_at (node_at tab x) (least_at tab x)

paired_on : (tab : List ℕ) (a b : AxisPin) (ps : List AxisPin) (x : ℕ) → Paired tab ps x → Paired tab (a ∷ b ∷ ps) x
paired_on tab a b ps x h = let l = h.lt in record { place = suc (suc h.place); lt = omega arith; most = h.most; least = h.least }

module _ (tab : List ℕ) (j : ℕ) where
  paired : (k x : ℕ) → x < k → net_at tab x ≡ j → Paired tab (entry_pins tab j k) x
  unfolding entry_pins
  paired zero x l e = absurd (omega arith)
  paired (suc k) x l e = by (ℕ_discrete x k) (ℕ_discrete (net_at tab k) j) (λ g. paired k x g e)
    where
      by : Dec (x ≡ k) → Dec (net_at tab k ≡ j) → (x < k → Paired tab (entry_pins tab j k) x) → Paired tab (entry_pins tab j (suc k)) x
      by (yes q) (yes d) ih = rw (q, eq-eqb (net_at tab k) j d) (record { place = 0; lt = omega arith; most = refl; least = refl })
      by (yes q) (no d) ih = absurd (d (ap (net_at tab) (sym q) ∙ e))
      by (no n) (yes d) ih = rw (eq-eqb (net_at tab k) j d) (paired_on tab _ _ _ x (ih (omega arith)))
      by (no n) (no d) ih = rw (ne_eqb (net_at tab k) j d) (ih (omega arith))

module _ (p : ℕ → AxisPin) (q : ℕ → ℕ) (tab : List ℕ) (j : ℕ) where
  abbrev LiesAt : AxisPin → Type 0
  LiesAt a = Lies p (q j) (q (suc j)) a.node a.up

  backed_most : (x : ℕ) → net_at tab x ≡ j → Backed p q tab x → LiesAt (pin_at (node_at tab x) (most_at tab x))
  backed_most x e b = subst (λ (a : ℕ). Lies p (q a) (q (suc a)) (node_at tab x) (most_at tab x)) e b.most

  backed_least : (x : ℕ) → net_at tab x ≡ j → Backed p q tab x → LiesAt (pin_at (node_at tab x) (least_at tab x))
  backed_least x e b = subst (λ (a : ℕ). Lies p (q a) (q (suc a)) (node_at tab x) (least_at tab x)) e b.least

  two_more : (a b : AxisPin) (ps : List AxisPin) → LiesAt a → LiesAt b → ((i : ℕ) → i < length ps → LiesAt (get_or ps i no_pin)) → (i : ℕ) → i < length (a ∷ b ∷ ps) → LiesAt (get_or (a ∷ b ∷ ps) i no_pin)
  two_more a b ps x y h zero l = x
  two_more a b ps x y h (suc zero) l = y
  two_more a b ps x y h (suc (suc i)) l = h i (omega arith)

  -- each is a pin of the net
  entry_lies : (k : ℕ) → ((x : ℕ) → x < k → Backed p q tab x) → (i : ℕ) → i < length (entry_pins tab j k) → LiesAt (get_or (entry_pins tab j k) i no_pin)
  unfolding entry_pins
  entry_lies zero h = λ i l. absurd (omega arith)
  entry_lies (suc k) h = by (ℕ_discrete (net_at tab k) j) (entry_lies k (λ x g. h x (omega arith)))
    where
      by : Dec (net_at tab k ≡ j) → ((i : ℕ) → i < length (entry_pins tab j k) → LiesAt (get_or (entry_pins tab j k) i no_pin)) → (i : ℕ) → i < length (entry_pins tab j (suc k)) → LiesAt (get_or (entry_pins tab j (suc k)) i no_pin)
      by (yes d) ih = rw (eq-eqb (net_at tab k) j d) (two_more (pin_at (node_at tab k) (most_at tab k)) (pin_at (node_at tab k) (least_at tab k)) (entry_pins tab j k) (backed_most k d (h k (omega arith))) (backed_least k d (h k (omega arith))) ih)
      by (no d) ih = rw (ne_eqb (net_at tab k) j d) ih

  -- ---- beside the pins of the chip's net

  module _ (small : PinsWithin p) (e k : ℕ) (h : Entered p q tab e k) (past : 9 * suc j ≤ k) (ps : List AxisPin) (ends : q (suc j) ≡ q j + length ps) (at : (i : ℕ) → i < length ps → get_or ps i no_pin ≡ p (q j + i)) (some : 0 < length ps) where
    abbrev es : List AxisPin
    es = entry_pins tab j e

    pub covered_there : Covered ps es
    covered_there = record {
      some = some;
      over = λ i l.
          let n = small.node (q j + i) in
          let t = h.stood j (q j + i) (omega arith) (omega arith) (omega arith) in
          let s = paired tab j e t.entry t.lt t.net in let g = s.lt in
          let a : (get_or es s.place no_pin).up ≡ most_at tab t.entry = ap (λ (o : AxisPin). o.up) s.most in
          let b : (get_or ps i no_pin).up ≡ (p (q j + i)).up = ap (λ (o : AxisPin). o.up) (at i l) in
          let u = t.under in
          record { place = s.place; lt = omega arith; node = ap (λ (o : AxisPin). o.node) s.most ∙ (t.node ∙ ap (λ (o : AxisPin). o.node) (sym (at i l))); up = omega arith };
      under = λ i l.
          let n = small.node (q j + i) in
          let t = h.stood j (q j + i) (omega arith) (omega arith) (omega arith) in
          let s = paired tab j e t.entry t.lt t.net in let g = s.lt in
          let a : (get_or es (suc s.place) no_pin).up ≡ least_at tab t.entry = ap (λ (o : AxisPin). o.up) s.least in
          let b : (get_or ps i no_pin).up ≡ (p (q j + i)).up = ap (λ (o : AxisPin). o.up) (at i l) in
          let u = t.over in
          record { place = suc s.place; lt = omega arith; node = ap (λ (o : AxisPin). o.node) s.least ∙ (t.node ∙ ap (λ (o : AxisPin). o.node) (sym (at i l))); up = omega arith };
    }

    pin_is : (i : ℕ) → q j ≤ i → i < q (suc j) → get_or ps (i - q j) no_pin ≡ p i
    pin_is i l g = at (i - q j) (omega arith) ∙ ap p (omega arith)

    pub covered_back : Covered es ps
    covered_back = record {
      some = let o = (covered_there.over 0 some).lt in omega arith;
      over = λ i l.
          let m = entry_lies e h.backed i l in let lo = m.low in let hi = m.high in
          let r = pin_is m.place lo hi in
          let a : (get_or ps (m.place - q j) no_pin).up ≡ (p m.place).up = ap (λ (o : AxisPin). o.up) r in
          let u = m.up in
          record { place = m.place - q j; lt = omega arith; node = ap (λ (o : AxisPin). o.node) r ∙ m.node; up = omega arith };
      under = λ i l.
          let m = entry_lies e h.backed i l in let lo = m.low in let hi = m.high in
          let r = pin_is m.place lo hi in
          let a : (get_or ps (m.place - q j) no_pin).up ≡ (p m.place).up = ap (λ (o : AxisPin). o.up) r in
          let u = m.up in
          record { place = m.place - q j; lt = omega arith; node = ap (λ (o : AxisPin). o.node) r ∙ m.node; up = omega arith };
    }

-- ---- lengths

-- net a of the array weighs and spans what another net does
pub record AsNet (tab z : List ℕ) (a : ℕ) (u : NetOn) : Type 0 where
  pub weight : weight_at tab a ≡ u.weight
  pub spans : spread (places z (entry_pins tab a (entry_count tab))) ≡ spread (places z u.pins)

pub nets_length_law : (tab z : List ℕ) (us : List NetOn) (j k : ℕ) → length us ≤ k → ((i : ℕ) → i < length us → AsNet tab z (j + i) (get_or us i bare_net)) → ((i : ℕ) → length us ≤ i → i < k → weight_at tab (j + i) ≡ 0) → nets_length z (nets_from tab j k) ≡ nets_length z us
unfolding nets_length nets_from
nets_length_law tab z [] j zero l h g = refl
nets_length_law tab z (u ∷ us) j zero l h g = absurd (omega arith)
nets_length_law tab z [] j (suc k) l h g =
    let q : j + 0 ≡ j = omega arith in
    let w : weight_at tab j ≡ 0 = ap (weight_at tab) (sym q) ∙ g 0 (omega arith) (omega arith) in
    let r = nets_length_law tab z [] (suc j) k (omega arith) (λ i n. absurd (omega arith)) (λ i n m. let s : suc j + i ≡ j + suc i = omega arith in ap (weight_at tab) s ∙ g (suc i) (omega arith) (omega arith)) in
    rw (w, r) (omega arith)
nets_length_law tab z (u ∷ us) j (suc k) l h g =
    let q : j + 0 ≡ j = omega arith in
    let a : AsNet tab z j u = subst (λ (i : ℕ). AsNet tab z i u) q (h 0 (omega arith)) in
    let r = nets_length_law tab z us (suc j) k (omega arith)
    (λ i n. let s : j + suc i ≡ suc j + i = omega arith in subst (λ (o : ℕ). AsNet tab z o (get_or us i bare_net)) s (h (suc i) (omega arith)))
    (λ i n m. let s : suc j + i ≡ j + suc i = omega arith in ap (weight_at tab) s ∙ g (suc i) (omega arith) (omega arith)) in
    rw (a.weight, a.spans, r)
