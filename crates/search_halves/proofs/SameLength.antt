-- Two macros exchanged whose exchange leaves the nets the same: the wirelength stays.
use Prim.Native.Nat.{ℕ, zero, suc, ◌*◌, ◌≤◌, ◌<◌}
use mathlib.Core.Path.{◌≡◌, refl, sym, ap, subst, ◌∙◌}
use mathlib.Core.Bool.{Bool}
use mathlib.Core.List.{List, [], ◌∷◌, map}
use native.Mathlib.Omega.{arith}
use lib.Dec.{eqb}
use lib.ListN.{length, get_or, length-map, get_or-map}
use borrow.Author.Tests.{eqb-true, eq-eqb}
use Rattle.model.specs.declared.Spot.{Spot}
use Rattle.model.specs.Meaning.{Pin, Chip}
use Rattle.chip_text.specs.Valid.{Valid, no_pin, no_net}
use Rattle.num_laws.specs.Sum.{sum, when}
use Rattle.num_laws.specs.Spread.{top, bottom, spread}
use Rattle.num_laws.proofs.Sums.{sum_eq, sum_pick}
use Rattle.num_laws.proofs.Spreads.{top_bottom, each_le_top, bottom_le_each, top_le, le_bottom}
use Rattle.flow_laws.specs.Flow.{at_node, weigh}
use Rattle.flow_laws.proofs.Duality.{exchange}
use Rattle.placement.specs.Length.{origin, wirelength}
use Rattle.axis_bounds.specs.Axis.{NetOn, bare_net, value_at, place_of, places, nets_length}
use Rattle.axis_bounds.proofs.Places.{net_length, length_sum}
use Rattle.fit_slots.specs.declared.Direction.{Direction}
use Rattle.fit_slots.specs.declared.Direction.TheVariants.{Horizontal as horizontal, Vertical as vertical}
use Rattle.fit_slots.specs.Slots.{pin_place}
use Rattle.fit_slots.specs.Axes.{raised, axis_pin, axis_net, axis_for, corner_on, corners_on}
use Rattle.fit_slots.proofs.Pairs.{value_corner}
use Rattle.fit_slots.proofs.Lengths.{lengths_split}
use Rattle.search_halves.specs.Exchange.{exchanged, renumbered, other_pin, OneOf, net_at, Alike}
use Rattle.search_branches.proofs.Branching.{same_test}
use Rattle.search_halves.proofs.Exchanging.{renumbered_twice, exchanged_at}

-- ---- a sum in another order

module _ (mate : ℕ → ℕ) (n : ℕ) (inside : (a : ℕ) → a < n → mate a < n) (back : (a : ℕ) → a < n → mate (mate a) ≡ a) where
  one_each : (k : ℕ) → k < n → at_node mate (λ s. 1) n k ≡ 1
  unfolding at_node
  one_each k l =
      sum_eq (λ s. when (eqb (mate s) k) 1) (λ s. 1 * when (eqb (mate k) s) 1) n (λ s h. ap (λ (t : Bool). when t 1) (both s h) ∙ once (when (eqb (mate k) s) 1))
      ∙ sum_pick (λ s. 1) (mate k) 1 n (inside k l)
    where
      once : (v : ℕ) → v ≡ 1 * v
      once v = omega arith

      both : (s : ℕ) → s < n → eqb (mate s) k ≡ eqb (mate k) s
      both s h = same_test (eqb (mate s) k) (eqb (mate k) s)
          (λ e. eq-eqb (mate k) s (ap mate (sym (eqb-true (mate s) k e)) ∙ back s h))
          (λ e. eq-eqb (mate s) k (ap mate (sym (eqb-true (mate k) s e)) ∙ back k l))

  pub sum_mate : (x : ℕ → ℕ) → sum (λ a. x (mate a)) n ≡ sum x n
  unfolding weigh
  sum_mate x =
      let e = exchange mate (λ s. 1) x n n (record { lt = inside }) in
      let p = sum_eq (λ a. x a * at_node mate (λ s. 1) n a) x n (λ a l. let o = one_each a l in rw o (times (x a))) in
      let q = sum_eq (λ a. x (mate a) * 1) (λ a. x (mate a)) n (λ a l. times (x (mate a))) in
      sym q ∙ (sym e ∙ p)
    where
      times : (v : ℕ) → v * 1 ≡ v
      times v = omega arith

-- ---- lists with the same numbers

-- v is one of the numbers
pub record Among (s : List ℕ) (v : ℕ) : Type 0 where
  pub place : ℕ
  pub lt : place < length s
  pub is : get_or s place 0 ≡ v

top_among : (s t : List ℕ) → ((k : ℕ) → k < length s → Among t (get_or s k 0)) → top s ≤ top t
top_among s t h = top_le (top t) s (record { at = λ k l. let a = h k l in let b = each_le_top t a.place a.lt in let e = a.is in omega arith })

bottom_among : (s t : List ℕ) → 0 < length s → ((k : ℕ) → k < length s → Among t (get_or s k 0)) → bottom t ≤ bottom s
bottom_among s t n h = le_bottom (bottom t) s n (record { at = λ k l. let a = h k l in let b = bottom_le_each t a.place a.lt in let e = a.is in omega arith })

pub spread_among : (s t : List ℕ) → 0 < length s → 0 < length t → ((k : ℕ) → k < length s → Among t (get_or s k 0)) → ((k : ℕ) → k < length t → Among s (get_or t k 0)) → spread s ≡ spread t
spread_among s t n m f g =
    let a = top_among s t f in let b = top_among t s g in let c = bottom_among s t n f in let d = bottom_among t s m g in
    let e = top_bottom s in let h = top_bottom t in
    omega arith

get_any : {A : Type 0} (s : List A) (k : ℕ) (d e : A) → k < length s → get_or s k d ≡ get_or s k e
get_any [] k d e l = absurd (omega arith)
get_any (a ∷ s) zero d e l = refl
get_any (a ∷ s) (suc k) d e l = get_any s k d e (omega arith)

-- ---- the places of pins

abbrev placed : Direction → List ℕ → Pin → ℕ
placed d z p = place_of z (axis_pin d p)

places_are : (d : Direction) (z : List ℕ) (ps : List Pin) → places z (map (axis_pin d) ps) ≡ map (placed d z) ps
places_are d z [] = refl
places_are d z (p ∷ ps) = ap (λ (s : List ℕ). placed d z p ∷ s) (places_are d z ps)

module _ (d : Direction) (z : List ℕ) (ps : List Pin) where
  placed_long : length (places z (map (axis_pin d) ps)) ≡ length ps
  placed_long = ap {B = ℕ} (λ (s : List ℕ). length s) (places_are d z ps) ∙ length-map ps (placed d z)

  placed_at : (k : ℕ) → k < length ps → get_or (places z (map (axis_pin d) ps)) k 0 ≡ placed d z (get_or ps k no_pin)
  placed_at k l =
      ap (λ (s : List ℕ). get_or s k 0) (places_are d z ps)
      ∙ (get_any (map (placed d z) ps) k 0 (placed d z no_pin) (let e = length-map ps (placed d z) in omega arith) ∙ get_or-map (placed d z) ps k no_pin)

-- ---- the exchange

module _ (c : Chip) (v : Valid c) (i j : ℕ) (alike : Alike c i j) (ps : List Spot) (long : length ps ≡ length c.macs) (d : Direction) where
  abbrev z : List ℕ
  z = corners_on d ps

  abbrev y : List ℕ
  y = corners_on d (exchanged i j ps)

  origin_turned : (k : ℕ) → origin (exchanged i j ps) k ≡ origin ps (renumbered i j k)
  origin_turned zero = refl
  origin_turned (suc k) = exchanged_at i j ps (let a = alike.first in omega arith) (let a = alike.second in omega arith) k

  value_turned : (k : ℕ) → value_at y k ≡ value_at z (renumbered i j k)
  value_turned k = value_corner d (exchanged i j ps) k ∙ (ap (corner_on d) (origin_turned k) ∙ sym (value_corner d ps (renumbered i j k)))

  same_up : (e : Direction) (p : Pin) → raised (pin_place e (other_pin i j p)) ≡ raised (pin_place e p)
  same_up horizontal p = refl
  same_up vertical p = refl

  -- a pin lies where the exchanged pin lay
  place_turned : (p : Pin) → placed d y p ≡ placed d z (other_pin i j p)
  place_turned p = let a = value_turned p.m in let b = same_up d p in omega arith

  place_back : (p : Pin) → placed d y (other_pin i j p) ≡ placed d z p
  place_back p =
      let a = value_turned (renumbered i j p.m) in
      let e : value_at z (renumbered i j (renumbered i j p.m)) ≡ value_at z p.m = ap (value_at z) (renumbered_twice i j p.m) in
      let b = same_up d p in
      omega arith

  module _ (a : ℕ) (l : a < length c.nets) where
    abbrev S : List Pin
    S = (net_at c a).pins

    abbrev M : List Pin
    M = (net_at c (alike.mate a)).pins

    some : (b : ℕ) → b < length c.nets → 0 < length (net_at c b).pins
    some b h = (v.net b h).some

    forth : (k : ℕ) → k < length (places y (map (axis_pin d) S)) → Among (places z (map (axis_pin d) M)) (get_or (places y (map (axis_pin d) S)) k 0)
    forth k h =
        let e = placed_long d y S in let f = placed_long d z M in
        let o = alike.pins a l k (omega arith) in
        let lt = o.lt in
        record {
          place = o.place;
          lt = omega arith;
          is = placed_at d z M o.place o.lt ∙ (ap (placed d z) o.is ∙ (sym (place_turned (get_or S k no_pin)) ∙ sym (placed_at d y S k (omega arith))));
        }

    mate_pins : (k : ℕ) → k < length M → OneOf S (other_pin i j (get_or M k no_pin))
    mate_pins k h = subst (λ (b : ℕ). OneOf (net_at c b).pins (other_pin i j (get_or M k no_pin))) (alike.back a l) (alike.pins (alike.mate a) (alike.inside a l) k h)

    back : (k : ℕ) → k < length (places z (map (axis_pin d) M)) → Among (places y (map (axis_pin d) S)) (get_or (places z (map (axis_pin d) M)) k 0)
    back k h =
        let e = placed_long d y S in let f = placed_long d z M in
        let o = mate_pins k (omega arith) in
        let lt = o.lt in
        record {
          place = o.place;
          lt = omega arith;
          is = placed_at d y S o.place o.lt ∙ (ap (placed d y) o.is ∙ (place_back (get_or M k no_pin) ∙ sym (placed_at d z M k (omega arith))));
        }

    spread_turned : spread (places y (map (axis_pin d) S)) ≡ spread (places z (map (axis_pin d) M))
    spread_turned =
        let e = placed_long d y S in let f = placed_long d z M in let p = some a l in let q = some (alike.mate a) (alike.inside a l) in
        spread_among (places y (map (axis_pin d) S)) (places z (map (axis_pin d) M)) (omega arith) (omega arith) forth back

  net_is : (b : ℕ) → get_or (map (axis_net d) c.nets) b bare_net ≡ axis_net d (net_at c b)
  net_is b = get_or-map (axis_net d) c.nets b no_net

  net_length_law : (x : List ℕ) (b : ℕ) → net_length x (map (axis_net d) c.nets) b ≡ (net_at c b).weight * spread (places x (map (axis_pin d) (net_at c b).pins))
  net_length_law x b = ap (λ (t : NetOn). t.weight * spread (places x t.pins)) (net_is b)

  each_net : (a : ℕ) → a < length (map (axis_net d) c.nets) → net_length y (map (axis_net d) c.nets) a ≡ net_length z (map (axis_net d) c.nets) (alike.mate a)
  each_net a h =
      let l : a < length c.nets = let e = length-map c.nets (axis_net d) in omega arith in
      net_length_law y a
      ∙ (ap (λ (s : ℕ). (net_at c a).weight * s) (spread_turned a l)
      ∙ (ap (λ (w : ℕ). w * spread (places z (map (axis_pin d) (net_at c (alike.mate a)).pins))) (sym (alike.weight a l)) ∙ sym (net_length_law z (alike.mate a))))

  pub same_on : nets_length y (map (axis_net d) c.nets) ≡ nets_length z (map (axis_net d) c.nets)
  same_on =
      let e = length-map c.nets (axis_net d) in
      length_sum y (map (axis_net d) c.nets)
      ∙ (sum_eq (net_length y (map (axis_net d) c.nets)) (λ a. net_length z (map (axis_net d) c.nets) (alike.mate a)) (length (map (axis_net d) c.nets)) each_net
      ∙ (sum_mate alike.mate (length (map (axis_net d) c.nets)) (λ a l. let q = alike.inside a (omega arith) in omega arith) (λ a l. alike.back a (omega arith)) (net_length z (map (axis_net d) c.nets))
      ∙ sym (length_sum z (map (axis_net d) c.nets))))

-- the wirelength stays
pub same_length : (c : Chip) → Valid c → (i j : ℕ) → Alike c i j → (ps : List Spot) → length ps ≡ length c.macs → wirelength c (exchanged i j ps) ≡ wirelength c ps
unfolding axis_for
same_length c v i j alike ps long =
    let a = lengths_split c [] ps v in let b = lengths_split c [] (exchanged i j ps) v in
    let x = same_on c v i j alike ps long horizontal in let y = same_on c v i j alike ps long vertical in
    omega arith
