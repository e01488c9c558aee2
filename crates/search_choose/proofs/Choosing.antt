-- The choice of a pair: the cursor is at the place of each letter in turn, and the boxes read there are the pair of that place.
use Prim.Native.Nat.{ℕ, ◌+◌, ◌≤◌, ◌<◌}
use mathlib.Core.Path.{◌≡◌, refl, sym, ap, ◌∙◌}
use mathlib.Core.Bool.{Bool, true, false, not}
use mathlib.Core.List.{List, [], map}
use native.Mathlib.Decide.{ℕ_discrete}
use native.Mathlib.Numerals.{add-one}
use native.Mathlib.Omega.{arith}
use lib.Dec.{ltb}
use lib.ListN.{length, get_or, take, get_or-map}
use lib.Seq.{length-take-le, get_or-take}
use borrow.Author.Tests.{lt-ltb, le-ltb, not-true, not-false}
use Rattle.model.specs.declared.Fix.{Fix}
use Rattle.model.specs.declared.Mac.{Mac}
use Rattle.model.specs.declared.Spot.{Spot}
use Rattle.model.specs.declared.Blocks.{Blocks}
use Rattle.model.specs.declared.Chip.{Chip as HeldChip}
use Rattle.model.specs.Meaning.{Chip, chip_of, first_of, blank_fix, blank_mac, blank_spot}
use Rattle.model.specs.Blocks.{blocks_of, bare_of}
use Rattle.model.proofs.BlocksLong.{macs_eight, fixes_eight}
use Rattle.model.proofs.FirstOf.{first_take}
use Rattle.geometry.specs.Box.{apart}
use Rattle.placement.specs.Integers.{gap_of}
use Rattle.placement.specs.Pairs.{Pair, pairs}
use Rattle.fit_slots.specs.Slots.{mac_fix, couples_of}
use Rattle.fit_slots.proofs.Pairs.{pair_of, pairs_couples}
use Rattle.fit_slots.proofs.Counting.{letters_count}
use Rattle.fit_pairs.specs.declared.Cursor.{Cursor}
use Rattle.fit_pairs.specs.Order.{pair_at, couple_at, OnPair, First, next_of}
use Rattle.fit_pairs.proofs.Counts.{all_letters}
use Rattle.fit_pairs.proofs.Places.{AtPlace, place_first, place_on_law, place_next, place_couple, couple_taken}
use Rattle.search_choose.specs.Choice.{no_pair, apart_at, Chosen, PlaceOf, Laid}
use Rattle.search_boxes.specs.Boxes.{mac_box, second_of}

module _ (blocks : Blocks) (spots : List Spot) (p : ℕ) where
  abbrev n : ℕ
  n = blocks.n

  abbrev k : ℕ
  k = blocks.k

  abbrev macs : List Mac
  macs = blocks.macs

  abbrev fixes : List Fix
  fixes = blocks.fixes

  abbrev ms : List Mac
  ms = take n macs

  abbrev fs : List Fix
  fs = take k fixes

  abbrev ps : List Spot
  ps = take n spots

  -- a chip with these macros and fixes
  abbrev bare : Chip
  bare = record { die = record { w = 0; h = 0 }; fixes = fs; macs = ms; nets = [] }

  abbrev apart_here : ℕ → Bool
  apart_here s = apart_at bare (pairs bare ps) s

  pub record Sized : Type 0 where
    pub laid : Laid n k p
    pub mac_count : length ms ≡ n
    pub fix_count : length fs ≡ k
    pub spot_count : length ps ≡ n
    pub macs_first : first_of blank_mac n macs ≡ ms
    pub fixes_first : first_of blank_fix k fixes ≡ fs
    pub pair_count : p ≡ length (couples_of ms fs)

  sized : Laid n k p → length macs ≡ 8 → length fixes ≡ 8 → length spots ≡ 8 → Sized
  sized l lm lf ls =
      let a = l.few in
      let b = l.few_fixes in
      let km = length-take-le n macs (omega arith) in
      let kf = length-take-le k fixes (omega arith) in
      let em = first_take blank_mac n macs (omega arith) in
      let ef = first_take blank_fix k fixes (omega arith) in
      record {
        laid = l;
        mac_count = km;
        fix_count = kf;
        spot_count = length-take-le n spots (omega arith);
        macs_first = em;
        fixes_first = ef;
        pair_count = l.count ∙ sym (all_letters n a k b) ∙ (rw (km, kf) at (sym (letters_count bare)));
      }

  -- s pairs are seen, and best is the place of one that overlaps, with its cursor, or p
  pub record Seen (at : Cursor) (s best : ℕ) (on : Cursor) (most : ℕ) : Type 0 where
    pub size : Sized
    pub place : AtPlace ms fs at s
    pub chosen : best < p → AtPlace ms fs on best
    pub within : best ≤ p
    pub overlap : best < p → apart_here best ≡ false
    pub quiet : best ≡ p → most ≡ 0
    pub apart : best ≡ p → (t : ℕ) → t < s → apart_here t ≡ true

  pub none_seen : (r : Cursor) (A B : Type 0) (u : Mac → A) (v : Fix → B) → Laid n k p → length (map u macs) ≡ 8 → length (map v fixes) ≡ 8 → length spots ≡ 8 → First n r → Seen r 0 p r 0
  none_seen r A B u v l lm lf ls f =
      let z = sized l (macs_eight blocks u lm) (fixes_eight blocks v lf) ls in
      let g : First (length ms) r = rw z.mac_count f in
      record { size = z; place = place_first ms fs r g; chosen = λ h. absurd (omega arith); within = omega arith; overlap = λ h. absurd (omega arith); quiet = λ e. refl; apart = λ e t h. absurd (omega arith) }

  module _ (at : Cursor) (s best : ℕ) (b : Cursor) (most : ℕ) (w : Seen at s best b most) (h : s < p) where
    here : s < length (couples_of ms fs)
    here = let e = w.size.pair_count in omega arith

    on : OnPair n k at
    on = rw (w.size.mac_count, w.size.fix_count) at (place_on_law ms fs at s w.place here)

    -- the pair of place s
    abbrev taken : Pair
    taken = record { first = mac_box blocks spots at.i; second = second_of blocks spots at.fix at.j }

    at_couple : pair_of ps (couple_at macs fixes at) ≡ taken
    at_couple = by at.fix refl
      where
        by : (f : Bool) → at.fix ≡ f → pair_of ps (pair_at macs fixes f at.i at.j) ≡ record { first = mac_box blocks spots at.i; second = second_of blocks spots f at.j }
        by false e = let q = on.macs e in rw (add-one at.i, add-one at.j, get_or-take n spots at.i blank_spot (omega arith), get_or-take n spots at.j blank_spot (omega arith))
        by true e = let q = on.fixes e in rw (add-one at.i, get_or-take n spots at.i blank_spot (omega arith))

    at_place : get_or (pairs bare ps) s no_pair ≡ taken
    at_place =
        ap (λ (t : List Pair). get_or t s no_pair) (pairs_couples bare ps (w.size.spot_count ∙ sym w.size.mac_count))
        ∙ get_or-map (pair_of ps) (couples_of ms fs) s (mac_fix 0 blank_mac blank_fix)
        ∙ ap (pair_of ps) (place_couple ms fs at s w.place here (mac_fix 0 blank_mac blank_fix) ∙ sym (couple_taken macs fixes n k at on))
        ∙ at_couple

    module _ (v : ℕ) (ev : ltb 0 v ≡ not (apart (gap_of bare) taken.first taken.second)) where
      apart_not : not (apart_here s) ≡ ltb 0 v
      apart_not = sym (ev ∙ ap (λ (q : Pair). not (apart (gap_of bare) q.first q.second)) (sym at_place))

      scored_overlap : 0 < v → apart_here s ≡ false
      scored_overlap g = not-true (apart_here s) (apart_not ∙ lt-ltb 0 v g)

      scored_apart : v ≤ 0 → apart_here s ≡ true
      scored_apart g = not-false (apart_here s) (apart_not ∙ le-ltb 0 v g)

      module _ (r : Cursor) (er : r ≡ next_of at n k) where
        onward : AtPlace ms fs r (s + 1)
        onward = rw er (rw (w.size.mac_count, w.size.fix_count) at (place_next ms fs at s w.place here))

        pub taken_seen : most < v → Seen r (s + 1) s at v
        taken_seen g = record {
          size = w.size;
          place = onward;
          chosen = λ o. w.place;
          within = omega arith;
          overlap = λ o. scored_overlap (omega arith);
          quiet = λ e. absurd (omega arith);
          apart = λ e. absurd (omega arith);
        }

        pub left_seen : v ≤ most → Seen r (s + 1) best b most
        left_seen g = record {
          size = w.size;
          place = onward;
          chosen = w.chosen;
          within = w.within;
          overlap = w.overlap;
          quiet = w.quiet;
          apart = λ e t o. by e t o (ℕ_discrete t s);
        }
          where
            by : best ≡ p → (t : ℕ) → t < s + 1 → Dec (t ≡ s) → apart_here t ≡ true
            by e t b (yes q) = let z = w.quiet e in rw q (scored_apart (omega arith))
            by e t b (no q) = w.apart e t (omega arith)

  pub all_placed : (at : Cursor) (s best : ℕ) (b : Cursor) (most : ℕ) → Seen at s best b most → PlaceOf blocks p best b
  all_placed at s best b most w = record {
    on = λ h. on_best h;
    couple = λ h z. rw (w.size.macs_first, w.size.fixes_first) (place_couple ms fs b best (w.chosen h) (inside h) z ∙ sym (couple_taken macs fixes n k b (on_best h)));
  }
    where
      inside : best < p → best < length (couples_of ms fs)
      inside h = let e = w.size.pair_count in omega arith

      on_best : best < p → OnPair n k b
      on_best h = rw (w.size.mac_count, w.size.fix_count) at (place_on_law ms fs b best (w.chosen h) (inside h))

-- ---- the chip

module _ (c : HeldChip) (spots : List Spot) (p : ℕ) where
  pub chip_chosen : (r : ℕ) → Chosen (bare_of (blocks_of c)) (take c.n spots) p r → Chosen (chip_of c) (take c.n spots) p r
  unfolding chip_of pairs
  chip_chosen r h = record { place = h.place; overlap = h.overlap; none = h.none }
