-- The fit of letters from a half fit of one direction and the half of a fit in the other.
use Prim.Native.Nat.{ℕ, ◌+◌, ◌-◌, ◌≤◌, min}
use mathlib.Core.Path.{◌≡◌, refl, sym, ap, subst, ◌∙◌}
use mathlib.Core.Bool.{true}
use mathlib.Core.List.{List, []}
use native.Mathlib.Omega.{arith}
use lib.ListN.{length, take}
use Rattle.model.specs.declared.Chip.{Chip as HeldChip}
use Rattle.model.specs.declared.Record.{Record as HeldRecord}
use Rattle.model.specs.declared.Outcome.{Outcome}
use Rattle.model.specs.declared.Outcome.TheVariants as outcome
use Rattle.model.specs.declared.Spot.{Spot}
use Rattle.model.specs.Meaning.{Chip, chip_of, first_of, blank_spot, outcome_of, record_of}
use Rattle.model.proofs.FirstOf.{first_take}
use Rattle.chip_text.specs.Passed.{Passed}
use Rattle.placement.specs.Length.{wirelength}
use Rattle.placement.specs.Letters.{Letter}
use Rattle.placement.specs.Pairs.{keeps_letters}
use Rattle.placement.specs.Least.{Best, nothing, found, fit_of}
use Rattle.placement.proofs.Demand.{fit_found, nothing_fits}
use Rattle.placement.proofs.LengthBound.{wirelength_bound}
use Rattle.axis_bounds.specs.Half.{HalfOn, AboveOn}
use Rattle.fit_slots.specs.declared.Direction.{Direction}
use Rattle.fit_slots.specs.declared.Direction.TheVariants.{Horizontal as horizontal, Vertical as vertical}
use Rattle.fit_slots.specs.Slots.{couples}
use Rattle.fit_slots.specs.Axes.{axis_for, corners_on}
use Rattle.fit_slots.proofs.Counting.{letters_count}
use Rattle.search_branches.specs.Branch.{in_branch}
use Rattle.search_branches.proofs.Closing.{letters_inside}
use Rattle.search_halves.specs.Half.{half, other_way}
use Rattle.search_halves.specs.Result.{placed, NotAfter}
use Rattle.search_halves.proofs.Covers.{branch_keeps, beyond_long, beyond_covers}
use Rattle.search_halves.proofs.Halving.{halves}
use Rattle.half_fit.specs.declared.service.HalfFit.{HalfFit}
use Rattle.half_fit.specs.declared.service.HalfOutcome.{HalfOutcome}
use Rattle.half_fit.specs.declared.service.HalfOutcome.TheVariants as answer
use Rattle.search_best.specs.Best.{result_of, best_of, CountIs, Counted}
use Rattle.search_node.specs.Node.{no_record, FitHeld, room_of}
use Rattle.search_node.specs.Letters.{letters_in, Lettered}
use Rattle.search_join.specs.Joined.{HalfSaid, spots_with, ChildHeld, Beside, FitFor, JoinedFrom}
use Rattle.search_join.proofs.Cornering.{take_with}
use Rattle.search_node.proofs.Records.{no_best, none_counted}
use Rattle.search_node.proofs.Lettering.{letters_long}
use Rattle.placement.proofs.Nearby.{within_near}

-- the placement of a record is its first n corners
pub held_spots : (n : ℕ) (r : HeldRecord) → Counted n r → (l : ℕ) (ps : List Spot) → best_of r ≡ found l ps → ps ≡ take n r.spots
unfolding best_of record_of
held_spots n r k l ps e = by r.outcome k.count e
  where
    spots_in : Best → List Spot
    spots_in nothing = []
    spots_in (found m qs) = qs

    by : (o : Outcome) → CountIs n o → result_of (outcome_of o r.spots) ≡ found l ps → ps ≡ take n r.spots
    by outcome.None q z = let y : ◌≡◌ {A = ℕ} 0 1 = cc in absurd (omega arith)
    by (outcome.Least wl m) q z =
        let f = k.few in let w = k.whole in
        sym (ap spots_in z) ∙ (ap (λ (j : ℕ). first_of blank_spot j r.spots) q ∙ first_take blank_spot n r.spots (omega arith))

pub least_held : (l n : ℕ) (ps : List Spot) → best_of (record { outcome = outcome.Least l n; spots = ps }) ≡ found l (first_of blank_spot n ps)
unfolding best_of record_of
least_held l n ps = refl

-- no placement under letters is longer
pub letters_short : (c : HeldChip) (ls : List Letter) (ps : List Spot) → Passed c → keeps_letters (chip_of c) ls ps ≡ true → wirelength (chip_of c) ps ≤ 589824000
letters_short c ls ps ok k = wirelength_bound (chip_of c) ps ok.valid (within_near (chip_of c) ps (letters_inside (chip_of c) ls ps k) ok.valid)

module _ (c : HeldChip) (letters : List ℕ) (p : ℕ) where
  abbrev C : Chip
  C = chip_of c

  abbrev ls : List Letter
  ls = letters_in letters p

  abbrev n : ℕ
  n = length C.macs

  -- the fit itself
  fit_child : (best r : HeldRecord) → FitHeld c letters p r → ChildHeld c letters p best r
  fit_child best r f = record {
    counted = f.counted;
    fit = λ q. f.is;
    closed = λ z ps b. absurd (nothing_fits C ls (sym f.is ∙ z) ps (branch_keeps C ls ps b));
  }

  module _ (here best : HeldRecord) (d : Direction) (other : ℕ) (ok : Passed c) (b : Beside c letters p here d other) where
    -- no half fit within the room: nothing under the letters replaces the best
    closes : AboveOn (axis_for d C ls) (room_of best.outcome other) → (ps : List Spot) → in_branch C ls ps ≡ true → NotAfter (best_of best) (placed C ps)
    unfolding best_of record_of
    closes a ps h = by best.outcome a
      where
        by : (o : Outcome) → AboveOn (axis_for d C ls) (room_of o other) → NotAfter (result_of (outcome_of o best.spots)) (placed C ps)
        by outcome.None above =
            let q = beyond_long C ls ps h ok.valid d other 4000000000 (corners_on (other_way d) b.spots) b.half above in
            let s = letters_short c ls ps ok (branch_keeps C ls ps h) in
            absurd (omega arith)
        by (outcome.Least m k) above = beyond_covers C ls ps h ok.valid d other (m - other) (corners_on (other_way d) b.spots) b.half above m (first_of blank_spot k best.spots) (omega arith)

    beyond_child : (f : HalfFit) → HalfSaid C ls d (room_of best.outcome other) f.outcome f.at → f.outcome ≡ answer.Beyond → (r : HeldRecord) → r ≡ no_record → ChildHeld c letters p best r
    beyond_child f h e r q = rw q (record {
      counted = none_counted c.n ok.fine.mac_count;
      fit = λ z. absurd (z no_best);
      closed = λ z. closes (subst (λ (o : HalfOutcome). HalfSaid C ls d (room_of best.outcome other) o f.at) e h);
    })

    module _ (e : Lettered c letters p) (many : length letters ≡ 120) (f : HalfFit) (h : HalfSaid C ls d (room_of best.outcome other) f.outcome f.at) (l : ℕ) (q : f.outcome ≡ answer.Fit l) where
      fitted : HalfOn (axis_for d C ls) l (take n f.at)
      fitted = subst (λ (o : HalfOutcome). HalfSaid C ls d (room_of best.outcome other) o f.at) q h

      counted : length ls ≡ length (couples C)
      counted = let g = e.few in letters_long letters p (omega arith) ∙ (e.count ∙ sym (letters_count C))

      both : (w : Direction) (at : List ℕ) (ps : List Spot) → HalfOn (axis_for w C ls) l at → HalfOn (axis_for (other_way w) C ls) other (corners_on (other_way w) ps) → fit_of C ls ≡ found (l + other) (spots_with w at ps)
      both horizontal at ps x y = halves C ls ok.valid counted (half l at) (half other (corners_on vertical ps)) x y
      both vertical at ps x y =
          halves C ls ok.valid counted (half other (corners_on horizontal ps)) (half l at) y x
          ∙ ap (λ (m : ℕ). found m (spots_with vertical at ps)) (let s : other + l ≡ l + other = omega arith in s)

      is : fit_of C ls ≡ found (l + other) (spots_with d (take n f.at) b.spots)
      is = both d (take n f.at) b.spots fitted b.half

      -- no longer than a placement of the chip
      joined_short : l + other ≤ 589824000
      joined_short =
          let g = fit_found C ls (l + other) (spots_with d (take n f.at) b.spots) is in
          let k = letters_short c ls (spots_with d (take n f.at) b.spots) ok g.passed in
          let m = g.long in
          omega arith

      -- the two halves
      joined_child : (m : ℕ) → m ≡ c.n → (ps : List Spot) → length ps ≡ 8 → ps ≡ spots_with d f.at here.spots → ChildHeld c letters p best (record { outcome = outcome.Least (l + other) m; spots = ps })
      joined_child m q ps long ep = rw q (fit_child best (record { outcome = outcome.Least (l + other) c.n; spots = ps }) (record {
        is = held ∙ sym is;
        counted = record { few = ok.fine.mac_count; whole = long; count = refl };
      }))
        where
          first : first_of blank_spot c.n ps ≡ spots_with d (take n f.at) b.spots
          first =
              let g = ok.fine.mac_count in
              first_take blank_spot c.n ps (omega arith)
              ∙ (ap (take c.n) ep ∙ (take_with d c.n f.at here.spots
              ∙ (ap (λ (m : ℕ). spots_with d (take m f.at) (take c.n here.spots)) (sym ok.macs)
              ∙ ap (spots_with d (take n f.at)) (sym (held_spots c.n here b.counted b.length b.spots b.found)))))

          held : best_of (record { outcome = outcome.Least (l + other) c.n; spots = ps }) ≡ found (l + other) (spots_with d (take n f.at) b.spots)
          held = least_held (l + other) c.n ps ∙ ap (found (l + other)) first

-- ---- in the form of the needs

module _ (c : HeldChip) (letters : List ℕ) (p : ℕ) (here best : HeldRecord) (d : Direction) (f : HalfFit) (other : ℕ) where
  pub unshown_joined : (r : HeldRecord) → FitFor c letters p r → JoinedFrom c letters p here best d f other r
  unshown_joined r h = record { held = λ ok e b s. fit_child c letters p best r (h.held ok e) }

  pub beyond_joined : f.outcome ≡ answer.Beyond → (r : HeldRecord) → r ≡ no_record → JoinedFrom c letters p here best d f other r
  beyond_joined q r z = record { held = λ ok e b s. beyond_child c letters p here best d other ok b f s q r z }

  pub halves_joined : length letters ≡ 120 → (l : ℕ) → f.outcome ≡ answer.Fit l → (t : ℕ) → t ≡ min l 4294967296 + min other 4294967296 → (m : ℕ) → m ≡ c.n → (ps : List Spot) → length ps ≡ 8 → ps ≡ spots_with d f.at here.spots
      → JoinedFrom c letters p here best d f other (record { outcome = outcome.Least t m; spots = ps })
  halves_joined many l q t et m em ps long ep = record {
    held = λ ok e b s.
        let k = joined_short c letters p here best d other ok b e many f s l q in
        let same : t ≡ l + other = omega arith in
        rw same (joined_child c letters p here best d other ok b e many f s l q m em ps long ep);
  }
