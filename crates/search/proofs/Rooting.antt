-- The root: a dot for each pair, the fit of the dots with the lengths of its halves, and differences that every legal placement keeps.
use Prim.Native.Nat.{ℕ, zero, suc, ◌/◌, ◌%◌}
use mathlib.Core.Path.{◌≡◌, refl, sym, ap, subst, ◌∙◌}
use mathlib.Core.Bool.{true}
use mathlib.Core.List.{List, [], ◌∷◌, map}
use native.Mathlib.Omega.{arith}
use lib.ListN.{length, get_or, take, replicate}
use Rattle.model.specs.declared.Chip.{Chip as HeldChip}
use Rattle.model.specs.declared.Record.{Record as HeldRecord}
use Rattle.model.specs.declared.Spot.{Spot}
use Rattle.model.specs.Meaning.{Chip, chip_of}
use Rattle.chip_text.specs.Passed.{Passed}
use Rattle.placement.specs.Legal.{legal}
use Rattle.placement.specs.Letters.{Letter, dot}
use Rattle.placement.specs.Pairs.{keeps_letters}
use Rattle.placement.specs.Least.{found}
use Rattle.placement.proofs.Demand.{fit_found}
use Rattle.axis_bounds.specs.Axis.{Keeps, value_at, length_on, nets_length}
use Rattle.fit_slots.specs.declared.Direction.{Direction}
use Rattle.fit_slots.specs.declared.Direction.TheVariants.{Horizontal as horizontal, Vertical as vertical}
use Rattle.fit_slots.specs.Axes.{axis_net, axis_for, corners_on}
use Rattle.fit_slots.specs.Fit.{dots}
use Rattle.fit_slots.proofs.Keeping.{keeps_splits}
use Rattle.fit_pairs.specs.Count.{letter_total}
use Rattle.search_branches.specs.Branch.{in_branch}
use Rattle.search_branches.proofs.Branching.{dots_branch}
use Rattle.search_halves.specs.Kept.{value_on}
use Rattle.search_halves.proofs.Covers.{branch_keeps}
use Rattle.search_kept.specs.Differences.{KeptBy, Starts}
use Rattle.half_arrays.specs.Arrays.{bound_at, nets_from, KeepsTo}
use Rattle.half_arrays.specs.State.{limited}
use Rattle.half_values.proofs.Valuing.{limited_same}
use Rattle.search_tables.specs.Tables.{padded, Arced}
use Rattle.search_tables.specs.Made.{Hold}
use Rattle.search_tables.proofs.HalfHere.{chip_small}
use Rattle.search_tables.proofs.Padding.{padded_value, take_nets}
use Rattle.half_fit.specs.Answer.{Answers}
use Rattle.half_fit.specs.declared.service.HalfFit.{HalfFit}
use Rattle.search_best.specs.Best.{best_of}
use Rattle.search_node.specs.Letters.{letters_in, Lettered}
use Rattle.search_node.specs.Node.{FitHeld}
use Rattle.search_join.specs.Joined.{HalfSaid}
use Rattle.search_order.specs.Order.{OrderKept}
use Rattle.search.specs.Search.{RootOk}
use Rattle.search_letters.proofs.Children.{half_said}
use Rattle.search_join.proofs.Cornering.{take_corners}
use Rattle.search_join.proofs.Joining.{held_spots}
use Rattle.search_node.proofs.Lettering.{dots_in}
use Rattle.search.proofs.Placing.{dots_lettered, many}

take_limited : (n : ℕ) (z : List ℕ) → take n (limited z) ≡ limited (take n z)
unfolding limited
take_limited zero z = refl
take_limited (suc n) [] = refl
take_limited (suc n) (a ∷ z) = ap (λ (t : List ℕ). a % 8192 ∷ t) (take_limited n z)

-- bounds that coordinates keep, and any number of zeros after them, are kept by the values of the nodes
bounds_kept : (arcs y : List ℕ) → KeepsTo arcs (padded y) 81 → KeptBy arcs (value_at y)
unfolding bound_at
bounds_kept arcs y k = record {
  at = λ c l.
      let h = k.at c l in let u = padded_value y (c / 9) in let v = padded_value y (c % 9) in
      let e : get_or arcs (c % 128) 0 ≡ get_or arcs c 0 = ap (λ (j : ℕ). get_or arcs j 0) (let q : c % 128 ≡ c = omega arith in q) in
      omega arith;
}

module _ (c : HeldChip) (p : ℕ) (ok : Passed c) (e : p ≡ letter_total c.n c.k) where
  abbrev C : Chip
  C = chip_of c

  abbrev ls : List Letter
  ls = letters_in (dots 120) p

  lettered : Lettered c (dots 120) p
  lettered = dots_lettered c p ok e

  are_dots : ls ≡ replicate p dot
  are_dots = dots_in 120 p lettered.few

  -- ---- one direction

  module _ (d : Direction) (tab arcs : List ℕ) (h : Hold c d tab arcs) where
    arced : Arced d C ls arcs
    arced = subst (λ (s : List Letter). Arced d C s arcs) (ap (λ (m : ℕ). replicate m dot) (sym lettered.count) ∙ sym are_dots) h.arced

    -- what is known of the half fit of the arrays
    said : (room : ℕ) (f : HalfFit) → Answers tab arcs room f.outcome f.at → HalfSaid C ls d room f.outcome f.at
    said room f a = half_said d C ls ok.valid tab arcs h.tabled arced room f a

    kept : (k : List ℕ) → Starts arcs k → (ps : List Spot) → legal C ps ≡ true → KeptBy k (value_on d ps)
    kept k s ps g = s.to (value_on d ps) (bounds_kept arcs (corners_on d ps) (arced.up (corners_on d ps) (keeps_splits C ls ps keeps d)))
      where
        keeps : keeps_letters C ls ps ≡ true
        keeps = branch_keeps C ls ps (subst (λ (t : List Letter). in_branch C t ps ≡ true) (sym are_dots) (dots_branch C p (many c p ok e) ps g))

    -- the length of the nets at the fit's corners is that of its half
    half_long : (here : HeldRecord) → FitHeld c (dots 120) p here → (xs : List ℕ) → xs ≡ corners_on d here.spots → (m : ℕ) → m ≡ nets_length (limited xs) (nets_from tab 0 32) → (l : ℕ) (ps : List Spot) → best_of here ≡ found l ps → m ≡ length_on (axis_for d C ls) (corners_on d ps)
    unfolding axis_for
    half_long here fit xs ex m em l ps b =
        em ∙ (h.tabled.long (limited xs) ∙ (sym (take_nets d C ok.valid (limited xs)) ∙ ap (λ (z : List ℕ). nets_length z (map (axis_net d) C.nets)) same))
      where
        keeps : Keeps (axis_for d C ls) (corners_on d ps)
        keeps = keeps_splits C ls ps (fit_found C ls l ps (sym fit.is ∙ b)).passed d

        taken : take (length C.macs) xs ≡ corners_on d ps
        taken =
            ap (take (length C.macs)) ex
            ∙ (take_corners d (length C.macs) here.spots
            ∙ ap (corners_on d) (ap (λ (k : ℕ). take k here.spots) ok.macs ∙ sym (held_spots c.n here fit.counted l ps b)))

        same : take (length C.macs) (limited xs) ≡ corners_on d ps
        same =
            take_limited (length C.macs) xs
            ∙ (ap limited taken ∙ limited_same (corners_on d ps) (λ i g. let q = chip_small d C ls ok.valid (corners_on d ps) keeps i in omega arith))

  -- ---- both

  -- the chip a is read from the array
  pub first_asked : (a : HeldChip) → a ≡ c → (letters : List ℕ) → letters ≡ dots 120 → (tx ax ty ay : List ℕ) → Hold c horizontal tx ax → Hold c vertical ty ay → (room : ℕ) (f g : HalfFit) → Answers tx ax room f.outcome f.at → Answers ty ay room g.outcome g.at
      → Passed a × Lettered a letters p × HalfSaid (chip_of a) (letters_in letters p) horizontal room f.outcome f.at × HalfSaid (chip_of a) (letters_in letters p) vertical room g.outcome g.at
  first_asked a q letters z tx ax ty ay hx hy room f g x y = rw (q, z) (ok, lettered, said horizontal tx ax hx room f x, said vertical ty ay hy room g y)

  module _ (letters : List ℕ) (z : letters ≡ dots 120) (tx ax : List ℕ) (hx : Hold c horizontal tx ax) (ty ay : List ℕ) (hy : Hold c vertical ty ay) (here : HeldRecord) (given : FitHeld c letters p here)
      (k₀ : List ℕ) (sx : Starts ax k₀) (kx : List ℕ) (ox : OrderKept (chip_of c) k₀ kx) (ky : List ℕ) (sy : Starts ay ky)
      (xs : List ℕ) (ex : xs ≡ corners_on horizontal here.spots) (lx : ℕ) (qx : lx ≡ nets_length (limited xs) (nets_from tx 0 32))
      (ys : List ℕ) (ey : ys ≡ corners_on vertical here.spots) (ly : ℕ) (qy : ly ≡ nets_length (limited ys) (nets_from ty 0 32)) where
    fit : FitHeld c (dots 120) p here
    fit = rw z at given

    pub root_ok : RootOk c p (record { letters = letters; ax = ax; ay = ay; kx = kx; ky = ky; lx = lx; ly = ly; here = here })
    root_ok = rw z (record {
      node = record {
        letters = lettered;
        whole = refl;
        across = arced horizontal tx ax hx;
        up = arced vertical ty ay hy;
        fit = fit;
        halves = record { x = half_long horizontal tx ax hx here fit xs ex lx qx; y = half_long vertical ty ay hy here fit ys ey ly qy };
      };
      letters = refl;
      keeps = λ ps g o. record { x = ox.to ps o (kept horizontal tx ax hx k₀ sx ps g); y = kept vertical ty ay hy ky sy ps g };
    })
