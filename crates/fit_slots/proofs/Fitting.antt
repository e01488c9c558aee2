-- The two directions solved give the fit of the letters; one of them without a solution gives no fit.
use Prim.Native.Nat.{ℕ, ◌+◌, ◌≤◌}
use mathlib.Core.Path.{◌≡◌, ap, ◌∙◌}
use mathlib.Core.Bool.{true}
use mathlib.Core.List.{List}
use native.Mathlib.Omega.{arith}
use lib.ListN.{length, get_or-map}
use Rattle.model.specs.declared.Spot.{Spot}
use Rattle.model.specs.Meaning.{Chip, blank_spot}
use Rattle.chip_text.specs.Valid.{Valid}
use Rattle.placement.specs.Length.{wirelength}
use Rattle.placement.specs.Letters.{Letter}
use Rattle.placement.specs.Pairs.{keeps_letters}
use Rattle.placement.specs.Least.{nothing, found, fit_of}
use Rattle.placement.proofs.FitIs.{NowhereLarger, fit_is, no_fit_is}
use Rattle.axis_bounds.specs.Axis.{Axis, Keeps, length_on}
use Rattle.axis_bounds.specs.Answer.{LeastOn}
use Rattle.fit_slots.specs.declared.Direction.{Direction}
use Rattle.fit_slots.specs.declared.Direction.TheVariants.{Horizontal as horizontal, Vertical as vertical}
use Rattle.fit_slots.specs.Slots.{couples}
use Rattle.fit_slots.specs.Axes.{axis_for, corner_on, corners_on}
use Rattle.fit_slots.proofs.Keeping.{keeps_splits, keeps_joins}
use Rattle.fit_slots.proofs.Lengths.{lengths_split}

module _ (c : Chip) (ls : List Letter) (v : Valid c) (el : length ls ≡ length (couples c)) (ps : List Spot) (e : length ps ≡ length c.macs) (h : (d : Direction) → LeastOn (axis_for d c ls) (corners_on d ps)) where
  abbrev X : Axis
  X = axis_for horizontal c ls

  abbrev Y : Axis
  Y = axis_for vertical c ls

  module _ (qs : List Spot) (k : keeps_letters c ls qs ≡ true) where
    abbrev lx : length_on X (corners_on horizontal ps) ≤ length_on X (corners_on horizontal qs)
    lx = (h horizontal).least (corners_on horizontal qs) (keeps_splits c ls qs k horizontal)

    abbrev ly : length_on Y (corners_on vertical ps) ≤ length_on Y (corners_on vertical qs)
    ly = (h vertical).least (corners_on vertical qs) (keeps_splits c ls qs k vertical)

    not_shorter : wirelength c ps ≤ wirelength c qs
    not_shorter =
        let p = lengths_split c ls ps v in let q = lengths_split c ls qs v in
        let x = lx in let y = ly in
        omega arith

    module _ (s : wirelength c qs ≡ wirelength c ps) where
      same_x : length_on X (corners_on horizontal qs) ≡ length_on X (corners_on horizontal ps)
      same_x =
          let p = lengths_split c ls ps v in let q = lengths_split c ls qs v in
          let x = lx in let y = ly in
          omega arith

      same_y : length_on Y (corners_on vertical qs) ≡ length_on Y (corners_on vertical ps)
      same_y =
          let p = lengths_split c ls ps v in let q = lengths_split c ls qs v in
          let x = lx in let y = ly in
          omega arith

      not_larger : NowhereLarger ps qs
      not_larger =
          record {
            x = λ i.
                let l = (h horizontal).smallest (corners_on horizontal qs) (keeps_splits c ls qs k horizontal) same_x i in
                let p = get_or-map (corner_on horizontal) ps i blank_spot in let q = get_or-map (corner_on horizontal) qs i blank_spot in
                omega arith;
            y = λ i.
                let l = (h vertical).smallest (corners_on vertical qs) (keeps_splits c ls qs k vertical) same_y i in
                let p = get_or-map (corner_on vertical) ps i blank_spot in let q = get_or-map (corner_on vertical) qs i blank_spot in
                omega arith;
          }

  pub both_fit : fit_of c ls ≡ found (length_on X (corners_on horizontal ps) + length_on Y (corners_on vertical ps)) ps
  both_fit =
      fit_is c ls ps (keeps_joins c ls ps el e (λ d. (h d).keeps)) not_shorter not_larger
      ∙ ap (λ (l : ℕ). found l ps) (lengths_split c ls ps v)

pub neither_fits : (c : Chip) (ls : List Letter) (d : Direction) → ((y : List ℕ) → Keeps (axis_for d c ls) y → ⊥) → fit_of c ls ≡ nothing
neither_fits c ls d none = no_fit_is c ls (λ qs k. none (corners_on d qs) (keeps_splits c ls qs k d))
