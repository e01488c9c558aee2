-- The fit of dots from its two half fits: the vertical one stands beside the horizontal one.
use Prim.Native.Nat.{ℕ}
use mathlib.Core.Path.{◌≡◌, refl, sym, ap, subst, ◌∙◌}
use mathlib.Core.List.{List}
use native.Mathlib.Omega.{arith}
use lib.ListN.{length, take, replicate}
use Rattle.model.specs.declared.Chip.{Chip as HeldChip}
use Rattle.model.specs.declared.Record.{Record as HeldRecord}
use Rattle.model.specs.declared.Outcome.TheVariants as outcome
use Rattle.model.specs.Meaning.{Chip, chip_of, first_of, blank_spot}
use Rattle.model.proofs.FirstOf.{first_take}
use Rattle.chip_text.specs.Passed.{Passed}
use Rattle.placement.specs.Letters.{Letter}
use Rattle.axis_bounds.specs.Half.{HalfOn}
use Rattle.fit_slots.specs.declared.Direction.{Direction}
use Rattle.fit_slots.specs.declared.Direction.TheVariants.{Horizontal as horizontal, Vertical as vertical}
use Rattle.fit_slots.specs.Axes.{axis_for, corners_on}
use Rattle.model.proofs.Corners.{spots_y}
use Rattle.half_fit.specs.declared.service.HalfFit.{HalfFit}
use Rattle.half_fit.specs.declared.service.HalfOutcome.{HalfOutcome}
use Rattle.half_fit.specs.declared.service.HalfOutcome.TheVariants as answer
use Rattle.search_best.specs.Best.{best_of, CountIs}
use Rattle.search_node.specs.Node.{no_record, FitHeld, room_of}
use Rattle.search_node.specs.Letters.{letters_in, Lettered}
use Rattle.search_join.specs.Joined.{HalfSaid, ChildHeld, Beside, FitFor, JoinedFrom}
use Rattle.search.specs.Search.{upright_spots}
use Rattle.search_join.proofs.Cornering.{take_corners}
use Rattle.search_node.proofs.Records.{nothing_none}
use Rattle.search_join.proofs.Joining.{least_held}

module _ (c : HeldChip) (letters : List ℕ) (p : ℕ) (ok : Passed c) where
  abbrev C : Chip
  C = chip_of c

  abbrev ls : List Letter
  ls = letters_in letters p

  module _ (at : List ℕ) (l : ℕ) (given : HalfOn (axis_for vertical C ls) l (take (length C.macs) at)) (many : length at ≡ 8) where
    -- the placement with that y has the half fit beside it
    first_beside : (above : HeldRecord) → length above.spots ≡ 8 → above ≡ record { outcome = outcome.Least l c.n; spots = upright_spots at } → Beside c letters p above horizontal l
    first_beside above long is = record {
      counted = record { few = ok.fine.mac_count; whole = long; count = subst (λ (r : HeldRecord). CountIs c.n r.outcome) (sym is) refl };
      length = l;
      spots = first_of blank_spot c.n (upright_spots at);
      found = ap best_of is ∙ least_held l c.n (upright_spots at);
      half = subst (HalfOn (axis_for vertical C ls) l) (sym same) given;
    }
      where
        wide : length (upright_spots at) ≡ 8
        wide = ap (λ (r : HeldRecord). length r.spots) (sym is) ∙ long

        same : corners_on vertical (first_of blank_spot c.n (upright_spots at)) ≡ take (length C.macs) at
        same =
            let g = ok.fine.mac_count in let w = wide in
            ap (corners_on vertical) (first_take blank_spot c.n (upright_spots at) (omega arith))
            ∙ (sym (take_corners vertical c.n (upright_spots at))
            ∙ (ap (take c.n) (spots_y (corners_on horizontal (replicate 8 blank_spot)) at (sym many))
            ∙ ap (λ (m : ℕ). take m at) (sym ok.macs)))

  -- what is found is the fit
  pub first_held : (best r : HeldRecord) → ChildHeld c letters p best r → (l n : ℕ) → r.outcome ≡ outcome.Least l n → FitHeld c letters p r
  first_held best r h l n e = record { is = h.fit (λ z. no_none (sym (nothing_none r z) ∙ e)); counted = h.counted }
    where
      no_none : outcome.None ≡ outcome.Least l n → ⊥
      no_none z = let q : ◌≡◌ {A = ℕ} 0 1 = cc in absurd (omega arith)

-- without a placement so far the room is that of the first half fits
first_room : (c : Chip) (ls : List Letter) (d : Direction) (r : HeldRecord) (l : ℕ) (f : HalfFit) → r ≡ no_record → HalfSaid c ls d 4000000000 f.outcome f.at → HalfSaid c ls d (room_of r.outcome l) f.outcome f.at
first_room c ls d r l f e h = rw e h

-- ---- in the form of the needs

pub first_again : (c : HeldChip) (letters : List ℕ) (p : ℕ) → Passed c → Lettered c letters p → (r : HeldRecord) → FitFor c letters p r → FitHeld c letters p r
first_again c letters p ok e r h = h.held ok e

pub first_said : (c : Chip) (ls : List Letter) (room : ℕ) (f : HalfFit) (l : ℕ) → HalfSaid c ls vertical room f.outcome f.at → f.outcome ≡ answer.Fit l → HalfSaid c ls vertical room (answer.Fit l) f.at
first_said c ls room f l said e = subst (λ (o : HalfOutcome). HalfSaid c ls vertical room o f.at) e said

pub first_joined : (c : HeldChip) (letters : List ℕ) (p : ℕ) → Passed c → Lettered c letters p → (f : HalfFit) → HalfSaid (chip_of c) (letters_in letters p) horizontal 4000000000 f.outcome f.at
    → (at : List ℕ) (l : ℕ) → HalfSaid (chip_of c) (letters_in letters p) vertical 4000000000 (answer.Fit l) at → length at ≡ 8 → (above : HeldRecord) → length above.spots ≡ 8 → above ≡ record { outcome = outcome.Least l c.n; spots = upright_spots at }
    → (best : HeldRecord) → best ≡ no_record → (r : HeldRecord) → JoinedFrom c letters p above best horizontal f l r → ChildHeld c letters p no_record r
first_joined c letters p ok e f x at l y many above long is best z r j =
    subst (λ (b : HeldRecord). ChildHeld c letters p b r) z (j.held ok e (first_beside c letters p ok at l y many above long is) (first_room (chip_of c) (letters_in letters p) horizontal best l f z x))
