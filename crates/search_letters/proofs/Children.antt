-- A node's child: the letters with one more, the half of the fit that the letter leaves as it is, and the half fit in the letter's direction.
use Prim.{tt}
use Prim.Native.Nat.{ℕ, ◌<◌}
use mathlib.Core.Path.{◌≡◌, refl, sym, ap, subst, ◌∙◌}
use mathlib.Core.Bool.{Bool, true, false, cond}
use mathlib.Core.List.{List}
use native.Mathlib.Omega.{arith}
use lib.Dec.{ltb}
use lib.ListN.{length, get_or, set}
use Rattle.model.specs.declared.Chip.{Chip as HeldChip}
use Rattle.model.specs.declared.Record.{Record as HeldRecord}
use Rattle.model.specs.declared.Spot.{Spot}
use Rattle.model.specs.Meaning.{Chip, chip_of}
use Rattle.chip_text.specs.Passed.{Passed}
use Rattle.chip_text.specs.Valid.{Valid}
use Rattle.placement.specs.Letters.{Letter, dot}
use Rattle.placement.specs.Least.{Best, nothing, found}
use Rattle.axis_bounds.specs.declared.Slot.{Slot}
use Rattle.axis_bounds.specs.Axis.{Axis, length_on}
use Rattle.axis_bounds.specs.Half.{HalfOn}
use Rattle.fit_slots.specs.declared.Direction.{Direction}
use Rattle.fit_slots.specs.declared.Direction.TheVariants.{Horizontal as horizontal, Vertical as vertical}
use Rattle.fit_slots.specs.Slots.{asked, couples}
use Rattle.fit_slots.specs.Axes.{axis_for, corners_on}
use Rattle.fit_slots.proofs.Counting.{letters_count}
use Rattle.search_halves.specs.Half.{other_way}
use Rattle.search_halves.proofs.Halving.{fit_half, other_axis}
use Rattle.half_fit.specs.declared.service.HalfFit.{HalfFit}
use Rattle.half_fit.specs.declared.service.HalfOutcome.{HalfOutcome}
use Rattle.half_fit.specs.declared.service.HalfOutcome.TheVariants as answer
use Rattle.half_fit.specs.Answer.{Answers}
use Rattle.search_tables.specs.Tables.{Tabled, Arced, with_bound}
use Rattle.search_tables.proofs.HalfHere.{half_here, above_here}
use Rattle.search_tables.proofs.LetterBounds.{arced_letter}
use Rattle.search_node.specs.declared.Node.{Node}
use Rattle.search_best.specs.Best.{best_of}
use Rattle.search_node.specs.Letters.{byte_of, letters_in, letter_at, way_at, Lettered, Asks}
use Rattle.search_node.specs.Node.{room_of, NodeOk, Open}
use Rattle.search_join.specs.Joined.{HalfSaid, Beside, JoinedFrom}
use Rattle.search_letters.specs.Turns.{own_arcs, other_length, ChildOn}
use Rattle.search_node.proofs.Asking.{way_of_law, asks_beside}
use Rattle.search_node.proofs.Lettering.{letters_set, letters_long, lettered_set}

-- a result that is not nothing
pub record Found (b : Best) : Type 0 where
  pub length : ℕ
  pub spots : List Spot
  pub is : b ≡ found length spots

pub not_nothing : (b : Best) → (b ≡ nothing → ⊥) → Found b
not_nothing nothing h = absurd (h refl)
not_nothing (found l ps) h = record { length = l; spots = ps; is = refl }

-- what is known of the half fit of the arrays is known of the chip's
pub half_said : (d : Direction) (c : Chip) (ls : List Letter) → Valid c → (tab arcs : List ℕ) → Tabled d c tab → Arced d c ls arcs → (room : ℕ) (f : HalfFit) → Answers tab arcs room f.outcome f.at → HalfSaid c ls d room f.outcome f.at
half_said d c ls v tab arcs tabled arced room f h = by f.outcome h
  where
    by : (k : HalfOutcome) → Answers tab arcs room k f.at → HalfSaid c ls d room k f.at
    by (answer.Fit l) g = half_here d c ls v tab arcs tabled arced l f.at g.half
    by answer.Beyond g = above_here d c ls v tab arcs tabled arced room g
    by answer.Unshown g = tt

module _ (c : HeldChip) (p : ℕ) (node : Node) (s i : ℕ) where
  abbrev C : Chip
  C = chip_of c

  abbrev ls : List Letter
  ls = letters_in node.letters p

  module _ (t : Slot) (ok : Passed c) (n : NodeOk c p node) (o : Open c p node s) (a : Asks c s i t) where
    counted : length ls ≡ length (couples C)
    counted = let g = n.letters.few in let w = n.whole in letters_long node.letters p (omega arith) ∙ (n.letters.count ∙ sym (letters_count C))

    place_in : s < length ls
    place_in = let g = n.letters.few in let w = n.whole in let h = o.place in let m = letters_long node.letters p (omega arith) in omega arith

    -- the letters r are those of the node with letter i for pair s
    module _ (r : List ℕ) (e : r ≡ set node.letters s (byte_of i)) where
      now : letters_in r p ≡ set ls s (letter_at i)
      now = ap (λ (z : List ℕ). letters_in z p) e ∙ letters_set node.letters p s (byte_of i) o.place

      child_lettered : Lettered c r p
      child_lettered = subst (λ (z : List ℕ). Lettered c z p) (sym e) (lettered_set c node.letters p s i n.letters o.place a.four)

      module _ (d : Direction) (w : way_at i ≡ d) where
        -- the other direction has the same bounds
        same : axis_for (other_way d) C (letters_in r p) ≡ axis_for (other_way d) C ls
        same = ap (axis_for (other_way d) C) now ∙ other_axis (other_way d) C ls s (letter_at i) asks
          where
            asks : asked (other_way d) (letter_at i) ≡ asked (other_way d) (get_or ls s dot)
            asks = subst (λ (v : Direction). asked (other_way v) (letter_at i) ≡ asked (other_way v) dot) w (asks_beside i a.four) ∙ ap (asked (other_way d)) (sym o.undecided)

        beside : (m : ℕ) → ((l : ℕ) (ps : List Spot) → best_of node.here ≡ found l ps → m ≡ length_on (axis_for (other_way d) C ls) (corners_on (other_way d) ps)) → Beside c r p node.here d m
        beside m h = record {
          counted = n.fit.counted;
          length = f.length;
          spots = f.spots;
          found = f.is;
          half =
              subst (λ (z : Axis). HalfOn z m (corners_on (other_way d) f.spots)) (sym same)
              (subst (λ (k : ℕ). HalfOn (axis_for (other_way d) C ls) k (corners_on (other_way d) f.spots)) (sym (h f.length f.spots f.is))
              (fit_half C ls ok.valid f.length f.spots (sym n.fit.is ∙ f.is) (other_way d)));
        }
          where
            f : Found (best_of node.here)
            f = not_nothing (best_of node.here) o.found

        said : (tab old arcs : List ℕ) → Tabled d C tab → Arced d C ls old → arcs ≡ with_bound old t → (room : ℕ) (f : HalfFit) → Answers tab arcs room f.outcome f.at → HalfSaid C (letters_in r p) d room f.outcome f.at
        said tab old arcs tabled arced q room f h = half_said d C (letters_in r p) ok.valid tab arcs tabled bounded room f h
          where
            bounded : Arced d C (letters_in r p) arcs
            bounded = rw (now, q, a.slot) (arced_letter d C ok.valid ls counted s (letter_at i) place_in o.undecided old arced (way_of_law i a.four ∙ w))

      -- of the letter's direction
      beside_own : (b : Bool) → way_at i ≡ cond b horizontal vertical → Beside c r p node.here (cond b horizontal vertical) (cond b node.ly node.lx)
      beside_own true w = beside horizontal w node.ly n.halves.y
      beside_own false w = beside vertical w node.lx n.halves.x

    arced_own : (b : Bool) → Arced (cond b horizontal vertical) C ls (cond b node.ax node.ay)
    arced_own true = n.across
    arced_own false = n.up

-- ---- in the form of the needs

module _ (c : HeldChip) (p s i : ℕ) (t : Slot) (best r : HeldRecord) (node : Node) where
  pub child_on : (tab before arcs : List ℕ) (other room : ℕ) (d : Direction) (f : HalfFit) → before ≡ own_arcs node i → other ≡ other_length node i → d ≡ way_at i → arcs ≡ with_bound before t → room ≡ room_of best.outcome other
      → Answers tab arcs room f.outcome f.at → (ls : List ℕ) → ls ≡ set node.letters s (byte_of i) → JoinedFrom c ls p node.here best d f other r → ChildOn c p tab node s i t best r
  child_on tab before arcs other room d f eb eo ed ea em h ls el j = record {
    held = λ ok n o a tabled.
        (rw el at j).held ok (child_lettered c p node s i t ok n o a new refl) (rw (ed, eo) (beside_own c p node s i t ok n o a new refl (ltb i 2) refl))
        (subst (λ (k : ℕ). HalfSaid (chip_of c) (letters_in new p) d k f.outcome f.at) em
        (said c p node s i t ok n o a new refl d (sym ed) tab before arcs (rw ed tabled) (rw (ed, eb) (arced_own c p node s i t ok n o a (ltb i 2))) ea room f h));
  }
    where
      new : List ℕ
      new = set node.letters s (byte_of i)
