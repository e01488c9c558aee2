-- For a tested chip and a record whose placement is legal, the text with held boxes is that with the boxes of the nets: `text_meant`.
use Prim.Native.Nat.{ℕ, suc, ◌+◌, ◌<◌, min}
use mathlib.Core.Path.{◌≡◌, refl, sym, ap, ap₂, ◌∙◌}
use mathlib.Core.Bool.{true}
use mathlib.Core.List.{List, [], ◌∷◌, ◌++◌, map}
use native.Mathlib.Omega.{arith}
use lib.ListN.{length, get_or, take}
use Rattle.model.specs.declared.Chip.{Chip as HeldChip}
use Rattle.model.specs.declared.Outcome.{Outcome}
use Rattle.model.specs.declared.Outcome.TheVariants as outcome
use Rattle.model.specs.declared.Record.{Record as HeldRecord}
use Rattle.model.specs.declared.Spot.{Spot}
use Rattle.model.specs.Meaning.{Net, least, chip_of, outcome_of, record_of, first_of, blank_spot}
use Rattle.text_grammar.specs.Words.{items_text}
use Rattle.text_put.specs.Run.{run}
use Rattle.chip_text.specs.Passed.{Passed}
use Rattle.chip_text.specs.Valid.{no_net}
use Rattle.chip_text.proofs.HeldMeaning.{nets_held}
use Rattle.chip_text.proofs.Passing.{Whole}
use Rattle.record_text.specs.Text.{record_text}
use Rattle.placement.specs.Corners.{CornersWithin}
use Rattle.placement.specs.Integers.{NetBox, net_box_z, integers}
use Rattle.placement.specs.Legal.{legal}
use Rattle.placement.proofs.Integers.{box_same}
use Rattle.placement.proofs.Nearby.{within_long, legal_inside, legal_near}
use Rattle.measure_tests.proofs.Faults.{counted, its_spots}
use Rattle.measure.proofs.HeldNet.{box_told}
use Rattle.box_text.specs.Words.{box_words}
use Rattle.box_text.specs.Text.{Item, box_item, box_items, boxes_at, boxed_text}
use Rattle.box_print.specs.Held.{box_line, chip_boxes, outcome_boxes, held_text}

-- lines by their numbers, each of a net's box
lines_run : (f : Net → NetBox) (g : ℕ → Item) (ts : List Net) (q : ℕ) → ((i : ℕ) → i < length ts → g (q + i) ≡ box_item (suc (q + i)) (f (get_or ts i no_net))) → run g q (length ts) ≡ box_items (suc q) (map f ts)
unfolding run box_items
lines_run f g [] q h = refl
lines_run f g (t ∷ ts) q h =
    let e : q + 0 ≡ q = omega arith in
    ap₂ ◌∷◌ (ap g (sym e) ∙ (h 0 (omega arith) ∙ ap (λ (n : ℕ). box_item (suc n) (f t)) e))
    (lines_run f g ts (suc q) (λ i l. let d : suc q + i ≡ q + suc i = omega arith in ap g d ∙ (h (suc i) (omega arith) ∙ ap (λ (n : ℕ). box_item (suc n) (f (get_or ts i no_net))) (sym d))))

module _ (c : HeldChip) (p : Passed c) (w : Whole c) (s : List Spot) (l : length s ≡ 8) where
  boxes_meant : CornersWithin (take c.n s) → chip_boxes c s ≡ box_items 1 (map (net_box_z (integers (take c.n s))) (chip_of c).nets)
  boxes_meant near =
      let many = nets_held c p.fine w.nets in
      let e : min c.t 32 ≡ length (chip_of c).nets = let k = p.fine.net_count in omega arith in
      ap (run (box_line c s) 0) e
      ∙ lines_run (net_box_z (integers (take c.n s))) (box_line c s) (chip_of c).nets 0 (λ i h.
      let z : 0 + i ≡ i = omega arith in
      ap (box_line c s) z
      ∙ (ap (box_item (suc i)) (box_told c p.fine s near w.nets w.pins i (omega arith) ∙ sym (box_same (take c.n s) (get_or (chip_of c).nets i no_net)))
      ∙ ap (λ (n : ℕ). box_item (suc n) (net_box_z (integers (take c.n s)) (get_or (chip_of c).nets i no_net))) (sym z)))

  outcome_meant : (o : Outcome) → ((wl : ℕ) (ps : List Spot) → outcome_of o s ≡ least wl ps → legal (chip_of c) ps ≡ true) → outcome_boxes c o s ≡ box_items 1 (boxes_at (chip_of c) (outcome_of o s))
  unfolding box_items
  outcome_meant outcome.None h = refl
  outcome_meant (outcome.Least wl n) h =
      let ps = first_of blank_spot n s in
      let fine = h wl ps refl in
      let k = counted c p s l n (within_long (chip_of c) ps (legal_inside (chip_of c) ps fine)) in
      let e = its_spots c p s l n k in
      let near = legal_near (chip_of c) (take c.n s) (ap (legal (chip_of c)) (sym e) ∙ fine) p.valid in
      boxes_meant near ∙ ap (λ (qs : List Spot). box_items 1 (map (net_box_z (integers qs)) (chip_of c).nets)) (sym e)

module _ (c : HeldChip) (p : Passed c) (w : Whole c) (r : HeldRecord) (l : length r.spots ≡ 8) where
  pub text_meant : ((wl : ℕ) (ps : List Spot) → record_of r ≡ least wl ps → legal (chip_of c) ps ≡ true) → held_text c r ≡ boxed_text (chip_of c) (record_of r)
  unfolding held_text boxed_text record_of
  text_meant h = ap (λ (is : List Item). record_text (record_of r) ++ items_text box_words is) (outcome_meant c p w r.spots l r.outcome h)
