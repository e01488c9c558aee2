-- A run of the items of a chip answers what their tests answer: `items_accepted`, `items_refused`.
use Rattle.std.specs.Prelude.{Ok, Err, Result}
use mathlib.Core.Path.{◌≡◌, refl, sym, ap, subst, ◌∙◌}
use mathlib.Core.List.{List, [], ◌∷◌, ◌++◌, map, append_assoc, append-nil}
use Prim.Native.Nat.{ℕ, zero, suc, ◌+◌, ◌-◌, ◌≤◌, ◌<◌}
use native.Mathlib.Decide.{dec_lt}
use native.Mathlib.Nat.{zero-add}
use native.Mathlib.Omega.{arith}
use lib.ListN.{length, get_or, drop, length-drop, length-map, drop_of_length-le, get_or-eq_default}
use lib.Seq.{drop-cons, drop-drop}
use borrow.Author.Tests.{le-ltb}
use Rattle.model.specs.declared.Net.{Net as HeldNet}
use Rattle.model.specs.declared.Pin.{Pin as HeldPin}
use Rattle.model.specs.declared.Chip.{Chip as HeldChip}
use Rattle.model.specs.declared.Refusal.{Refusal}
use Rattle.model.specs.Meaning.{first_of, blank_fix, blank_mac, blank_net, blank_pin, pin_of, pins_of, nets_of, chip_of}
use Rattle.model.proofs.FirstOf.{length_first}
use Rattle.model.proofs.Nets.{length_pins}
use Rattle.text_grammar.specs.Reading.{accepted, refused}
use Rattle.text_grammar.proofs.Items.{run_items}
use Rattle.chip_text.specs.Kind.{Part, start, chip_kind}
use Rattle.chip_text.specs.Text.{Item, die_item, fix_item, mac_item, pin_item, end_item, net_items, chip_items}
use Rattle.chip_text.proofs.Passing.{Whole}
use Rattle.chip_print.specs.Items.{weight_item}
use Rattle.chip_print.proofs.Nets.{held_items}
use Rattle.chip_faults.specs.declared.Row.TheVariants as row
use Rattle.chip_faults.specs.Faults.{net_fault, row_fault}
use Rattle.chip_items.specs.Tests.{row_tested, nets_tested, items_tested}
use Rattle.chip_test.proofs.Runs.{Run, passes, refuses, run_none, run_item, run_then, too_many, run_many}
use Rattle.chip_test.proofs.Parts.{Fixes, Macs, Nets, Pins, Ended, die_steps, fix_steps, macs_next, mac_steps, nets_next, net_steps, pin_steps, end_steps, net_next}

module _ {P : Part → Type 0} (s : Part) (is : List Item) (r : Result (Unit {0}) Refusal) where
  line_is : {a b : ℕ} → a ≡ b → Run P s a is r → Run P s b is r
  line_is e = subst (λ (n : ℕ). Run P s n is r) e

module _ (c : HeldChip) (ok : Whole c) where
  abbrev n : ℕ
  n = c.n

  abbrev ts : List HeldNet
  ts = c.nets

  abbrev ps : List HeldPin
  ps = c.pins

  -- the pins of net j
  pins_run : (q j line : ℕ) (s : Part) → q ≤ 128 → Pins n q j 0 s → (count : ℕ) → Run (Pins n q j count) s line (map pin_item (pins_of (first_of blank_pin count (drop q ps)))) (row_tested c row.Pins q line count)
  pins_run q j line s h p count =
      let l : length (drop q ps) ≡ 128 - q = length-drop q ps ∙ ap (λ (k : ℕ). k - q) ok.pins in
      rw held_items (line_is s _ _ (omega arith)
      (run_many (λ x. pin_item (pin_of x)) blank_pin (drop q ps) (Pins n q j) (λ i. row_fault c row.Pins (q + i)) line (λ i t o. (let f = o.few.1 in omega arith)) (pin_steps n ps q j) (rw (le-ltb (q + length (drop q ps)) 128 (omega arith))) count 0 count s (omega arith) p))

  pins_length : (q count : ℕ) → q + count ≤ 128 → length (map pin_item (pins_of (first_of blank_pin count (drop q ps)))) ≡ count
  pins_length q count h = length-map (pins_of (first_of blank_pin count (drop q ps))) pin_item ∙ (length_pins (first_of blank_pin count (drop q ps)) ∙ length_first blank_pin count (drop q ps) (rw length-drop (omega arith)))

  -- the nets from net j on with their pins from pin q on, and the end
  nets_run : (first t q j : ℕ) (s : Part) → Nets n ts q j s → Run Ended s (first + j + q) (net_items (nets_of (first_of blank_net t (drop j ts)) (drop q ps)) ++ (end_item ∷ [])) (nets_tested c first q j t)
  unfolding nets_tested net_items nets_of first_of pins_of
  nets_run first zero q j s p = run_item s (first + j + q) end_item [] _ (Ok tt) (end_steps n ts q j s p) (λ t e. run_none t _ e)
  nets_run first (suc t) q j s p = by (dec_lt j (length ts)) (nets_run first t (q + (get_or ts j blank_net).pins) (suc j))
    where
      by : Dec (j < length ts) → ((u : Part) → Nets n ts (q + (get_or ts j blank_net).pins) (suc j) u → Run Ended u (first + suc j + (q + (get_or ts j blank_net).pins)) (net_items (nets_of (first_of blank_net t (drop (suc j) ts)) (drop (q + (get_or ts j blank_net).pins) ps)) ++ (end_item ∷ [])) (nets_tested c first (q + (get_or ts j blank_net).pins) (suc j) t))
          → Run Ended s (first + j + q) (net_items (nets_of (first_of blank_net (suc t) (drop j ts)) (drop q ps)) ++ (end_item ∷ [])) (nets_tested c first q j (suc t))
      by (yes l) ih =
          let k : ℕ = (get_or ts j blank_net).pins in
          let is : List Item = map pin_item (pins_of (first_of blank_pin k (drop q ps))) in
          rw (drop-cons ts j blank_net l, drop-drop k q ps, append_assoc is _ (end_item ∷ []))
          (run_then s (first + j + q) (weight_item (get_or ts j blank_net) ∷ is) _ _ _
          (run_item s (first + j + q) (weight_item (get_or ts j blank_net)) is (net_fault ts j) _ (net_steps n ts q j s p) (λ u o. line_is u is _ (omega arith) (pins_run q j (first + j + q + 1) u p.few.1 o k)))
          (λ u o. (let m : length is ≡ k = pins_length q k o.few.1 in line_is u _ _ (omega arith) (ih u (net_next n ts q j u o)))))
      by (no l) ih =
          let h : j ≤ 32 = p.few.0 in
          let z : 32 ≤ j = omega arith in
          rw (drop_of_length-le ts {i = j} (omega arith), le-ltb j 32 z)
          (too_many s (first + j + q) (weight_item blank_net) (end_item ∷ []) 6 (Ok tt) refl (rw (get_or-eq_default ts blank_net {n = j} (omega arith), le-ltb j 32 z) at (net_steps n ts q j s p)))

  -- the fixes, and the macros after k fixes
  fixes_run : (s : Part) → Fixes c.die c.fixes 0 s → Run (Fixes c.die c.fixes c.k) s 2 (map fix_item (first_of blank_fix c.k c.fixes)) (row_tested c row.Fixes 0 2 c.k)
  fixes_run s p =
      run_many fix_item blank_fix c.fixes (Fixes c.die c.fixes) (λ i. row_fault c row.Fixes (0 + i)) 2 (λ i t o. (let f = o.few in let l = ok.fixes in omega arith))
      (λ i t o. rw zero-add (fix_steps c.die c.fixes ok.fixes i t o)) (rw ok.fixes) c.k 0 c.k s (omega arith) p

  macs_run : (s : Part) → Macs 0 s → Run (Macs c.n) s (c.k + 2) (map mac_item (first_of blank_mac c.n c.macs)) (row_tested c row.Macs 0 (c.k + 2) c.n)
  macs_run s p =
      line_is s _ _ (omega arith)
      (run_many mac_item blank_mac c.macs Macs (λ i. row_fault c row.Macs (0 + i)) (c.k + 2) (λ i t o. (let f = o.few in let l = ok.macs in omega arith))
      (λ i t o. rw zero-add (mac_steps c.macs i t o)) (rw ok.macs) c.n 0 c.n s (omega arith) p)

  items_length : {A : Type 0} (item : A → Item) (z : A) (k : ℕ) (xs : List A) → k ≤ length xs → length (map item (first_of z k xs)) ≡ k
  items_length item z k xs h = length-map (first_of z k xs) item ∙ length_first z k xs h

  module _ (r : Result (Unit {0}) Refusal) (a : r ≡ items_tested c) where
    items_run : Run Ended start 1 (chip_items (chip_of c)) r
    unfolding chip_items chip_of items_tested
    items_run = rw a
        (run_item start 1 (die_item c.die) _ _ _ (die_steps c.die c.fixes) (λ s p.
        run_then s 2 (map fix_item (first_of blank_fix c.k c.fixes)) _ _ _ (fixes_run s p)
        (λ t o.
        let f : c.k ≤ 8 = o.few in
        let e = items_length fix_item blank_fix c.k c.fixes (rw ok.fixes f) in
        line_is t _ _ (omega arith)
        (run_then t (c.k + 2) (map mac_item (first_of blank_mac c.n c.macs)) _ _ _ (macs_run t (macs_next t o))
        (λ u v.
        let g : c.n ≤ 8 = v.few in
        let d = items_length mac_item blank_mac c.n c.macs (rw ok.macs g) in
        line_is u _ _ (omega arith) (nets_run (c.k + 2 + c.n) c.t 0 0 u (nets_next ts u v)))))))

    pub items_accepted : r ≡ Ok tt → (t : Part) × (run_items chip_kind start 1 (chip_items (chip_of c)) ≡ accepted t)
    unfolding run_items
    items_accepted p = by items_run p
      where
        by : {q : (Result (Unit {0}) Refusal)} → Run Ended start 1 (chip_items (chip_of c)) q → q ≡ Ok tt → (t : Part) × (run_items chip_kind start 1 (chip_items (chip_of c)) ≡ accepted t)
        by (passes t f e) p = (t, ap (run_items chip_kind start 1) (sym (append-nil (chip_items (chip_of c)))) ∙ (f [] ∙ rw e.last))
        by (refuses w f) p = let z : ◌≡◌ {A = ℕ} 0 1 = cc in absurd (omega arith)

    pub items_refused : (w : Refusal) → r ≡ Err w → run_items chip_kind start 1 (chip_items (chip_of c)) ≡ refused w.no w.line
    items_refused w p = by items_run p
      where
        by : {q : (Result (Unit {0}) Refusal)} → Run Ended start 1 (chip_items (chip_of c)) q → q ≡ Err w → run_items chip_kind start 1 (chip_items (chip_of c)) ≡ refused w.no w.line
        by (passes t f e) p = let z : ◌≡◌ {A = ℕ} 0 1 = cc in absurd (omega arith)
        by (refuses v f) p = let z : v ≡ w = cc in ap (run_items chip_kind start 1) (sym (append-nil (chip_items (chip_of c)))) ∙ (f [] ∙ rw z)
