-- The lines of nets, each with the lines of its pins.
use mathlib.Core.Path.{◌≡◌, refl, sym, ap, ◌∙◌}
use mathlib.Core.List.{List, [], ◌∷◌, ◌++◌, map, map-id, append_assoc, append-nil}
use Prim.Native.Nat.{ℕ, ◌+◌, ◌-◌, ◌<◌, ◌≤◌, ◌^◌, min}
use native.Mathlib.Decide.{dec_le}
use native.Mathlib.Nat.{zero-add}
use native.Mathlib.Numerals.{add-one}
use native.Mathlib.Omega.{arith}
use lib.ListN.{length, get_or, drop, drop_of_length-le}
use lib.Seq.{append_snoc}
use Rattle.num_text.specs.Held.{Wrote}
use Rattle.model.specs.declared.Net.{Net as HeldNet}
use Rattle.model.specs.declared.Pin.{Pin as HeldPin}
use Rattle.model.specs.declared.Chip.{Chip as HeldChip}
use Rattle.model.specs.Counted.{taken, item_count}
use Rattle.model.specs.Meaning.{Net, first_of, blank_net, blank_pin, pin_of, pins_of, nets_of, chip_of}
use Rattle.model.proofs.Nets.{taken_snoc, nets_snoc}
use Rattle.text_grammar.specs.Words.{item_text, items_text}
use Rattle.chip_text.specs.declared.ChipWord.TheVariants as word
use Rattle.chip_text.specs.Words.{chip_words}
use Rattle.chip_text.specs.Text.{Item, pin_item, net_item, net_items}
use Rattle.chip_text.proofs.Passing.{Whole}
use Rattle.text_put.specs.Run.{run}
use Rattle.text_put.proofs.Counted.{first_run}
use Rattle.text_put.proofs.Items.{run_last, items_none, items_one, items_then}
use Rattle.chip_print.specs.Items.{item_at, net_at}

net_items_snoc : (ts : List Net) (t : Net) → net_items (ts ++ (t ∷ [])) ≡ net_items ts ++ (net_item t ∷ []) ++ map pin_item t.pins
unfolding net_items
net_items_snoc [] t = rw (append-nil (map pin_item t.pins))
net_items_snoc (u ∷ ts) t =
    let is : List Item = map pin_item u.pins in
    rw (net_items_snoc ts t, append_snoc (net_items ts) (net_item t) (map pin_item t.pins), append_snoc (is ++ net_items ts) (net_item t) (map pin_item t.pins), append_assoc is (net_items ts) (net_item t ∷ map pin_item t.pins))

-- no pin stands past the last of them
drop_least : (ps : List HeldPin) (q n c : ℕ) → length ps ≡ c → q ≡ min n c → drop q ps ≡ drop n ps
drop_least ps q n c l e = by (dec_le n c)
  where
    by : Dec (n ≤ c) → drop q ps ≡ drop n ps
    by (yes h) = let i : q ≡ n = omega arith in rw i
    by (no h) = drop_of_length-le ps {i = q} (omega arith) ∙ sym (drop_of_length-le ps {i = n} (omega arith))

pub held_items : (ps : List HeldPin) → map pin_item (pins_of ps) ≡ map (λ p. pin_item (pin_of p)) ps
unfolding pins_of
held_items [] = refl
held_items (p ∷ ps) = ap (λ (t : List Item). pin_item (pin_of p) ∷ t) (held_items ps)

module _ (c : HeldChip) where
  -- the first j nets, and the place of the next net's pins
  abbrev nets_to : ℕ → List HeldNet
  nets_to j = run (λ i. get_or c.nets i blank_net) 0 j

  abbrev pub pins_to : ℕ → ℕ
  pins_to j = min (taken (nets_to j)) 128

  -- the lines of the first j nets with their pins
  abbrev pub net_lines : ℕ → List ℕ
  net_lines j = items_text chip_words (net_items (nets_of (nets_to j) c.pins))

  pub nets_none : (b : List ℕ) (at : ℕ) → at < 2 ^ 64 → Wrote b b (net_lines 0) at at
  unfolding net_items nets_of run
  nets_none b at h = items_none chip_words b at h

  pub pins_none : ◌≡◌ {A = ℕ} 0 (pins_to 0)
  unfolding taken run
  pins_none = refl

  pub net_written : (u : HeldNet) (b m a : List ℕ) (j q n at f r : ℕ) → length b < 2 ^ 64 → u ≡ get_or c.nets j blank_net → n ≡ item_count u.pins (128 - q) → Wrote b m (item_text chip_words (item_at c word.Net j)) at f → Wrote m a (items_text chip_words (run (item_at c word.Pin) q n)) f r → Wrote b a (items_text chip_words (net_at c j q)) at r
  net_written u b m a j q n at f r v y e w₁ w₂ =
      let k : item_count (get_or c.nets j blank_net).pins (128 - q) ≡ n = rw (← y) (sym e) in
      rw k (items_then chip_words b m a _ at f r v (items_one chip_words b m _ at f w₁) _ w₂)

  module _ (j q : ℕ) (x : q ≡ pins_to j) where
    abbrev u : HeldNet
    u = get_or c.nets j blank_net

    last_net_law : nets_to (j + 1) ≡ nets_to j ++ (u ∷ [])
    last_net_law = rw add-one (rw zero-add at (run_last (λ i. get_or c.nets i blank_net) 0 j))

    pub pins_more : (t : HeldNet) (r : ℕ) → t ≡ u → r ≡ min (q + t.pins) 128 → r ≡ pins_to (j + 1)
    pins_more t r y w = rw (last_net_law, taken_snoc (nets_to j) u, ← y) (omega arith)

    module _ (ok : Whole c) where
      -- the lines of the net's pins
      pins_run : map pin_item (pins_of (first_of blank_pin u.pins (drop (taken (nets_to j)) c.pins))) ≡ run (item_at c word.Pin) q (item_count u.pins (128 - q))
      pins_run =
          let l : q ≤ length c.pins = rw ok.pins (omega arith) in
          rw (← drop_least c.pins q (taken (nets_to j)) 128 ok.pins x, held_items) (first_run blank_pin c.pins (λ p. pin_item (pin_of p)) u.pins q l ∙ rw ok.pins)

      pub net_more : (b m a : List ℕ) (at f r : ℕ) → length b < 2 ^ 64 → Wrote b m (net_lines j) at f → Wrote m a (items_text chip_words (net_at c j q)) f r → Wrote b a (net_lines (j + 1)) at r
      net_more b m a at f r v w₁ w₂ =
          rw (last_net_law, nets_snoc (nets_to j) u c.pins, net_items_snoc, pins_run, append_snoc (net_items (nets_of (nets_to j) c.pins)) (item_at c word.Net j) (run (item_at c word.Pin) q (item_count u.pins (128 - q))))
          (items_then chip_words b m a _ at f r v w₁ _ w₂)

  pub nets_all : (b a : List ℕ) (n j at r : ℕ) → Whole c → n ≡ item_count c.t 32 → j ≤ n → n ≤ j → Wrote b a (net_lines j) at r → Wrote b a (items_text chip_words (net_items (chip_of c).nets)) at r
  unfolding chip_of
  nets_all b a n j at r ok e f h w = rw all_nets w
    where
      all_nets : first_of blank_net c.t c.nets ≡ nets_to j
      all_nets =
          let i : j ≡ item_count c.t 32 = omega arith in
          rw i (sym (map-id (first_of blank_net c.t c.nets)) ∙ (first_run blank_net c.nets (λ t. t) c.t 0 (omega arith) ∙ rw ok.nets))
