-- The lines of a record written one after the other, in the form of the needs.
use mathlib.Core.Path.{◌≡◌, refl, ◌∙◌}
use mathlib.Core.List.{List, [], ◌∷◌}
use Prim.Native.Nat.{ℕ, suc, ◌+◌, ◌≤◌, ◌<◌, ◌^◌}
use native.Mathlib.Nat.{zero-add}
use native.Mathlib.Numerals.{add-one}
use native.Mathlib.Omega.{arith}
use lib.ListN.{length, get_or}
use Rattle.num_text.specs.Held.{Wrote}
use Rattle.model.specs.declared.Spot.{Spot}
use Rattle.model.specs.declared.Outcome.TheVariants as outcome
use Rattle.model.specs.declared.Record.{Record as HeldRecord}
use Rattle.model.specs.Meaning.{Record, first_of, blank_spot, record_of}
use Rattle.text_grammar.specs.Words.{item_text, items_text}
use Rattle.text_line.specs.Layout.{values_at, values_in}
use Rattle.model.specs.Counted.{item_count}
use Rattle.text_put.specs.Run.{run}
use Rattle.text_put.proofs.Counted.{numbered_run}
use Rattle.text_put.proofs.Items.{items_one, items_then, then_line, run_more}
use Rattle.record_text.specs.declared.RecordWord.{RecordWord}
use Rattle.record_text.specs.declared.RecordWord.TheVariants as word
use Rattle.record_text.specs.Words.{form, record_words}
use Rattle.record_text.specs.Text.{Item, least_item, none_item, done_item, at_item, at_items, record_text, record_items, body}

-- the line of the word w with the numbers vs, as held
abbrev line_of : RecordWord → List ℕ → List ℕ
line_of w vs = item_text record_words (record { word = w; values = values_in (form w) [] vs })

-- the line of macro i + 1 of an array of spots
abbrev pub spot_item : List Spot → ℕ → Item
spot_item s i = at_item (suc i) (get_or s i blank_spot)

spots_run : (s : List Spot) (n k : ℕ) → length s ≡ 8 → k ≡ item_count n 8 → at_items 1 (first_of blank_spot n s) ≡ run (spot_item s) 0 k
unfolding at_items
spots_run s n k l e = numbered_run blank_spot s (λ q p. at_item (suc q) p) (λ q ps. at_items (suc q) ps) (λ q. refl) (λ q p ps. refl) n 0 (omega arith) ∙ rw (l, e)

module _ (b m a : List ℕ) (at k r : ℕ) (f : length b < 2 ^ 64) where
  -- one macro more
  pub spot_more : (s : List Spot) (p : Spot) (i : ℕ) → p ≡ get_or s i blank_spot → Wrote b m (items_text record_words (run (spot_item s) 0 i)) at k → Wrote m a (line_of word.At ((i + 1) ∷ p.x ∷ p.y ∷ 0 ∷ [])) k r → Wrote b a (items_text record_words (run (spot_item s) 0 (i + 1))) at r
  unfolding values_at
  spot_more s p i y v w = run_more record_words (spot_item s) 0 b at m a i k r f v (rw (zero-add, ← y) (rw add-one at w))

  -- the text of a record: its first lines, then `done`
  pub record_written : (x : Record) → Wrote b m (items_text record_words (body x)) at k → Wrote m a (line_of word.Done (0 ∷ 0 ∷ 0 ∷ 0 ∷ [])) k r → Wrote b a (record_text x) at r
  unfolding record_text record_items values_at
  record_written x v w = then_line record_words b m a (body x) at k r f v done_item w

  pub least_written : (x : HeldRecord) (wl n : ℕ) → x.outcome ≡ outcome.Least wl n → Wrote b m (line_of word.Least (wl ∷ 0 ∷ 0 ∷ 0 ∷ [])) at k → Wrote m a (items_text record_words (at_items 1 (first_of blank_spot n x.spots))) k r → Wrote b a (items_text record_words (body (record_of x))) at r
  unfolding record_of values_at
  least_written x wl n e v w = rw e (items_then record_words b m a (least_item wl ∷ []) at k r f (items_one record_words b m (least_item wl) at k v) _ w)

pub none_written : (b a : List ℕ) (at r : ℕ) (x : HeldRecord) → x.outcome ≡ outcome.None → Wrote b a (line_of word.None (0 ∷ 0 ∷ 0 ∷ 0 ∷ [])) at r → Wrote b a (items_text record_words (body (record_of x))) at r
unfolding record_of values_at
none_written b a at r x e w = rw e (items_one record_words b a none_item at r w)

pub spots_all : (b a : List ℕ) (at r : ℕ) (s : List Spot) (i k n : ℕ) → length s ≡ 8 → k ≡ item_count n 8 → i ≤ k → k ≤ i → Wrote b a (items_text record_words (run (spot_item s) 0 i)) at r → Wrote b a (items_text record_words (at_items 1 (first_of blank_spot n s))) at r
spots_all b a at r s i k n l e g h w = let j : i ≡ item_count n 8 = omega arith in rw (spots_run s n i l j) w
