-- A record whose numbers are in their ranges is accepted: `least_accepted`, `none_accepted`.
use mathlib.Core.Path.{◌≡◌, refl, ap, ◌∙◌}
use mathlib.Core.List.{List, [], ◌∷◌, ◌++◌, append_assoc, append-nil}
use Prim.{tt}
use Prim.Native.Nat.{ℕ, suc, ◌+◌, ◌≤◌, ◌<◌}
use native.Mathlib.Omega.{arith}
use lib.ListN.{length, get_or, length-append}
use borrow.Author.Tests.{le-leb}
use Rattle.model.specs.declared.Spot.{Spot}
use Rattle.model.specs.Meaning.{Record, none, least, blank_spot}
use Rattle.text_grammar.specs.Words.{same, is_in}
use Rattle.text_grammar.specs.Reading.{accepted, after, part_read}
use Rattle.text_grammar.proofs.FieldsText.{judged}
use Rattle.text_grammar.proofs.Every.{Every}
use Rattle.text_grammar.proofs.Items.{item_step, run_items}
use Rattle.text_grammar.proofs.Run.{run_within}
use Rattle.record_text.specs.declared.RecordWord.TheVariants as word
use Rattle.record_text.specs.Kind.{Part, start, record_kind}
use Rattle.record_text.specs.Text.{done_item, at_items, record_items, read_record, record_text}
use Rattle.record_text.proofs.ItemsRun.{items_formed, record_run}
use Rattle.record_text.proofs.Short.{within_short}
use Rattle.record_test.proofs.SpotsRead.{last_of, done_follows, spot_tests, spot_step}

abbrev ended : Record → Part
ended r = record { last = after word.Done; result = r }

-- a record whose lines are accepted: its text is not too long
read_as : (r : Record) → run_items record_kind start 1 (record_items r) ≡ accepted (ended r) → read_record (record_text r) ≡ accepted r
read_as r e = let l = within_short r (run_within record_kind start (ended r) 1 (record_items r) (items_formed r) e) in record_run r (omega arith) ∙ ap (part_read (λ (s : Part). s.result)) e

pub none_accepted : read_record (record_text none) ≡ accepted none
unfolding record_items run_items item_step is_in same judged
none_accepted = read_as none refl

-- ---- macros

-- x and y of a spot are in their range
abbrev Low : Spot → Type 0
Low p = (p.x ≤ 1024) × (p.y ≤ 1024)

low_all : (ps : List Spot) → ((i : ℕ) → i < length ps → Low (get_or ps i blank_spot)) → Every Low ps
low_all [] h = tt
low_all (p ∷ ps) h = (h 0 (omega arith), low_all ps (λ i g. h (suc i) (omega arith)))

tests_pass : (p : Spot) → Low p → spot_tests p ≡ 0
tests_pass p h = rw (le-leb 0 p.x (omega arith), le-leb p.x 1024 h.0, le-leb 0 p.y (omega arith), le-leb p.y 1024 h.1)

-- the lines of the macros ps after those of qs, and the last line
spots_read : (wl i n : ℕ) (qs ps : List Spot) → length qs ≡ i → i + length ps ≤ 8 → Every Low ps → run_items record_kind (record { last = last_of i; result = least wl qs }) n (at_items (suc i) ps ++ (done_item ∷ [])) ≡ accepted (ended (least wl (qs ++ ps)))
unfolding at_items run_items item_step same judged
spots_read wl i n qs [] l h a = rw (done_follows i, append-nil)
spots_read wl i n qs (p ∷ ps) l h a =
    rw (spot_step wl i qs p l (omega arith), tests_pass p a.0)
    (rw append_assoc at (spots_read wl (suc i) (suc n) (qs ++ (p ∷ [])) ps (rw length-append (omega arith)) (omega arith) a.1))

module _ (wl : ℕ) (ps : List Spot) (short : wl ≤ 589824000) (few : length ps ≤ 8) where
  lines_read_law : Every Low ps → run_items record_kind start 1 (record_items (least wl ps)) ≡ accepted (ended (least wl ps))
  unfolding record_items run_items item_step is_in same judged
  lines_read_law a = rw (le-leb 0 wl (omega arith), le-leb wl 589824000 short) (spots_read wl 0 2 [] ps refl (omega arith) a)

  pub least_accepted : ((i : ℕ) → i < length ps → ((get_or ps i blank_spot).x ≤ 1024) × ((get_or ps i blank_spot).y ≤ 1024)) → read_record (record_text (least wl ps)) ≡ accepted (least wl ps)
  least_accepted near = read_as (least wl ps) (lines_read_law (low_all ps near))
