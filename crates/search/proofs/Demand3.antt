-- What is written for a text, on the way to demand 3 (place_print/proofs/DemandZ.antt): the record of the chip that the text is read as, which is `none` exactly where the chip has no legal placement.
use Prim.Native.Nat.{ℕ, ◌≤◌}
use mathlib.Core.Path.{◌≡◌, refl, sym, ap, ◌∙◌}
use mathlib.Core.Bool.{Bool, true, false}
use mathlib.Core.List.{List, ◌++◌}
use native.Mathlib.Omega.{arith}
use lib.Dec.{leb}
use lib.ListN.{length, drop}
use borrow.Author.Tests.{le-leb, leb-true}
use Rattle.model.specs.declared.Spot.{Spot}
use Rattle.model.specs.Meaning.{Chip, none, least}
use Rattle.text_grammar.specs.Reading.{Reading, accepted, refused}
use Rattle.text_grammar.specs.Writing.{wrote, not_written, if_room}
use Rattle.chip_text.specs.Text.{read_chip}
use Rattle.record_text.specs.Text.{record_text}
use Rattle.placement.specs.Legal.{legal}
use Rattle.placement.specs.Least.{Best, nothing, found, earliest_least, best_record, chip_record}
use Rattle.placement.proofs.Demand.{earliest_least_found, nothing_legal}
use Rattle.search.specs.Place.{place_read, place_text}

-- `none` exactly when no placement is legal
pub none_illegal : (c : Chip) → chip_record c ≡ none → (qs : List Spot) → legal c qs ≡ true → ⊥
unfolding chip_record
none_illegal c e = by (earliest_least c) refl
  where
    differ : (l : ℕ) (ps : List Spot) → none ≡ least l ps → ⊥
    differ l ps q = let z : ◌≡◌ {A = ℕ} 0 1 = cc in absurd (omega arith)

    by : (b : Best) → earliest_least c ≡ b → (qs : List Spot) → legal c qs ≡ true → ⊥
    by nothing q = nothing_legal c q
    by (found l ps) q = absurd (differ l ps (sym e ∙ ap best_record q))

pub illegal_none : (c : Chip) → ((qs : List Spot) → legal c qs ≡ true → ⊥) → chip_record c ≡ none
unfolding chip_record
illegal_none c h = by (earliest_least c) refl
  where
    by : (b : Best) → earliest_least c ≡ b → best_record (earliest_least c) ≡ none
    by nothing q = ap best_record q
    by (found l ps) q = absurd (h ps (earliest_least_found c l ps q).passed)

-- ---- what is written for a text

-- the record of the chip that the text is read as, of k bytes, stands in the first bytes of the buffer, and the rest is as it was
pub record Placed (text out : List ℕ) (k : ℕ) (after : List ℕ) : Type 0 where
  pub chip : Chip
  pub read : read_chip text ≡ accepted chip
  pub count : k ≡ length (record_text (chip_record chip))
  pub room : length (record_text (chip_record chip)) ≤ length out
  pub bytes : after ≡ record_text (chip_record chip) ++ drop (length (record_text (chip_record chip))) out

-- whatever is written for a text is such a record
pub place_means : (text out : List ℕ) (k : ℕ) → (place_text text out).answer ≡ wrote k → Placed text out k (place_text text out).buffer
place_means text out k e = by (read_chip text) refl e
  where
    no_text : {A : Type 0} (n l : ℕ) → not_written n l ≡ wrote k → A
    no_text n l q = let z : ◌≡◌ {A = ℕ} 0 1 = cc in absurd (omega arith)

    fits : (c : Chip) (b : Bool) → leb (length (record_text (chip_record c))) (length out) ≡ b → read_chip text ≡ accepted c → (if_room b (record_text (chip_record c)) out).answer ≡ wrote k → Placed text out k (if_room b (record_text (chip_record c)) out).buffer
    fits c true t r q = record {
      chip = c;
      read = r;
      count = cc;
      room = leb-true (length (record_text (chip_record c))) (length out) t;
      bytes = refl;
    }
    fits c false t r q = no_text 15 0 q

    by : (r : Reading Chip) → read_chip text ≡ r → (place_read r out).answer ≡ wrote k → Placed text out k (place_read r out).buffer
    by (accepted c) r q = fits c (leb (length (record_text (chip_record c))) (length out)) refl r q
    by (refused n l) r q = no_text n l q

-- for every text that is accepted, with space lent for the record, the record is written
pub place_writes : (text out : List ℕ) (c : Chip) → read_chip text ≡ accepted c → length (record_text (chip_record c)) ≤ length out
    → place_text text out ≡ record { answer = wrote (length (record_text (chip_record c))); buffer = record_text (chip_record c) ++ drop (length (record_text (chip_record c))) out }
place_writes text out c r h = ap (λ (t : Reading Chip). place_read t out) r ∙ ap (λ (b : Bool). if_room b (record_text (chip_record c)) out) (le-leb (length (record_text (chip_record c))) (length out) h)
