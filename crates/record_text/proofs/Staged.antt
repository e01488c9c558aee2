-- Items that are read as a record are the record's items: `run_items_law`.
-- The items read so far are those of the record so far (`body`), and a macro in turn goes last into the record, as its item goes last.
use mathlib.Core.Path.{◌≡◌, refl}
use mathlib.Core.List.{List, [], ◌∷◌, ◌++◌}
use Prim.{tt}
use Prim.Native.Nat.{ℕ, suc}
use lib.Dec.{eqb}
use lib.ListN.{length}
use borrow.Author.Tests.{eqb-true}
use Rattle.model.specs.declared.Spot.{Spot}
use Rattle.model.specs.Meaning.{Record, least}
use Rattle.record_text.specs.declared.RecordWord.{RecordWord}
use Rattle.record_text.specs.declared.RecordWord.TheVariants as word
use Rattle.model.specs.Step.{next}
use Rattle.text_grammar.specs.Line.{Value}
use Rattle.text_grammar.specs.Words.{same, size}
use Rattle.text_grammar.specs.Reading.{accepted}
use Rattle.text_grammar.proofs.Every.{Every}
use Rattle.text_grammar.proofs.Items.{WellFormed, run_items, check_next}
use Rattle.text_grammar.proofs.Values.{held_of, grows}
use Rattle.text_grammar.proofs.Ready.{Stages, Staged, staged_next, staged_on, run_ready}
use Rattle.record_text.specs.Words.{record_words}
use Rattle.record_text.specs.Kind.{Part, start, spots_of, spot_of, with_spot, read_to, add, record_kind}
use Rattle.record_text.specs.Text.{Item, at_items, record_items, body}
use Rattle.record_text.proofs.Told.{words_told}
use Rattle.record_text.proofs.Body.{body_done, body_at}

-- the items js have been read as r, and a word may be next
data Ready (r : Record) (js : List Item) : RecordWord → Type 0 where
  for_least : js ≡ [] → Ready r js word.Least
  for_none : js ≡ [] → Ready r js word.None
  for_at : (wl : ℕ) (ps : List Spot) → r ≡ least wl ps → js ≡ body (least wl ps) → Ready r js word.At
  for_done : js ≡ body r → Ready r js word.Done

abbrev stages : Stages RecordWord Part
stages = record { Ready = λ s. Ready s.result; items = λ s. record_items s.result }

-- the words after `least` or a macro are ready
spots_on : {wl : ℕ} {ps : List Spot} {js : List Item} → js ≡ body (least wl ps) → Every (Ready (least wl ps) js) (word.At ∷ word.Done ∷ [])
spots_on {wl} {ps} e = (for_at wl ps refl e, (for_done e, tt))

staged_add : (s s' : Part) (w : RecordWord) (vs : List Value) (js : List Item) → held_of record_words w vs ≡ vs → add s w vs ≡ next s' → Ready s.result js w → Staged record_kind stages s' (js ++ (record { word = w; values = vs } ∷ []))
unfolding at_items same
staged_add s s' w vs js q a (for_least e) = staged_on record_kind stages a refl (spots_on (grows record_words word.Least vs q e refl))
staged_add s s' w vs js q a (for_none e) = staged_on record_kind stages a refl (for_done (grows record_words word.None vs q e refl), tt)
staged_add s s' w vs js q a (for_at wl ps r e) =
    let c = check_next (eqb (size vs 0) (suc (length (spots_of s.result)))) 8 (read_to word.At (with_spot s.result (spot_of vs))) s' a in
    let m : size vs 0 ≡ suc (length ps) = rw r at (eqb-true (size vs 0) (suc (length (spots_of s.result))) c.0) in
    staged_on record_kind stages (rw r at c.1) refl (spots_on (grows record_words word.At vs q e (body_at wl (size vs 0) ps (spot_of vs) m)))
staged_add s s' w vs js q a (for_done e) = staged_next record_kind stages a (tt, λ f. grows record_words word.Done vs q e (body_done s.result))

pub run_items_law : (s' : Part) (n : ℕ) (is : List Item) → WellFormed record_kind is → run_items record_kind start n is ≡ accepted s' → is ≡ record_items s'.result
run_items_law s' n is f e = run_ready record_kind stages words_told staged_add start s' n is f e ((for_least refl, (for_none refl, tt)), λ e. cc)
