-- The step of one line: what the walk tells of it, and what its fields add.
use mathlib.Core.Path.{◌≡◌, refl, sym, ◌∙◌}
use mathlib.Core.List.{List}
use Prim.Native.Nat.{ℕ, ◌-◌}
use lib.ListN.{length, get_or, take, drop}
use Rattle.std.specs.Prelude.{Result, Ok, Err, Option, Some, None}
use Rattle.model.specs.declared.Refusal.{Refusal}
use Rattle.model.specs.Step.{next, on_next}
use Rattle.text_grammar.specs.Line.{Line, fields}
use Rattle.text_grammar.specs.Reading.{step_line}
use Rattle.text_grammar.specs.Steps.{Entered, ReadAs}
use Rattle.text_line.specs.declared.Spelling.{Spelling}
use Rattle.text_line.specs.declared.Layout.{Layout}
use Rattle.text_line.specs.Layout.{layout_for, FieldsOk}
use Rattle.text_line.proofs.Worded.{fields_got, fields_stop, fields_line}
use Rattle.text_walk.specs.declared.Tests.{Tests}
use Rattle.text_walk.specs.declared.Walked.{Walked}
use Rattle.text_walk.specs.Walk.{WalkedOk}
use Rattle.text_walk.proofs.Means.{TableOf, FaultsOf, walked_stops, walked_entered, walked_adds}
use Rattle.record_text.specs.declared.RecordWord.{RecordWord}
use Rattle.record_text.specs.declared.RecordWord.TheVariants as word
use Rattle.record_text.specs.Words.{form, record_words}
use Rattle.record_text.specs.Kind.{record_kind, add}
use Rattle.record_text.specs.Tests.{last_of}
use Rattle.record_words.specs.Meant.{record_spellings, record_tests}
use Rattle.record_words.proofs.Table.{table_of, faults_of}
use Rattle.record_words.proofs.Words.{laying, no_strings}
use Rattle.record_read.specs.declared.State.{State}
use Rattle.record_read.specs.State.{Sound, part_of, record_values, TakenOk}
use Rattle.record_read.proofs.Entry.{count_meant}

module _ (s : State) (sound : Sound s) (ps : List Spelling) (fs : Tests) (es : ps ≡ record_spellings) (ef : fs ≡ record_tests (last_of s.last) s.count) (l : ℕ) (x : Line) (w : Result Walked Refusal) (ok : WalkedOk ps 4 fs l x w) where
  table : TableOf record_kind word.Least ps 4
  table = table_of ps es

  faults : FaultsOf record_kind word.Least (part_of s) fs
  faults = faults_of (part_of s) (last_of s.last) _ refl (sym (count_meant s sound)) fs ef

  pub line_stops : (f : Refusal) → w ≡ Err f → TakenOk (Err f) l (step_line record_kind (part_of s) x)
  line_stops f q = record { ok = walked_stops record_kind word.Least (part_of s) ps _ fs table faults l x w ok f q; sound = tt }

  module _ (p : Walked) (q : w ≡ Ok p) (v : RecordWord) (e : v ≡ get_or record_words.all p.word word.Least) where
    pub line_entered : Entered record_kind (part_of s) v
    line_entered = walked_entered record_kind word.Least (part_of s) ps _ fs table faults l x w ok p q v e

    pub line_adds : (r : Result State Refusal) → TakenOk r l (on_next (fields (form v) (drop p.size x.bytes)) (add (part_of s) v)) → TakenOk r l (step_line record_kind (part_of s) x)
    line_adds r t = rw (← walked_adds record_kind word.Least (part_of s) ps _ fs table faults l x w ok p q v e) t

-- the fields, in the bytes b after the first n, those of the word w
module _ (w : RecordWord) (y : Layout) (e : y ≡ layout_for (form w)) (l : ℕ) (b : List ℕ) (n : ℕ) (r : Result (List ℕ) Refusal) (ok : FieldsOk y.rules l (take (length b - n) (drop n b)) r) where
  module _ (vs : List ℕ) (q : r ≡ Ok vs) where
    values_read : fields (form w) (drop n b) ≡ next (record_values w vs)
    values_read = fields_got (form w) (laying w) y e l b n r ok vs q ∙ rw (no_strings w (drop n b) vs)

    pub line_read_as : ReadAs record_words w (record_values w vs)
    line_read_as = record { bytes = drop n b; read = values_read }

    pub fields_add : (s : State) (t : Result State Refusal) → TakenOk t l (add (part_of s) w (record_values w vs)) → TakenOk t l (on_next (fields (form w) (drop n b)) (add (part_of s) w))
    fields_add s t a = rw values_read a

  pub fields_fault : (s : State) (f : Refusal) → r ≡ Err f → TakenOk (Err f) l (on_next (fields (form w) (drop n b)) (add (part_of s) w))
  fields_fault s f q =
      rw (fields_stop (form w) (laying w) y e l b n r ok f q)
      (record { ok = record { meant = refl; at = fields_line (form w) (laying w) y e l b n r ok f q }; sound = tt })
