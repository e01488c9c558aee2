-- The step of one line: what the walk tells of it, and what its fields add.
use mathlib.Core.Path.{◌≡◌, refl, ◌∙◌}
use mathlib.Core.List.{List}
use Prim.Native.Nat.{ℕ, ◌-◌}
use lib.ListN.{length, get_or, take, drop}
use Rattle.std.specs.Prelude.{Result, Ok, Err, Option, Some, None}
use Rattle.model.specs.declared.Refusal.{Refusal}
use Rattle.model.specs.Step.{next, on_next}
use Rattle.text_grammar.specs.Line.{Line, fields}
use Rattle.text_grammar.specs.Reading.{step_line}
use Rattle.text_grammar.specs.Steps.{Entered, ReadAs}
use Rattle.text_line.specs.declared.Spelling.{Spelling}
use Rattle.text_line.specs.declared.Layout.{Layout}
use Rattle.text_line.specs.Layout.{layout_for, FieldsOk}
use Rattle.text_line.proofs.Worded.{fields_got, fields_stop, fields_line}
use Rattle.text_walk.specs.declared.Tests.{Tests}
use Rattle.text_walk.specs.declared.Walked.{Walked}
use Rattle.text_walk.specs.Walk.{WalkedOk}
use Rattle.text_walk.proofs.Means.{TableOf, FaultsOf, walked_stops, walked_entered, walked_adds}
use Rattle.chip_text.specs.declared.ChipWord.{ChipWord}
use Rattle.chip_text.specs.declared.ChipWord.TheVariants as word
use Rattle.chip_text.specs.Words.{form, chip_words}
use Rattle.chip_text.specs.Kind.{chip_kind, add}
use Rattle.chip_text.specs.Tests.{last_of}
use Rattle.chip_words.specs.Meant.{chip_spellings, chip_tests}
use Rattle.chip_words.proofs.Table.{table_of, faults_of}
use Rattle.chip_words.proofs.Words.{laying, no_strings}
use Rattle.chip_read.specs.declared.State.{State}
use Rattle.chip_read.specs.State.{Sound, part_of, chip_values, TakenOk}
use Rattle.chip_read.proofs.Room.{held_counts}

module _ (s : State) (sound : Sound s) (ps : List Spelling) (fs : Tests) (es : ps ≡ chip_spellings) (ef : fs ≡ chip_tests (last_of s.last) (record { fixes = s.chip.k; macs = s.chip.n; nets = s.chip.t; pins = s.pins })) (l : ℕ) (x : Line) (w : Result Walked Refusal) (ok : WalkedOk ps 6 fs l x w) where
  table : TableOf chip_kind word.Die ps 6
  table = table_of ps es

  faults : FaultsOf chip_kind word.Die (part_of s) fs
  faults = faults_of (part_of s) (last_of s.last) _ refl (held_counts s sound) fs ef

  pub line_stops : (f : Refusal) → w ≡ Err f → TakenOk (Err f) l (step_line chip_kind (part_of s) x)
  line_stops f q = record { ok = walked_stops chip_kind word.Die (part_of s) ps _ fs table faults l x w ok f q; sound = tt }

  module _ (p : Walked) (q : w ≡ Ok p) (v : ChipWord) (e : v ≡ get_or chip_words.all p.word word.Die) where
    pub line_entered : Entered chip_kind (part_of s) v
    line_entered = walked_entered chip_kind word.Die (part_of s) ps _ fs table faults l x w ok p q v e

    pub line_adds : (r : Result State Refusal) → TakenOk r l (on_next (fields (form v) (drop p.size x.bytes)) (add (part_of s) v)) → TakenOk r l (step_line chip_kind (part_of s) x)
    line_adds r t = rw (← walked_adds chip_kind word.Die (part_of s) ps _ fs table faults l x w ok p q v e) t

-- the fields, in the bytes b after the first n, those of the word w
module _ (w : ChipWord) (y : Layout) (e : y ≡ layout_for (form w)) (l : ℕ) (b : List ℕ) (n : ℕ) (r : Result (List ℕ) Refusal) (ok : FieldsOk y.rules l (take (length b - n) (drop n b)) r) where
  module _ (vs : List ℕ) (q : r ≡ Ok vs) where
    values_read : fields (form w) (drop n b) ≡ next (chip_values w vs)
    values_read = fields_got (form w) (laying w) y e l b n r ok vs q ∙ rw (no_strings w (drop n b) vs)

    pub line_read_as : ReadAs chip_words w (chip_values w vs)
    line_read_as = record { bytes = drop n b; read = values_read }

    pub fields_add : (s : State) (t : Result State Refusal) → TakenOk t l (add (part_of s) w (chip_values w vs)) → TakenOk t l (on_next (fields (form w) (drop n b)) (add (part_of s) w))
    fields_add s t a = rw values_read a

  pub fields_fault : (s : State) (f : Refusal) → r ≡ Err f → TakenOk (Err f) l (on_next (fields (form w) (drop n b)) (add (part_of s) w))
  fields_fault s f q =
      rw (fields_stop (form w) (laying w) y e l b n r ok f q)
      (record { ok = record { meant = refl; at = fields_line (form w) (laying w) y e l b n r ok f q }; sound = tt })
