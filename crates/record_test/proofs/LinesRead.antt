-- Reading the text of a record: its length, then its lines.
use Rattle.std.specs.Prelude.{Result}
use Rattle.model.specs.declared.Refusal.{Refusal}
use mathlib.Core.Path.{◌≡◌}
use mathlib.Core.List.{List}
use Prim.Native.Nat.{ℕ, ◌≤◌, ◌<◌}
use native.Mathlib.Omega.{arith}
use lib.ListN.{length}
use borrow.Author.Tests.{le-leb}
use Rattle.num_text.specs.Held.{Wrote}
use Rattle.model.specs.declared.Outcome.TheVariants as outcome
use Rattle.model.specs.declared.Record.{Record as HeldRecord}
use Rattle.model.specs.Meaning.{Record, none, least, first_of, blank_spot, record_of}
use Rattle.text_grammar.specs.Words.{same, is_in}
use Rattle.text_grammar.specs.Reading.{accepted, refused, read_text}
use Rattle.text_grammar.specs.Writing.{tested_as}
use Rattle.text_grammar.proofs.FieldsText.{judged}
use Rattle.text_grammar.proofs.Items.{item_step, run_items}
use Rattle.record_text.specs.Text.{record_items, read_record, record_text}
use Rattle.record_text.proofs.ItemsRun.{lines_run}
use Rattle.record_text.proofs.ReadText.{too_long as over_long}
use Rattle.record_test.specs.Parts.{lines_read}

-- ---- the lines

none_read : lines_read none ≡ accepted none
unfolding lines_read record_items run_items item_step is_in same judged
none_read = rw (lines_run none)

module _ (x : HeldRecord) where
  pub none_passed : x.outcome ≡ outcome.None → accepted (record_of x) ≡ lines_read (record_of x)
  unfolding record_of
  none_passed e = rw (e, none_read)

  pub least_tested : (wl n : ℕ) (t : Result (Unit {0}) Refusal) → x.outcome ≡ outcome.Least wl n → tested_as (least wl (first_of blank_spot n x.spots)) t ≡ lines_read (least wl (first_of blank_spot n x.spots)) → tested_as (record_of x) t ≡ lines_read (record_of x)
  unfolding record_of
  least_tested wl n t e q = rw e q

-- ---- the length, which writing into any buffer tells

module _ (x : Record) (b a : List ℕ) (n : ℕ) (w : Wrote b a (record_text x) 0 n) where
  pub too_long : 16384 < n → refused 1 0 ≡ read_record (record_text x)
  too_long h = over_long (record_text x) (omega (arith, w.place))

  pub not_long : n ≤ 16384 → (t : Result (Unit {0}) Refusal) → tested_as x t ≡ lines_read x → tested_as x t ≡ read_record (record_text x)
  unfolding read_record read_text lines_read
  not_long h t e = rw (le-leb (length (record_text x)) 16384 (omega (arith, w.place))) e
