-- A chip is tested as its text would be: each answer of the test, by its items' answer and the length of its text.
use Rattle.std.specs.Prelude.{Ok, Err, Result}
use mathlib.Core.Path.{◌≡◌, refl, sym, ap, ◌∙◌}
use mathlib.Core.Bool.{true}
use mathlib.Core.List.{List}
use Prim.Native.Nat.{ℕ, ◌≤◌, ◌<◌}
use native.Mathlib.Omega.{arith}
use lib.ListN.{length}
use Rattle.model.specs.declared.Refusal.{Refusal}
use Rattle.model.specs.declared.Chip.{Chip as HeldChip}
use Rattle.model.specs.Meaning.{chip_of}
use Rattle.num_text.specs.Held.{Wrote}
use Rattle.text_grammar.specs.Reading.{accepted, refused, part_read}
use Rattle.text_grammar.proofs.Lengths.{brief, brief_word, run_short}
use Rattle.chip_text.specs.declared.ChipWord.{ChipWord}
use Rattle.chip_text.specs.declared.ChipWord.TheVariants as word
use Rattle.chip_text.specs.Words.{chip_words}
use Rattle.chip_text.specs.Kind.{start, chip_kind, Part}
use Rattle.chip_text.specs.Text.{read_chip, chip_items, chip_text}
use Rattle.chip_text.proofs.ItemsRun.{items_formed, chip_run}
use Rattle.chip_text.proofs.ReadText.{too_long}
use Rattle.chip_text.proofs.TextRead.{text_read}
use Rattle.chip_text.proofs.Passing.{Whole}
use Rattle.chip_items.specs.Tests.{items_tested}
use Rattle.chip_test.proofs.ChipRun.{items_accepted, items_refused}
use Rattle.chip_test.proofs.Counts.{few_items}

each_brief : (w : ChipWord) → brief_word chip_words w ≡ true
unfolding brief
each_brief word.Die = refl
each_brief word.Fix = refl
each_brief word.Mac = refl
each_brief word.Net = refl
each_brief word.Pin = refl
each_brief word.End = refl

module _ (c : HeldChip) (ok : Whole c) where
  module _ (b m : List ℕ) (n : ℕ) (w : Wrote b m (chip_text (chip_of c)) 0 n) where
    pub long_read : 16384 < n → refused 1 0 ≡ read_chip (chip_text (chip_of c))
    long_read h = too_long (chip_text (chip_of c)) (omega arith)

    pub refused_read : (r : Result (Unit {0}) Refusal) → r ≡ items_tested c → (f : Refusal) → r ≡ Err f → n ≤ 16384 → refused f.no f.line ≡ read_chip (chip_text (chip_of c))
    refused_read r a f p h = sym (chip_run (chip_of c) (omega arith) ∙ ap (part_read (λ (s : Part). s.chip)) (items_refused c ok r a f p))

  module _ (r : Result (Unit {0}) Refusal) (a : r ≡ items_tested c) (p : r ≡ Ok tt) where
    passed_short : length (chip_text (chip_of c)) ≤ 16384
    unfolding chip_text
    passed_short =
        let q = items_accepted c ok r a p in
        let l = run_short chip_kind each_brief start q.0 1 (chip_items (chip_of c)) (items_formed (chip_of c)) q.1 in
        let k = few_items c ok in
        omega arith

    pub passed_read : accepted (chip_of c) ≡ read_chip (chip_text (chip_of c))
    passed_read =
        let q = items_accepted c ok r a p in
        let e : read_chip (chip_text (chip_of c)) ≡ accepted q.0.chip = chip_run (chip_of c) passed_short ∙ ap (part_read (λ (s : Part). s.chip)) q.1 in
        ap accepted (sym (text_read (chip_of c) q.0.chip e)) ∙ sym e
