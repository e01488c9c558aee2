-- An accepted text is the text of the record that it was read as: `read_text_law`, `one_text`. It has at most 16,384 bytes: `too_long`, `accepted_short`,
-- and of a longer one the first 16,385 are enough: `read_start`.
use mathlib.Core.Path.{◌≡◌}
use mathlib.Core.List.{List}
use Prim.Native.Nat.{ℕ, ◌≤◌, ◌<◌}
use lib.ListN.{length, take}
use Rattle.model.specs.Meaning.{Record}
use Rattle.text_grammar.specs.Reading.{accepted, refused}
use Rattle.text_grammar.proofs.Left.{text_too_long, text_start}
use Rattle.text_grammar.proofs.Meaning as meaning
use Rattle.record_text.specs.Kind.{Part, start, record_kind}
use Rattle.record_text.specs.Text.{read_record, record_items, record_text}
use Rattle.record_text.proofs.Told.{words_told}
use Rattle.record_text.proofs.Staged.{run_items_law}

pub record_means : meaning.Means record_kind start (λ (s : Part). s.result) record_items
record_means = record { told = words_told; run = run_items_law }

-- a text of more than 16,384 bytes is refused
pub too_long : (t : List ℕ) → 16384 < length t → refused 1 0 ≡ read_record t
unfolding read_record
too_long t h = text_too_long record_kind start t (λ (s : Part). s.result) h

pub read_start : (t : List ℕ) (n : ℕ) → 16384 < n → read_record (take n t) ≡ read_record t
unfolding read_record
read_start = text_start record_kind start (λ (s : Part). s.result)

pub accepted_short : (t : List ℕ) (r : Record) → read_record t ≡ accepted r → length t ≤ 16384
unfolding read_record
accepted_short = meaning.read_short record_means

pub read_text_law : (t : List ℕ) (r : Record) → read_record t ≡ accepted r → t ≡ record_text r
unfolding read_record record_text
read_text_law = meaning.read_text_law record_means

pub one_text : (s t : List ℕ) (r : Record) → read_record s ≡ accepted r → read_record t ≡ accepted r → s ≡ t
unfolding read_record
one_text = meaning.one_text record_means
