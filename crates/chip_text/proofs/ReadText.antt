-- An accepted text is the text of the chip that it was read as: `read_text_law`, `one_text`. It has at most 16,384 bytes: `too_long`, `accepted_short`,
-- and of a longer one the first 16,385 are enough: `read_start`.
use mathlib.Core.Path.{◌≡◌}
use mathlib.Core.List.{List}
use Prim.Native.Nat.{ℕ, ◌≤◌, ◌<◌}
use lib.ListN.{length, take}
use Rattle.model.specs.Meaning.{Chip}
use Rattle.text_grammar.specs.Reading.{accepted, refused}
use Rattle.text_grammar.proofs.Left.{text_too_long, text_start}
use Rattle.text_grammar.proofs.Meaning as meaning
use Rattle.chip_text.specs.Kind.{Part, start, chip_kind}
use Rattle.chip_text.specs.Text.{read_chip, chip_items, chip_text}
use Rattle.chip_text.proofs.Told.{words_told}
use Rattle.chip_text.proofs.Staged.{run_items_law}

pub chip_means : meaning.Means chip_kind start (λ (s : Part). s.chip) chip_items
chip_means = record { told = words_told; run = run_items_law }

-- a text of more than 16,384 bytes is refused
pub too_long : (t : List ℕ) → 16384 < length t → refused 1 0 ≡ read_chip t
unfolding read_chip
too_long t h = text_too_long chip_kind start t (λ (s : Part). s.chip) h

pub read_start : (t : List ℕ) (n : ℕ) → 16384 < n → read_chip (take n t) ≡ read_chip t
unfolding read_chip
read_start = text_start chip_kind start (λ (s : Part). s.chip)

pub accepted_short : (t : List ℕ) (c : Chip) → read_chip t ≡ accepted c → length t ≤ 16384
unfolding read_chip
accepted_short = meaning.read_short chip_means

pub read_text_law : (t : List ℕ) (c : Chip) → read_chip t ≡ accepted c → t ≡ chip_text c
unfolding read_chip chip_text
read_text_law = meaning.read_text_law chip_means

pub one_text : (s t : List ℕ) (c : Chip) → read_chip s ≡ accepted c → read_chip t ≡ accepted c → s ≡ t
unfolding read_chip
one_text = meaning.one_text chip_means
