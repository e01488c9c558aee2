-- What a line adds, by its word.
use mathlib.Core.Path.{◌≡◌, refl}
use mathlib.Core.List.{List}
use Prim.Native.Nat.{ℕ}
use Rattle.model.specs.declared.Refusal.{Refusal}
use Rattle.std.specs.Prelude.{Result, Ok, Err, Option, Some, None}
use Rattle.text_grammar.specs.Words.{same}
use Rattle.text_grammar.specs.Steps.{ReadAs}
use Rattle.chip_text.specs.declared.ChipWord.{ChipWord}
use Rattle.chip_text.specs.declared.ChipWord.TheVariants as word
use Rattle.chip_text.specs.Words.{chip_words}
use Rattle.chip_text.specs.Kind.{add}
use Rattle.chip_read.specs.declared.State.{State}
use Rattle.chip_read.specs.State.{Sound, part_of, chip_values, with_chip, TakenOk}
use Rattle.chip_read.proofs.Added.{kept_sound}

pub read_as_is : (w x : ChipWord) → w ≡ x → (v : List ℕ) → ReadAs chip_words w (chip_values w v) → ReadAs chip_words x (chip_values x v)
read_as_is w x e v i = rw (← e) i

pub taken_as : (s : State) (w x : ChipWord) → w ≡ x → (v : List ℕ) (r : Result State Refusal) (l : ℕ) → TakenOk r l (add (part_of s) x (chip_values x v)) → TakenOk r l (add (part_of s) w (chip_values w v))
taken_as s w x e v r l t = rw e t

pub end_taken : (s : State) (w : ChipWord) (v : List ℕ) (r : State) (l : ℕ) → Sound s → w ≡ word.End → r ≡ with_chip s word.End s.chip → TakenOk (Ok r) l (add (part_of s) w (chip_values w v))
unfolding same
end_taken s w v r l sound e q = rw (e, q) (record { ok = record { meant = refl; at = refl }; sound = kept_sound s sound word.End refl s.chip.die sound.fixes sound.macs })
