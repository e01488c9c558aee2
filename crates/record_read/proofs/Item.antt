-- What a line adds, by its word.
use mathlib.Core.Path.{◌≡◌}
use mathlib.Core.List.{List}
use Prim.Native.Nat.{ℕ}
use Rattle.model.specs.declared.Refusal.{Refusal}
use Rattle.std.specs.Prelude.{Result, Ok, Err, Option, Some, None}
use Rattle.text_grammar.specs.Steps.{ReadAs}
use Rattle.record_text.specs.declared.RecordWord.{RecordWord}
use Rattle.record_text.specs.Words.{record_words}
use Rattle.record_text.specs.Kind.{add}
use Rattle.record_read.specs.declared.State.{State}
use Rattle.record_read.specs.State.{part_of, record_values, TakenOk}

pub read_as_is : (w x : RecordWord) → w ≡ x → (v : List ℕ) → ReadAs record_words w (record_values w v) → ReadAs record_words x (record_values x v)
read_as_is w x e v i = rw (← e) i

pub taken_as : (s : State) (w x : RecordWord) → w ≡ x → (v : List ℕ) (r : Result State Refusal) (l : ℕ) → TakenOk r l (add (part_of s) x (record_values x v)) → TakenOk r l (add (part_of s) w (record_values w v))
taken_as s w x e v r l t = rw e t
