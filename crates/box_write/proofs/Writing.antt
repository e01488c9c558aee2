-- What writing leaves in the buffer, in the form of the needs of `write_boxed`: where the record is refused, where the buffer is too short, and where it is not.
use Rattle.std.specs.Prelude.{Ok, Err, Result}
use mathlib.Core.Path.{◌≡◌, sym}
use mathlib.Core.List.{List}
use Prim.Native.Nat.{ℕ, ◌≤◌, ◌<◌}
use lib.ListN.{length}
use Rattle.num_text.specs.Held.{Wrote}
use Rattle.model.specs.declared.Chip.{Chip}
use Rattle.model.specs.declared.Record.{Record}
use Rattle.model.specs.declared.Refusal.{Refusal}
use Rattle.model.specs.Meaning.{record_of}
use Rattle.text_grammar.specs.Writing.{wrote, tested_as, refuse, write_text}
use Rattle.text_grammar.proofs.Fit.{too_short, all_fits}
use Rattle.record_text.specs.Text.{read_record, record_text}
use Rattle.box_print.specs.Held.{held_text}
use Rattle.box_write.proofs.Room.{held_short}

module _ (c : Chip) (r : Record) (out : List ℕ) (t : Result (Unit {0}) Refusal) (e : tested_as (record_of r) t ≡ read_record (record_text (record_of r))) where
  pub boxed_refused : (f : Refusal) → t ≡ Err f → refuse f.no f.line out ≡ write_text (read_record (record_text (record_of r))) (held_text c r) out
  boxed_refused f q = rw (← e, q)

  module _ (q : t ≡ Ok tt) (b m : List ℕ) (n : ℕ) (w : Wrote b m (held_text c r) 0 n) where
    in_reach : length (held_text c r) ≤ 65536
    in_reach = held_short c r (sym (rw q at e))

    pub boxed_no_room : length out < n → refuse 15 0 out ≡ write_text (read_record (record_text (record_of r))) (held_text c r) out
    boxed_no_room h = rw (← e, q) (too_short (held_text c r) b m out n in_reach w h)

    pub boxed_written : n ≤ length out → (after : List ℕ) (k : ℕ) → Wrote out after (held_text c r) 0 k → record { answer = wrote k; buffer = after } ≡ write_text (read_record (record_text (record_of r))) (held_text c r) out
    boxed_written h after k v = rw (← e, q) (all_fits (held_text c r) b m out n in_reach w after k h v)
