-- What writing a value leaves in a buffer: where its test refuses it, where the buffer is too short for its text, and where it is not.
use mathlib.Core.Path.{◌≡◌, sym, ◌∙◌}
use mathlib.Core.List.{List, ◌++◌}
use Prim.Native.Nat.{ℕ, ◌≤◌, ◌<◌}
use native.Mathlib.Nat.{zero-add}
use native.Mathlib.Omega.{arith}
use lib.Dec.{leb}
use lib.ListN.{length, drop}
use lib.Seq.{sets, sets-eq}
use borrow.Author.Tests.{lt-leb, le-leb}
use Rattle.num_text.specs.Held.{Wrote}
use Rattle.model.specs.declared.Refusal.{Refusal}
use Rattle.std.specs.Prelude.{Result, Ok, Err}
use Rattle.text_grammar.specs.Reading.{Reading, accepted}
use Rattle.text_grammar.specs.Writing.{wrote, not_written, tested_as, refuse, if_room, write_text}

-- a text of at most 65,536 bytes whose length n writing into any buffer has told
module _ (text x y b : List ℕ) (n : ℕ) (short : length text ≤ 65536) (told : Wrote x y text 0 n) where
  pub too_short : length b < n → refuse 15 0 b ≡ if_room (leb (length text) (length b)) text b
  too_short h = rw (lt-leb (length text) (length b) (omega (arith, told.place)))

  pub all_fits : (a : List ℕ) (k : ℕ) → n ≤ length b → Wrote b a text 0 k → record { answer = wrote k; buffer = a } ≡ if_room (leb (length text) (length b)) text b
  all_fits a k h w = rw (le-leb (length text) (length b) (omega (arith, told.place)), len, w.bytes ∙ whole)
    where
      len : k ≡ length text
      len = omega (arith, w.place)

      whole : sets b 0 text ≡ text ++ drop (length text) b
      whole = rw zero-add at (sets-eq text b 0 (omega (arith, told.place)))

-- a value whose text is read as the test of it says, in the form of the needs of its writer; an accepted text has at most `most` bytes
module _ {A : Type 0} (read : List ℕ → Reading A) (most : ℕ) (short : (t : List ℕ) (a : A) → read t ≡ accepted a → length t ≤ most) (a : A) (text out : List ℕ) (r : Result (Unit {0}) Refusal) (e : tested_as a r ≡ read text) where
  pub test_refused : (f : Refusal) → r ≡ Err f → record { answer = not_written f.no f.line; buffer = out } ≡ write_text (read text) text out
  test_refused f p = rw (← e, p)

  module _ (p : r ≡ Ok tt) (few : most ≤ 65536) (b m : List ℕ) (n : ℕ) (w : Wrote b m text 0 n) where
    in_reach : length text ≤ 65536
    in_reach = let l = short text a (sym (rw p at e)) in omega arith

    pub no_space : length out < n → record { answer = not_written 15 0; buffer = out } ≡ write_text (read text) text out
    no_space h = rw (← e, p) (too_short text b m out n in_reach w h)

    pub all_written : n ≤ length out → (after : List ℕ) (k : ℕ) → Wrote out after text 0 k → record { answer = wrote k; buffer = after } ≡ write_text (read text) text out
    all_written h after k v = rw (← e, p) (all_fits text b m out n in_reach w after k h v)
