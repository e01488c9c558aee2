-- One field written, in the form of the needs.
use mathlib.Core.Path.{◌≡◌, refl, ap}
use mathlib.Core.Bool.{Bool, true, false}
use mathlib.Core.List.{List, []}
use Prim.Native.Nat.{ℕ, zero, suc, ◌+◌, ◌-◌, ◌≤◌, ◌<◌, ◌^◌}
use native.Mathlib.Omega.{arith}
use borrow.Author.Tests.{eq-eqb, ne_eqb, le-ltb}
use lib.IntN.{pos, sub_ℕ}
use lib.ListN.{length, take, drop, length-take, drop_of_length-le}
use lib.Seq.{take_all}
use Rattle.num_text.specs.Number.{number_text}
use Rattle.num_text.specs.Held.{Wrote}
use Rattle.num_text.proofs.Wrote.{wrote_none, wrote_then}
use Rattle.text_grammar.specs.Line.{comma, up_to}
use Rattle.text_grammar.proofs.Cut.{part_bytes}
use Rattle.text_line.specs.declared.Rule.{Rule as HeldRule}
use Rattle.text_line.specs.Held.{lowered}
use Rattle.text_line.specs.Layout.{mark_of, pick}
use Rattle.text_field.specs.FieldText.{held_text}

-- all of the bytes, where there are fewer than asked for
pub all_written : (b a bytes : List ℕ) (at n size : ℕ) → length bytes < size → Wrote b a bytes at n → Wrote b a (take size bytes) at n
all_written b a bytes at n size h w = rw (take_all size bytes (omega arith)) w

pub first_long : (bytes : List ℕ) (size : ℕ) → size ≤ length bytes → size ≡ length (take size bytes)
first_long bytes size h = rw length-take (omega arith)

lowered_sub : (u v : ℕ) → lowered u v ≡ sub_ℕ v u
lowered_sub zero v = rw (le-ltb v 0 (omega arith)) (ap pos (omega arith))
lowered_sub (suc u) v = refl

module _ (t : Bool) (r : HeldRule) (s b : List ℕ) (at v : ℕ) where
  pub field_absent : at < 2 ^ 64 → t ≡ true → Wrote b b (pick t [] (held_text s r v)) at at
  field_absent h e = rw e (wrote_none b at (omega arith))

  module _ (m a : List ℕ) (k n : ℕ) (h : length b < 2 ^ 64) (e : t ≡ false) (p : Wrote b m (mark_of r) at k) where
    pub number_written : r.letters ≡ 0 → Wrote m a (number_text (sub_ℕ v r.up)) k n → Wrote b a (pick t [] (held_text s r v)) at n
    number_written z q = rw (e, eq-eqb r.letters 0 z, lowered_sub r.up v) (wrote_then b m a _ _ at k n h p q)

    pub string_written : (r.letters ≡ 0 → ⊥) → Wrote m a (up_to comma (drop v s)) k n → Wrote b a (pick t [] (held_text s r v)) at n
    string_written z q = rw (e, ne_eqb r.letters 0 z) (wrote_then b m a _ _ at k n h p q)

-- the bytes of a string
module _ (s : List ℕ) (v : ℕ) where
  pub no_string : (b : List ℕ) (at : ℕ) → at < 2 ^ 64 → length s < v → Wrote b b (up_to comma (drop v s)) at at
  unfolding up_to
  no_string b at h g = rw (drop_of_length-le s {i = v} (omega arith)) (wrote_none b at (omega arith))

  pub string_bytes : (n : ℕ) → v ≤ length s → n ≡ length (up_to comma (take (length s - v) (drop v s))) → (b a : List ℕ) (at r : ℕ) → Wrote b a (take (v + n - v) (drop v s)) at r → Wrote b a (up_to comma (drop v s)) at r
  string_bytes n g e b a at r w = rw (← part_bytes comma s v n g e) w
