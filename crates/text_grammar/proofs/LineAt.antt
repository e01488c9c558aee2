-- The line that begins at a place of the text.
use mathlib.Core.Path.{◌≡◌, ap, ◌∙◌}
use mathlib.Core.List.{List, ◌∷◌}
use Prim.Native.Nat.{ℕ, suc, ◌+◌, ◌-◌, ◌^◌, ◌≤◌, ◌<◌}
use native.Mathlib.Decide.{ℕ_discrete}
use native.Mathlib.Omega.{arith}
use lib.ListN.{length, get_or, take, drop, length-drop, drop_of_length-le}
use lib.Seq.{drop-cons, drop-drop, take_all}
use mir.Syntax.{w64}
use mir.Val.{Fits}
use borrow.Author.Tests.{le-ltb, lt-ltb}
use Rattle.text_grammar.specs.Line.{line_feed, lines, up_to}
use Rattle.text_grammar.specs.Steps.{line_end, line_at}
use Rattle.text_grammar.proofs.Cut.{lines_at, lines_last, up_to_take, up_to_short}

-- ---- its end

module _ (text : List ℕ) (a : ℕ) (h : a ≤ length text) where
  end_within : a + length (up_to line_feed (drop a text)) ≤ length text
  end_within = omega (arith, up_to_short line_feed (drop a text), length-drop a text)

  -- n bytes stand before the first LF from a on
  module _ (n : ℕ) (q : n ≡ length (up_to line_feed (take (length text - a) (drop a text)))) where
    pub ends : a + n ≡ line_end text a
    ends =
        let p : n ≡ length (up_to line_feed (drop a text)) = q ∙ rw (take_all (length text - a) (drop a text) (rw length-drop (omega arith))) in
        omega (arith, end_within)

    pub end_fits : length text < 2 ^ 64 → Fits w64 (a + n)
    end_fits f = omega (arith, ends)

-- ---- the lines after it

module _ (text : List ℕ) (a z : ℕ) (end : z ≡ line_end text a) where
  place : a < length text → z ≡ a + length (up_to line_feed (drop a text))
  place h = omega (arith, end_within text a (omega arith))

  by_feed : a < length text → Dec (z ≡ length text) → lines (drop a text) ≡ line_at text a z ∷ lines (drop (suc z) text)
  unfolding lines
  by_feed h (yes q) =
      ap lines (drop-cons text a 0 h) ∙ lines_last (get_or text a 0) (drop (suc a) text) whole ∙ rw (le-ltb z (length text) (omega arith), drop_of_length-le text {i = suc z} (omega arith), take_all (z - a) (drop a text) (rw length-drop (omega arith)), drop-cons text a 0 h)
    where
      whole : length (up_to line_feed (get_or text a 0 ∷ drop (suc a) text)) ≡ length (get_or text a 0 ∷ drop (suc a) text)
      whole = rw (← drop-cons text a 0 h, length-drop) (omega (arith, place h))
  by_feed h (no q) = rw (lt-ltb z (length text) (omega arith), lines_at (drop a text) shorter, drop-drop (suc (length (up_to line_feed (drop a text)))) a text, past, size, ← up_to_take line_feed (drop a text))
    where
      shorter : length (up_to line_feed (drop a text)) < length (drop a text)
      shorter = rw length-drop (omega (arith, place h))

      past : a + suc (length (up_to line_feed (drop a text))) ≡ suc z
      past = omega (arith, place h)

      size : z - a ≡ length (up_to line_feed (drop a text))
      size = omega (arith, place h)

  -- the lines from a on: this one, and those after it
  pub lines_from : a < length text → lines (drop a text) ≡ line_at text a z ∷ lines (drop (suc z) text)
  lines_from h = by_feed h (ℕ_discrete z (length text))
