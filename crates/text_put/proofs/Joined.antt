-- Parts of a line written one after the other, in the form of the needs.
use mathlib.Core.List.{List, [], ◌∷◌}
use Prim.Native.Nat.{ℕ, ◌<◌, ◌^◌}
use lib.ListN.{length}
use Rattle.num_text.specs.Held.{Wrote}
use Rattle.num_text.proofs.Wrote.{wrote_then, wrote_length}
use Rattle.text_grammar.specs.Line.{fields_text, line_feed}
use Rattle.text_line.specs.declared.Spelling.{Spelling}
use Rattle.text_line.specs.declared.Layout.{Layout}
use Rattle.text_line.specs.Held.{text_of}
use Rattle.text_line.specs.Layout.{form_of, values_of}
use Rattle.text_put.specs.LineText.{line_text}

-- the whole line
module _ (p : Spelling) (l : Layout) (s vs : List ℕ) where
  pub line_written : (b m k a : List ℕ) (at i j r : ℕ) → length b < 2 ^ 64 → Wrote b m (text_of p) at i → Wrote m k (fields_text (form_of l.rules) (values_of l.rules s vs)) i j → Wrote k a (line_feed ∷ []) j r → Wrote b a (line_text p l s vs) at r
  unfolding line_text
  line_written b m k a at i j r h u v w =
      (wrote_then b m a (text_of p) _ at i r h u (wrote_then m k a _ _ i j r (rw (wrote_length b m (text_of p) at i u) h) v w))
