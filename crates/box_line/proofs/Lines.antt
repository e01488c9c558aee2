-- The parts of a box's line written one after the other: in the form of the needs.
use mathlib.Core.Path.{◌≡◌, subst}
use mathlib.Core.List.{List, [], ◌∷◌, ◌++◌, append_assoc}
use Prim.Native.Nat.{ℕ, ◌<◌, ◌^◌}
use lib.ListN.{length}
use Rattle.num_text.specs.Number.{digits}
use Rattle.num_text.specs.Held.{Wrote}
use Rattle.num_text.proofs.Wrote.{wrote_then}
use Rattle.text_grammar.specs.Line.{fields_text}
use Rattle.text_grammar.specs.Words.{item_text}
use Rattle.measure_nets.specs.declared.NetBox.{NetBox}
use Rattle.measure_nets.specs.Box.{box_of}
use Rattle.box_text.specs.Words.{box_words}
use Rattle.box_text.specs.Text.{box_item}
use Rattle.box_line.specs.Line.{box_net, box_side, box_across}

pub net_written : (n : ℕ) (b m a : List ℕ) (at k r : ℕ) → length b < 2 ^ 64 → Wrote b m (98 ∷ 111 ∷ 120 ∷ 44 ∷ 110 ∷ 44 ∷ []) at k → Wrote m a (digits n) k r → Wrote b a (box_net n) at r
net_written n b m a at k r f v w = wrote_then b m a (98 ∷ 111 ∷ 120 ∷ 44 ∷ 110 ∷ 44 ∷ []) (digits n) at k r f v w

module _ (n : ℕ) (v : NetBox) (b m k a : List ℕ) (at i j r : ℕ) (f : length b < 2 ^ 64) where
  pub across_written : Wrote b m (box_net n) at i → Wrote m k (box_side 108 v.left) i j → Wrote k a (box_side 114 v.right) j r → Wrote b a (box_across n v) at r
  across_written w₁ w₂ w₃ = wrote_then b k a _ _ at j r f (wrote_then b m k _ _ at i j f w₁ w₂) w₃

line_is : (n : ℕ) (b : NetBox) → ((box_across n b ++ box_side 98 b.bottom) ++ box_side 116 b.top) ++ (10 ∷ []) ≡ item_text box_words (box_item n (box_of b))
unfolding item_text fields_text
line_is n b = simp append_assoc

module _ (n : ℕ) (v : NetBox) (b m k l a : List ℕ) (at h i j r : ℕ) (f : length b < 2 ^ 64) where
  pub box_written : Wrote b m (box_across n v) at h → Wrote m k (box_side 98 v.bottom) h i → Wrote k l (box_side 116 v.top) i j → Wrote l a (10 ∷ []) j r → Wrote b a (item_text box_words (box_item n (box_of v))) at r
  box_written w₁ w₂ w₃ w₄ = subst (λ (t : List ℕ). Wrote b a t at r) (line_is n v) (wrote_then b l a _ _ at j r f (wrote_then b k l _ _ at i j f (wrote_then b m k _ _ at h i f w₁ w₂) w₃) w₄)
