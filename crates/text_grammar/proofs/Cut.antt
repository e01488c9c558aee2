-- Cutting a text at a byte, and into lines.
-- One induction, `by_cut`, says what `up_to` and `from` do at each byte; the laws of cutting follow from it and from `up_to_from`.
use mathlib.Core.Path.{◌≡◌, refl, sym, ap, subst, ◌∙◌}
use mathlib.Core.Bool.{Bool, true, false}
use mathlib.Core.List.{List, [], ◌∷◌, ◌++◌, append-nil}
use Prim.Native.Nat.{ℕ, suc, ◌+◌, ◌-◌, ◌^◌, ◌≤◌, ◌<◌}
use native.Mathlib.Decide.{ℕ_discrete}
use native.Mathlib.Omega.{arith}
use lib.Dec.{eqb}
use mir.Syntax.{w64}
use mir.Val.{Fits}
use lib.ListN.{length, take, drop, length-append, length-drop}
use lib.Seq.{take-length, take_all, take-append_seam, drop-append_seam}
use borrow.Author.Tests.{eq-eqb, ne_eqb, eqb-true}
use Rattle.num_text.specs.Number.{all_of}
use Rattle.text_grammar.specs.Line.{Line, line_feed, cut, lines, up_to, from}
use Rattle.text_grammar.proofs.Lacks.{lacks, first_lacks, rest_lacks}

module _ (d : ℕ) where
  -- what holds of the text, of its bytes before the first d and of those from it on, by the text's first byte
  module _ (P : List ℕ → List ℕ → List ℕ → Type 0) (none : P [] [] []) (stop : (s : List ℕ) → P (d ∷ s) [] (d ∷ s)) (more : (b : ℕ) (s u f : List ℕ) → eqb b d ≡ false → P s u f → P (b ∷ s) (b ∷ u) f) where
    pub by_cut : (s : List ℕ) → P s (up_to d s) (from d s)
    unfolding up_to from
    by_cut [] = none
    by_cut (b ∷ s) = by (ℕ_discrete b d) (by_cut s)
      where
        by : Dec (b ≡ d) → P s (up_to d s) (from d s) → P (b ∷ s) (up_to d (b ∷ s)) (from d (b ∷ s))
        by (yes e) ih = rw (eq-eqb b d e, up_to, from, e) (stop s)
        by (no n) ih = rw (ne_eqb b d n, up_to, from) (more b s (up_to d s) (from d s) (ne_eqb b d n) ih)

  pub up_to_from : (s : List ℕ) → up_to d s ++ from d s ≡ s
  up_to_from = by_cut (λ s u f. u ++ f ≡ s) refl (λ s. refl) (λ b s u f n e. ap (λ (t : List ℕ). b ∷ t) e)

  pub up_to_lacks : (s : List ℕ) → lacks d (up_to d s) ≡ true
  unfolding all_of
  up_to_lacks = by_cut (λ s u f. lacks d u ≡ true) refl (λ s. refl) (λ b s u f n e. rw (n, e))

  -- past the bytes before it, the first byte is d
  pub from_rest : (s : List ℕ) → length (up_to d s) < length s → from d s ≡ d ∷ drop (suc (length (up_to d s))) s
  from_rest = by_cut (λ s u f. length u < length s → f ≡ d ∷ drop (suc (length u)) s) (λ h. absurd (omega arith)) (λ s h. refl) (λ b s u f n e h. e (omega arith))

  pub up_to_take : (s : List ℕ) → up_to d s ≡ take (length (up_to d s)) s
  up_to_take s = sym (ap (take (length (up_to d s))) (sym (up_to_from s)) ∙ take-append_seam (up_to d s) (from d s))

  pub from_drop : (s : List ℕ) → from d s ≡ drop (length (up_to d s)) s
  from_drop s = sym (ap (drop (length (up_to d s))) (sym (up_to_from s)) ∙ drop-append_seam (up_to d s) (from d s))

  pub up_to_short : (s : List ℕ) → length (up_to d s) ≤ length s
  up_to_short s = omega (arith, simp length-append at (ap length (up_to_from s)))

  -- from place p on, up to the next d: what a count n of the bytes before it says
  module _ (s : List ℕ) (p n : ℕ) (h : p ≤ length s) (e : n ≡ length (up_to d (take (length s - p) (drop p s)))) where
    pub part_long : n ≡ length (up_to d (drop p s))
    part_long = e ∙ rw (take_all (length s - p) (drop p s) (rw length-drop (omega arith)))

    pub part_end : p + n ≤ length s
    part_end = let q = part_long in omega (arith, up_to_short (drop p s), length-drop p s)

    pub part_end_fits : length s < 2 ^ 64 → Fits w64 (p + n)
    part_end_fits f = let q = part_end in omega arith

    pub part_bytes : take (p + n - p) (drop p s) ≡ up_to d (drop p s)
    part_bytes = let q : p + n - p ≡ length (up_to d (drop p s)) = omega (arith, part_long) in rw q (sym (up_to_take (drop p s)))

  pub up_to_all : (s : List ℕ) → length (up_to d s) ≡ length s → up_to d s ≡ s
  up_to_all s e = up_to_take s ∙ rw e (take-length s)

  pub up_to_stop : (t : List ℕ) → up_to d (d ∷ t) ≡ []
  unfolding up_to
  up_to_stop t = rw (eq-eqb d d refl, up_to)

  -- cutting passes over bytes that are no d
  pub up_to_append : (s t : List ℕ) → lacks d s ≡ true → up_to d (s ++ t) ≡ s ++ up_to d t
  unfolding up_to
  up_to_append [] t h = refl
  up_to_append (b ∷ s) t h = rw (first_lacks d b s h, up_to, up_to_append s t (rest_lacks d b s h))

  -- a text without d, then nothing or a d
  module _ (s t : List ℕ) (h : lacks d s ≡ true) (e : up_to d t ≡ []) where
    pub up_to_clean : up_to d (s ++ t) ≡ s
    up_to_clean = rw (up_to_append s t h, e, append-nil)

    pub from_clean : from d (s ++ t) ≡ t
    from_clean = from_drop (s ++ t) ∙ rw up_to_clean (drop-append_seam s t)

-- the text of lines
abbrev pub feed : Bool → List ℕ
feed true = line_feed ∷ []
feed false = []

unfoldable pub unlines : List Line → List ℕ
unlines [] = []
unlines (l ∷ ls) = (l.bytes ++ feed l.ended) ++ unlines ls

unlines_cut : (b : ℕ) (t : Bool) → eqb b line_feed ≡ t → (ls : List Line) → unlines (cut t b ls) ≡ b ∷ unlines ls
unfolding unlines
unlines_cut b true e ls = ap (λ (x : ℕ). x ∷ unlines ls) (sym (eqb-true b line_feed e))
unlines_cut b false e [] = refl
unlines_cut b false e (l ∷ ls) = refl

pub unlines_lines : (s : List ℕ) → unlines (lines s) ≡ s
unfolding unlines lines
unlines_lines [] = refl
unlines_lines (b ∷ s) = unlines_cut b (eqb b line_feed) refl (lines s) ∙ ap (λ (t : List ℕ). b ∷ t) (unlines_lines s)

pub lines_ended : (s t : List ℕ) → lacks line_feed s ≡ true → lines (s ++ (line_feed ∷ t)) ≡ record { bytes = s; ended = true } ∷ lines t
unfolding lines
lines_ended [] t h = refl
lines_ended (b ∷ s) t h = rw (first_lacks line_feed b s h, lines_ended s t (rest_lacks line_feed b s h))

lines_open : (b : ℕ) (s : List ℕ) → lacks line_feed (b ∷ s) ≡ true → lines (b ∷ s) ≡ record { bytes = b ∷ s; ended = false } ∷ []
unfolding lines
lines_open b [] h = rw (first_lacks line_feed b [] h)
lines_open b (c ∷ s) h = rw (first_lacks line_feed b (c ∷ s) h, lines_open c s (rest_lacks line_feed b (c ∷ s) h))

pub lines_at : (s : List ℕ) → length (up_to line_feed s) < length s → lines s ≡ record { bytes = up_to line_feed s; ended = true } ∷ lines (drop (suc (length (up_to line_feed s))) s)
lines_at s h = ap lines (sym (up_to_from line_feed s) ∙ ap (λ (t : List ℕ). up_to line_feed s ++ t) (from_rest line_feed s h)) ∙ lines_ended (up_to line_feed s) (drop (suc (length (up_to line_feed s))) s) (up_to_lacks line_feed s)

pub lines_last : (b : ℕ) (s : List ℕ) → length (up_to line_feed (b ∷ s)) ≡ length (b ∷ s) → lines (b ∷ s) ≡ record { bytes = b ∷ s; ended = false } ∷ []
lines_last b s h = lines_open b s (subst (λ (t : List ℕ). lacks line_feed t ≡ true) (up_to_all line_feed (b ∷ s) h) (up_to_lacks line_feed (b ∷ s)))
