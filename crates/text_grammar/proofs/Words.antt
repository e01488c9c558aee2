-- Words of a kind of text: no spelling has a comma or an LF, the forms are as the reader wants them, and each word is found by its spelling (`Told`).
-- So a text that is read as a word is its spelling, words with one spelling are one, and what holds of a list of words holds of a word in it.
use mathlib.Core.Path.{◌≡◌, refl, sym, ap, subst, ◌∙◌}
use mathlib.Core.Bool.{Bool, true, false, ◌&&◌, ◌||◌, false≢true}
use mathlib.Core.List.{List, [], ◌∷◌}
use Prim.Native.Nat.{ℕ}
use lib.Dec.{eqb}
use borrow.Author.Tests.{eqb-true}
use Rattle.model.specs.Step.{next}
use Rattle.text_grammar.specs.Line.{comma, line_feed}
use Rattle.text_grammar.specs.Words.{same, Words, is_word, is_in, word_in}
use Rattle.text_grammar.proofs.Lacks.{lacks, and_left, and_right}
use Rattle.text_grammar.proofs.FieldsText.{is_form, no_fault}
use Rattle.text_grammar.proofs.Every.{Every}

-- words as the reader wants them
pub record Told {W : Type 0} (d : Words W) : Type 0 where
  pub no_comma : (w : W) → lacks comma (d.spell w) ≡ true
  pub no_feed : (w : W) → lacks line_feed (d.spell w) ≡ true
  pub formed : (w : W) → is_form (d.form w) ≡ true
  pub found : (w : W) → word_in d d.all (d.spell w) ≡ next w

-- the same of one word, as a test that computes
abbrev pub is_told : {W : Type 0} → Words W → W → Bool
is_told d w = lacks comma (d.spell w) && (lacks line_feed (d.spell w) && is_form (d.form w))

pub told_by : {W : Type 0} (d : Words W) → ((w : W) → is_told d w ≡ true) → ((w : W) → word_in d d.all (d.spell w) ≡ next w) → Told d
told_by d fine found = record {
  no_comma = λ w. and_left (lacks comma (d.spell w)) _ (fine w);
  no_feed = λ w. and_left (lacks line_feed (d.spell w)) (is_form (d.form w)) (and_right (lacks comma (d.spell w)) _ (fine w));
  formed = λ w. and_right (lacks line_feed (d.spell w)) (is_form (d.form w)) (and_right (lacks comma (d.spell w)) _ (fine w));
  found = found;
}

pub same_equal : (s t : List ℕ) → same s t ≡ true → s ≡ t
unfolding same
same_equal [] [] e = refl
same_equal [] (b ∷ t) e = cc
same_equal (a ∷ s) [] e = cc
same_equal (a ∷ s) (b ∷ t) e = let p = eqb-true a b (and_left (eqb a b) (same s t) e) in let q = same_equal s t (and_right (eqb a b) (same s t) e) in cc

module _ {W : Type 0} (d : Words W) where
  -- a text that is a word's is that word's spelling
  pub word_spelled : (ws : List W) (s : List ℕ) (w : W) → word_in d ws s ≡ next w → s ≡ d.spell w
  unfolding word_in
  word_spelled [] s w e = no_fault e
  word_spelled (a ∷ ws) s w e = by (same (d.spell a) s) refl (word_spelled ws s w)
    where
      by : (t : Bool) → same (d.spell a) s ≡ t → (word_in d ws s ≡ next w → s ≡ d.spell w) → s ≡ d.spell w
      by true q ih = let p : next a ≡ next w = rw (q, word_in) at e in let r : a ≡ w = cc in sym (same_equal (d.spell a) s q) ∙ ap d.spell r
      by false q ih = ih (rw (q, word_in) at e)

  module _ (told : Told d) where
    pub is_word_equal : (a b : W) → is_word d a b ≡ true → a ≡ b
    is_word_equal a b e =
        let p : next a ≡ next b = sym (told.found a) ∙ (ap (word_in d d.all) (same_equal (d.spell a) (d.spell b) e) ∙ told.found b) in
        cc

    pub every_in : (P : W → Type 0) (ws : List W) → Every P ws → (w : W) → is_in d w ws ≡ true → P w
    unfolding is_in
    every_in P [] p w e = absurd (false≢true e)
    every_in P (a ∷ ws) p w e = by (is_word d w a) refl e (every_in P ws p.1 w)
      where
        by : (t : Bool) → is_word d w a ≡ t → (t || is_in d w ws) ≡ true → (is_in d w ws ≡ true → P w) → P w
        by true q e ih = subst P (sym (is_word_equal w a q)) p.0
        by false q e ih = ih e
