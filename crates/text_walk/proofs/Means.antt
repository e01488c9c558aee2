-- The walk by the table of a kind of text is the step of that kind as far as its fields: `line_means`.
use mathlib.Core.Path.{◌≡◌, refl, sym, ap, subst, ◌∙◌}
use mathlib.Core.Bool.{Bool, true, false, true≢false}
use mathlib.Core.List.{List, [], ◌∷◌, map}
use Prim.Native.Nat.{ℕ, zero, suc, ◌-◌, ◌≤◌, ◌<◌}
use native.Mathlib.Decide.{dec_lt}
use native.Mathlib.Omega.{arith}
use lib.Dec.{ltb}
use lib.ListN.{length, get_or, take, drop, length-map}
use borrow.Author.Tests.{le-ltb, lt-ltb, ltb-true}
use Rattle.model.specs.declared.Refusal.{Refusal}
use Rattle.model.specs.Step.{Step, next, fault, check, on_next}
use Rattle.text_grammar.specs.Line.{Line, comma, up_to, from, fields}
use Rattle.text_grammar.specs.Words.{same, Words, word_in}
use Rattle.text_grammar.specs.Reading.{Kind, step_word, step_bytes, step_line}
use Rattle.text_grammar.specs.Steps.{entry_fault, Entered, line_at}
use Rattle.text_grammar.proofs.Entry.{found_or, step_word_law}
use Rattle.text_line.specs.declared.Spelling.{Spelling}
use Rattle.std.specs.Prelude.{Result, Ok, Err}
use Rattle.text_line.specs.Held.{spelled}
use Rattle.text_line.specs.Steps.{LineOk}
use Rattle.text_line.proofs.Find.{spelled_text}
use Rattle.text_walk.specs.declared.Tests.{Tests}
use Rattle.text_walk.specs.declared.Walked.{Walked}
use Rattle.text_walk.specs.Walk.{Walk, word, stop, fault_at, find_in, unless_fault, if_known, walk_word, walk_bytes, walk_line, walk_of, WalkedOk}

module _ {W S : Type 0} (k : Kind W S) (z : W) where
  abbrev d : Words W
  d = k.words

  abbrev pub spellings_of : List W → List Spelling
  spellings_of ws = map (λ w. spelled (d.spell w)) ws

  -- the spellings of a table are those of the kind's words
  pub record TableOf (ps : List Spelling) (n : ℕ) : Type 0 where
    pub spells : take n ps ≡ spellings_of d.all

  -- the faults of the kind's words
  pub record FaultsOf (s : S) (fs : Tests) : Type 0 where
    pub at : (i : ℕ) → i < length d.all → fault_at fs i ≡ entry_fault k s (get_or d.all i z)

  -- ---- the word

  abbrev found_at : List W → ℕ → Step W
  found_at ws i = check (ltb i (length ws)) 2 (next (get_or ws i z))

  next_at : (w : W) (ws : List W) (i : ℕ) → found_at ws i ≡ found_at (w ∷ ws) (suc i)
  next_at w ws i = by (dec_lt i (length ws))
    where
      by : Dec (i < length ws) → found_at ws i ≡ found_at (w ∷ ws) (suc i)
      by (yes h) = rw (lt-ltb i (length ws) h, lt-ltb (suc i) (suc (length ws)) (omega arith))
      by (no h) = rw (le-ltb i (length ws) (omega arith), le-ltb (suc i) (suc (length ws)) (omega arith))

  find_word : (ws : List W) (b : List ℕ) → word_in d ws b ≡ found_at ws (find_in (spellings_of ws) b)
  unfolding word_in find_in
  find_word [] b = refl
  find_word (w ∷ ws) b = by (same (d.spell w) b) refl (find_word ws b)
    where
      by : (t : Bool) → same (d.spell w) b ≡ t → word_in d ws b ≡ found_at ws (find_in (spellings_of ws) b) → word_in d (w ∷ ws) b ≡ found_at (w ∷ ws) (find_in (spellings_of (w ∷ ws)) b)
      by true q ih = rw (spelled_text (d.spell w), q, word_in, find_in, lt-ltb 0 (suc (length ws)) (omega arith))
      by false q ih = rw (spelled_text (d.spell w), q, word_in, find_in) (ih ∙ next_at w ws (find_in (spellings_of ws) b))

  -- ---- what a walk means

  -- word i with the bytes rest after it: it passes the tests before the fields, and with the fields in those bytes it adds what the step says
  pub record WordMeans (s : S) (i : ℕ) (rest : List ℕ) (step : Step S) : Type 0 where
    pub entered : Entered k s (get_or d.all i z)
    pub adds : on_next (fields (d.form (get_or d.all i z)) rest) (k.add s (get_or d.all i z)) ≡ step

  abbrev pub Means : S → Walk → Step S → Type 0
  Means s (word i rest) step = WordMeans s i rest step
  Means s (stop m) step = fault m ≡ step

  module _ (s : S) (i : ℕ) (rest : List ℕ) where
    abbrev w : W
    w = get_or d.all i z

    word_means : (m : ℕ) → m ≡ entry_fault k s w → Means s (unless_fault m (word i rest)) (found_or m (on_next (fields (d.form w) rest) (k.add s w)))
    word_means zero q = record { entered = record { clear = sym q }; adds = refl }
    word_means (suc m) q = refl

  module _ (s : S) (ps : List Spelling) (n : ℕ) (fs : Tests) (t : TableOf ps n) (f : FaultsOf s fs) where
    module _ (b : List ℕ) where
      abbrev i : ℕ
      i = find_in (spellings_of d.all) (up_to comma b)

      abbrev here : W
      here = get_or d.all i z

      walk_at : walk_bytes ps n fs b ≡ walk_word fs (length d.all) i (from comma b)
      unfolding walk_bytes
      walk_at = ap (λ (q : List Spelling). walk_word fs (length q) (find_in q (up_to comma b)) (from comma b)) t.spells ∙ rw (length-map d.all (λ w. spelled (d.spell w)))

      step_at : step_bytes k s b ≡ on_next (found_at d.all i) (λ w. step_word k s w (from comma b))
      unfolding step_bytes
      step_at = ap (λ (x : Step W). on_next x (λ w. step_word k s w (from comma b))) (find_word d.all (up_to comma b))

      known_means : i < length d.all → Means s (walk_bytes ps n fs b) (step_bytes k s b)
      known_means h =
          rw (walk_at, step_at, lt-ltb i (length d.all) h, f.at i h, step_word_law k s here (on_next (fields (d.form here) (from comma b)) (k.add s here)))
          (word_means s i (from comma b) (entry_fault k s here) refl)

      unknown_means : length d.all ≤ i → Means s (walk_bytes ps n fs b) (step_bytes k s b)
      unknown_means h = rw (walk_at, step_at, le-ltb i (length d.all) h)

      bytes_mean : Means s (walk_bytes ps n fs b) (step_bytes k s b)
      bytes_mean = by (dec_lt i (length d.all))
        where
          by : Dec (i < length d.all) → Means s (walk_bytes ps n fs b) (step_bytes k s b)
          by (yes h) = known_means h
          by (no h) = unknown_means (omega arith)

    pub line_means : (x : Line) → Means s (walk_line ps n fs x) (step_line k s x)
    line_means x = by x.ended
      where
        by : (e : Bool) → Means s (if_known e (walk_bytes ps n fs x.bytes)) (check e 2 (step_bytes k s x.bytes))
        by true = bytes_mean x.bytes
        by false = refl

    -- the answer of the program, r, for the line x
    module _ (l : ℕ) (x : Line) (r : Result Walked Refusal) (ok : WalkedOk ps n fs l x r) where
      meant : Means s (walk_of r x.bytes) (step_line k s x)
      meant = subst (λ (w : Walk). Means s w (step_line k s x)) (sym ok.meant) (line_means x)

      pub walked_stops : (f : Refusal) → r ≡ Err f → LineOk {S = S} (Err f) l (step_line k s x)
      walked_stops f q = record { meant = rw q at meant; at = rw q at ok.at }

      -- a line without fault, with the word w
      module _ (p : Walked) (q : r ≡ Ok p) (w : W) (e : w ≡ get_or d.all p.word z) where
        clear : WordMeans s p.word (drop p.size x.bytes) (step_line k s x)
        clear = rw q at meant

        pub walked_entered : Entered k s w
        walked_entered = subst (λ (w : W). Entered k s w) (sym e) clear.entered

        pub walked_adds : on_next (fields (d.form w) (drop p.size x.bytes)) (k.add s w) ≡ step_line k s x
        walked_adds = subst (λ (w : W). on_next (fields (d.form w) (drop p.size x.bytes)) (k.add s w) ≡ step_line k s x) (sym e) clear.adds

abbrev is_word : Walk → Bool
is_word (word i s) = true
is_word (stop m) = false

-- a line that has a word has its LF, so it lies in the text
pub walked_inside : (text : List ℕ) (a e : ℕ) (ps : List Spelling) (n : ℕ) (fs : Tests) (l : ℕ) (r : Result Walked Refusal) → WalkedOk ps n fs l (line_at text a e) r → (p : Walked) → r ≡ Ok p → e ≤ length text
walked_inside text a e ps n fs l r ok p q = by (ltb e (length text)) refl
  where
    by : (b : Bool) → ltb e (length text) ≡ b → e ≤ length text
    by true t = let h = ltb-true e (length text) t in omega arith
    by false t =
        let z : word p.word (drop p.size (take (e - a) (drop a text))) ≡ stop 2 = rw (q, t) at ok.meant in
        absurd (true≢false (ap is_word z))
