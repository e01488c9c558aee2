-- A text as items: the lines of a written text are read as its items (`read_items`), and an accepted text is the text of its items (`items_read`).
-- Reading a line tests word, place, count and pins, then its fields. The line of an item passes the tests of word and form, so that only the tests of
-- its values are left of reading its fields: `item_step`. Back, each accepted line has its LF, a known word and fields that are read: its bytes are the
-- text of that word and those values.
use mathlib.Core.Path.{◌≡◌, refl, sym, ap, ap₂, subst, ◌∙◌, fun_ext}
use mathlib.Core.Bool.{Bool, true, false}
use mathlib.Core.List.{List, [], ◌∷◌, ◌++◌, append_assoc}
use Prim.{tt}
use Prim.Native.Nat.{ℕ, suc, ◌≤◌}
use native.Mathlib.Omega.{arith}
use lib.Dec.{leb}
use lib.ListN.{length}
use lib.Seq.{append_snoc}
use borrow.Author.Tests.{le-leb, leb-true}
use Rattle.model.specs.Step.{Step, next, fault, check, on_next}
use Rattle.text_grammar.specs.Line.{comma, line_feed, Line, lines, up_to, from, Value, fields, fields_text}
use Rattle.text_grammar.specs.Words.{Words, word_in, Item, item_text, items_text}
use Rattle.text_grammar.specs.Reading.{Reading, accepted, refused, onward, Kind, step_word, step_bytes, step_line, read_lines, read_text}
use Rattle.text_grammar.specs.Steps.{in_place, ending, on_entry}
use Rattle.text_grammar.proofs.Lacks.{lacks, all_append}
use Rattle.text_grammar.proofs.Cut.{up_to_from, up_to_clean, from_clean, feed, unlines, unlines_lines, lines_ended}
use Rattle.text_grammar.proofs.FieldsText.{no_fault, shaped, judged, fields_stop, fields_lack, fields_read, fields_written}
use Rattle.text_grammar.proofs.Words.{Told, word_spelled}
use Rattle.text_grammar.proofs.Every.{Every}

module _ {W : Type 0} (d : Words W) where
  -- an item with values for the form of its word
  abbrev pub Formed : Item W → Type 0
  Formed i = shaped (d.form i.word) i.values ≡ true

  -- an item whose values pass their tests
  abbrev pub Within : Item W → Type 0
  Within i = judged (d.form i.word) i.values ≡ next i.values

  -- what an item's line says before its LF
  abbrev pub line_bytes : Item W → List ℕ
  line_bytes i = d.spell i.word ++ fields_text (d.form i.word) i.values

  item_bytes : (i : Item W) → line_bytes i ++ (line_feed ∷ []) ≡ item_text d i
  unfolding item_text
  item_bytes i = append_assoc (d.spell i.word) (fields_text (d.form i.word) i.values) (line_feed ∷ [])

  module _ (told : Told d) where
    line_lacks : (i : Item W) → Formed i → lacks line_feed (line_bytes i) ≡ true
    line_lacks i f =
        all_append _ (d.spell i.word) (fields_text (d.form i.word) i.values) (told.no_feed i.word)
        (fields_lack (d.form i.word) i.values (told.formed i.word) f)

    pub item_lines : (i : Item W) (t : List ℕ) → Formed i → lines (item_text d i ++ t) ≡ record { bytes = line_bytes i; ended = true } ∷ lines t
    item_lines i t f = rw (← item_bytes i, append_snoc (line_bytes i) line_feed t) (lines_ended (line_bytes i) t (line_lacks i f))

module _ {W S : Type 0} (k : Kind W S) where
  abbrev pub WellFormed : List (Item W) → Type 0
  WellFormed is = Every (Formed k.words) is

  unfoldable pub item_step : S → Item W → Step S
  item_step s i = on_entry k s i.word (on_next (judged (k.words.form i.word) i.values) (k.add s i.word))

  unfoldable pub run_items : S → ℕ → List (Item W) → Reading S
  run_items s n [] = ending k s n
  run_items s n (i ∷ is) = onward (item_step s i) n (λ t. run_items t (suc n) is)

  module _ (told : Told k.words) where
    step_item : (s : S) (i : Item W) → Formed k.words i → step_bytes k s (line_bytes k.words i) ≡ item_step s i
    unfolding step_bytes item_step
    step_item s i f =
        let w : W = i.word in
        let t : List ℕ = fields_text (k.words.form w) i.values in
        let p : up_to comma t ≡ [] = fields_stop (k.words.form w) i.values (told.formed w) in
        let c : lacks comma (k.words.spell w) ≡ true = told.no_comma w in
        rw (up_to_clean comma (k.words.spell w) t c p, from_clean comma (k.words.spell w) t c p, told.found w, fields_read (k.words.form w) i.values (told.formed w) f)

    pub read_items : (s : S) (n : ℕ) (is : List (Item W)) → WellFormed is → read_lines k s n (lines (items_text k.words is)) ≡ run_items s n is
    unfolding read_lines lines items_text run_items
    read_items s n [] f = refl
    read_items s n (i ∷ is) f =
        rw (item_lines k.words told i (items_text k.words is) f.0, step_item s i f.0)
        (ap (onward (item_step s i) n) (fun_ext (λ t. read_items t (suc n) is f.1)))

module _ {S : Type 0} where
  pub no_refusal : {A : Type 0} {n l : ℕ} {t : S} → refused n l ≡ accepted t → A
  no_refusal e = absurd (let q : ◌≡◌ {A = ℕ} 0 1 = cc in omega arith)

  pub check_next : (b : Bool) (n : ℕ) (x : Step S) (t : S) → check b n x ≡ next t → (b ≡ true) × (x ≡ next t)
  check_next true n x t e = (refl, e)
  check_next false n x t e = no_fault e

  pub onward_accepted : (x : Step S) (n : ℕ) (more : S → Reading S) (t : S) → onward x n more ≡ accepted t → (m : S) × (x ≡ next m) × (more m ≡ accepted t)
  onward_accepted (next m) n more t e = (m, refl, e)
  onward_accepted (fault f) n more t e = no_refusal e

module _ {W S : Type 0} (k : Kind W S) where
  fields_next : (s : S) (w : W) (f : Step (List Value)) (t : S) → on_next f (k.add s w) ≡ next t → (vs : List Value) × (f ≡ next vs)
  fields_next s w (next vs) t e = (vs, refl)
  fields_next s w (fault n) t e = no_fault e

  -- a word that passes the tests before the fields
  pub word_next : (s : S) (w : W) (x : Step S) (t : S) → on_entry k s w x ≡ next t → (in_place k s w ≡ true) × (x ≡ next t)
  word_next s w x t e =
      let d = check_next (in_place k s w) 5 _ t e in
      let g = check_next (k.has_room s w) 6 _ t d.1 in
      (d.0, (check_next (k.has_pin s w) 7 x t g.1).1)

  module _ (told : Told k.words) where
    -- an item whose line has the bytes b, and what it leads to
    record ItemOf (s t : S) (b : List ℕ) : Type 0 where
      item : Item W
      text : b ≡ line_bytes k.words item
      step : item_step k s item ≡ next t
      formed : Formed k.words item
      within : Within k.words item

    word_item : (s t : S) (b : List ℕ) (x : Step W) → word_in k.words k.words.all (up_to comma b) ≡ x → on_next x (λ w. step_word k s w (from comma b)) ≡ next t → ItemOf s t b
    unfolding item_step
    word_item s t b (next w) q e =
        let c = word_next s w (on_next (fields (k.words.form w) (from comma b)) (k.add s w)) t e in
        let f = fields_next s w (fields (k.words.form w) (from comma b)) t c.1 in
        let g = fields_written (k.words.form w) (from comma b) f.0 (told.formed w) f.1 in
        let p : up_to comma b ≡ k.words.spell w = word_spelled k.words k.words.all (up_to comma b) w q in
        record { item = record { word = w; values = f.0 }; text = sym (up_to_from comma b) ∙ cc (p, g.text); step = rw g.passes (subst (λ (x : Step (List Value)). on_entry k s w (on_next x (k.add s w)) ≡ next t) f.1 e); formed = g.shape; within = g.passes }
    word_item s t b (fault n) q e = no_fault e

    line_item : (s t : S) (b : List ℕ) → step_bytes k s b ≡ next t → ItemOf s t b
    unfolding step_bytes
    line_item s t b e = word_item s t b (word_in k.words k.words.all (up_to comma b)) refl e

    -- items whose text is t, and what reading them from s leads to
    pub record ItemsOf (s s' : S) (n : ℕ) (t : List ℕ) : Type 0 where
      pub items : List (Item W)
      pub text : t ≡ items_text k.words items
      pub run : run_items k s n items ≡ accepted s'
      pub formed : WellFormed k items
      pub within : Every (Within k.words) items

    lines_items : (s s' : S) (n : ℕ) (ls : List Line) → read_lines k s n ls ≡ accepted s' → ItemsOf s s' n (unlines ls)
    unfolding read_lines unlines items_text run_items
    lines_items s s' n [] e = record { items = []; text = refl; run = e; formed = tt; within = tt }
    lines_items s s' n (l ∷ ls) e =
        let o = onward_accepted (step_line k s l) n (λ t. read_lines k t (suc n) ls) s' e in
        let c = check_next l.ended 2 (step_bytes k s l.bytes) o.0 o.1 in
        let i = line_item s o.0 l.bytes c.1 in
        let is = lines_items o.0 s' (suc n) ls o.2 in
        record { items = i.item ∷ is.items; text = ap₂ ◌++◌ (ap₂ (λ (b : List ℕ) (d : Bool). b ++ feed d) i.text c.0 ∙ item_bytes k.words i.item) is.text; run = rw i.step is.run; formed = (i.formed, is.formed); within = (i.within, is.within) }

    pub items_read : (s s' : S) (n : ℕ) (t : List ℕ) → read_lines k s n (lines t) ≡ accepted s' → ItemsOf s s' n t
    items_read s s' n t e = rw unlines_lines at (lines_items s s' n (lines t) e)

  module _ (start : S) (t : List ℕ) where
    pub read_text_short : length t ≤ k.most_bytes → read_text k start t ≡ read_lines k start 1 (lines t)
    unfolding read_text
    read_text_short h = rw (le-leb (length t) k.most_bytes h)

    module _ (s' : S) (e : read_text k start t ≡ accepted s') where
      pub read_text_length : length t ≤ k.most_bytes
      unfolding read_text
      read_text_length =
          let o = onward_accepted (check (leb (length t) k.most_bytes) 1 (next start)) 0 (λ s. read_lines k s 1 (lines t)) s' e in
          leb-true (length t) k.most_bytes (check_next (leb (length t) k.most_bytes) 1 (next start) o.0 o.1).0

      pub read_text_lines : read_lines k start 1 (lines t) ≡ accepted s'
      read_text_lines = sym (read_text_short read_text_length) ∙ e
