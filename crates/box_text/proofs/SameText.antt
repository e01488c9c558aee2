-- One meaning has one text for what is written with boxes: where two texts are equal, so are the records and the boxes (`boxed_same`).
-- The lines of the whole text are lines of a record or of boxes; they are told from the text, and each kind from its word.
use mathlib.Core.Path.{◌≡◌, refl, sym, ap, subst, ◌∙◌}
use mathlib.Core.Bool.{true}
use mathlib.Core.List.{List, [], ◌∷◌, ◌++◌, map, append_assoc, append-nil}
use Prim.{tt}
use Prim.Native.Nat.{ℕ, suc}
use Rattle.num_text.specs.Number.{all_of}
use Rattle.model.specs.Meaning.{Chip, Record}
use Rattle.model.specs.Step.{next}
use Rattle.text_grammar.specs.Line.{Value, Form}
use Rattle.text_grammar.specs.Words.{Words, word_in, same, Item, item_text, items_text, value}
use Rattle.text_grammar.proofs.Every.{Every, every_append}
use Rattle.text_grammar.proofs.Words.{is_told, told_by}
use Rattle.text_grammar.proofs.FieldsText.{is_mark, clean, is_form, suits, shaped, judged}
use Rattle.text_grammar.proofs.Items.{Formed, Within}
use Rattle.text_grammar.proofs.SameText.{items_same}
use Rattle.record_text.specs.declared.RecordWord.{RecordWord}
use Rattle.record_text.specs.declared.RecordWord.TheVariants as word
use Rattle.record_text.specs.Words as record_line
use Rattle.record_text.specs.Words.{record_words}
use Rattle.record_text.specs.Text.{record_items, record_text}
use Rattle.record_text.proofs.ItemsRecord.{same_items}
use Rattle.record_text.proofs.ItemsRun.{items_formed}
use Rattle.placement.specs.Integers.{NetBox}
use Rattle.box_text.specs.Words as box_line
use Rattle.box_text.specs.Words.{BoxWord, box, box_words}
use Rattle.box_text.specs.Text.{box_items, boxes_at, boxed_text}

-- ---- the words of both kinds of lines

data Either : Type 0 where
  placed : RecordWord → Either
  boxed : BoxWord → Either

abbrev spell : Either → List ℕ
spell (placed w) = record_line.spell w
spell (boxed w) = box_line.spell w

abbrev form : Either → Form
form (placed w) = record_line.form w
form (boxed w) = box_line.form w

abbrev both_words : Words Either
both_words = record { all = placed word.Least ∷ placed word.None ∷ placed word.At ∷ placed word.Done ∷ boxed box ∷ []; spell = spell; form = form }

fine : (w : Either) → is_told both_words w ≡ true
unfolding all_of is_mark clean is_form
fine (placed word.Least) = refl
fine (placed word.None) = refl
fine (placed word.At) = refl
fine (placed word.Done) = refl
fine (boxed box) = refl

found : (w : Either) → word_in both_words both_words.all (spell w) ≡ next w
unfolding word_in same
found (placed word.Least) = refl
found (placed word.None) = refl
found (placed word.At) = refl
found (placed word.Done) = refl
found (boxed box) = refl

-- ---- lines of one kind among lines of both

module _ {W : Type 0} (d : Words W) (into : W → Either) (spelled : (w : W) → spell (into w) ≡ d.spell w) (formed : (w : W) → form (into w) ≡ d.form w) where
  abbrev lift : Item W → Item Either
  lift i = record { word = into i.word; values = i.values }

  lift_text : (is : List (Item W)) (js : List (Item Either)) → items_text both_words (map lift is ++ js) ≡ items_text d is ++ items_text both_words js
  unfolding items_text item_text
  lift_text [] js = refl
  lift_text (i ∷ is) js = rw (spelled i.word, formed i.word, lift_text is js) (sym (append_assoc (item_text d i) (items_text d is) (items_text both_words js)))

  -- what holds of the fields of every line
  lift_every : (P : Form → List Value → Type 0) (is : List (Item W)) → Every (λ (i : Item W). P (d.form i.word) i.values) is → Every (λ (i : Item Either). P (form i.word) i.values) (map lift is)
  lift_every P [] f = tt
  lift_every P (i ∷ is) f = (subst (λ (g : Form). P g i.values) (sym (formed i.word)) f.0, lift_every P is f.1)

abbrev of_record : Item RecordWord → Item Either
of_record = lift record_words placed (λ w. refl) (λ w. refl)

abbrev of_box : Item BoxWord → Item Either
of_box = lift box_words boxed (λ w. refl) (λ w. refl)

-- the lines of a record and of boxes
abbrev all : List (Item RecordWord) → List (Item BoxWord) → List (Item Either)
all is js = map of_record is ++ map of_box js

all_text : (is : List (Item RecordWord)) (js : List (Item BoxWord)) → items_text both_words (all is js) ≡ items_text record_words is ++ items_text box_words js
unfolding items_text
all_text is js =
    lift_text record_words placed (λ w. refl) (λ w. refl) is (map of_box js)
    ∙ ap (λ (t : List ℕ). items_text record_words is ++ t)
    (ap (items_text both_words) (sym (append-nil (map of_box js))) ∙ (lift_text box_words boxed (λ w. refl) (λ w. refl) js [] ∙ append-nil (items_text box_words js)))

-- ---- and back

abbrev with_record : Either → List Value → List (Item RecordWord) → List (Item RecordWord)
with_record (placed w) vs is = record { word = w; values = vs } ∷ is
with_record (boxed w) vs is = is

abbrev with_box : Either → List Value → List (Item BoxWord) → List (Item BoxWord)
with_box (placed w) vs js = js
with_box (boxed w) vs js = record { word = w; values = vs } ∷ js

abbrev records_in : List (Item Either) → List (Item RecordWord)
records_in [] = []
records_in (i ∷ is) = with_record i.word i.values (records_in is)

abbrev boxes_in : List (Item Either) → List (Item BoxWord)
boxes_in [] = []
boxes_in (i ∷ is) = with_box i.word i.values (boxes_in is)

no_records : (js : List (Item BoxWord)) → records_in (map of_box js) ≡ []
no_records [] = refl
no_records (j ∷ js) = no_records js

records_back : (is : List (Item RecordWord)) (js : List (Item BoxWord)) → records_in (all is js) ≡ is
records_back [] js = no_records js
records_back (i ∷ is) js = ap (λ (t : List (Item RecordWord)). i ∷ t) (records_back is js)

only_boxes : (js : List (Item BoxWord)) → boxes_in (map of_box js) ≡ js
only_boxes [] = refl
only_boxes (j ∷ js) = ap (λ (t : List (Item BoxWord)). j ∷ t) (only_boxes js)

boxes_back : (is : List (Item RecordWord)) (js : List (Item BoxWord)) → boxes_in (all is js) ≡ js
boxes_back [] js = only_boxes js
boxes_back (i ∷ is) js = boxes_back is js

-- the boxes that lines say
abbrev boxes_of : List (Item BoxWord) → List NetBox
boxes_of [] = []
boxes_of (j ∷ js) = record { left = value j.values 1; right = value j.values 2; bottom = value j.values 3; top = value j.values 4 } ∷ boxes_of js

said_boxes : (n : ℕ) (bs : List NetBox) → boxes_of (box_items n bs) ≡ bs
unfolding box_items
said_boxes n [] = refl
said_boxes n (b ∷ bs) = ap (λ (t : List NetBox). b ∷ t) (said_boxes (suc n) bs)

-- ---- the whole text

-- every number of the lines is in its range
pub record InRange (c : Chip) (r : Record) : Type 0 where
  pub lines : Every (Within record_words) (record_items r)
  pub boxes : Every (Within box_words) (box_items 1 (boxes_at c r))

boxes_formed : (n : ℕ) (bs : List NetBox) → Every (Formed box_words) (box_items n bs)
unfolding box_items shaped suits
boxes_formed n [] = tt
boxes_formed n (b ∷ bs) = (refl, boxes_formed (suc n) bs)

abbrev its : Chip → Record → List (Item Either)
its c r = all (record_items r) (box_items 1 (boxes_at c r))

its_text : (c : Chip) (r : Record) → items_text both_words (its c r) ≡ boxed_text c r
unfolding boxed_text record_text
its_text c r = all_text (record_items r) (box_items 1 (boxes_at c r))

its_every : (P : Form → List Value → Type 0) (c : Chip) (r : Record) → Every (λ (i : Item RecordWord). P (record_line.form i.word) i.values) (record_items r) → Every (λ (i : Item BoxWord). P (box_line.form i.word) i.values) (box_items 1 (boxes_at c r)) → Every (λ (i : Item Either). P (form i.word) i.values) (its c r)
its_every P c r h k =
    every_append (λ (i : Item Either). P (form i.word) i.values) (map of_record (record_items r)) (map of_box (box_items 1 (boxes_at c r)))
    (lift_every record_words placed (λ w. refl) (λ w. refl) P (record_items r) h)
    (lift_every box_words boxed (λ w. refl) (λ w. refl) P (box_items 1 (boxes_at c r)) k)

its_formed : (c : Chip) (r : Record) → Every (Formed both_words) (its c r)
its_formed c r = its_every (λ f vs. shaped f vs ≡ true) c r (items_formed r) (boxes_formed 1 (boxes_at c r))

its_within : (c : Chip) (r : Record) → InRange c r → Every (Within both_words) (its c r)
its_within c r h = its_every (λ f vs. judged f vs ≡ next vs) c r h.lines h.boxes

pub boxed_same : (c d : Chip) (r s : Record) → InRange c r → InRange d s → boxed_text c r ≡ boxed_text d s → (r ≡ s) × (boxes_at c r ≡ boxes_at d s)
boxed_same c d r s h k e =
    let q : its c r ≡ its d s = items_same both_words (told_by both_words fine found) (its c r) (its d s) (its_formed c r) (its_within c r h) (its_formed d s) (its_within d s k) (its_text c r ∙ (e ∙ sym (its_text d s))) in
    let lines = sym (records_back (record_items r) (box_items 1 (boxes_at c r))) ∙ (ap records_in q ∙ records_back (record_items s) (box_items 1 (boxes_at d s))) in
    let boxes = sym (boxes_back (record_items r) (box_items 1 (boxes_at c r))) ∙ (ap boxes_in q ∙ boxes_back (record_items s) (box_items 1 (boxes_at d s))) in
    (same_items r s lines, sym (said_boxes 1 (boxes_at c r)) ∙ (ap boxes_of boxes ∙ said_boxes 1 (boxes_at d s)))
