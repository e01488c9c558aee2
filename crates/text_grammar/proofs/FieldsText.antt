-- Fields and their text: reading the text of values gives the values that pass their tests, and no other text is read as them.
-- A mark begins with a comma and the text of a value has none, so cutting at the first comma takes each value's text out whole.
use mathlib.Core.Path.{◌≡◌, refl, sym, ap, ◌∙◌}
use mathlib.Core.Bool.{Bool, true, false, ◌&&◌, ◌||◌, not, false≢true}
use mathlib.Core.List.{List, [], ◌∷◌, ◌++◌}
use Prim.Native.Nat.{ℕ, ◌+◌, ◌<◌}
use native.Mathlib.Decide.{ℕ_discrete}
use native.Mathlib.Omega.{arith}
use lib.Dec.{eqb}
use lib.IntN.{ℤ}
use borrow.Author.Tests.{eq-eqb, ne_eqb, eqb-true}
use Rattle.num_text.specs.Number.{Numeral, no_number, numeral_of, number_text, all_of}
use Rattle.num_text.specs.Number as decimal
use Rattle.num_text.proofs.RoundTrip.{read_text_law, text_read, text_bytes}
use Rattle.model.specs.Limits.{Range, is_within}
use Rattle.model.specs.Step.{Step, next, fault, check, on_next}
use Rattle.text_grammar.specs.Line.{comma, line_feed, up_to, from, Sort, numbers, strings, Value, number, string, absent, is_of, is_string, numbered, value_of, value_text, Rule, Form, over, one, either, strip, and_then, marked, fields, if_absent, field_text, fields_text}
use Rattle.text_grammar.proofs.Lacks.{lacks, and_left, and_right, all_append}
use Rattle.text_grammar.proofs.Cut.{up_to_from, up_to_stop, up_to_clean, from_clean}

-- ---- marks and sets as the reader wants them

-- a comma first, and no LF
unfoldable pub is_mark : List ℕ → Bool
is_mark [] = false
is_mark (b ∷ m) = eqb b comma && lacks line_feed (b ∷ m)

-- the bytes of strings are neither comma nor LF
unfoldable pub clean : Sort → Bool
clean (numbers r) = true
clean (strings set lo hi) = lacks comma set && lacks line_feed set

abbrev is_fine : Rule → Bool
is_fine r = is_mark r.mark && clean r.sort

-- the two marks differ at some byte
unfoldable pub differ : List ℕ → List ℕ → Bool
differ [] n = false
differ (a ∷ m) [] = false
differ (a ∷ m) (b ∷ n) = not (eqb b a) || differ m n

-- no text of the form begins with the mark m
unfoldable pub apart : List ℕ → Form → Bool
apart m over = true
apart m (one r f) = differ m r.mark
apart m (either r f g) = differ m r.mark && apart m g

-- every mark is one, every set is clean, and the two ways of a choice are told apart by their marks
unfoldable pub is_form : Form → Bool
is_form over = true
is_form (one r f) = is_fine r && is_form f
is_form (either r f g) = is_fine r && (apart r.mark g && (is_form f && is_form g))

mark_stops : (m t : List ℕ) → is_mark m ≡ true → up_to comma (m ++ t) ≡ []
unfolding is_mark
mark_stops [] t h = cc
mark_stops (b ∷ m) t h = rw (eqb-true b comma (and_left (eqb b comma) (lacks line_feed (b ∷ m)) h)) (up_to_stop comma (m ++ t))

mark_lacks : (m : List ℕ) → is_mark m ≡ true → lacks line_feed m ≡ true
unfolding is_mark
mark_lacks [] h = cc
mark_lacks (b ∷ m) h = and_right (eqb b comma) (lacks line_feed (b ∷ m)) h

-- a mark is not empty
mark_strips : (m : List ℕ) → is_mark m ≡ true → strip m [] ≡ fault 2
unfolding is_mark strip
mark_strips [] h = cc
mark_strips (b ∷ m) h = refl

strip_mark : (m s : List ℕ) → strip m (m ++ s) ≡ next s
unfolding strip
strip_mark [] s = refl
strip_mark (a ∷ m) s = rw (eq-eqb a a refl, strip) (strip_mark m s)

mark_strip : (m s t : List ℕ) → strip m s ≡ next t → s ≡ m ++ t
unfolding strip
mark_strip [] s t e = cc
mark_strip (a ∷ m) [] t e = cc
mark_strip (a ∷ m) (b ∷ s) t e = by (ℕ_discrete b a) (mark_strip m s t)
  where
    by : Dec (b ≡ a) → (strip m s ≡ next t → s ≡ m ++ t) → b ∷ s ≡ a ∷ (m ++ t)
    by (yes q) ih = let i = ih (rw (eq-eqb b a q, strip) at e) in cc
    by (no n) ih = let i : fault 2 ≡ next t = rw (ne_eqb b a n, strip) at e in cc

differ_strip : (m n t : List ℕ) → differ m n ≡ true → strip m (n ++ t) ≡ fault 2
unfolding differ strip
differ_strip [] n t h = cc
differ_strip (a ∷ m) [] t h = cc
differ_strip (a ∷ m) (b ∷ n) t h = by (eqb b a) refl h (differ_strip m n t)
  where
    by : (q : Bool) → eqb b a ≡ q → (not q || differ m n) ≡ true → (differ m n ≡ true → strip m (n ++ t) ≡ fault 2) → strip (a ∷ m) (b ∷ (n ++ t)) ≡ fault 2
    by true e g ih = rw (e, strip) (ih g)
    by false e g ih = rw (e, strip)

-- ---- the text of a value

-- the value is one of the sort: a number, or a string without comma and LF
unfoldable pub suits : Sort → Value → Bool
suits (numbers r) (number z) = true
suits (numbers r) (string s) = false
suits (numbers r) absent = false
suits (strings set lo hi) (number z) = false
suits (strings set lo hi) (string s) = lacks comma s && lacks line_feed s
suits (strings set lo hi) absent = false

-- a number's text lacks each byte that is neither a digit nor the minus sign
pub number_lacks : (d : ℕ) → d < 45 → (z : ℤ) → lacks d (number_text z) ≡ true
number_lacks d h = text_bytes (λ b. not (eqb b d)) (rw (ne_eqb 45 d (λ e. omega arith))) (λ n g. rw (ne_eqb (48 + n) d (λ e. omega arith)))

value_lacks : (o : Sort) (v : Value) → suits o v ≡ true → (lacks comma (value_text v) ≡ true) × (lacks line_feed (value_text v) ≡ true)
unfolding suits
value_lacks (numbers r) (number z) h = (number_lacks comma (omega arith) z, number_lacks line_feed (omega arith) z)
value_lacks (numbers r) (string s) h = absurd (false≢true h)
value_lacks (numbers r) absent h = absurd (false≢true h)
value_lacks (strings set lo hi) (number z) h = absurd (false≢true h)
value_lacks (strings set lo hi) (string s) h = (and_left (lacks comma s) (lacks line_feed s) h, and_right (lacks comma s) (lacks line_feed s) h)
value_lacks (strings set lo hi) absent h = absurd (false≢true h)

-- a value of a sort is there
pub suits_here : (o : Sort) (v : Value) → suits o v ≡ true → {A : Type 0} (a b : A) → if_absent v a b ≡ b
unfolding suits
suits_here o (number z) h a b = refl
suits_here o (string s) h a b = refl
suits_here (numbers r) absent h a b = absurd (false≢true h)
suits_here (strings set lo hi) absent h a b = absurd (false≢true h)

-- the test of a value alone
abbrev pub judge : Sort → Value → Step Value
judge (numbers r) (number z) = check (is_within r z) 4 (next (number z))
judge (numbers r) (string s) = fault 3
judge (numbers r) absent = fault 3
judge (strings set lo hi) (number z) = fault 3
judge (strings set lo hi) (string s) = check (is_string set lo hi s) 3 (next (string s))
judge (strings set lo hi) absent = fault 3

value_read : (o : Sort) (v : Value) → suits o v ≡ true → value_of o (value_text v) ≡ judge o v
unfolding suits
value_read (numbers r) (number z) h = rw (read_text_law z)
value_read (numbers r) (string s) h = cc
value_read (numbers r) absent h = cc
value_read (strings set lo hi) (number z) h = cc
value_read (strings set lo hi) (string s) h = refl
value_read (strings set lo hi) absent h = cc

pub no_fault : {A S : Type 0} {n : ℕ} {t : S} → fault n ≡ next t → A
no_fault e = absurd (let q : ◌≡◌ {A = ℕ} 0 1 = cc in omega arith)

-- a byte of a set that lacks d is no d
of_lacks : (set : List ℕ) (d b : ℕ) → lacks d set ≡ true → is_of set b ≡ true → not (eqb b d) ≡ true
unfolding is_of all_of
of_lacks [] d b h e = cc
of_lacks (a ∷ set) d b h e = by (ℕ_discrete b a) e (of_lacks set d b (and_right (not (eqb a d)) (lacks d set) h))
  where
    by : Dec (b ≡ a) → (eqb b a || is_of set b) ≡ true → (is_of set b ≡ true → not (eqb b d) ≡ true) → not (eqb b d) ≡ true
    by (yes q) g ih = rw q (and_left (not (eqb a d)) (lacks d set) h)
    by (no n) g ih = ih (rw (ne_eqb b a n) at g)

set_lacks : (set : List ℕ) (d : ℕ) → lacks d set ≡ true → (s : List ℕ) → all_of (is_of set) s ≡ true → lacks d s ≡ true
unfolding all_of
set_lacks set d h [] e = refl
set_lacks set d h (b ∷ s) e = rw (of_lacks set d b h (and_left (is_of set b) (all_of (is_of set) s) e)) (set_lacks set d h s (and_right (is_of set b) (all_of (is_of set) s) e))

-- what is read as the value v
record IsValue (o : Sort) (s : List ℕ) (v : Value) : Type 0 where
  text : s ≡ value_text v
  passes : judge o v ≡ next v
  suited : suits o v ≡ true

number_value : (r : Range) (s : List ℕ) (v : Value) (x : Numeral) → numeral_of s ≡ x → numbered x r ≡ next v → IsValue (numbers r) s v
unfolding suits
number_value r s v (decimal.number z) q e = by (is_within r z) refl e
  where
    by : (t : Bool) → is_within r z ≡ t → check t 4 (next (number z)) ≡ next v → IsValue (numbers r) s v
    by true p g = let y : v ≡ number z = cc in rw y (record { text = text_read s z q; passes = rw p; suited = refl })
    by false p g = no_fault g
number_value r s v no_number q e = no_fault e

string_value : (set : List ℕ) (lo hi : ℕ) (s : List ℕ) (v : Value) → clean (strings set lo hi) ≡ true → (t : Bool) → is_string set lo hi s ≡ t → check t 3 (next (string s)) ≡ next v → IsValue (strings set lo hi) s v
unfolding suits clean
string_value set lo hi s v h true p g =
    let y : v ≡ string s = cc in
    let a = and_left (all_of (is_of set) s) _ p in
    let c = set_lacks set comma (and_left (lacks comma set) (lacks line_feed set) h) s a in
    let d = set_lacks set line_feed (and_right (lacks comma set) (lacks line_feed set) h) s a in
    rw y (record { text = refl; passes = rw p; suited = rw (c, d) })
string_value set lo hi s v h false p g = no_fault g

value_written : (o : Sort) (s : List ℕ) (v : Value) → clean o ≡ true → value_of o s ≡ next v → IsValue o s v
value_written (numbers r) s v h e = number_value r s v (numeral_of s) refl e
value_written (strings set lo hi) s v h e = string_value set lo hi s v h (is_string set lo hi s) refl e

-- ---- the fields

-- values for a form: one for each field, of its sort
unfoldable pub shaped : Form → List Value → Bool
shaped over [] = true
shaped over (v ∷ vs) = false
shaped (one r f) [] = false
shaped (one r f) (v ∷ vs) = suits r.sort v && shaped f vs
shaped (either r f g) [] = false
shaped (either r f g) (v ∷ vs) = if_absent v (shaped g vs) (suits r.sort v && shaped f vs)

-- a field's value and those of the further fields
abbrev pub valued : Step Value → Step (List Value) → Step (List Value)
valued x more = on_next x (λ v. and_then v more)

-- the tests of the values alone
unfoldable pub judged : Form → List Value → Step (List Value)
judged over vs = next []
judged (one r f) [] = next []
judged (one r f) (v ∷ vs) = valued (judge r.sort v) (judged f vs)
judged (either r f g) [] = next []
judged (either r f g) (v ∷ vs) = if_absent v (and_then absent (judged g vs)) (valued (judge r.sort v) (judged f vs))

-- a value that suits a choice is absent, or of its sort
pub data Choice (o : Sort) (v : Value) (f g : Bool) : Type 0 where
  left_out : v ≡ absent → g ≡ true → Choice o v f g
  taken : suits o v ≡ true → f ≡ true → Choice o v f g

pub choose : (o : Sort) (v : Value) (f g : Bool) → if_absent v g (suits o v && f) ≡ true → Choice o v f g
choose o absent f g e = left_out refl e
choose o (number z) f g e = taken (and_left (suits o (number z)) f e) (and_right (suits o (number z)) f e)
choose o (string s) f g e = taken (and_left (suits o (string s)) f e) (and_right (suits o (string s)) f e)

module _ (r : Rule) (v : Value) (h : is_fine r ≡ true) (more : List ℕ) where
  here_mark : is_mark r.mark ≡ true
  here_mark = and_left (is_mark r.mark) (clean r.sort) h

  pub field_stops : up_to comma (field_text r v more) ≡ []
  field_stops = mark_stops r.mark (value_text v ++ more) here_mark

  pub field_lacks : suits r.sort v ≡ true → lacks line_feed more ≡ true → lacks line_feed (field_text r v more) ≡ true
  field_lacks s m = all_append _ r.mark (value_text v ++ more) (mark_lacks r.mark here_mark) (all_append _ (value_text v) more (value_lacks r.sort v s).1 m)

  -- the text of a field is read as its value, where it passes its test
  pub field_read : suits r.sort v ≡ true → up_to comma more ≡ [] → (k : List ℕ → Step (List Value)) (else : Step (List Value)) → marked (strip r.mark (field_text r v more)) r k else ≡ valued (judge r.sort v) (k more)
  field_read s p k else =
      let c : lacks comma (value_text v) ≡ true = (value_lacks r.sort v s).0 in
      rw (strip_mark r.mark (value_text v ++ more), up_to_clean comma (value_text v) more c p, from_clean comma (value_text v) more c p, value_read r.sort v s)

-- the parts of a choice that is as the reader wants it
module _ (r : Rule) (f g : Form) (h : is_form (either r f g) ≡ true) where
  choice_fine : is_fine r ≡ true
  unfolding is_form
  choice_fine = and_left (is_fine r) _ h

  choice_apart : apart r.mark g ≡ true
  unfolding is_form
  choice_apart = and_left (apart r.mark g) _ (and_right (is_fine r) _ h)

  choice_first : is_form f ≡ true
  unfolding is_form
  choice_first = and_left (is_form f) (is_form g) (and_right (apart r.mark g) _ (and_right (is_fine r) _ h))

  choice_second : is_form g ≡ true
  unfolding is_form
  choice_second = and_right (is_form f) (is_form g) (and_right (apart r.mark g) _ (and_right (is_fine r) _ h))

module _ (r : Rule) (f : Form) (h : is_form (one r f) ≡ true) where
  one_fine : is_fine r ≡ true
  unfolding is_form
  one_fine = and_left (is_fine r) (is_form f) h

  one_more : is_form f ≡ true
  unfolding is_form
  one_more = and_right (is_fine r) (is_form f) h

pub fields_stop : (f : Form) (vs : List Value) → is_form f ≡ true → up_to comma (fields_text f vs) ≡ []
unfolding fields_text up_to
fields_stop over vs h = refl
fields_stop (one r f) [] h = refl
fields_stop (one r f) (v ∷ vs) h = field_stops r v (one_fine r f h) (fields_text f vs)
fields_stop (either r f g) [] h = refl
fields_stop (either r f g) (absent ∷ vs) h = fields_stop g vs (choice_second r f g h)
fields_stop (either r f g) (number z ∷ vs) h = field_stops r (number z) (choice_fine r f g h) (fields_text f vs)
fields_stop (either r f g) (string s ∷ vs) h = field_stops r (string s) (choice_fine r f g h) (fields_text f vs)

pub fields_lack : (f : Form) (vs : List Value) → is_form f ≡ true → shaped f vs ≡ true → lacks line_feed (fields_text f vs) ≡ true
unfolding fields_text shaped all_of
fields_lack over vs h e = refl
fields_lack (one r f) [] h e = refl
fields_lack (one r f) (v ∷ vs) h e = field_lacks r v (one_fine r f h) (fields_text f vs) (and_left (suits r.sort v) _ e) (fields_lack f vs (one_more r f h) (and_right (suits r.sort v) _ e))
fields_lack (either r f g) [] h e = refl
fields_lack (either r f g) (v ∷ vs) h e = by (choose r.sort v (shaped f vs) (shaped g vs) e) (fields_lack f vs (choice_first r f g h)) (fields_lack g vs (choice_second r f g h))
  where
    by : Choice r.sort v (shaped f vs) (shaped g vs) → (shaped f vs ≡ true → lacks line_feed (fields_text f vs) ≡ true) → (shaped g vs ≡ true → lacks line_feed (fields_text g vs) ≡ true) → lacks line_feed (if_absent v (fields_text g vs) (field_text r v (fields_text f vs))) ≡ true
    by (left_out q t) first second = rw q (second t)
    by (taken p t) first second = rw (suits_here r.sort v p (fields_text g vs) (field_text r v (fields_text f vs))) (field_lacks r v (choice_fine r f g h) (fields_text f vs) p (first t))

-- the text of a form does not begin with a mark that is apart from it
text_apart : (m : List ℕ) → is_mark m ≡ true → (g : Form) (vs : List Value) → apart m g ≡ true → strip m (fields_text g vs) ≡ fault 2
unfolding fields_text apart
text_apart m k over vs e = mark_strips m k
text_apart m k (one r f) [] e = mark_strips m k
text_apart m k (one r f) (v ∷ vs) e = differ_strip m r.mark (value_text v ++ fields_text f vs) e
text_apart m k (either r f g) [] e = mark_strips m k
text_apart m k (either r f g) (absent ∷ vs) e = text_apart m k g vs (and_right (differ m r.mark) (apart m g) e)
text_apart m k (either r f g) (number z ∷ vs) e = differ_strip m r.mark (number_text z ++ fields_text f vs) (and_left (differ m r.mark) (apart m g) e)
text_apart m k (either r f g) (string s ∷ vs) e = differ_strip m r.mark (s ++ fields_text f vs) (and_left (differ m r.mark) (apart m g) e)

pub fields_read : (f : Form) (vs : List Value) → is_form f ≡ true → shaped f vs ≡ true → fields f (fields_text f vs) ≡ judged f vs
unfolding fields fields_text judged shaped
fields_read over [] h e = refl
fields_read over (v ∷ vs) h e = cc
fields_read (one r f) [] h e = cc
fields_read (one r f) (v ∷ vs) h e =
    field_read r v (one_fine r f h) (fields_text f vs) (and_left (suits r.sort v) _ e) (fields_stop f vs (one_more r f h)) (λ t. fields f t) (fault 2)
    ∙ ap (valued (judge r.sort v)) (fields_read f vs (one_more r f h) (and_right (suits r.sort v) _ e))
fields_read (either r f g) [] h e = cc
fields_read (either r f g) (v ∷ vs) h e = by (choose r.sort v (shaped f vs) (shaped g vs) e) (fields_read f vs (choice_first r f g h)) (fields_read g vs (choice_second r f g h))
  where
    by : Choice r.sort v (shaped f vs) (shaped g vs) → (shaped f vs ≡ true → fields f (fields_text f vs) ≡ judged f vs) → (shaped g vs ≡ true → fields g (fields_text g vs) ≡ judged g vs) → fields (either r f g) (if_absent v (fields_text g vs) (field_text r v (fields_text f vs))) ≡ if_absent v (and_then absent (judged g vs)) (valued (judge r.sort v) (judged f vs))
    by (left_out q t) first second = rw (q, text_apart r.mark (here_mark r v (choice_fine r f g h) []) g vs (choice_apart r f g h)) (ap (and_then absent) (second t))
    by (taken p t) first second =
        rw (suits_here r.sort v p (fields_text g vs) (field_text r v (fields_text f vs)), suits_here r.sort v p (and_then absent (judged g vs)) (valued (judge r.sort v) (judged f vs)))
        (field_read r v (choice_fine r f g h) (fields_text f vs) p (fields_stop f vs (choice_first r f g h)) (λ t. fields f t) (and_then absent (fields g (field_text r v (fields_text f vs)))) ∙ ap (valued (judge r.sort v)) (first t))

-- ---- back

pub and_then_got : (v : Value) (f : Step (List Value)) (vs : List Value) → and_then v f ≡ next vs → (us : List Value) × (f ≡ next us) × (vs ≡ v ∷ us)
and_then_got v (next us) vs e = (us, refl, cc)
and_then_got v (fault n) vs e = no_fault e

-- values come from a test that is passed and values after it
pub valued_got : (x : Step Value) (f : Step (List Value)) (vs : List Value) → valued x f ≡ next vs → (v : Value) × (us : List Value) × (x ≡ next v) × (f ≡ next us) × (vs ≡ v ∷ us)
valued_got (next v) f vs e = let q = and_then_got v f vs e in (v, q.0, refl, q.1, q.2)
valued_got (fault n) f vs e = no_fault e

-- what is written back of the values of a form that the bytes s are read as
pub record Back (f : Form) (s : List ℕ) (vs : List Value) : Type 0 where
  pub text : s ≡ fields_text f vs
  pub passes : judged f vs ≡ next vs
  pub shape : shaped f vs ≡ true

-- the values of a line whose first field is r, read after its mark
record Taken (t : List ℕ) (r : Rule) (more : List ℕ → Step (List Value)) (vs : List Value) : Type 0 where
  head : Value
  tail : List Value
  is : IsValue r.sort (up_to comma t) head
  others : more (from comma t) ≡ next tail
  both : vs ≡ head ∷ tail

take_field : (t : List ℕ) (r : Rule) (more : List ℕ → Step (List Value)) (vs : List Value) → is_fine r ≡ true → valued (value_of r.sort (up_to comma t)) (more (from comma t)) ≡ next vs → Taken t r more vs
take_field t r more vs h e =
    let q = valued_got (value_of r.sort (up_to comma t)) (more (from comma t)) vs e in
    record { head = q.0; tail = q.1; is = value_written r.sort (up_to comma t) q.0 (and_right (is_mark r.mark) (clean r.sort) h) q.2; others = q.3; both = q.4 }

-- the text of a field that was taken and of the fields after it
taken_text : (s t : List ℕ) (r : Rule) (v : Value) (more : List ℕ) → strip r.mark s ≡ next t → up_to comma t ≡ value_text v → from comma t ≡ more → s ≡ field_text r v more
taken_text s t r v more e p q = mark_strip r.mark s t e ∙ ap (λ (u : List ℕ). r.mark ++ u) (sym (up_to_from comma t) ∙ cc (p, q))

pub fields_written : (f : Form) (s : List ℕ) (vs : List Value) → is_form f ≡ true → fields f s ≡ next vs → Back f s vs
unfolding fields fields_text judged shaped
fields_written over [] vs h e = let q : vs ≡ [] = cc in rw q (record { text = refl; passes = refl; shape = refl })
fields_written over (b ∷ s) vs h e = no_fault e
fields_written (one r f) s vs h e = by (strip r.mark s) refl e (λ t us g. fields_written f t us (one_more r f h) g)
  where
    by : (x : Step (List ℕ)) → strip r.mark s ≡ x → marked x r (λ t. fields f t) (fault 2) ≡ next vs → ((t : List ℕ) (us : List Value) → fields f t ≡ next us → Back f t us) → Back (one r f) s vs
    by (next t) q g ih =
        let k = take_field t r (λ u. fields f u) vs (one_fine r f h) g in
        let b = ih (from comma t) k.tail k.others in
        rw k.both (record { text = taken_text s t r k.head (fields_text f k.tail) q k.is.text b.text; passes = rw (k.is.passes, b.passes); shape = rw (k.is.suited, b.shape) })
    by (fault n) q g ih = no_fault g
fields_written (either r f g) s vs h e = by (strip r.mark s) refl e (λ t us p. fields_written f t us (choice_first r f g h) p) (λ us p. fields_written g s us (choice_second r f g h) p)
  where
    by : (x : Step (List ℕ)) → strip r.mark s ≡ x → marked x r (λ t. fields f t) (and_then absent (fields g s)) ≡ next vs → ((t : List ℕ) (us : List Value) → fields f t ≡ next us → Back f t us) → ((us : List Value) → fields g s ≡ next us → Back g s us) → Back (either r f g) s vs
    by (next t) q p first second =
        let k = take_field t r (λ u. fields f u) vs (choice_fine r f g h) p in
        let b = first (from comma t) k.tail k.others in
        rw k.both (record { text = taken_text s t r k.head (fields_text f k.tail) q k.is.text b.text ∙ sym (suits_here r.sort k.head k.is.suited (fields_text g k.tail) _); passes = suits_here r.sort k.head k.is.suited (and_then absent (judged g k.tail)) _ ∙ rw (k.is.passes, b.passes); shape = suits_here r.sort k.head k.is.suited (shaped g k.tail) _ ∙ rw (k.is.suited, b.shape) })
    by (fault n) q p first second =
        let k = and_then_got absent (fields g s) vs p in
        let b = second k.0 k.1 in
        rw k.2 (record { text = b.text; passes = rw b.passes; shape = b.shape })

-- the values that pass are the values
judge_same : (o : Sort) (v w : Value) → judge o v ≡ next w → w ≡ v
judge_same (numbers r) (number z) w e = by (is_within r z) e
  where
    by : (t : Bool) → check t 4 (next (number z)) ≡ next w → w ≡ number z
    by true g = cc
    by false g = no_fault g
judge_same (numbers r) (string s) w e = no_fault e
judge_same (numbers r) absent w e = no_fault e
judge_same (strings set lo hi) (number z) w e = no_fault e
judge_same (strings set lo hi) (string s) w e = by (is_string set lo hi s) e
  where
    by : (t : Bool) → check t 3 (next (string s)) ≡ next w → w ≡ string s
    by true g = cc
    by false g = no_fault g
judge_same (strings set lo hi) absent w e = no_fault e

pub judged_same : (f : Form) (vs us : List Value) → shaped f vs ≡ true → judged f vs ≡ next us → us ≡ vs
unfolding judged shaped
judged_same over [] us h e = cc
judged_same over (v ∷ vs) us h e = cc
judged_same (one r f) [] us h e = cc
judged_same (one r f) (v ∷ vs) us h e =
    let q = valued_got (judge r.sort v) (judged f vs) us e in
    let i = judged_same f vs q.1 (and_right (suits r.sort v) _ h) q.3 in
    let j = judge_same r.sort v q.0 q.2 in
    cc (q.4, i, j)
judged_same (either r f g) [] us h e = cc
judged_same (either r f g) (v ∷ vs) us h e = by (choose r.sort v (shaped f vs) (shaped g vs) h) (judged_same f vs) (judged_same g vs)
  where
    by : Choice r.sort v (shaped f vs) (shaped g vs) → ((ts : List Value) → shaped f vs ≡ true → judged f vs ≡ next ts → ts ≡ vs) → ((ts : List Value) → shaped g vs ≡ true → judged g vs ≡ next ts → ts ≡ vs) → us ≡ v ∷ vs
    by (left_out q t) first second =
        let k = and_then_got absent (judged g vs) us (rw q at e) in
        let i = second k.0 t k.1 in
        cc (q, k.2, i)
    by (taken p t) first second =
        let k = valued_got (judge r.sort v) (judged f vs) us (sym (suits_here r.sort v p (and_then absent (judged g vs)) (valued (judge r.sort v) (judged f vs))) ∙ e) in
        let i = first k.1 t k.3 in
        let j = judge_same r.sort v k.0 k.2 in
        cc (k.4, i, j)
