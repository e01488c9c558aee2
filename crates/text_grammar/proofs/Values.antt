-- The values of a line that pass their tests are the values of the part that is read from them.
-- Such a part holds the value of a field that can't be negative as a natural number: `held` writes it back.
use mathlib.Core.Path.{◌≡◌, refl, sym, ap, ap₂, ◌∙◌}
use mathlib.Core.Bool.{Bool, true, false}
use mathlib.Core.List.{List, [], ◌∷◌, ◌++◌}
use Prim.{Unit, tt}
use Prim.Native.Nat.{ℕ, suc}
use lib.IntN.{ℤ, pos, negsuc, nat_abs}
use lib.ListN.{get_or}
use lib.Signed.{le_z}
use Rattle.model.specs.Limits.{is_within}
use Rattle.model.specs.Step.{next, check}
use Rattle.text_grammar.specs.Line.{Sort, numbers, strings, Value, number, string, absent, is_string, Form, over, one, either, and_then, if_absent}
use Rattle.text_grammar.specs.Words.{Words, Item, number_in}
use Rattle.text_grammar.proofs.Lacks.{and_left, and_right}
use Rattle.text_grammar.proofs.FieldsText.{suits, judge, shaped, judged, valued, valued_got, and_then_got, no_fault, Choice, left_out, taken, choose, suits_here}

abbrev whole : Bool → ℤ → ℤ
whole true z = pos (nat_abs z)
whole false z = z

-- the value that a part holds of a field
abbrev kept : Sort → Value → Value
kept (numbers r) v = number (whole (le_z (pos 0) r.least) (number_in v))
kept (strings set lo hi) v = v

-- the values v 0, v 1, .. of a form
abbrev held : Form → (ℕ → Value) → List Value
held over v = []
held (one r f) v = kept r.sort (v 0) ∷ held f (λ i. v (suc i))
held (either r f g) v = if_absent (v 0) (absent ∷ held g (λ i. v (suc i))) (kept r.sort (v 0) ∷ held f (λ i. v (suc i)))

whole_same : (t : Bool) (l z : ℤ) → le_z (pos 0) l ≡ t → le_z l z ≡ true → whole t z ≡ z
whole_same true l (pos n) h g = refl
whole_same true (pos m) (negsuc n) h g = cc
whole_same true (negsuc m) (negsuc n) h g = cc
whole_same false l z h g = refl

kept_same : (o : Sort) (v w : Value) → suits o v ≡ true → judge o v ≡ next w → kept o v ≡ v
unfolding suits
kept_same (numbers r) (number z) w h e = by (is_within r z) refl e
  where
    by : (t : Bool) → is_within r z ≡ t → check t 4 (next (number z)) ≡ next w → number (whole (le_z (pos 0) r.least) z) ≡ number z
    by true q g = ap number (whole_same (le_z (pos 0) r.least) r.least z refl (and_left (le_z r.least z) (le_z z r.most) q))
    by false q g = no_fault g
kept_same (numbers r) (string s) w h e = no_fault e
kept_same (numbers r) absent w h e = no_fault e
kept_same (strings set lo hi) v w h e = refl

pub held_same : (f : Form) (vs us : List Value) → shaped f vs ≡ true → judged f vs ≡ next us → held f (λ i. get_or vs i absent) ≡ vs
unfolding judged shaped
held_same over [] us h e = refl
held_same over (v ∷ vs) us h e = cc
held_same (one r f) [] us h e = cc
held_same (one r f) (v ∷ vs) us h e =
    let q = valued_got (judge r.sort v) (judged f vs) us e in
    ap₂ ◌∷◌ (kept_same r.sort v q.0 (and_left (suits r.sort v) _ h) q.2) (held_same f vs q.1 (and_right (suits r.sort v) _ h) q.3)
held_same (either r f g) [] us h e = cc
held_same (either r f g) (v ∷ vs) us h e = by (choose r.sort v (shaped f vs) (shaped g vs) h) (held_same f vs) (held_same g vs)
  where
    rest : ℕ → Value
    rest i = get_or vs i absent

    by : Choice r.sort v (shaped f vs) (shaped g vs) → ((ts : List Value) → shaped f vs ≡ true → judged f vs ≡ next ts → held f rest ≡ vs) → ((ts : List Value) → shaped g vs ≡ true → judged g vs ≡ next ts → held g rest ≡ vs) → if_absent v (absent ∷ held g rest) (kept r.sort v ∷ held f rest) ≡ v ∷ vs
    by (left_out q t) first second =
        let k = and_then_got absent (judged g vs) us (rw q at e) in
        rw q (ap (λ (x : List Value). absent ∷ x) (second k.0 t k.1))
    by (taken p t) first second =
        let k = valued_got (judge r.sort v) (judged f vs) us (sym (suits_here r.sort v p (and_then absent (judged g vs)) (valued (judge r.sort v) (judged f vs))) ∙ e) in
        suits_here r.sort v p (absent ∷ held g rest) (kept r.sort v ∷ held f rest) ∙ ap₂ ◌∷◌ (kept_same r.sort v k.0 p k.2) (first k.1 t k.3)

module _ {W : Type 0} (d : Words W) where
  -- the values that the part read from a line of the word w with the values vs holds
  abbrev pub held_of : W → List Value → List Value
  held_of w vs = held (d.form w) (λ i. get_or vs i absent)

  -- a line's item after those of the parts read so far
  pub grows : (w : W) (vs : List Value) {js is ks : List (Item W)} → held_of w vs ≡ vs → js ≡ is → ks ≡ is ++ (record { word = w; values = held_of w vs } ∷ []) → js ++ (record { word = w; values = vs } ∷ []) ≡ ks
  grows w vs q e h = rw (e, h, q)

-- each value passes the test of its field
abbrev pub Passes : Sort → Value → Type 0
Passes (numbers r) (number z) = is_within r z ≡ true
Passes (numbers r) (string s) = ⊥
Passes (numbers r) absent = ⊥
Passes (strings set lo hi) (number z) = ⊥
Passes (strings set lo hi) (string s) = is_string set lo hi s ≡ true
Passes (strings set lo hi) absent = ⊥

abbrev pub Passing : Form → List Value → Type 0
Passing over vs = Unit {0}
Passing (one r f) [] = Unit {0}
Passing (one r f) (v ∷ vs) = Passes r.sort v × Passing f vs
Passing (either r f g) [] = Unit {0}
Passing (either r f g) (absent ∷ vs) = Passing g vs
Passing (either r f g) (number z ∷ vs) = Passes r.sort (number z) × Passing f vs
Passing (either r f g) (string s ∷ vs) = Passes r.sort (string s) × Passing f vs

passes : (o : Sort) (v w : Value) → judge o v ≡ next w → Passes o v
passes (numbers r) (number z) w e = by (is_within r z) refl e
  where
    by : (t : Bool) → is_within r z ≡ t → check t 4 (next (number z)) ≡ next w → is_within r z ≡ true
    by true q g = q
    by false q g = no_fault g
passes (numbers r) (string s) w e = no_fault e
passes (numbers r) absent w e = no_fault e
passes (strings set lo hi) (number z) w e = no_fault e
passes (strings set lo hi) (string s) w e = by (is_string set lo hi s) refl e
  where
    by : (t : Bool) → is_string set lo hi s ≡ t → check t 3 (next (string s)) ≡ next w → is_string set lo hi s ≡ true
    by true q g = q
    by false q g = no_fault g
passes (strings set lo hi) absent w e = no_fault e

pub passing : (f : Form) (vs us : List Value) → judged f vs ≡ next us → Passing f vs
unfolding judged
passing over vs us e = tt
passing (one r f) [] us e = tt
passing (one r f) (v ∷ vs) us e = let q = valued_got (judge r.sort v) (judged f vs) us e in (passes r.sort v q.0 q.2, passing f vs q.1 q.3)
passing (either r f g) [] us e = tt
passing (either r f g) (absent ∷ vs) us e = let q = and_then_got absent (judged g vs) us e in passing g vs q.0 q.1
passing (either r f g) (number z ∷ vs) us e = let q = valued_got (judge r.sort (number z)) (judged f vs) us e in (passes r.sort (number z) q.0 q.2, passing f vs q.1 q.3)
passing (either r f g) (string s ∷ vs) us e = let q = valued_got (judge r.sort (string s)) (judged f vs) us e in (passes r.sort (string s) q.0 q.2, passing f vs q.1 q.3)
