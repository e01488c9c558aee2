-- The steps of the reader of a line's fields: what its loop keeps, and each answer.
use mathlib.Core.Path.{◌≡◌, refl, sym, ap, subst, ◌∙◌}
use mathlib.Core.List.{List, [], ◌∷◌, ◌++◌, append_assoc, append-nil}
use Prim.Native.Nat.{ℕ, zero, suc, ◌+◌, ◌-◌, ◌≤◌, ◌<◌}
use native.Mathlib.Numerals.{add-one}
use native.Mathlib.Decide.{dec_le}
use native.Mathlib.Omega.{arith}
use lib.Dec.{leb}
use lib.ListN.{length, get_or, take, drop, set, replicate, drop_of_length-le}
use lib.Seq.{drop-cons, get_or-set_same, get_or-set_other, take-suc-set}
use mathlib.Core.Bool.{Bool, not, true, false}
use borrow.Author.Tests.{le-leb, lt-leb, not-true}
use Rattle.std.specs.Prelude.{Result, Ok, Err, Option, Some, None}
use Rattle.model.specs.declared.Refusal.{Refusal}
use Rattle.model.specs.Counted.{Holds}
use Rattle.model.specs.Held.{filled}
use Rattle.model.proofs.FirstOf.{first_take}
use Rattle.model.proofs.Holding.{holds_more, holds_none, holds_all, filled_again}
use Rattle.text_grammar.specs.Steps.{need}
use Rattle.text_grammar.specs.Reading.{accepted, refused}
use Rattle.model.specs.Step.{Step, next, fault}
use Rattle.text_grammar.specs.Line.{comma, up_to, Value, number, string, absent, and_then, Form, over, fields, if_absent}
use Rattle.text_grammar.specs.Choice.{is_absent, next_place}
use Rattle.text_line.specs.declared.Rule.{Rule as HeldRule}
use Rattle.text_line.specs.Held.{lowered}
use Rattle.text_line.specs.Layout.{rule_at, pick, is_number, way_of, form_at, value_in, place_after, values_at, numbers_at, form_of, values_of, is_layout, Laid, located, read_fields, FieldsOk}
use Rattle.text_line.proofs.Ways.{form_ends, values_end, form_goes_on, values_go_on, way_taken}
use Rattle.text_line.specs.Steps.{Got, Faulty, FieldOk, end_answer}

absent_again : (s : List ℕ) (r : HeldRule) (v : ℕ) → if_absent (value_in s r v) true false ≡ is_absent r.other v
absent_again s r v = by (is_absent r.other v) (is_number r)
  where
    by : (b n : Bool) → if_absent (pick b absent (pick n (number (lowered r.up v)) (string (up_to comma (drop v s))))) true false ≡ b
    by true n = refl
    by false true = refl
    by false false = refl

-- ---- values in front

-- the values zs in front of those that follow
pub prefixed : List Value → Step (List Value) → Step (List Value)
prefixed [] f = f
prefixed (z ∷ zs) f = and_then z (prefixed zs f)

prefixed_more : (zs : List Value) (z : Value) (f : Step (List Value)) → prefixed zs (and_then z f) ≡ prefixed (zs ++ (z ∷ [])) f
unfolding prefixed
prefixed_more [] z f = refl
prefixed_more (y ∷ zs) z f = rw (prefixed_more zs z f)

prefixed_faulty : (zs : List Value) (n : ℕ) → prefixed zs (fault n) ≡ fault n
unfolding prefixed
prefixed_faulty [] n = refl
prefixed_faulty (z ∷ zs) n = rw (prefixed_faulty zs n)

prefixed_all : (zs : List Value) → prefixed zs (next []) ≡ next zs
unfolding prefixed
prefixed_all [] = refl
prefixed_all (z ∷ zs) = rw (prefixed_all zs)

-- ---- what the loop keeps

-- the first i fields have the values vs, and the next one begins at a and has its rule at place j
pub record ReadTo (rs : List HeldRule) (text vs : List ℕ) (a j i : ℕ) : Type 0 where
  pub room : Holds 0 4 i vs
  pub far : List Value
  pub kept : fields (form_of rs) text ≡ prefixed far (fields (form_at (4 - i) rs j) (drop a text))
  pub again : (ws : List ℕ) → ((n : ℕ) → n < i → get_or ws n 0 ≡ get_or vs n 0) → values_of rs text ws ≡ far ++ values_at (4 - i) rs text ws j i
  pub held : (zs : List Value) → numbers_at rs text 0 0 (far ++ zs) ≡ take i vs ++ numbers_at rs text j a zs

pub read_none : (rs : List HeldRule) (text : List ℕ) → ReadTo rs text (replicate 4 0) 0 0 0
unfolding prefixed
read_none rs text = record { room = holds_none 0 4; far = []; kept = refl; again = λ ws h. refl; held = λ zs. refl }

-- ---- the whole answer, by what it means

refused_answer : (rs : List HeldRule) (l : ℕ) (text : List ℕ) (r : Refusal) → refused r.no r.line ≡ read_fields rs l text → FieldsOk rs l text (Err r)
refused_answer rs l text r e = record { meant = e; whole = rw (← e) }

got_answer : (rs : List HeldRule) (l : ℕ) (text vs : List ℕ) (i : ℕ) → Holds 0 4 i vs → numbers_at rs text 0 0 (values_of rs text vs) ≡ take i vs → accepted (values_of rs text vs) ≡ read_fields rs l text → FieldsOk rs l text (Ok vs)
got_answer rs l text vs i h q e = record { meant = e; whole = rw (← e) (ap Ok (sym back)) }
  where
    back : filled 4 0 (numbers_at rs text 0 0 (values_of rs text vs)) ≡ vs
    back = rw (q, ← first_take 0 i vs (holds_all h)) (filled_again 0 4 i vs h)

-- a layout beyond the limits
pub no_layout : (rs : List HeldRule) (l : ℕ) (text : List ℕ) (r : Bool) → r ≡ is_layout rs → not r ≡ true → FieldsOk rs l text ((Err (record { no = 2; line = l })))
unfolding read_fields
no_layout rs l text r e h = refused_answer rs l text (record { no = 2; line = l }) (rw (← e, not-true r h, read_fields))

-- ---- the fault of leftover bytes

pub left_over : (m l : ℕ) (vs : List ℕ) (n : ℕ) → n ≡ m → (n ≡ 0 → ⊥) → Err (record { no = n; line = l }) ≡ end_answer m l vs
left_over zero l vs n e z = absurd (z e)
left_over (suc m) l vs n e z = rw e

pub none_left : (m l : ℕ) (vs : List ℕ) (n : ℕ) → n ≡ m → n ≡ 0 → Ok vs ≡ end_answer m l vs
none_left m l vs n e z = rw (← e, z)

-- ---- the steps

module _ (rs : List HeldRule) (text vs : List ℕ) (a j i : ℕ) (inv : ReadTo rs text vs a j i) (ok : Laid rs) (l : ℕ) where
  means : read_fields rs l text ≡ located l (fields (form_of rs) text)
  unfolding read_fields
  means = rw (ok.fine, read_fields)

  module _ (r : HeldRule) (e : r ≡ rule_at rs j) (size : r.size ≡ 0 → ⊥) (h : i < 4) where
    there : (rule_at rs j).size ≡ 0 → ⊥
    there = rw e at size

    abbrev more : ℕ
    more = 4 - (i + 1)

    abbrev first : Form
    first = form_at more rs (next_place j (rule_at rs j).other false)

    abbrev second : Form
    second = form_at more rs (next_place j (rule_at rs j).other true)

    -- the field that is read next
    kept_here : fields (form_of rs) text ≡ prefixed inv.far (fields (way_of (rule_at rs j) first second) (drop a text))
    kept_here = let q : 4 - i ≡ suc more = omega arith in inv.kept ∙ rw (q, form_goes_on more rs j there)

    pub read_refused : (x : Refusal) → Faulty text a r l x → FieldsOk rs l text (Err x)
    read_refused x one =
        let g : Faulty text a (rule_at rs j) l x = subst (λ (r : HeldRule). Faulty text a r l x) e one in
        refused_answer rs l text x (rw (means, kept_here, g.read first second, prefixed_faulty, g.at))

    pub read_more : (v b : ℕ) → Got text a r v b → (t : Bool) → t ≡ is_absent r.other v → (p : ℕ) → p ≡ next_place j r.other t → ReadTo rs text (set vs i v) b p (i + 1)
    unfolding numbers_at
    read_more v b one t u p w =
        let d = inv.room.long in
        record { room = holds_more inv.room v h; far = inv.far ++ (z ∷ []); kept = kept_on; again = again_on; held = held_on }
      where
        z : Value
        z = value_in text (rule_at rs j) v

        g : Got text a (rule_at rs j) v b
        g = subst (λ (r : HeldRule). Got text a r v b) e one

        place : place_after rs j v ≡ p
        place = sym (w ∙ rw (u, e))

        kept_on : fields (form_of rs) text ≡ prefixed (inv.far ++ (z ∷ [])) (fields (form_at more rs p) (drop b text))
        kept_on = kept_here ∙ rw (g.read first second, prefixed_more, way_taken more rs j (rule_at rs j).other (is_absent (rule_at rs j).other v), place)

        again_on : (ws : List ℕ) → ((n : ℕ) → n < i + 1 → get_or ws n 0 ≡ get_or (set vs i v) n 0) → values_of rs text ws ≡ (inv.far ++ (z ∷ [])) ++ values_at more rs text ws p (i + 1)
        again_on ws same =
            let k : 4 - i ≡ suc more = omega arith in
            let x : get_or ws i 0 ≡ v = same i (omega arith) ∙ get_or-set_same vs i v 0 (omega (arith, inv.room.long)) in
            inv.again ws (λ n c. same n (omega arith) ∙ get_or-set_other vs i n v 0 (λ y. absurd (omega arith)))
            ∙ rw (k, values_go_on more rs j there text ws i, x, place, append_assoc, add-one)

        held_on : (zs : List Value) → numbers_at rs text 0 0 ((inv.far ++ (z ∷ [])) ++ zs) ≡ take (i + 1) (set vs i v) ++ numbers_at rs text p b zs
        held_on zs =
            rw (append_assoc inv.far (z ∷ []) zs, inv.held (z ∷ zs), g.held, g.ends, absent_again text (rule_at rs j) v, place, add-one, take-suc-set vs i v (omega (arith, inv.room.long)))
            (sym (append_assoc (take i vs) (v ∷ []) (numbers_at rs text p b zs)))

  -- no field is left
  module _ (x : Result (List ℕ) Refusal) (e : x ≡ end_answer (need (leb (length text) a) 2 0) l vs) where
    ended : form_at (4 - i) rs j ≡ over → values_at (4 - i) rs text vs j i ≡ [] → FieldsOk rs l text x
    unfolding fields numbers_at
    ended over-here none_here = by (dec_le (length text) a)
      where
        all : values_of rs text vs ≡ inv.far
        all = inv.again vs (λ n c. refl) ∙ rw (none_here, append-nil)

        held_all : numbers_at rs text 0 0 (values_of rs text vs) ≡ take i vs
        held_all = ap (numbers_at rs text 0 0) (all ∙ sym (append-nil inv.far)) ∙ (inv.held [] ∙ append-nil (take i vs))

        by : Dec (length text ≤ a) → FieldsOk rs l text x
        by (yes h) = subst (FieldsOk rs l text) (sym (e ∙ rw (le-leb (length text) a h))) (got_answer rs l text vs i inv.room held_all (rw (all, means, inv.kept, over-here, drop_of_length-le text h, prefixed_all)))
        by (no h) = let g : a < length text = omega arith in subst (FieldsOk rs l text) (sym (e ∙ rw (lt-leb (length text) a g))) (refused_answer rs l text (record { no = 2; line = l }) (rw (means, inv.kept, over-here, drop-cons text a 0 g, prefixed_faulty)))

    pub no_rule_left : (r : HeldRule) → r ≡ rule_at rs j → r.size ≡ 0 → FieldsOk rs l text x
    no_rule_left r q s = let z : (rule_at rs j).size ≡ 0 = rw q at s in ended (form_ends (4 - i) rs j z) (values_end (4 - i) rs j z text vs i)

    pub no_room_left : 4 ≤ i → FieldsOk rs l text x
    unfolding form_at values_at
    no_room_left h = let q : 4 - i ≡ 0 = omega arith in ended (rw q) (rw q)
