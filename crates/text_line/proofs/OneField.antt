-- The steps of the reader of one field: its mark, its string, its number, its range.
use mathlib.Core.Path.{◌≡◌, refl, sym, ap, ◌∙◌}
use mathlib.Core.Bool.{Bool, true, false, not}
use mathlib.Core.List.{List}
use Prim.Native.Nat.{ℕ, zero, suc, ◌+◌, ◌-◌, ◌*◌, ◌^◌, ◌≤◌, ◌<◌, min}
use native.Mathlib.Omega.{arith}
use mir.Syntax.{w64}
use mir.Val.{Fits}
use lib.Dec.{leb}
use lib.IntN.{pos, negsuc}
use lib.ListN.{length, take, drop, length-drop}
use lib.Seq.{drop-drop}
use borrow.Author.Tests.{eq-eqb, ne_eqb, leb-true, not-true, not-false}
use Rattle.std.specs.Prelude.{Result, Ok, Err, Option, Some, None}
use Rattle.num_text.specs.declared.Number.{Number}
use Rattle.num_text.specs.Number.{Numeral, number, no_number, numeral_of}
use Rattle.num_text.specs.Held.{cap, held_number}
use Rattle.model.specs.Held.{raised}
use Rattle.model.proofs.HeldAgain.{raised_again}
use Rattle.model.specs.Step.{Step, fault}
use Rattle.text_grammar.specs.Line.{comma, up_to, strip, is_string, numbered, value_of, marked, and_then, fields, Value, absent, Rule, Form, one, either}
use Rattle.text_grammar.specs.Choice.{absent_held, name_fault, is_absent}
use Rattle.text_grammar.proofs.Choice.{told_must, told_may, absent_is, value_is, place_is}
use Rattle.text_grammar.proofs.FieldsText.{valued}
use Rattle.text_grammar.proofs.Lacks.{and_right}
use Rattle.model.specs.declared.Refusal.{Refusal}
use Rattle.text_line.specs.declared.Rule.{Rule as HeldRule}
use Rattle.text_line.specs.Held.{lowered}
use Rattle.text_line.specs.Layout.{mark_of, is_number, range_of, rule_of, must_stand, pick, end_from, Sane}
use Rattle.text_line.specs.Steps.{Starts, if_in_range, within, Got, Faulty, FieldOk}
use Rattle.text_grammar.proofs.Cut.{from_drop, part_long, part_end, part_end_fits, part_bytes}
use Rattle.text_line.proofs.Range.{ranged, never, no_number_held, positive_held, negative_held, below_held}

-- ---- the answer

-- what a field and those after it are read as, whether it must stand here or not, where that does not depend on it
way_read : (b : Bool) (r : Rule) (f g : Form) (s : List ℕ) (x : Step (List Value)) → ((else : Step (List Value)) → marked (strip r.mark s) r (λ t. fields f t) else ≡ x) → fields (pick b (one r f) (either r f g)) s ≡ x
unfolding fields
way_read true r f g s x p = p (fault 2)
way_read false r f g s x p = p (and_then absent (fields g s))

in_top : (r : HeldRule) (v : ℕ) → Sane r → within r v ≡ true → is_absent r.other v ≡ false
in_top r v ok t = value_is r.other v (let h = leb-true v r.most (and_right (leb r.least v) (leb v r.most) t) in omega (arith, ok.top))

lowered_again : (u v : ℕ) → raised u (lowered u v) ≡ v
lowered_again zero v = omega arith
lowered_again (suc u) v = raised_again (suc u) v

module _ (text : List ℕ) (a : ℕ) (r : HeldRule) (l b v : ℕ) (h : b ≤ length text) (ends : end_from text (a + r.size) ≡ b) (ok : Sane r) (plain : r.letters ≡ 0) where
  answered : (t : Bool) → within r v ≡ t → (f : Result (ℕ × ℕ) Refusal) → f ≡ if_in_range t v b l → ((more : List ℕ → Step (List Value)) (else : Step (List Value)) → marked (strip (mark_of r) (drop a text)) (rule_of r) more else ≡ valued (ranged t (lowered r.up v)) (more (drop b text))) → FieldOk text a r l f
  answered true q f e p = rw e (record { place = h; read = λ f g. way_read (must_stand r) (rule_of r) f g (drop a text) _ (p (λ t. fields f t)) ∙ rw (in_top r v ok q, number); held = rw (in_top r v ok q, number) (lowered_again r.up v); ends = rw (in_top r v ok q, number) ends })
    where
      number : is_number r ≡ true
      number = eq-eqb r.letters 0 plain
  answered false q f e p = rw e (record { at = refl; read = λ f g. way_read (must_stand r) (rule_of r) f g (drop a text) _ (p (λ t. fields f t)) })

-- ---- the steps

-- the place after the name
abbrev past : ℕ → HeldRule → ℕ
past a r = a + r.size

module _ (text : List ℕ) (a : ℕ) (r : HeldRule) (t : Bool) (st : Starts r.mark r.size (drop a text) t) where
  -- the name does not stand here
  module _ (y : not t ≡ true) (n : ℕ) (e : n ≡ name_fault r.other) where
    pub no_mark : (l : ℕ) → (n ≡ 0 → ⊥) → Faulty text a r l (record { no = n; line = l })
    unfolding fields
    no_mark l z = let q = told_must r.other n e z in record { at = refl; read = λ f g. rw (q.1, st.left, not-true t y, q.0) }

    pub not_here : n ≡ 0 → a ≤ length text → Got text a r absent_held a
    unfolding fields
    not_here z h = let q = told_may r.other n e z in record { place = h; read = λ f g. rw (absent_is r.other q, q, st.left, not-true t y); held = rw (absent_is r.other q); ends = rw (absent_is r.other q) }

  module _ (y : not t ≡ false) (h : a ≤ length text) where
    pub name_end : past a r ≤ length text
    name_end = omega (arith, st.fits (not-false t y), length-drop a text)

    module _ (n : ℕ) (e : n ≡ length (up_to comma (take (length text - past a r) (drop (past a r) text)))) where
      cut : n ≡ length (up_to comma (drop (past a r) text))
      cut = part_long comma text (past a r) n name_end e

      pub field_end : past a r + n ≤ length text
      field_end = part_end comma text (past a r) n name_end e

      pub field_end_fits : length text < 2 ^ 64 → Fits w64 (past a r + n)
      field_end_fits = part_end_fits comma text (past a r) n name_end e

      ends_at : end_from text (past a r) ≡ past a r + n
      ends_at = ap (λ (n : ℕ). past a r + n) (sym cut)

      -- the bytes of the value
      abbrev bytes : List ℕ
      bytes = take (past a r + n - past a r) (drop (past a r) text)

      bytes_are : bytes ≡ up_to comma (drop (past a r) text)
      bytes_are = part_bytes comma text (past a r) n name_end e

      read_value : (more : List ℕ → Step (List Value)) (else : Step (List Value)) → marked (strip (mark_of r) (drop a text)) (rule_of r) more else ≡ valued (value_of (rule_of r).sort bytes) (more (drop (past a r + n) text))
      read_value more else = rw (st.left, not-false t y, drop-drop, bytes_are, from_drop, ← cut, drop-drop)

      -- bytes that are no value
      no_value : (l m : ℕ) → ((more : Step (List Value)) → valued (value_of (rule_of r).sort bytes) more ≡ fault m) → Faulty text a r l (record { no = m; line = l })
      no_value l m p = record { at = refl; read = λ f g. way_read (must_stand r) (rule_of r) f g (drop a text) _ (λ else. read_value (λ t. fields f t) else ∙ p (fields f (drop (past a r + n) text))) }

      -- a string
      module _ (z : r.letters ≡ 0 → ⊥) (u : Bool) (q : u ≡ is_string (take r.letters r.set) r.least r.most bytes) where
        string : is_number r ≡ false
        string = ne_eqb r.letters 0 z

        pub no_string : (l : ℕ) → not u ≡ true → Faulty text a r l (record { no = 3; line = l })
        no_string l x = no_value l 3 (λ more. rw (string, ← q, not-true u x))

        pub string_read : not u ≡ false → length text * 1 < 2 ^ 63 → Got text a r (past a r) (past a r + n)
        string_read x f = record { place = field_end; read = λ f g. way_read (must_stand r) (rule_of r) f g (drop a text) _ (read_value (λ t. fields f t)) ∙ rw (here, string, ← q, not-false u x, bytes_are); held = rw (here, string); ends = rw (here, string) ends_at }
          where
            here : is_absent r.other (past a r) ≡ false
            here = place_is r.other (past a r) (let k = name_end in omega arith)

      -- a number
      module _ (plain : r.letters ≡ 0) where
        read_number : (more : List ℕ → Step (List Value)) (else : Step (List Value)) → marked (strip (mark_of r) (drop a text)) (rule_of r) more else ≡ valued (numbered (numeral_of bytes) (range_of r)) (more (drop (past a r + n) text))
        read_number more else = read_value more else ∙ rw (eq-eqb r.letters 0 plain)

        module _ (x : Option Number) (q : x ≡ held_number (numeral_of bytes)) (ok : Sane r) (l : ℕ) where
          pub no_number_law : x ≡ None → Faulty text a r l (record { no = 3; line = l })
          no_number_law b = no_value l 3 (λ more. rw (eq-eqb r.letters 0 plain) (no_number_held r ok.top more (numeral_of bytes) (cc)))

          module _ (m : Number) (i : x ≡ Some m) where
            signed : (b : Bool) → m.negative ≡ b → Some (record { negative = b; magnitude = m.magnitude }) ≡ held_number (numeral_of bytes)
            signed b e = rw (← e) (sym i ∙ q)

            pub too_far_below : m.negative ≡ true → r.up < m.magnitude → Faulty text a r l (record { no = 4; line = l })
            too_far_below s d = no_value l 4 (λ more. rw (eq-eqb r.letters 0 plain) (below_held r ok.top more (numeral_of bytes) m.magnitude (signed true s) d))

            pub negative : (f : Result (ℕ × ℕ) Refusal) → m.negative ≡ true → m.magnitude ≤ r.up → f ≡ if_in_range (within r (r.up - m.magnitude)) (r.up - m.magnitude) (past a r + n) l → FieldOk text a r l f
            negative f s d w = answered text a r l (past a r + n) (r.up - m.magnitude) field_end ends_at ok plain (within r (r.up - m.magnitude)) refl f w (λ more else. read_number more else ∙ negative_held r ok.top (more (drop (past a r + n) text)) (numeral_of bytes) m.magnitude (signed true s) ok.shift d)

            pub positive : (f : Result (ℕ × ℕ) Refusal) → m.negative ≡ false → f ≡ if_in_range (within r (r.up + m.magnitude)) (r.up + m.magnitude) (past a r + n) l → FieldOk text a r l f
            positive f s w = answered text a r l (past a r + n) (r.up + m.magnitude) field_end ends_at ok plain (within r (r.up + m.magnitude)) refl f w (λ more else. read_number more else ∙ positive_held r ok.top (more (drop (past a r + n) text)) (numeral_of bytes) m.magnitude (signed false s))

-- a magnitude stays in a machine word
pub magnitude_fits : (s : List ℕ) (x : Option Number) (m : Number) (u : ℕ) → x ≡ held_number (numeral_of s) → x ≡ Some m → u ≤ 4096 → Fits w64 (u + m.magnitude)
magnitude_fits s x m u q i h = let k = by (numeral_of s) (sym i ∙ q) in omega arith
  where
    size : Option Number → ℕ
    size (Some o) = o.magnitude
    size None = 0

    by : (z : Numeral) → Some m ≡ held_number z → m.magnitude ≤ cap
    by (number (pos n)) e = let w : m.magnitude ≡ min cap n = ap size e in omega arith
    by (number (negsuc n)) e = let w : m.magnitude ≡ min cap (suc n) = ap size e in omega arith
    by no_number e = let w : m.magnitude ≡ 0 = ap size e in omega arith
