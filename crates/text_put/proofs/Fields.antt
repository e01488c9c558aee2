-- The fields of a line written one after the other, in the form of the needs.
use mathlib.Core.Path.{◌≡◌, refl, sym, ◌∙◌}
use mathlib.Core.Bool.{Bool, true, false, true≢false}
use mathlib.Core.List.{List, [], ◌∷◌, ◌++◌, append_assoc, append-nil}
use Prim.Native.Nat.{ℕ, suc, ◌+◌, ◌-◌, ◌≤◌, ◌<◌, ◌^◌}
use native.Mathlib.Numerals.{add-one}
use native.Mathlib.Omega.{arith}
use lib.IntN.{ℤ}
use lib.ListN.{length, get_or, drop}
use Rattle.num_text.specs.Number.{number_text}
use Rattle.num_text.specs.Held.{Wrote}
use Rattle.num_text.proofs.Wrote.{wrote_none, wrote_then}
use Rattle.text_grammar.specs.Line.{comma, up_to, Value, number, string, absent, value_text, Rule, Form, one, either, over, fields_text}
use Rattle.text_grammar.specs.Choice.{is_absent, next_place}
use Rattle.text_line.specs.declared.Rule.{Rule as HeldRule}
use Rattle.text_line.specs.Held.{lowered}
use Rattle.text_line.specs.Layout.{is_number, rule_of, rule_at, must_stand, pick, form_at, place_after, values_at, form_of, values_of}
use Rattle.text_field.specs.FieldText.{held_text}
use Rattle.text_line.proofs.Ways.{form_ends, form_goes_on, values_go_on, way_taken}

-- the text of a field that is here and of those after it, and of one that is absent, by whether it must stand here
way_text : (must gone plain : Bool) (r : Rule) (z : ℤ) (t : List ℕ) (f g : Form) (us : List Value) → (must ≡ true → gone ≡ false) → fields_text (pick must (one r f) (either r f g)) (pick gone absent (pick plain (number z) (string t)) ∷ us) ≡ pick gone [] (r.mark ++ value_text (pick plain (number z) (string t))) ++ fields_text (pick gone g f) us
unfolding fields_text
way_text true true plain r z t f g us h = absurd (true≢false (h refl))
way_text true false plain r z t f g us h = sym (append_assoc r.mark (value_text (pick plain (number z) (string t))) (fields_text f us))
way_text false true plain r z t f g us h = refl
way_text false false true r z t f g us h = sym (append_assoc r.mark (number_text z) (fields_text f us))
way_text false false false r z t f g us h = sym (append_assoc r.mark t (fields_text f us))

must_be_there : (r : HeldRule) (v : ℕ) → must_stand r ≡ true → is_absent r.other v ≡ false
must_be_there r v e = rw e

module _ (rs : List HeldRule) (s vs b : List ℕ) (at : ℕ) where
  -- the first i fields are written up to the place k, and the rule of the next is at place j
  pub record PutTo (m : List ℕ) (k j i : ℕ) : Type 0 where
    pub far : List ℕ
    pub wrote : Wrote b m far at k
    pub kept : fields_text (form_of rs) (values_of rs s vs) ≡ far ++ fields_text (form_at (4 - i) rs j) (values_at (4 - i) rs s vs j i)

  pub no_field : at < 2 ^ 64 → PutTo b at 0 0
  no_field h = record { far = []; wrote = wrote_none b at (omega arith); kept = refl }

  module _ (m : List ℕ) (k j i : ℕ) (inv : PutTo m k j i) where
    module _ (r : HeldRule) (e : r ≡ rule_at rs j) where
      pub field_more : (a : List ℕ) (n : ℕ) (t : Bool) (p : ℕ) → length b < 2 ^ 64 → i < 4 → (r.size ≡ 0 → ⊥) → t ≡ is_absent r.other (get_or vs i 0) → Wrote m a (pick t [] (held_text s r (get_or vs i 0))) k n → p ≡ next_place j r.other t → PutTo a n p (i + 1)
      field_more a n t p f h size u w q = record { far = inv.far ++ text; wrote = wrote_then b m a _ _ at k n f inv.wrote (rw (u, e) at w); kept = kept_on }
        where
          x : HeldRule
          x = rule_at rs j

          v : ℕ
          v = get_or vs i 0

          more : ℕ
          more = 4 - (i + 1)

          gone : Bool
          gone = is_absent (rule_at rs j).other (get_or vs i 0)

          text : List ℕ
          text = pick gone [] (held_text s x v)

          place : place_after rs j v ≡ p
          place = sym (q ∙ rw (u, e))

          there : (rule_at rs j).size ≡ 0 → ⊥
          there = rw e at size

          kept_on : fields_text (form_of rs) (values_of rs s vs) ≡ (inv.far ++ text) ++ fields_text (form_at more rs p) (values_at more rs s vs p (i + 1))
          kept_on =
              let c : 4 - i ≡ suc more = omega arith in
              inv.kept ∙ rw (c, form_goes_on more rs j there, values_go_on more rs j there s vs i, way_text (must_stand x) gone (is_number x) (rule_of x) (lowered x.up v) (up_to comma (drop v s)) (form_at more rs (next_place j x.other false)) (form_at more rs (next_place j x.other true)) (values_at more rs s vs (place_after rs j v) (suc i)) (must_be_there x v), way_taken more rs j x.other gone, place, append_assoc, add-one)

    -- no field is left
    ended : form_at (4 - i) rs j ≡ over → Wrote b m (fields_text (form_of rs) (values_of rs s vs)) at k
    unfolding fields_text
    ended f = rw (inv.kept, f, append-nil) inv.wrote

    pub no_rule_left : (r : HeldRule) → r ≡ rule_at rs j → r.size ≡ 0 → Wrote b m (fields_text (form_of rs) (values_of rs s vs)) at k
    no_rule_left r e s = let z : (rule_at rs j).size ≡ 0 = rw e at s in ended (form_ends (4 - i) rs j z)

    pub no_room_left : 4 ≤ i → Wrote b m (fields_text (form_of rs) (values_of rs s vs)) at k
    unfolding form_at
    no_room_left h = let q : 4 - i ≡ 0 = omega arith in ended (rw q)
