-- The fields of a line by the layout of its form, read from the bytes b after the first n, those of its word: in the form of the needs of a reader.
use mathlib.Core.Path.{◌≡◌, ◌∙◌}
use mathlib.Core.List.{List}
use Prim.Native.Nat.{ℕ, ◌-◌}
use native.Mathlib.Omega.{arith}
use lib.ListN.{length, take, drop, length-drop}
use lib.Seq.{take_all}
use Rattle.std.specs.Prelude.{Result, Ok, Err, Option, Some, None}
use Rattle.model.specs.declared.Refusal.{Refusal}
use Rattle.model.specs.Step.{Step, next, fault}
use Rattle.text_grammar.specs.Line.{Form, Value, fields}
use Rattle.text_grammar.specs.Reading.{accepted, refused}
use Rattle.text_line.specs.declared.Layout.{Layout}
use Rattle.text_line.specs.Layout.{layout_for, values_in, located, read_fields, meant_fields, FieldsOk}
use Rattle.text_line.proofs.Layouts.{Laying}

got : (l : ℕ) (x : Step (List Value)) (vs : List Value) → accepted vs ≡ located l x → x ≡ next vs
got l (next us) vs e = cc
got l (fault n) vs e = cc

stopped : (l : ℕ) (x : Step (List Value)) (n m : ℕ) → refused n m ≡ located l x → x ≡ fault n
stopped l (next us) n m e = cc
stopped l (fault k) n m e = cc

own_line : (l : ℕ) (x : Step (List Value)) (n m : ℕ) → refused n m ≡ located l x → m ≡ l
own_line l (next us) n m e = cc
own_line l (fault k) n m e = cc

module _ (f : Form) (g : Laying f) (y : Layout) (e : y ≡ layout_for f) (l : ℕ) (b : List ℕ) (n : ℕ) (r : Result (List ℕ) Refusal) (ok : FieldsOk y.rules l (take (length b - n) (drop n b)) r) where
  after : take (length b - n) (drop n b) ≡ drop n b
  after = take_all (length b - n) (drop n b) (rw length-drop (omega arith))

  own : FieldsOk (layout_for f).rules l (drop n b) r
  own = rw (e, after) at ok

  read : meant_fields (layout_for f).rules (drop n b) r ≡ located l (fields f (drop n b))
  unfolding read_fields
  read = own.meant ∙ rw (g.fine, g.means, read_fields)

  pub fields_got : (vs : List ℕ) → r ≡ Ok vs → fields f (drop n b) ≡ next (values_in f (drop n b) vs)
  fields_got vs q = got l (fields f (drop n b)) _ (rw q at read)

  module _ (x : Refusal) (q : r ≡ Err x) where
    told : refused x.no x.line ≡ located l (fields f (drop n b))
    told = rw q at read

    pub fields_stop : fields f (drop n b) ≡ fault x.no
    fields_stop = stopped l (fields f (drop n b)) _ _ told

    pub fields_line : x.line ≡ l
    fields_line = own_line l (fields f (drop n b)) _ _ told
