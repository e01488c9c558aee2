-- What the constructors make of the values of a line that was read: the thing, never a refusal.
use mathlib.Core.Path.{◌≡◌, sym, ap, ◌∙◌}
use mathlib.Core.Bool.{Bool, true, ◌&&◌, true≢false}
use mathlib.Core.List.{List}
use Prim.Native.Nat.{ℕ}
use lib.IntN.{pos}
use lib.ListN.{length, get_or}
use Rattle.model.specs.declared.Refusal.{Refusal}
use Rattle.std.specs.Prelude.{Result, Ok, Err, Option, Some, None}
use Rattle.model.specs.declared.Die.{Die}
use Rattle.model.specs.declared.Fix.{Fix}
use Rattle.model.specs.declared.Mac.{Mac}
use Rattle.model.specs.declared.Net.{Net as HeldNet}
use Rattle.model.specs.declared.Pin.{Pin as HeldPin}
use Rattle.model.specs.Meaning.{pin_of}
use Rattle.model.specs.Limits.{is_within, die_side, fix_corner, fix_side, mac_side, net_weight, pin_macro, pin_place}
use Rattle.model.specs.Step.{Step, next, fault, check}
use Rattle.model.specs.Made.{made, make_die, make_fix, make_mac, make_net, made_pin, remake_pin}
use Rattle.model.proofs.Tests.{refused, kept}
use Rattle.text_grammar.specs.Steps.{ReadAs}
use Rattle.text_grammar.proofs.FieldsText.{fields_written}
use Rattle.text_grammar.proofs.Values.{Passing, passing}
use Rattle.text_line.specs.Layout.{values_at}
use Rattle.chip_text.specs.declared.ChipWord.{ChipWord}
use Rattle.chip_text.specs.declared.ChipWord.TheVariants as word
use Rattle.chip_text.specs.Words.{form, chip_words}
use Rattle.chip_text.specs.Kind.{add}
use Rattle.chip_text.proofs.Told.{words_told}
use Rattle.chip_read.specs.declared.State.{State}
use Rattle.chip_read.specs.State.{part_of, chip_values, TakenOk}
use Rattle.chip_read.proofs.Values.{by_four, held_pin}

-- ---- their tests

abbrev die_test : ℕ → ℕ → Bool
die_test w h = is_within die_side (pos w) && is_within die_side (pos h)

abbrev fix_test : ℕ → ℕ → ℕ → ℕ → Bool
fix_test x y w h = is_within fix_corner (pos x) && is_within fix_corner (pos y) && is_within fix_side (pos w) && is_within fix_side (pos h)

abbrev mac_test : ℕ → ℕ → Bool
mac_test w h = is_within mac_side (pos w) && is_within mac_side (pos h)

abbrev pin_test : HeldPin → Bool
pin_test p = is_within pin_macro (pos p.m) && is_within pin_place (pin_of p).x && is_within pin_place (pin_of p).y

-- ---- what they make

pub the_die : (w h : ℕ) (r : Option Die) → made r ≡ make_die w h → (d : Die) → r ≡ Some d → d ≡ record { w = w; h = h }
the_die w h r e d q = (kept (die_test w h) _ d (sym (ap made q) ∙ e)).1

pub the_fix : (x y w h : ℕ) (r : Option Fix) → made r ≡ make_fix x y w h → (f : Fix) → r ≡ Some f → f ≡ record { x = x; y = y; w = w; h = h }
the_fix x y w h r e f q = (kept (fix_test x y w h) _ f (sym (ap made q) ∙ e)).1

pub the_mac : (w h : ℕ) (r : Option Mac) → made r ≡ make_mac w h → (m : Mac) → r ≡ Some m → m ≡ record { w = w; h = h }
the_mac w h r e m q = (kept (mac_test w h) _ m (sym (ap made q) ∙ e)).1

pub the_net : (weight pins : ℕ) (r : Option HeldNet) → made r ≡ make_net weight pins → (t : HeldNet) → r ≡ Some t → t ≡ record { weight = weight; pins = pins }
the_net weight pins r e t q = (kept (is_within net_weight (pos weight)) _ t (sym (ap made q) ∙ e)).1

pub the_pin : (p : HeldPin) (r : Option HeldPin) → made_pin r ≡ remake_pin p → (q : HeldPin) → r ≡ Some q → pin_of q ≡ pin_of p
the_pin p r e q o = (kept (pin_test p) _ (pin_of q) (sym (ap made_pin o) ∙ e)).1

-- ---- the values that were read pass the tests

passed : (w : ChipWord) (v : List ℕ) → ReadAs chip_words w (chip_values w v) → Passing (form w) (chip_values w v)
passed w v i = passing (form w) (chip_values w v) (chip_values w v) (fields_written (form w) i.bytes (chip_values w v) (words_told.formed w) i.read).passes

-- a refusal of a thing that passes its tests
never : {A P : Type 0} (t : Bool) (a : A) (m : Step A) → t ≡ true → m ≡ fault 4 → m ≡ check t 4 (next a) → P
never t a m h q e = absurd (true≢false (sym h ∙ refused t a (sym q ∙ e)))

module _ (v : List ℕ) (four : length v ≡ 4) (s : State) (r : Result State Refusal) (l : ℕ) where
  pub die_never : ReadAs chip_words word.Die (chip_values word.Die v) → (m : Option Die) → made m ≡ make_die (get_or v 0 0) (get_or v 1 0) → m ≡ None → TakenOk r l (add (part_of s) word.Die (chip_values word.Die v))
  unfolding values_at
  die_never i m e q =
      never (die_test (get_or v 0 0) (get_or v 1 0)) _ (made m)
      (by_four (λ u. Passing (form word.Die) (chip_values word.Die u) → die_test (get_or u 0 0) (get_or u 1 0) ≡ true) (λ a b c d p. rw (p.0, p.1.0)) v four (passed word.Die v i))
      (ap made q) e

  pub fix_never : ReadAs chip_words word.Fix (chip_values word.Fix v) → (m : Option Fix) → made m ≡ make_fix (get_or v 0 0) (get_or v 1 0) (get_or v 2 0) (get_or v 3 0) → m ≡ None → TakenOk r l (add (part_of s) word.Fix (chip_values word.Fix v))
  unfolding values_at
  fix_never i m e q =
      never (fix_test (get_or v 0 0) (get_or v 1 0) (get_or v 2 0) (get_or v 3 0)) _ (made m)
      (by_four (λ u. Passing (form word.Fix) (chip_values word.Fix u) → fix_test (get_or u 0 0) (get_or u 1 0) (get_or u 2 0) (get_or u 3 0) ≡ true) (λ a b c d p. rw (p.0, p.1.0, p.1.1.0, p.1.1.1.0)) v four (passed word.Fix v i))
      (ap made q) e

  pub mac_never : ReadAs chip_words word.Mac (chip_values word.Mac v) → (m : Option Mac) → made m ≡ make_mac (get_or v 0 0) (get_or v 1 0) → m ≡ None → TakenOk r l (add (part_of s) word.Mac (chip_values word.Mac v))
  unfolding values_at
  mac_never i m e q =
      never (mac_test (get_or v 0 0) (get_or v 1 0)) _ (made m)
      (by_four (λ u. Passing (form word.Mac) (chip_values word.Mac u) → mac_test (get_or u 0 0) (get_or u 1 0) ≡ true) (λ a b c d p. rw (p.0, p.1.0)) v four (passed word.Mac v i))
      (ap made q) e

  pub net_never : ReadAs chip_words word.Net (chip_values word.Net v) → (m : Option HeldNet) → made m ≡ make_net (get_or v 0 0) 0 → m ≡ None → TakenOk r l (add (part_of s) word.Net (chip_values word.Net v))
  unfolding values_at
  net_never i m e q =
      never (is_within net_weight (pos (get_or v 0 0))) _ (made m)
      (by_four (λ u. Passing (form word.Net) (chip_values word.Net u) → is_within net_weight (pos (get_or u 0 0)) ≡ true) (λ a b c d p. p.0) v four (passed word.Net v i))
      (ap made q) e

  pub pin_never : ReadAs chip_words word.Pin (chip_values word.Pin v) → (m : Option HeldPin) → made_pin m ≡ remake_pin (held_pin v) → m ≡ None → TakenOk r l (add (part_of s) word.Pin (chip_values word.Pin v))
  unfolding values_at
  pin_never i m e q =
      never (pin_test (held_pin v)) _ (made_pin m)
      (by_four (λ u. Passing (form word.Pin) (chip_values word.Pin u) → pin_test (held_pin u) ≡ true) (λ a b c d p. rw (p.0, p.1.0, p.1.1.0)) v four (passed word.Pin v i))
      (ap made_pin q) e
