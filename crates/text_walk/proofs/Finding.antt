-- The first spelling that bytes are, as a place.
use mathlib.Core.Path.{◌≡◌, refl, sym, ◌∙◌}
use mathlib.Core.Bool.{Bool, true, false}
use mathlib.Core.List.{List, [], ◌∷◌}
use Prim.Native.Nat.{ℕ, suc, ◌+◌, ◌≤◌, ◌<◌}
use native.Mathlib.Decide.{dec_lt}
use native.Mathlib.Omega.{arith}
use lib.ListN.{length}
use borrow.Author.Tests.{lt-ltb, le-ltb}
use Rattle.std.specs.Prelude.{cond, Option, Some, None}
use Rattle.std.specs.List.{position, position_or_len}
use Rattle.std.proofs.lemmas.List.Recursion.{is_position_or_len}
use Rattle.std.proofs.lemmas.Option.{none-some}
use Rattle.text_grammar.specs.Words.{same}
use Rattle.text_line.specs.declared.Spelling.{Spelling}
use Rattle.text_line.specs.Held.{text_of}
use Rattle.text_walk.specs.Walk.{find_in}

module _ (s : List ℕ) where
  abbrev pub spelled : Spelling → Bool
  spelled p = same (text_of p) s

  find_place : (ps : List Spelling) → find_in ps s ≡ position_or_len spelled ps
  unfolding find_in
  find_place ps = is_position_or_len (λ qs. find_in qs s) spelled refl (λ p qs. by (spelled p) qs) ps
    where
      by : (r : Bool) (qs : List Spelling) → elim r [ true ↦ 0 | false ↦ suc (find_in qs s) ] ≡ cond r 0 (1 + find_in qs s)
      by true qs = refl
      by false qs = omega arith

  some_is : (i j : ℕ) → Some i ≡ Some j → i ≡ j
  some_is i j e = cc

  module _ (ps : List Spelling) where
    pub not_found : None ≡ position spelled ps → length ps ≤ find_in ps s
    not_found e = by (dec_lt (find_in ps s) (length ps))
      where
        by : Dec (find_in ps s < length ps) → length ps ≤ find_in ps s
        by (yes h) = absurd (none-some (position_or_len spelled ps) (e ∙ rw (← find_place ps, lt-ltb (find_in ps s) (length ps) h)))
        by (no h) = omega arith

    pub found_at : (i : ℕ) → Some i ≡ position spelled ps → (find_in ps s ≡ i) × (i < length ps)
    found_at i e = by (dec_lt (find_in ps s) (length ps))
      where
        by : Dec (find_in ps s < length ps) → (find_in ps s ≡ i) × (i < length ps)
        by (yes h) = let q : i ≡ find_in ps s = some_is i (find_in ps s) (e ∙ rw (← find_place ps, lt-ltb (find_in ps s) (length ps) h)) in (sym q, omega arith)
        by (no h) = absurd (none-some i (sym (e ∙ rw (← find_place ps, le-ltb (find_in ps s) (length ps) (omega arith)))))
