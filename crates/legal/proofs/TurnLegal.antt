-- Boxes tested in turn, each against those before it, are legal exactly when each is tested against those after it, as the definition of legal has it: `turn_legal`. Of two boxes it does not matter which is tested against the other.
use mathlib.Core.Path.{◌≡◌, refl, sym, ap, ◌∙◌}
use mathlib.Core.Bool.{Bool, true, false, ◌&&◌, and-false, and_assoc}
use mathlib.Core.List.{List, [], ◌∷◌, ◌++◌}
use Prim.Native.Nat.{ℕ}
use Rattle.num_text.specs.Number.{all_of}
use Rattle.model.specs.Meaning.{Chip}
use Rattle.geometry.specs.declared.Box.{Box}
use Rattle.geometry.specs.Box.{apart, clear_of, in_die}
use Rattle.geometry.proofs.Swap.{apart_swap}
use Rattle.placement.specs.Legal.{fix_boxes, all_apart}
use Rattle.placement.specs.Integers.{gap_of}
use Rattle.legal.specs.Turn.{legal_after}

-- tests in another order
swap_and : (a b p q : Bool) → ((a && b) && (p && q)) ≡ ((a && p) && (b && q))
swap_and false b p q = refl
swap_and true true true q = refl
swap_and true true false q = refl
swap_and true false true q = refl
swap_and true false false q = refl

arrange : (d f b a e p l : Bool) → ((d && (f && b)) && (a && ((e && p) && l))) ≡ ((d && a) && ((b && e) && (p && (f && l))))
arrange false f b a e p l = refl
arrange true true b a e p l = by b a e p
  where
    by : (b a e p : Bool) → (b && (a && ((e && p) && l))) ≡ (a && ((b && e) && (p && l)))
    by false true e p = refl
    by false false e p = refl
    by true a true p = refl
    by true a false p = refl
arrange true false b a e p l = sym (none a (b && e) p)
  where
    none : (a e p : Bool) → (a && (e && (p && false))) ≡ false
    none false e p = refl
    none true e p = ap (λ (t : Bool). e && t) (and-false p) ∙ and-false e

module _ (c : Chip) where
  abbrev g : ℕ
  g = gap_of c

  -- each of s is apart from all boxes before
  abbrev each_clear : List Box → List Box → Bool
  each_clear before [] = true
  each_clear before (b ∷ s) = clear_of g b before && each_clear before s

  clear_more : (b a : Box) (before : List Box) → clear_of g b (before ++ (a ∷ [])) ≡ (clear_of g b before && apart g a b)
  unfolding clear_of
  clear_more b a [] = rw (apart_swap g b a) (and_true (apart g a b))
    where
      and_true : (t : Bool) → (t && true) ≡ t
      and_true true = refl
      and_true false = refl
  clear_more b a (f ∷ before) = rw (clear_more b a before) (sym (and_assoc (apart g b f) (clear_of g b before) (apart g a b)))

  each_more : (a : Box) (before s : List Box) → each_clear (before ++ (a ∷ [])) s ≡ (each_clear before s && clear_of g a s)
  unfolding clear_of
  each_more a before [] = refl
  each_more a before (b ∷ s) = rw (clear_more b a before, each_more a before s) (swap_and (clear_of g b before) (apart g a b) (each_clear before s) (clear_of g a s))

  each_none : (s : List Box) → each_clear [] s ≡ true
  unfolding clear_of
  each_none [] = refl
  each_none (b ∷ s) = each_none s

  after_legal : (before s : List Box) → legal_after g c.die (fix_boxes c) before s ≡ (all_of (in_die c.die) s && (each_clear before s && all_apart c s))
  unfolding legal_after all_of all_apart
  after_legal before [] = refl
  after_legal before (b ∷ s) = rw (after_legal (before ++ (b ∷ [])) s, each_more b before s)
      (arrange (in_die c.die b) (clear_of g b (fix_boxes c)) (clear_of g b before) (all_of (in_die c.die) s) (each_clear before s) (clear_of g b s) (all_apart c s))

  pub turn_legal : (s : List Box) → legal_after g c.die (fix_boxes c) [] s ≡ (all_of (in_die c.die) s && all_apart c s)
  turn_legal s = after_legal [] s ∙ rw (each_none s)
