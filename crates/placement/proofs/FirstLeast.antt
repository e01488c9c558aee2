-- Trying a list of placements answers with the first of least wirelength among those that pass the test.
-- The answer so far is right for the placements tried so far, and each further placement keeps that so.
use Prim.Native.Nat.{ℕ, ◌≤◌, ◌<◌}
use mathlib.Core.Path.{◌≡◌, refl, sym, ap, subst, ◌∙◌}
use mathlib.Core.Bool.{Bool, true, false, false≢true}
use mathlib.Core.Logic.{◌⊎◌, inl, inr}
use mathlib.Core.List.Memᴰ
use mathlib.Core.List.{List, [], ◌∷◌, ◌++◌, append_assoc, append-nil, Memᴰ}
use native.Mathlib.Omega.{arith}
use borrow.Author.Tests.{ltb-true, ltb-false}
use Rattle.model.specs.declared.Spot.{Spot}
use Rattle.model.specs.Meaning.{Chip}
use Rattle.placement.specs.Length.{wirelength}
use Rattle.placement.specs.Least.{Best, nothing, found, shorter, try_all}

-- no placement of the list passes
pub record NonePasses (passes : List Spot → Bool) (all : List (List Spot)) : Type 0 where
  pub fails : (qs : List Spot) → Memᴰ qs all → passes qs ≡ true → ⊥

-- ps passes and has length l, no placement of the list that passes is shorter, and those that stand before ps are longer
pub record LeastAt (c : Chip) (passes : List Spot → Bool) (all : List (List Spot)) (l : ℕ) (ps : List Spot) : Type 0 where
  pub front : List (List Spot)
  pub behind : List (List Spot)
  pub stands : all ≡ front ++ (ps ∷ behind)
  pub passed : passes ps ≡ true
  pub long : l ≡ wirelength c ps
  pub least : (qs : List Spot) → Memᴰ qs all → passes qs ≡ true → l ≤ wirelength c qs
  pub earliest : (qs : List Spot) → Memᴰ qs front → passes qs ≡ true → l < wirelength c qs

abbrev pub Is : Chip → (List Spot → Bool) → List (List Spot) → Best → Type 0
Is c passes all nothing = NonePasses passes all
Is c passes all (found l ps) = LeastAt c passes all l ps

true_false : (t : Bool) → t ≡ true → t ≡ false → ⊥
true_false t e f = false≢true (sym f ∙ e)

-- a placement at the end of those tried
module _ (c : Chip) (passes : List Spot → Bool) (done : List (List Spot)) (ps : List Spot) where
  abbrev Done : List (List Spot)
  Done = done ++ (ps ∷ [])

  one_more : (P : List Spot → Type 0) → ((qs : List Spot) → Memᴰ qs done → P qs) → P ps → (qs : List Spot) → Memᴰ qs Done → P qs
  one_more P old new qs m = by (Memᴰ.append_cases done m)
    where
      by : Memᴰ qs done ⊎ Memᴰ qs (ps ∷ []) → P qs
      by (inl o) = old qs o
      by (inr n) = subst P (sym (Memᴰ.eq_of_singleton n)) new

  kept : (l : ℕ) (rs : List Spot) → (passes ps ≡ true → l ≤ wirelength c ps) → LeastAt c passes done l rs → LeastAt c passes Done l rs
  kept l rs h i = record {
    front = i.front;
    behind = i.behind ++ (ps ∷ []);
    stands = ap (λ (s : List (List Spot)). s ++ (ps ∷ [])) i.stands ∙ append_assoc i.front (rs ∷ i.behind) (ps ∷ []);
    passed = i.passed;
    long = i.long;
    least = one_more (λ (qs : List Spot). passes qs ≡ true → l ≤ wirelength c qs) i.least h;
    earliest = i.earliest;
  }

  still_none : passes ps ≡ false → NonePasses passes done → NonePasses passes Done
  still_none f i = record { fails = one_more (λ (qs : List Spot). passes qs ≡ true → ⊥) i.fails (λ t. true_false (passes ps) t f) }

  fails_kept : (b : Best) → passes ps ≡ false → Is c passes done b → Is c passes Done b
  fails_kept nothing f i = still_none f i
  fails_kept (found l rs) f i = kept l rs (λ t. absurd (true_false (passes ps) t f)) i

  longer_kept : (b : Best) → shorter (wirelength c ps) b ≡ false → Is c passes done b → Is c passes Done b
  longer_kept nothing f i = absurd (true_false true refl f)
  longer_kept (found l rs) f i = kept l rs (λ t. ltb-false (wirelength c ps) l f) i

  all_longer : (b : Best) → shorter (wirelength c ps) b ≡ true → Is c passes done b → (qs : List Spot) → Memᴰ qs done → passes qs ≡ true → wirelength c ps < wirelength c qs
  all_longer nothing s i qs m t = absurd (i.fails qs m t)
  all_longer (found l rs) s i qs m t = let p = ltb-true (wirelength c ps) l s in let q = i.least qs m t in omega arith

  taken : (b : Best) → passes ps ≡ true → shorter (wirelength c ps) b ≡ true → Is c passes done b → LeastAt c passes Done (wirelength c ps) ps
  taken b t s i = record {
    front = done;
    behind = [];
    stands = refl;
    passed = t;
    long = refl;
    least = one_more (λ (qs : List Spot). passes qs ≡ true → wirelength c ps ≤ wirelength c qs) (λ qs m q. let z = all_longer b s i qs m q in omega arith) (λ q. omega arith);
    earliest = all_longer b s i;
  }

  module _ (rest : List (List Spot)) (more : (b : Best) → Is c passes Done b → Is c passes (done ++ (ps ∷ rest)) (try_all (wirelength c) passes rest b)) (b : Best) (i : Is c passes done b) where
    by_tests : (t u : Bool) → passes ps ≡ t → shorter (wirelength c ps) b ≡ u
        → Is c passes (done ++ (ps ∷ rest)) (elim t [ true ↦ elim u [ true ↦ try_all (wirelength c) passes rest (found (wirelength c ps) ps) | false ↦ try_all (wirelength c) passes rest b ] | false ↦ try_all (wirelength c) passes rest b ])
    by_tests true true t s = more (found (wirelength c ps) ps) (taken b t s i)
    by_tests true false t s = more b (longer_kept b s i)
    by_tests false u t s = more b (fails_kept b t i)

module _ (c : Chip) (passes : List Spot → Bool) where
  pub tried : (all done : List (List Spot)) (b : Best) → Is c passes done b → Is c passes (done ++ all) (try_all (wirelength c) passes all b)
  unfolding try_all
  tried [] done b i = subst (λ (s : List (List Spot)). Is c passes s b) (sym (append-nil done)) i
  tried (ps ∷ rest) done b i = by_tests c passes done ps rest
      (λ b' i'. subst (λ (s : List (List Spot)). Is c passes s (try_all (wirelength c) passes rest b')) (append_assoc done (ps ∷ []) rest) (tried rest (done ++ (ps ∷ [])) b' i'))
      b i (passes ps) (shorter (wirelength c ps) b) refl refl

  pub first_least_law : (all : List (List Spot)) → Is c passes all (try_all (wirelength c) passes all nothing)
  first_least_law all = tried all [] nothing (record { fails = λ qs m t. Memᴰ.not-nil m })
