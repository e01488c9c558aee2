-- The four children one by one, the child that is sought among them, and how many of them hold a placement.
use Prim.Native.Nat.{ℕ, zero, suc, ◌+◌, ◌<◌}
use mathlib.Core.Path.{◌≡◌, refl, sym, ap, ◌∙◌}
use mathlib.Core.Bool.{Bool, true, false}
use mathlib.Core.List.{List, [], ◌∷◌}
use native.Mathlib.Decide.{ℕ_discrete}
use native.Mathlib.Omega.{arith}
use Rattle.std.specs.Prelude.{Option, Some, None, MatchOption}
use lib.ListN.{set}
use Rattle.model.specs.declared.Record.{Record as HeldRecord}
use Rattle.placement.specs.Least.{Best, nothing, found}
use Rattle.search_branches.specs.Branch.{pick, better}
use Rattle.search_branches.proofs.Betters.{nothing_better}
use Rattle.search_best.specs.Best.{best_of, Told}
use Rattle.search_node.specs.Node.{no_record}
use Rattle.search_left.specs.Left.{child_at, HoldsAt}
use Rattle.search_node.proofs.Records.{no_best, nothing_none}

-- the children before i have been looked at, and none of them holds a placement
pub record NoneBefore (ks : List HeldRecord) (best : HeldRecord) (i : ℕ) : Type 0 where
  pub empty : best_of best ≡ nothing
  pub none : (j : ℕ) → j < i → best_of (child_at ks j) ≡ nothing

-- the children before i have been looked at; `at` is the place of the best of them, where one holds a placement
abbrev pub Sought : List HeldRecord → HeldRecord → Option ℕ → ℕ → Type 0
Sought ks best at i = MatchOption at (NoneBefore ks best i) (HoldsAt ks)

module _ (ks : List HeldRecord) where
  pub sought_start : (best : HeldRecord) → best ≡ no_record → NoneBefore ks best 0
  sought_start best e = record { empty = rw e no_best; none = λ j h. absurd (omega arith) }

  module _ (i : ℕ) (h : i < 4) (k : HeldRecord) (e : k ≡ child_at ks i) (t : Bool) where
    pub sought_taken : Told t k → t ≡ true → HoldsAt ks i
    sought_taken told q = record { place = h; some = λ z. told.placed q (nothing_none k (ap best_of e ∙ z)) }

    pub sought_left : (best : HeldRecord) (at : Option ℕ) → Sought ks best at i → pick t (best_of k) (best_of best) ≡ better (best_of best) (best_of k) → t ≡ false → Sought ks best at (i + 1)
    sought_left best (Some j) w b q = w
    sought_left best None w b q = record { empty = w.empty; none = λ j g. by j g (ℕ_discrete j i) }
      where
        here : best_of k ≡ nothing
        here = sym (nothing_better (best_of k))
            ∙ (ap (λ (s : Best). better s (best_of k)) (sym w.empty) ∙ (sym b ∙ (ap (λ (u : Bool). pick u (best_of k) (best_of best)) q ∙ w.empty)))

        by : (j : ℕ) → j < i + 1 → Dec (j ≡ i) → best_of (child_at ks j) ≡ nothing
        by j g (yes u) = rw (u, ← e) here
        by j g (no u) = w.none j (omega arith)

-- ---- how many children hold a placement

abbrev pub held : Best → ℕ
held nothing = 0
held (found l ps) = 1

unfoldable pub held_in : List HeldRecord → ℕ
held_in [] = 0
held_in (k ∷ ks) = held (best_of k) + held_in ks

held_one : (b : Best) → (b ≡ nothing → ⊥) → held b ≡ 1
held_one nothing h = absurd (h refl)
held_one (found l ps) h = refl

-- one fewer when a child that holds one is taken out
pub held_fewer : (ks : List HeldRecord) (i : ℕ) → (best_of (child_at ks i) ≡ nothing → ⊥) → held_in (set ks i no_record) < held_in ks
unfolding held_in
held_fewer [] i h = absurd (h no_best)
held_fewer (k ∷ ks) zero h = let e = held_one (best_of k) h in let z : held (best_of no_record) ≡ 0 = ap held no_best in omega arith
held_fewer (k ∷ ks) (suc i) h = let q = held_fewer ks i h in omega arith
