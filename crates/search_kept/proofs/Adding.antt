-- One difference more, and its sums with the others: the table stands for all of them.
use Prim.Native.Nat.{ℕ, ◌+◌, ◌*◌, ◌/◌, ◌%◌, ◌≤◌, ◌<◌}
use mathlib.Core.Path.{◌≡◌, ap, subst, sym, ◌∙◌}
use mathlib.Core.Bool.{Bool, true}
use mathlib.Core.List.{List}
use native.Mathlib.Omega.{arith}
use lib.ListN.{length, get_or, set}
use lib.Seq.{get_or-set_same}
use borrow.Author.Tests.{ltb-true}
use Rattle.axis_bounds.specs.declared.Slot.{Slot}
use Rattle.search_kept.specs.Differences.{raised, bound_in, KeptBy, Holds, limited, Limited, held_bound, Adds, excluded, contradicts, raised_at, Follows, Starts}
use Rattle.search_kept.proofs.Raising.{raised_keeps, raised_back, raised_own}

-- the bound at place 9 u + v, of the values x
module _ (e : List ℕ) (x : ℕ → ℕ) (k : KeptBy e x) where
  pub kept_at : (u v : ℕ) → u < 9 → v < 9 → x u + bound_in e (u * 9 + v) ≤ x v + raised
  kept_at u v a b =
      let h = k.at (u * 9 + v) (omega arith) in
      let p : x ((u * 9 + v) / 9) ≡ x u = ap x (omega arith) in
      let q : x ((u * 9 + v) % 9) ≡ x v = ap x (omega arith) in
      omega arith

-- ---- sums

pub follows_none : (e : List ℕ) (p v t : ℕ) → Follows e p v t e
follows_none e p v t = record { to = λ x k h. k; back = λ x k. k }

pub follows_more : (e₀ : List ℕ) (p v t : ℕ) (e r : List ℕ) → Follows e₀ p v t e → Follows e p v t r → Follows e₀ p v t r
follows_more e₀ p v t e r f g = record { to = λ x k h. g.to x (f.to x k h) h; back = λ x k. f.back x (g.back x k) }

pub row_next : (e₀ : List ℕ) (p v t : ℕ) (e r : List ℕ) (q d : ℕ) → Follows e₀ p v t e → p < 9 → v < 9 → q < 9 → d ≡ bound_in e (v * 9 + q) → r ≡ raised_at e (p * 9 + q) (t + d) → Follows e₀ p v t r
row_next e₀ p v t e r q d f lp lv lq j i = rw i (record {
  to = λ x k h. let g = f.to x k h in let a = kept_at e x g v q lv lq in
      let m : x ((p * 9 + q) / 9) ≡ x p = ap x (omega arith) in
      let n : x ((p * 9 + q) % 9) ≡ x q = ap x (omega arith) in
      raised_keeps e (p * 9 + q) (t + d) (omega arith) x g (omega arith);
  back = λ x k. f.back x (raised_back e (p * 9 + q) (t + d) (omega arith) x k);
})

-- ---- one difference more

-- the bound the other way is too large
pub excluded_none : (e : List ℕ) (s : Slot) → Limited s → excluded e s ≡ true → (x : ℕ → ℕ) → KeptBy e x → Holds x s → ⊥
unfolding excluded
excluded_none e s m h x k g =
    let a = kept_at e x k s.head s.tail m.head m.tail in
    let b = ltb-true (raised + raised) (bound_in e (s.head * 9 + s.tail) + held_bound s) h in
    let d = m.minus in
    omega arith

module _ (e : List ℕ) (s : Slot) (m : Limited s) (le : length e ≡ 128) where
  abbrev u : ℕ
  u = s.tail

  abbrev v : ℕ
  v = s.head

  here : (x : ℕ → ℕ) → KeptBy e x → x u + bound_in e (u * 9 + v) ≤ x v + raised
  here x k = kept_at e x k u v m.tail m.head

  pub adds_shut : (t : Bool) → t ≡ excluded e s → t ≡ true → (r : List ℕ) → r ≡ set e 0 16777217 → Adds e s r
  adds_shut t j g r i = let h : excluded e s ≡ true = sym j ∙ g in record { to = λ x k g. absurd (excluded_none e s m h x k g); back = λ x k. absurd (no x k); own = λ x k. absurd (no x k) }
    where
      no : (x : ℕ → ℕ) → KeptBy r x → ⊥
      no x k =
          let a = (subst (λ (t : List ℕ). KeptBy t x) i k).at 0 (omega arith) in
          let b : get_or (set e 0 16777217) 0 0 ≡ 16777217 = get_or-set_same e 0 16777217 0 (omega arith) in
          omega arith

  pub adds_more : (b : ℕ) (q t r : List ℕ) → b ≡ held_bound s → q ≡ raised_at e (u * 9 + v) (b + raised) → Follows q u v b t → Follows t u v b r → Adds e s r
  adds_more b q t r j i₀ f₀ g₀ = more (rw j at i₀) (rw j at (follows_more q u v b t r f₀ g₀))
    where
      more : q ≡ raised_at e (u * 9 + v) (held_bound s + raised) → Follows q u v (held_bound s) r → Adds e s r
      more i f = record {
        to = λ x k g. let j = subst (λ (t : List ℕ). KeptBy t x) (sym i) (raised_keeps e (u * 9 + v) (held_bound s + raised) lc x k (up x g)) in f.to x j (let b = m.minus in omega arith);
        back = λ x k. raised_back e (u * 9 + v) (held_bound s + raised) lc x (old x k);
        own = λ x k. let a = raised_own e (u * 9 + v) (held_bound s + raised) lc x (omega arith) (let b = m.plus in omega arith) (omega arith) (old x k) in let b = m.minus in
            let y : x ((u * 9 + v) / 9) ≡ x u = ap x (let t = m.tail in let h = m.head in omega arith) in
            let z : x ((u * 9 + v) % 9) ≡ x v = ap x (let t = m.tail in let h = m.head in omega arith) in
            omega arith;
      }
        where
          lc : u * 9 + v < 81
          lc = let a = m.tail in let b = m.head in omega arith

          old : (x : ℕ → ℕ) → KeptBy r x → KeptBy (raised_at e (u * 9 + v) (held_bound s + raised)) x
          old x k = subst (λ (t : List ℕ). KeptBy t x) i (f.back x k)

          up : (x : ℕ → ℕ) → Holds x s → x ((u * 9 + v) / 9) + (held_bound s + raised) ≤ x ((u * 9 + v) % 9) + raised + raised
          up x g =
              let y : x ((u * 9 + v) / 9) ≡ x u = ap x (let t = m.tail in let h = m.head in omega arith) in
              let z : x ((u * 9 + v) % 9) ≡ x v = ap x (let t = m.tail in let h = m.head in omega arith) in
              let b = m.minus in
              omega arith

-- ---- the start

pub starts_none : (e : List ℕ) → Starts e e
starts_none e = record { to = λ x k. k; back = λ x k. k }

pub starts_more : (e₀ e q r : List ℕ) (u t : ℕ) → u < 9 → Starts e₀ e → q ≡ raised_at e (u * 9 + u) (raised + raised) → t ≡ bound_in q (u * 9) → Follows q u 0 t r → Starts e₀ r
starts_more e₀ e q r u t lu s i j f = record {
  to = λ x k. let a = subst (λ (z : List ℕ). KeptBy z x) (sym i) (raised_keeps e (u * 9 + u) (raised + raised) (omega arith) x (s.to x k) (own x)) in
      f.to x a (let b = kept_at q x a u 0 lu (omega arith) in let d : bound_in q (u * 9 + 0) ≡ bound_in q (u * 9) = ap (bound_in q) (omega arith) in omega arith);
  back = λ x k. s.back x (raised_back e (u * 9 + u) (raised + raised) (omega arith) x (subst (λ (z : List ℕ). KeptBy z x) i (f.back x k)));
}
  where
    own : (x : ℕ → ℕ) → x ((u * 9 + u) / 9) + (raised + raised) ≤ x ((u * 9 + u) % 9) + raised + raised
    own x =
        let y : x ((u * 9 + u) / 9) ≡ x u = ap x (omega arith) in
        let z : x ((u * 9 + u) % 9) ≡ x u = ap x (omega arith) in
        omega arith

-- ---- tables that nothing keeps

pub contradicts_none : (e : List ℕ) → contradicts e ≡ true → (x : ℕ → ℕ) → KeptBy e x → ⊥
unfolding contradicts
contradicts_none e h x k = let a = k.at 0 (omega arith) in let b = ltb-true raised (bound_in e 0) h in omega arith

pub limited_small : (s : Slot) → Limited (limited s)
limited_small s = record { tail = omega arith; head = omega arith; plus = omega arith; minus = omega arith }
