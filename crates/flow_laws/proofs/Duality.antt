-- Duality of values and amounts.
--
-- `exchange` is behind all of it: the sum over nodes of value times amount at the node is the sum over slots of the value at
-- the slot's end times its amount. So a balance, weighed by values x, compares x (head s) with x (tail s) on each slot that
-- carries, which is what a bound speaks of. `weak` is the inequality for values that keep the bounds; `strong` the equation for
-- values that are tight wherever something flows; `tight_at_least` its converse; `no_values` the case of a circulation.
use mathlib.Core.Path.{◌≡◌, ap, ◌∙◌}
use Prim.Native.Nat.{ℕ, zero, suc, ◌+◌, ◌*◌, ◌≤◌, ◌<◌}
use native.Mathlib.Nat.{mul-le-mul_right}
use native.Mathlib.Decide.{ℕ_discrete}
use native.Mathlib.Omega.{arith}
use lib.Dec.{eqb}
use borrow.Author.Tests.{ne_eqb}
use Rattle.num_laws.specs.Sum.{sum, when}
use Rattle.num_laws.proofs.Sums.{when_zero, sum_le, sum_eq, sum_add, sum_zero, sum_pick, sum_tight}
use Rattle.flow_laws.specs.Flow.{at_node, weigh, Ends, Bounds, Tight, Balance}

-- values times what arrives at each node, and amounts times the value at each end
pub exchange : (end f x : ℕ → ℕ) (m n : ℕ) → Ends end m n → weigh x (at_node end f m) n ≡ weigh (λ s. x (end s)) f m
unfolding sum at_node weigh
exchange end f x zero n h = sum_eq (λ k. x k * 0) (λ k. 0) n (λ i l. omega arith) ∙ sum_zero n
exchange end f x (suc m) n h =
    let ih = exchange end f x m n (record { lt = λ s l. h.lt s (omega arith) }) in
    let p = sum_pick x (end m) (f m) n (h.lt m (omega arith)) in
    let q = sum_eq (λ k. x k * at_node end f (suc m) k) (λ k. x k * at_node end f m k + x k * when (eqb (end m) k) (f m)) n (λ i l. omega arith) in
    let r = sum_add (λ k. x k * at_node end f m k) (λ k. x k * when (eqb (end m) k) (f m)) n in
    omega arith

-- two weighed sums, term by term below two others
weigh_le : (a b c d f : ℕ → ℕ) (m : ℕ) → ((s : ℕ) → s < m → f s * (a s + b s) ≤ f s * (c s + d s)) → weigh a f m + weigh b f m ≤ weigh c f m + weigh d f m
unfolding weigh
weigh_le a b c d f m h =
    let p = sum_add (λ s. a s * f s) (λ s. b s * f s) m in
    let q = sum_add (λ s. c s * f s) (λ s. d s * f s) m in
    let r = sum_le (λ s. a s * f s + b s * f s) (λ s. c s * f s + d s * f s) m (λ s l. let t = h s l in omega arith) in
    omega arith

-- a common factor keeps an inequality
scaled : (f a b : ℕ) → a ≤ b → f * a ≤ f * b
scaled f a b h = let p : a * f ≤ b * f = mul-le-mul_right f h in omega arith

module _ (tail head plus minus f x sup dem : ℕ → ℕ) (m n : ℕ) (te : Ends tail m n) (he : Ends head m n) (bal : Balance tail head f sup dem m n) where
  -- the balance, weighed by the values
  weighed : weigh (λ s. x (head s)) f m + weigh x sup n ≡ weigh (λ s. x (tail s)) f m + weigh x dem n
  unfolding weigh
  weighed =
      let a = exchange head f x m n he in
      let b = exchange tail f x m n te in
      let p = sum_add (λ k. x k * at_node head f m k) (λ k. x k * sup k) n in
      let q = sum_add (λ k. x k * at_node tail f m k) (λ k. x k * dem k) n in
      let r = sum_eq (λ k. x k * at_node head f m k + x k * sup k) (λ k. x k * at_node tail f m k + x k * dem k) n (λ k l. each k (bal.eq k l)) in
      omega arith
    where
      each : (k : ℕ) → at_node head f m k + sup k ≡ at_node tail f m k + dem k → x k * at_node head f m k + x k * sup k ≡ x k * at_node tail f m k + x k * dem k
      each k e = let t = ap (λ (u : ℕ). x k * u) e in omega arith

  -- weak duality: values that keep the bounds
  pub weak : Bounds tail head plus minus x m → weigh plus f m + weigh x sup n ≤ weigh minus f m + weigh x dem n
  weak b =
      let p = weigh_le (λ s. x (tail s)) plus (λ s. x (head s)) minus f m (λ s l. scaled (f s) _ _ (b.le s l)) in
      let q = weighed in
      omega arith

  -- strong duality: values that are tight on every slot that carries
  pub strong : Tight tail head plus minus f x m → weigh plus f m + weigh x sup n ≡ weigh minus f m + weigh x dem n
  strong t =
      let p = weigh_le (λ s. x (tail s)) plus (λ s. x (head s)) minus f m (λ s l. each s (f s) (t.eq s l)) in
      let r = weigh_le (λ s. x (head s)) minus (λ s. x (tail s)) plus f m (λ s l. each' s (f s) (t.eq s l)) in
      let q = weighed in
      omega arith
    where
      each : (s v : ℕ) → (0 < v → x (tail s) + plus s ≡ x (head s) + minus s) → v * (x (tail s) + plus s) ≤ v * (x (head s) + minus s)
      each s zero h = omega arith
      each s (suc v) h = let e = h (omega arith) in scaled (suc v) _ _ (omega arith)

      each' : (s v : ℕ) → (0 < v → x (tail s) + plus s ≡ x (head s) + minus s) → v * (x (head s) + minus s) ≤ v * (x (tail s) + plus s)
      each' s zero h = omega arith
      each' s (suc v) h = let e = h (omega arith) in scaled (suc v) _ _ (omega arith)

-- a circulation whose pluses outweigh its minuses: no values keep all bounds
pub no_values : (tail head plus minus f x : ℕ → ℕ) (m n : ℕ) → Ends tail m n → Ends head m n → Balance tail head f (λ k. 0) (λ k. 0) m n → weigh minus f m < weigh plus f m → Bounds tail head plus minus x m → ⊥
no_values tail head plus minus f x m n te he bal more b =
    let p = weak tail head plus minus f x (λ k. 0) (λ k. 0) m n te he bal b in
    omega arith

-- and a common factor above 0 may be dropped
pub cancel : (v a b : ℕ) → 0 < v → a * v ≡ b * v → a ≤ b → a ≡ b
cancel zero a b h e l = absurd (omega arith)
cancel (suc v) a b h e l = by (ℕ_discrete a b)
  where
    by : Dec (a ≡ b) → a ≡ b
    by (yes q) = q
    by (no q) = let p : suc a * suc v ≤ b * suc v = mul-le-mul_right (suc v) (omega arith) in absurd (omega arith)

-- values that keep the bounds and reach the sum are tight wherever something flows
pub tight_at_least : (tail head plus minus f x sup dem : ℕ → ℕ) (m n : ℕ) → Ends tail m n → Ends head m n → Balance tail head f sup dem m n → Bounds tail head plus minus x m → weigh minus f m + weigh x dem n ≤ weigh plus f m + weigh x sup n → Tight tail head plus minus f x m
unfolding weigh
tight_at_least tail head plus minus f x sup dem m n te he bal b le =
    let q = weighed tail head plus minus f x sup dem m n te he bal in
    let p = sum_add (λ s. x (tail s) * f s) (λ s. plus s * f s) m in
    let r = sum_add (λ s. x (head s) * f s) (λ s. minus s * f s) m in
    let t = sum_tight (λ s. x (tail s) * f s + plus s * f s) (λ s. x (head s) * f s + minus s * f s) m (λ s l. let u = scaled (f s) _ _ (b.le s l) in omega arith) (omega arith) in
    record { eq = λ s l c. let u = t s l in cancel (f s) (x (tail s) + plus s) (x (head s) + minus s) c (omega arith) (b.le s l) }

-- where something arrives, some slot carries it
pub record Carrier (end f : ℕ → ℕ) (m k : ℕ) : Type 0 where
  pub slot : ℕ
  pub in_range_law : slot < m
  pub end_is : end slot ≡ k
  pub carries : 0 < f slot

pub carrier : (end f : ℕ → ℕ) (m k : ℕ) → 0 < at_node end f m k → Carrier end f m k
unfolding at_node sum
carrier end f zero k h = absurd (omega arith)
carrier end f (suc m) k h = by (ℕ_discrete (end m) k) (ℕ_discrete (f m) 0) (λ l. carrier end f m k l)
  where
    more : Carrier end f m k → Carrier end f (suc m) k
    more c = record { slot = c.slot; in_range_law = let q = c.in_range_law in omega arith; end_is = c.end_is; carries = c.carries }

    none : when (eqb (end m) k) (f m) ≡ 0 → 0 < at_node end f m k
    none e = omega arith

    by : Dec (end m ≡ k) → Dec (f m ≡ 0) → (0 < at_node end f m k → Carrier end f m k) → Carrier end f (suc m) k
    by (yes e) (no n) ih = record { slot = m; in_range_law = omega arith; end_is = e; carries = omega arith }
    by (yes e) (yes z) ih = more (ih (none (rw z (when_zero (eqb (end m) k)))))
    by (no n) z ih = more (ih (none (rw (ne_eqb (end m) k n))))

-- a slot e into k carries nothing, where every slot that leaves k and is tight keeps e from being tight
pub idle_in : (tail head plus minus f x sup dem : ℕ → ℕ) (m n k e : ℕ) → Balance tail head f sup dem m n → Tight tail head plus minus f x m → k < n → dem k < sup k → e < m → head e ≡ k →
    ((s : ℕ) → s < m → tail s ≡ k → x (tail s) + plus s ≡ x (head s) + minus s → x (tail e) + plus e < x k + minus e) → f e ≡ 0
idle_in tail head plus minus f x sup dem m n k e bal t l more em eh far = by (ℕ_discrete (f e) 0) (carrier tail f m k (let a = bal.eq k l in omega arith))
  where
    by : Dec (f e ≡ 0) → Carrier tail f m k → f e ≡ 0
    by (yes z) c = z
    by (no n') c =
        let a = far c.slot c.in_range_law c.end_is (t.eq c.slot c.in_range_law c.carries) in
        let b = t.eq e em (omega arith) in
        let q : x (head e) ≡ x k = ap x eh in
        absurd (omega arith)

-- the same of a slot e out of k
pub idle_out : (tail head plus minus f x sup dem : ℕ → ℕ) (m n k e : ℕ) → Balance tail head f sup dem m n → Tight tail head plus minus f x m → k < n → sup k < dem k → e < m → tail e ≡ k →
    ((s : ℕ) → s < m → head s ≡ k → x (tail s) + plus s ≡ x (head s) + minus s → x k + plus e < x (head e) + minus e) → f e ≡ 0
idle_out tail head plus minus f x sup dem m n k e bal t l more em et far = by (ℕ_discrete (f e) 0) (carrier head f m k (let a = bal.eq k l in omega arith))
  where
    by : Dec (f e ≡ 0) → Carrier head f m k → f e ≡ 0
    by (yes z) c = z
    by (no n') c =
        let a = far c.slot c.in_range_law c.end_is (t.eq c.slot c.in_range_law c.carries) in
        let b = t.eq e em (omega arith) in
        let q : x (tail e) ≡ x k = ap x et in
        absurd (omega arith)
