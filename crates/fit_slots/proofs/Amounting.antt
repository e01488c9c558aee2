-- Inflow, outflow and the sum of a × amount over the slots of document 01 are those over the solver's slots.
use Prim.Native.Nat.{ℕ, zero, suc, ◌+◌, ◌*◌}
use mathlib.Core.Path.{◌≡◌, refl, sym, ap, ◌∙◌}
use mathlib.Core.Bool.{Bool, true, false, cond}
use mathlib.Core.List.{List, [], ◌∷◌}
use native.Mathlib.Omega.{arith}
use lib.Dec.{eqb}
use lib.IntN.{ℤ, pos, ◌+ℤ◌, ◌*ℤ◌, sub_ℕ}
use lib.ListN.{length, get_or}
use Rattle.num_laws.specs.Sum.{sum, when}
use Rattle.num_laws.proofs.Sums.{when_zero, sum_first}
use Rattle.num_laws.proofs.Differences.{add_sub, times_sub}
use Rattle.flow_laws.specs.Flow.{at_node, weigh}
use Rattle.axis_bounds.specs.declared.Slot.{Slot as HeldSlot}
use Rattle.axis_bounds.specs.Axis.{no_slot}
use Rattle.axis_bounds.specs.Listed.{tails, heads, pluses, minuses, amount}
use Rattle.fit_slots.specs.Slots.{Slot, free, bound}
use Rattle.fit_slots.specs.Amounts.{amounts_where, into, out_of, worth}
use Rattle.fit_slots.proofs.Matches.{Same, AllSame}

-- one amount for each slot, 0 in the slots without a bound
pub record OnePerSlot (ss : List Slot) (f : List ℕ) : Type 0 where
  pub long : length f ≡ length ss
  pub idle : (i : ℕ) → get_or ss i free ≡ free → get_or f i 0 ≡ 0

placed_rest : (s : Slot) (ss : List Slot) (x : ℕ) (f : List ℕ) → OnePerSlot (s ∷ ss) (x ∷ f) → OnePerSlot ss f
placed_rest s ss x f p = record { long = let q = p.long in omega arith; idle = λ i. p.idle (suc i) }

-- a slot without a bound is one that asks nothing
pub same_free : (ss : List Slot) (hs : List HeldSlot) → AllSame ss hs → (i : ℕ) → get_or ss i free ≡ free → get_or hs i no_slot ≡ no_slot
unfolding AllSame
same_free [] [] p i e = refl
same_free [] (h ∷ hs) p i e = absurd p
same_free (s ∷ ss) [] p i e = absurd p
same_free (free ∷ ss) (h ∷ hs) p zero e = p.0
same_free (bound u v a ∷ ss) (h ∷ hs) p zero e = cc
same_free (s ∷ ss) (h ∷ hs) p (suc i) e = same_free ss hs p.1 i e

pub cond_when : (b : Bool) (x : ℕ) → cond b x 0 ≡ when b x
cond_when true x = refl
cond_when false x = refl

module _ (test : Slot → Bool) (end : HeldSlot → ℕ) (k : ℕ) (agree : (s : Slot) (h : HeldSlot) (x : ℕ) → Same s h → (s ≡ free → x ≡ 0) → when (test s) x ≡ when (eqb (end h) k) x) where
  where_sum : (ss : List Slot) (hs : List HeldSlot) (f : List ℕ) → AllSame ss hs → OnePerSlot ss f → amounts_where test ss f ≡ sum (λ i. when (eqb (end (get_or hs i no_slot)) k) (get_or f i 0)) (length hs)
  unfolding AllSame amounts_where sum
  where_sum [] [] f a p = refl
  where_sum [] (h ∷ hs) f a p = absurd a
  where_sum (s ∷ ss) [] f a p = absurd a
  where_sum (s ∷ ss) (h ∷ hs) [] a p = let q = p.long in absurd (omega arith)
  where_sum (s ∷ ss) (h ∷ hs) (x ∷ f) a p =
      let ih = where_sum ss hs f a.1 (placed_rest s ss x f p) in
      let e = agree s h x a.0 (p.idle 0) in
      let w = cond_when (test s) x in
      let q = sum_first (λ i. when (eqb (end (get_or (h ∷ hs) i no_slot)) k) (get_or (x ∷ f) i 0)) (length hs) in
      omega arith

into_agrees : (k : ℕ) (s : Slot) (h : HeldSlot) (x : ℕ) → Same s h → (s ≡ free → x ≡ 0) → when (into k s) x ≡ when (eqb h.head k) x
into_agrees k free h x a z = rw (z refl) (sym (when_zero (eqb h.head k)))
into_agrees k (bound u v b) h x a z = rw a.1

out_agrees : (k : ℕ) (s : Slot) (h : HeldSlot) (x : ℕ) → Same s h → (s ≡ free → x ≡ 0) → when (out_of k s) x ≡ when (eqb h.tail k) x
out_agrees k free h x a z = rw (z refl) (sym (when_zero (eqb h.tail k)))
out_agrees k (bound u v b) h x a z = rw a.0

module _ (ss : List Slot) (hs : List HeldSlot) (a : AllSame ss hs) where
  pub inflow_is : (f : List ℕ) (k : ℕ) → OnePerSlot ss f → amounts_where (into k) ss f ≡ at_node (heads hs) (amount f) (length hs) k
  unfolding at_node
  inflow_is f k p = where_sum (into k) (λ (h : HeldSlot). h.head) k (into_agrees k) ss hs f a p

  pub outflow_is : (f : List ℕ) (k : ℕ) → OnePerSlot ss f → amounts_where (out_of k) ss f ≡ at_node (tails hs) (amount f) (length hs) k
  unfolding at_node
  outflow_is f k p = where_sum (out_of k) (λ (h : HeldSlot). h.tail) k (out_agrees k) ss hs f a p

-- the sum of a × amount, one slot more
worth_more : (s : Slot) (h : HeldSlot) (ss : List Slot) (x : ℕ) (f : List ℕ) (P M : ℕ) → Same s h → (s ≡ free → x ≡ 0) → worth ss f ≡ sub_ℕ P M → worth (s ∷ ss) (x ∷ f) ≡ sub_ℕ (h.plus * x + P) (h.minus * x + M)
unfolding worth
worth_more free h ss x f P M a z e =
    let p : P ≡ h.plus * x + P = rw (z refl) (omega arith) in
    let m : M ≡ h.minus * x + M = rw (z refl) (omega arith) in
    e ∙ ap (λ (t : ℕ). sub_ℕ t M) p ∙ ap (λ (t : ℕ). sub_ℕ (h.plus * x + P) t) m
worth_more (bound u v b) h ss x f P M a z e =
    ap (λ (t : ℤ). t *ℤ pos x +ℤ worth ss f) (sym a.2) ∙ ap (λ (t : ℤ). sub_ℕ h.plus h.minus *ℤ pos x +ℤ t) e
    ∙ ap (λ (t : ℤ). t +ℤ sub_ℕ P M) (times_sub h.plus h.minus x) ∙ add_sub (h.plus * x) (h.minus * x) P M

pub worth_is : (ss : List Slot) (hs : List HeldSlot) (f : List ℕ) → AllSame ss hs → OnePerSlot ss f → worth ss f ≡ sub_ℕ (weigh (pluses hs) (amount f) (length hs)) (weigh (minuses hs) (amount f) (length hs))
unfolding AllSame worth weigh sum
worth_is [] [] f a p = refl
worth_is [] (h ∷ hs) f a p = absurd a
worth_is (s ∷ ss) [] f a p = absurd a
worth_is (s ∷ ss) (h ∷ hs) [] a p = let q = p.long in absurd (omega arith)
worth_is (s ∷ ss) (h ∷ hs) (x ∷ f) a p =
    let ih = worth_is ss hs f a.1 (placed_rest s ss x f p) in
    let P = sum_first (λ i. pluses (h ∷ hs) i * amount (x ∷ f) i) (length hs) in
    let M = sum_first (λ i. minuses (h ∷ hs) i * amount (x ∷ f) i) (length hs) in
    worth_more s h ss x f (weigh (pluses hs) (amount f) (length hs)) (weigh (minuses hs) (amount f) (length hs)) a.0 (p.idle 0) ih
    ∙ ap (λ (t : ℕ). sub_ℕ t (h.minus * x + weigh (minuses hs) (amount f) (length hs))) (sym P)
    ∙ ap (λ (t : ℕ). sub_ℕ (weigh (pluses (h ∷ hs)) (amount (x ∷ f)) (suc (length hs))) t) (sym M)
