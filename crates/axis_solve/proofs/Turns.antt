-- The turns of one net: a growth from its lower to its upper node and a push, until nothing of its weight is left.
use mathlib.Core.Path.{◌≡◌, ap, subst}
use mathlib.Core.List.{List}
use Prim.Native.Nat.{ℕ, ◌+◌, ◌-◌, ◌≤◌, ◌<◌, min}
use native.Mathlib.Decide.{ℕ_discrete, dec_lt}
use native.Mathlib.Omega.{arith}
use lib.Dec.{eqb}
use Rattle.num_laws.specs.Sum.{when}
use Rattle.flow_laws.specs.Flow.{Balance}
use Rattle.axis_graph.specs.declared.Graph.{Graph}
use Rattle.axis_solve.specs.declared.growth.Growth.{Growth}
use Rattle.axis_graph.specs.Limits.{farthest, low_most}
use Rattle.axis_bounds.specs.Listed.{tails, heads}
use Rattle.axis_graph.specs.Graph.{at, GraphWithin}
use Rattle.axis_solve.specs.Growth.{seed_of, Shifted}
use Rattle.axis_solve.specs.Push.{Pushable, Pushed}
use Rattle.axis_solve.specs.Augment.{ReachOk, Sound, Spare, Carried, TurnOk}

-- ---- one turn

module _ (g : Graph) (f : List ℕ) (lo hi r : ℕ) (fine : GraphWithin g) (sp : Spare f r) (some : 0 < r) (x : List ℕ) (v : Growth) (ve : v ≡ seed_of x lo r) (w : Growth) (reached : ReachOk g f v.start hi w) where
  ok : ReachOk g f lo hi w
  ok = subst (λ (k : ℕ). ReachOk g f k hi w) (ap (λ (u : Growth). u.start) ve) reached

  module _ (q : ℕ) (e : q ≡ min (at w.room hi) r) where
    pub turn_pushable : Pushable g f w hi q
    turn_pushable =
        record {
          tight = ok.growing.tight;
          tree = ok.growing.tree;
          goal_in = ok.reached;
          much = omega arith;
          few = λ s. let a = sp.most s in omega arith;
          little = let a = sp.most 0 in omega arith;
        }

    pub turn_ok : (h y : List ℕ) → Pushed g f w hi q h → Shifted (at w.x 0) w.x y g.n → TurnOk g f lo hi r y h q
    turn_ok h y p s =
        record {
          some = let a = ok.growing.tree.some hi ok.reached in omega arith;
          most = omega arith;
          sound = record {
            holds = record { le = λ k l. let a = at_tail k l in let b = at_head k l in let c = ok.growing.holds.le k l in omega arith };
            tight = record { eq = λ k l d. let a = at_tail k l in let b = at_head k l in let c = p.tight.eq k l d in omega arith };
            low = λ k. low k (dec_lt k g.n);
            near = ok.growing.near;
          };
          carried = record {
            most = p.most;
            idle = p.idle;
            balance = λ sup dem b. subst (λ (k : ℕ). Balance (tails g.slots) (heads g.slots) (at h) (λ i. sup i + when (eqb k i) q) (λ i. dem i + when (eqb hi i) q) g.m g.n) ok.from (p.balance sup dem b);
          };
        }
      where
        at_tail : (k : ℕ) → k < g.m → at y (tails g.slots k) + at w.x 0 ≡ at w.x (tails g.slots k) + farthest
        at_tail k l = s.moved _ (fine.tail.lt k l)

        at_head : (k : ℕ) → k < g.m → at y (heads g.slots k) + at w.x 0 ≡ at w.x (heads g.slots k) + farthest
        at_head k l = s.moved _ (fine.head.lt k l)

        low : (k : ℕ) → Dec (k < g.n) → at y k ≤ low_most
        low k (yes l) = let a = s.moved k l in let b = ok.growing.near.near w.x ok.growing.holds k 0 l (omega arith) in omega arith
        low k (no n) = by (ℕ_discrete (at w.rank k) 0)
          where
            by : Dec (at w.rank k ≡ 0) → at y k ≤ low_most
            by (yes e) = let a = s.rest k (omega arith) in let b = ok.growing.low.low k e in omega arith
            by (no o) = let a = ok.growing.tree.nodes k (omega arith) in absurd (omega arith)

-- ---- all turns

-- r of the weight is left
pub record Augmenting (g : Graph) (f : List ℕ) (lo hi weight : ℕ) (y h : List ℕ) (r : ℕ) : Type 0 where
  pub left : r ≤ weight
  pub sound : Sound g h y
  pub carried : Carried g f lo hi (weight - r) h
