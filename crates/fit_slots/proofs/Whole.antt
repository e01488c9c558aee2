-- The flow and the chain over both directions.
use Prim.Native.Nat.{ℕ, zero, suc, ◌+◌}
use mathlib.Core.Path.{◌≡◌, refl, sym, ap, ◌∙◌}
use mathlib.Core.Bool.{Bool, true}
use mathlib.Core.List.{List, [], ◌∷◌}
use native.Mathlib.Omega.{arith}
use lib.IntN.{ℤ, pos, ◌+ℤ◌, ◌*ℤ◌, *ℤ-zero, +ℤ_idl}
use lib.Signed.{le_z}
use lib.ListN.{length, get_or}
use borrow.Author.Tests.{le-leb}
use Rattle.model.specs.Meaning.{Chip}
use Rattle.chip_text.specs.Valid.{Valid}
use Rattle.num_laws.proofs.Sums.{when_zero}
use Rattle.placement.specs.Letters.{Letter}
use Rattle.flow_laws.specs.Flow.{Ends}
use Rattle.axis_bounds.specs.Axis.{Axis}
use Rattle.axis_bounds.specs.Listed.{listed, tails, heads, node_count}
use Rattle.axis_bounds.specs.Answer.{FlowOn, ChainOn}
use Rattle.fit_slots.specs.declared.Direction.{Direction}
use Rattle.fit_slots.specs.declared.Direction.TheVariants.{Horizontal as horizontal, Vertical as vertical}
use Rattle.fit_slots.specs.Slots.{Slot, free, bound, slots_on}
use Rattle.fit_slots.specs.Amounts.{amounts_where, into, out_of, worth, Amounts, Closed, amounts_on, whole_worth, Flow, Chain}
use Rattle.fit_slots.specs.Axes.{axis_for}
use Rattle.fit_slots.proofs.Flowing.{Agrees}
use Rattle.fit_slots.proofs.Answering.{flow_amounts, flow_balanced, flow_worth, chain_amounts, chain_closed, chain_gain, chain_worth, chain_some}
use Rattle.fit_slots.proofs.Amounting.{cond_when}

-- every slot of a direction's axis ends at a node
pub record Ended (a : Axis) : Type 0 where
  pub tails_in : Ends (tails (listed a)) (length (listed a)) (node_count a)
  pub heads_in : Ends (heads (listed a)) (length (listed a)) (node_count a)

-- the amounts of direction d in F are f
abbrev pub Lists : Chip → List Letter → List ℕ → Direction → List ℕ → Type 0
Lists c ls F d f = Agrees (slots_on d c ls) f (amounts_on d c ls F)

module _ (c : Chip) (ls : List Letter) (v : Valid c) (ends : (d : Direction) → Ended (axis_for d c ls)) (F : List ℕ) where
  module _ (f : Direction → List ℕ) (holds : (d : Direction) → Lists c ls F d (f d)) (l : Direction → ℕ) (flow : (d : Direction) → FlowOn (axis_for d c ls) (f d) (l d)) where
    pub whole_flow : Flow c ls F (l horizontal + l vertical)
    whole_flow =
        record {
          amounts = λ d. flow_amounts d c ls v (ends d).tails_in (ends d).heads_in (f d) (amounts_on d c ls F) (holds d) (l d) (flow d);
          balanced = λ d. flow_balanced d c ls v (ends d).tails_in (ends d).heads_in (f d) (amounts_on d c ls F) (holds d) (l d) (flow d);
          value =
              ap (λ (z : ℤ). z +ℤ worth (slots_on vertical c ls) (amounts_on vertical c ls F)) (value_on_law horizontal)
              ∙ ap (λ (z : ℤ). pos (l horizontal) +ℤ z) (value_on_law vertical);
        }
      where
        value_on_law : (d : Direction) → worth (slots_on d c ls) (amounts_on d c ls F) ≡ pos (l d)
        value_on_law d = flow_worth d c ls v (ends d).tails_in (ends d).heads_in (f d) (amounts_on d c ls F) (holds d) (l d) (flow d)

-- amounts of 0 are closed and have no worth
pub record AllZero (ss : List Slot) (g : List ℕ) : Type 0 where
  pub long : length g ≡ length ss
  pub zero : (s : ℕ) → get_or g s 0 ≡ 0

zero_where : (test : Slot → Bool) (ss : List Slot) (g : List ℕ) → ((s : ℕ) → get_or g s 0 ≡ 0) → amounts_where test ss g ≡ 0
unfolding amounts_where
zero_where test [] g z = refl
zero_where test (s ∷ ss) [] z = refl
zero_where test (s ∷ ss) (x ∷ g) z = let e : x ≡ 0 = z 0 in rw (e, cond_when (test s) 0, when_zero (test s), zero_where test ss g (λ i. z (suc i)))

zero_worth : (ss : List Slot) (g : List ℕ) → ((s : ℕ) → get_or g s 0 ≡ 0) → worth ss g ≡ pos 0
unfolding worth
zero_worth [] g z = refl
zero_worth (s ∷ ss) [] z = refl
zero_worth (free ∷ ss) (x ∷ g) z = zero_worth ss g (λ i. z (suc i))
zero_worth (bound u v a ∷ ss) (x ∷ g) z =
    let e : x ≡ 0 = z 0 in
    ap (λ (t : ℕ). a *ℤ pos t +ℤ worth ss g) e ∙ ap (λ (t : ℤ). t +ℤ worth ss g) (*ℤ-zero a) ∙ +ℤ_idl (worth ss g) ∙ zero_worth ss g (λ i. z (suc i))

module _ (ss : List Slot) (g : List ℕ) (z : AllZero ss g) where
  zero_amounts : Amounts ss g 1
  zero_amounts = record { long = z.long; most = λ s. let e = z.zero s in omega arith; idle = λ s e. z.zero s }

  zero_closed : Closed ss g
  zero_closed = record { at = λ k. zero_where (into k) ss g z.zero ∙ sym (zero_where (out_of k) ss g z.zero) }

abbrev pub other : Direction → Direction
other horizontal = vertical
other vertical = horizontal

both : (P : Direction → Type 0) (e : Direction) → P e → P (other e) → (d : Direction) → P d
both P horizontal p q horizontal = p
both P horizontal p q vertical = q
both P vertical p q horizontal = q
both P vertical p q vertical = p

module _ (c : Chip) (ls : List Letter) (v : Valid c) (e : Direction) (ends : Ended (axis_for e c ls)) (F f : List ℕ) (holds : Lists c ls F e f) (chain : ChainOn (axis_for e c ls) f) (rest : AllZero (slots_on (other e) c ls) (amounts_on (other e) c ls F)) where
  abbrev gain : ℕ
  gain = chain_gain e c ls v ends.tails_in ends.heads_in f (amounts_on e c ls F) holds chain

  -- the chain's sum is that of both directions
  gains : (k : Direction) → worth (slots_on k c ls) (amounts_on k c ls F) ≡ pos gain → worth (slots_on (other k) c ls) (amounts_on (other k) c ls F) ≡ pos 0 → le_z (pos 1) (whole_worth c ls F) ≡ true
  gains horizontal p q = rw (p, q) (le-leb 1 (gain + 0) (let s = chain_some e c ls v ends.tails_in ends.heads_in f (amounts_on e c ls F) holds chain in omega arith))
  gains vertical p q = rw (p, q) (le-leb 1 (0 + gain) (let s = chain_some e c ls v ends.tails_in ends.heads_in f (amounts_on e c ls F) holds chain in omega arith))

  pub whole_chain : Chain c ls F
  whole_chain =
      record {
        amounts = both (λ d. Amounts (slots_on d c ls) (amounts_on d c ls F) 1) e
            (chain_amounts e c ls v ends.tails_in ends.heads_in f (amounts_on e c ls F) holds chain)
            (zero_amounts (slots_on (other e) c ls) (amounts_on (other e) c ls F) rest);
        closed = both (λ d. Closed (slots_on d c ls) (amounts_on d c ls F)) e
            (chain_closed e c ls v ends.tails_in ends.heads_in f (amounts_on e c ls F) holds chain)
            (zero_closed (slots_on (other e) c ls) (amounts_on (other e) c ls F) rest);
        above = gains e (chain_worth e c ls v ends.tails_in ends.heads_in f (amounts_on e c ls F) holds chain) (zero_worth (slots_on (other e) c ls) (amounts_on (other e) c ls F) rest.zero);
      }
