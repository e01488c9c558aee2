-- What amounts on slots must be. Document 01, "The fit": a slot's amount flows from u to v; inflow minus outflow is the weight at a net's hi,
-- minus the weight at its lo, 0 elsewhere; the sum of a × amount is the wirelength. For no fit the list holds 0 and 1 only, inflow equals outflow
-- everywhere, and that sum is above 0.
use Rattle.std.specs.Prelude.{ℕ, suc, ◌+◌, ◌≤◌, ◌≡◌, List, [], ◌∷◌, Bool, true, false, cond, eqb, length, get_or, take, drop, ℤ, pos, ◌+ℤ◌, ◌*ℤ◌}
use Rattle.std.specs.Int.Signed.{le_z}
use Rattle.model.specs.Meaning.{Net, Chip}
use Rattle.placement.specs.Letters.{Letter}
use Rattle.fit_slots.specs.declared.Direction.{Direction}
use Rattle.fit_slots.specs.declared.Direction.TheVariants.{Horizontal as horizontal, Vertical as vertical}
use Rattle.fit_slots.specs.Slots.{Slot, free, bound, slots_on, first_hi}

-- the amounts of the slots that pass a test
unfoldable pub amounts_where : (Slot → Bool) → List Slot → List ℕ → ℕ
amounts_where test [] f = 0
amounts_where test (s ∷ ss) [] = 0
amounts_where test (s ∷ ss) (x ∷ f) = cond (test s) x 0 + amounts_where test ss f

-- a slot's amount flows into node k, or out of it
abbrev pub into : ℕ → Slot → Bool
into k free = false
into k (bound u v a) = eqb v k

abbrev pub out_of : ℕ → Slot → Bool
out_of k free = false
out_of k (bound u v a) = eqb u k

-- the sum of a × amount
unfoldable pub worth : List Slot → List ℕ → ℤ
worth [] f = pos 0
worth (s ∷ ss) [] = pos 0
worth (free ∷ ss) (x ∷ f) = worth ss f
worth (bound u v a ∷ ss) (x ∷ f) = a *ℤ pos x +ℤ worth ss f

-- the weight of the net whose end is node k, or 0, where the nets' ends are nodes e, e + 2, e + 4 and so on
unfoldable pub weight_at : ℕ → List Net → ℕ → ℕ
weight_at e [] k = 0
weight_at e (t ∷ ts) k = cond (eqb e k) t.weight 0 + weight_at (suc (suc e)) ts k

abbrev pub hi_weight : Chip → ℕ → ℕ
hi_weight c k = weight_at (first_hi c) c.nets k

abbrev pub lo_weight : Chip → ℕ → ℕ
lo_weight c k = weight_at (suc (first_hi c)) c.nets k

-- one amount for each slot, none above the limit, and 0 in the slots without a bound
pub record Amounts (ss : List Slot) (f : List ℕ) (limit : ℕ) : Type 0 where
  pub long : length f ≡ length ss
  pub most : (s : ℕ) → get_or f s 0 ≤ limit
  pub idle : (s : ℕ) → get_or ss s free ≡ free → get_or f s 0 ≡ 0

-- inflow and the weight at a net's lo are outflow and the weight at a net's hi, at every node
pub record Balanced (c : Chip) (ss : List Slot) (f : List ℕ) : Type 0 where
  pub at : (k : ℕ) → amounts_where (into k) ss f + lo_weight c k ≡ amounts_where (out_of k) ss f + hi_weight c k

-- inflow equals outflow everywhere
pub record Closed (ss : List Slot) (f : List ℕ) : Type 0 where
  pub at : (k : ℕ) → amounts_where (into k) ss f ≡ amounts_where (out_of k) ss f

-- the number of slots of one direction
abbrev pub slots_each : Chip → List Letter → ℕ
slots_each c ls = length (slots_on horizontal c ls)

-- the amounts of the horizontal slots, and of the vertical slots after them
abbrev pub amounts_on : Direction → Chip → List Letter → List ℕ → List ℕ
amounts_on horizontal c ls f = take (slots_each c ls) f
amounts_on vertical c ls f = take (slots_each c ls) (drop (slots_each c ls) f)

-- the sum of a × amount over both directions
abbrev pub whole_worth : Chip → List Letter → List ℕ → ℤ
whole_worth c ls f = worth (slots_on horizontal c ls) (amounts_on horizontal c ls f) +ℤ worth (slots_on vertical c ls) (amounts_on vertical c ls f)

-- a flow of value l
pub record Flow (c : Chip) (ls : List Letter) (f : List ℕ) (l : ℕ) : Type 0 where
  pub amounts : (d : Direction) → Amounts (slots_on d c ls) (amounts_on d c ls f) 32000
  pub balanced : (d : Direction) → Balanced c (slots_on d c ls) (amounts_on d c ls f)
  pub value : whole_worth c ls f ≡ pos l

-- a closed chain
pub record Chain (c : Chip) (ls : List Letter) (f : List ℕ) : Type 0 where
  pub amounts : (d : Direction) → Amounts (slots_on d c ls) (amounts_on d c ls f) 1
  pub closed : (d : Direction) → Closed (slots_on d c ls) (amounts_on d c ls f)
  pub above : le_z (pos 1) (whole_worth c ls f) ≡ true
