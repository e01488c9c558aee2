-- What a flow and a closed chain show, whoever gives the amounts: for an accepted chip, where amounts are a flow of value l, every
-- placement that keeps the letters has at least wirelength l (`flow_shows`); where they are a closed chain, none keeps them (`chain_shows`).
--
-- The idea: the corners of a placement that keeps the letters give each node a value, and these values keep the bound of every slot.
-- Weigh the balance at each node by the node's value and add up. Then the sum of a × amount is at most the wirelength for a flow, and
-- at most 0 for a chain.
use Prim.Native.Nat.{ℕ, ◌+◌, ◌-◌, ◌≤◌, ◌<◌}
use mathlib.Core.Path.{◌≡◌, sym, ap, ◌∙◌}
use mathlib.Core.Bool.{true, false≢true}
use mathlib.Core.List.{List}
use native.Mathlib.Decide.{dec_lt}
use native.Mathlib.Omega.{arith}
use lib.IntN.{ℤ, pos, ◌+ℤ◌, sub_ℕ}
use lib.ListN.{length}
use lib.Signed.{le_z}
use borrow.Author.Tests.{leb-true, le-leb}
use Rattle.model.specs.declared.Spot.{Spot}
use Rattle.model.specs.Meaning.{Chip}
use Rattle.text_grammar.specs.Reading.{accepted}
use Rattle.chip_text.specs.Text.{read_chip}
use Rattle.chip_text.specs.Valid.{Valid}
use Rattle.chip_text.proofs.Accepted.{accepted_valid}
use Rattle.num_laws.proofs.Differences.{add_sub, sub_up, sub_down}
use Rattle.placement.specs.Integers.{Corner, wirelength_z}
use Rattle.placement.specs.Length.{wirelength}
use Rattle.placement.specs.Letters.{Letter, keeps_letters_z}
use Rattle.placement.specs.Pairs.{keeps_letters}
use Rattle.placement.proofs.Integers.{naturals, length_same, letters_natural, natural_letters}
use Rattle.flow_laws.specs.Flow.{weigh, Balance}
use Rattle.axis_bounds.specs.declared.Slot.{Slot as HeldSlot}
use Rattle.axis_bounds.specs.Axis.{Axis, Keeps, length_on, WellFormed}
use Rattle.axis_bounds.specs.Listed.{listed, tails, heads, pluses, minuses, amount, node_count}
use Rattle.axis_bounds.specs.Answer.{supply, demand}
use Rattle.axis_bounds.proofs.Worths.{flow_most, closed_most}
use Rattle.fit_slots.specs.declared.Direction.{Direction}
use Rattle.fit_slots.specs.declared.Direction.TheVariants.{Horizontal as horizontal, Vertical as vertical}
use Rattle.fit_slots.specs.Slots.{Slot, slots_on}
use Rattle.fit_slots.specs.Amounts.{amounts_where, into, out_of, worth, Amounts, Balanced, Closed, amounts_on, whole_worth, Flow, Chain}
use Rattle.fit_slots.specs.Axes.{axis_for, corners_on}
use Rattle.fit_slots.proofs.Matches.{AllSame, same_slots}
use Rattle.fit_slots.proofs.Amounting.{OnePerSlot, inflow_is, outflow_is, worth_is}
use Rattle.fit_slots.proofs.Flowing.{supply_is, demand_is}
use Rattle.fit_slots.proofs.Fineness.{axis_fine}
use Rattle.fit_slots.proofs.Keeping.{keeps_splits}
use Rattle.fit_slots.proofs.Lengths.{lengths_split}
use Rattle.fit_slots.proofs.Smallest.{letters_counted}

-- a difference that is at least l and at most n
at_least : (p m l n : ℕ) → le_z (pos l) (sub_ℕ p m) ≡ true → p ≤ m + n → l ≤ n
at_least p m l n h most = by (dec_lt p m)
  where
    by : Dec (p < m) → l ≤ n
    by (yes q) = absurd (false≢true (ap (le_z (pos l)) (sym (sub_down p m q)) ∙ h))
    by (no q) = let k = leb-true l (p - m) (ap (le_z (pos l)) (sym (sub_up p m (omega arith))) ∙ h) in omega arith

module _ (c : Chip) (ls : List Letter) (v : Valid c) where
  -- ---- one direction

  module _ (d : Direction) (f : List ℕ) (placed : OnePerSlot (slots_on d c ls) f) where
    abbrev a : Axis
    a = axis_for d c ls

    abbrev ss : List Slot
    ss = slots_on d c ls

    abbrev hs : List HeldSlot
    hs = listed a

    same : AllSame ss hs
    same = same_slots d c ls v

    -- the two parts of the sum of a × amount
    abbrev gained : ℕ
    gained = weigh (pluses hs) (amount f) (length hs)

    abbrev lost : ℕ
    lost = weigh (minuses hs) (amount f) (length hs)

    worth_parts : worth ss f ≡ sub_ℕ gained lost
    worth_parts = worth_is ss hs f same placed

    -- what is in balance on the slots of document 01 is so on the axis
    balance_on : (sup dem : ℕ → ℕ) → ((n : ℕ) → amounts_where (into n) ss f + sup n ≡ amounts_where (out_of n) ss f + dem n) → Balance (tails hs) (heads hs) (amount f) sup dem (length hs) (node_count a)
    balance_on sup dem b = record { eq = λ n l. let e = b n in let i = inflow_is ss hs same f n placed in let o = outflow_is ss hs same f n placed in omega arith }

    module _ (ps : List Spot) (k : keeps_letters c ls ps ≡ true) where
      fine : WellFormed a
      fine = axis_fine d c ls v (letters_counted c ls ps k)

      kept : Keeps a (corners_on d ps)
      kept = keeps_splits c ls ps k d

      balanced_worth : Balanced c ss f → gained ≤ lost + length_on a (corners_on d ps)
      balanced_worth b =
          flow_most a fine (corners_on d ps) kept (amount f)
          (balance_on (supply a) (demand a) (λ n. let e = b.at n in let s = supply_is d c ls n in let t = demand_is d c ls n in omega arith))

      closed_worth : Closed ss f → gained ≤ lost
      closed_worth b = closed_most a fine (corners_on d ps) kept (amount f) (balance_on (λ n. 0) (λ n. 0) (λ n. let e = b.at n in omega arith))

  -- ---- both

  module _ (f : List ℕ) (limit : ℕ) (amounts : (d : Direction) → Amounts (slots_on d c ls) (amounts_on d c ls f) limit) where
    abbrev on : (d : Direction) → OnePerSlot (slots_on d c ls) (amounts_on d c ls f)
    on d = record { long = (amounts d).long; idle = (amounts d).idle }

    abbrev gain : Direction → ℕ
    gain d = gained d (amounts_on d c ls f) (on d)

    abbrev loss : Direction → ℕ
    loss d = lost d (amounts_on d c ls f) (on d)

    whole_parts : whole_worth c ls f ≡ sub_ℕ (gain horizontal + gain vertical) (loss horizontal + loss vertical)
    whole_parts =
        ap (λ (z : ℤ). z +ℤ worth (slots_on vertical c ls) (amounts_on vertical c ls f)) (worth_parts horizontal _ (on horizontal))
        ∙ ap (λ (z : ℤ). sub_ℕ (gain horizontal) (loss horizontal) +ℤ z) (worth_parts vertical _ (on vertical))
        ∙ add_sub (gain horizontal) (loss horizontal) (gain vertical) (loss vertical)

    -- a sum of at least l, whose parts differ by at most n
    whole_most : (l n : ℕ) → le_z (pos l) (whole_worth c ls f) ≡ true → gain horizontal + gain vertical ≤ loss horizontal + loss vertical + n → l ≤ n
    whole_most l n h = at_least (gain horizontal + gain vertical) (loss horizontal + loss vertical) l n (ap (le_z (pos l)) (sym whole_parts) ∙ h)

  flow_least : (f : List ℕ) (l : ℕ) → Flow c ls f l → (ps : List Spot) → keeps_letters c ls ps ≡ true → l ≤ wirelength c ps
  flow_least f l flow ps k =
      let p = balanced_worth horizontal _ (on f 32000 flow.amounts horizontal) ps k (flow.balanced horizontal) in
      let q = balanced_worth vertical _ (on f 32000 flow.amounts vertical) ps k (flow.balanced vertical) in
      let e = lengths_split c ls ps v in
      whole_most f 32000 flow.amounts l (wirelength c ps) (ap (le_z (pos l)) flow.value ∙ le-leb l l (omega arith)) (omega arith)

  chain_none : (f : List ℕ) → Chain c ls f → (ps : List Spot) → keeps_letters c ls ps ≡ true → ⊥
  chain_none f chain ps k =
      let p = closed_worth horizontal _ (on f 1 chain.amounts horizontal) ps k (chain.closed horizontal) in
      let q = closed_worth vertical _ (on f 1 chain.amounts vertical) ps k (chain.closed vertical) in
      let none = whole_most f 1 chain.amounts 1 0 chain.above (omega arith) in
      omega arith

-- ---- what a reader of an accepted text knows

module _ (t : List ℕ) (c : Chip) (e : read_chip t ≡ accepted c) (ls : List Letter) (f : List ℕ) where
  pub flow_shows : (l : ℕ) → Flow c ls f l → (ps : List Corner) → keeps_letters_z c ls ps ≡ true → l ≤ wirelength_z c ps
  flow_shows l flow ps k =
      let a = flow_least c ls (accepted_valid t c e) f l flow (naturals ps) (natural_letters c ls ps k) in
      let w : wirelength_z c ps ≡ wirelength c (naturals ps) = ap (wirelength_z c) (letters_natural c ls ps k) ∙ length_same c (naturals ps) in
      omega arith

  pub chain_shows : Chain c ls f → (ps : List Corner) → keeps_letters_z c ls ps ≡ true → ⊥
  chain_shows chain ps k = chain_none c ls (accepted_valid t c e) f chain (naturals ps) (natural_letters c ls ps k)
