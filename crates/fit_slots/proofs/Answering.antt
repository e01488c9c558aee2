-- From the solver's flow and chain of each direction to those that document 01 asks for.
use Prim.Native.Nat.{ℕ, ◌-◌, ◌≤◌}
use mathlib.Core.Path.{◌≡◌, refl, sym, ap, ◌∙◌, fun_ext}
use mathlib.Core.List.{List}
use native.Mathlib.Omega.{arith}
use lib.IntN.{pos, sub_ℕ}
use lib.ListN.{length}
use Rattle.model.specs.Meaning.{Chip}
use Rattle.chip_text.specs.Valid.{Valid}
use Rattle.num_laws.proofs.Differences.{sub_up}
use Rattle.flow_laws.specs.Flow.{at_node, weigh, Ends}
use Rattle.placement.specs.Letters.{Letter}
use Rattle.axis_bounds.specs.declared.Slot.{Slot as HeldSlot}
use Rattle.axis_bounds.specs.Axis.{Axis}
use Rattle.axis_bounds.specs.Listed.{listed, tails, heads, pluses, minuses, amount, node_count}
use Rattle.axis_bounds.specs.Answer.{supply, demand, OnSlots, FlowOn, ChainOn}
use Rattle.fit_slots.specs.declared.Direction.{Direction}
use Rattle.fit_slots.specs.Slots.{Slot, slots_on}
use Rattle.fit_slots.specs.Amounts.{amounts_where, into, out_of, worth, Amounts, Balanced, Closed}
use Rattle.fit_slots.specs.Axes.{axis_for}
use Rattle.fit_slots.proofs.Matches.{AllSame, same_slots}
use Rattle.fit_slots.proofs.Amounting.{OnePerSlot, same_free, inflow_is, outflow_is, worth_is}
use Rattle.fit_slots.proofs.Flowing.{Agrees, everywhere, no_supply, no_demand, supply_is, demand_is}

module _ (d : Direction) (c : Chip) (ls : List Letter) (v : Valid c) (te : Ends (tails (listed (axis_for d c ls))) (length (listed (axis_for d c ls))) (node_count (axis_for d c ls))) (he : Ends (heads (listed (axis_for d c ls))) (length (listed (axis_for d c ls))) (node_count (axis_for d c ls))) (f g : List ℕ) (agree : Agrees (slots_on d c ls) f g) where
  abbrev a : Axis
  a = axis_for d c ls

  abbrev ss : List Slot
  ss = slots_on d c ls

  abbrev hs : List HeldSlot
  hs = listed a

  same : AllSame ss hs
  same = same_slots d c ls v

  amounts_same : amount f ≡ amount g
  amounts_same = fun_ext (λ s. sym (agree.at s))

  module _ (on : OnSlots a f) where
    placed : OnePerSlot ss g
    placed = record { long = agree.long; idle = λ i e. agree.at i ∙ on.idle i (same_free ss hs same i e) }

    amounts_on_law : (limit : ℕ) → ((s : ℕ) → amount f s ≤ limit) → Amounts ss g limit
    amounts_on_law limit most = record { long = agree.long; most = λ s. let e = agree.at s in let l = most s in omega arith; idle = placed.idle }

    worth_on : worth ss g ≡ sub_ℕ (weigh (pluses hs) (amount f) (length hs)) (weigh (minuses hs) (amount f) (length hs))
    worth_on = worth_is ss hs g same placed ∙ ap (λ (m : ℕ → ℕ). sub_ℕ (weigh (pluses hs) m (length hs)) (weigh (minuses hs) m (length hs))) (sym amounts_same)

    in_on : (k : ℕ) → amounts_where (into k) ss g ≡ at_node (heads hs) (amount f) (length hs) k
    in_on k = inflow_is ss hs same g k placed ∙ ap (λ (m : ℕ → ℕ). at_node (heads hs) m (length hs) k) (sym amounts_same)

    out_on : (k : ℕ) → amounts_where (out_of k) ss g ≡ at_node (tails hs) (amount f) (length hs) k
    out_on k = outflow_is ss hs same g k placed ∙ ap (λ (m : ℕ → ℕ). at_node (tails hs) m (length hs) k) (sym amounts_same)

  module _ (l : ℕ) (flow : FlowOn a f l) where
    pub flow_amounts : Amounts ss g 32000
    flow_amounts = amounts_on_law flow.on 32000 flow.most

    pub flow_balanced : Balanced c ss g
    flow_balanced =
        record {
          at = λ k.
              let b = everywhere a (amount f) te he (supply a) (demand a) (no_supply a) (no_demand a) flow.balance k in
              let i = in_on flow.on k in let o = out_on flow.on k in
              let s = supply_is d c ls k in let e = demand_is d c ls k in
              omega arith;
        }

    pub flow_worth : worth ss g ≡ pos l
    flow_worth =
        let r = flow.reaches in
        worth_on flow.on ∙ sub_up (weigh (pluses hs) (amount f) (length hs)) (weigh (minuses hs) (amount f) (length hs)) (omega arith) ∙ ap (λ (t : ℕ). pos t) (omega arith)

  module _ (chain : ChainOn a f) where
    pub chain_amounts : Amounts ss g 1
    chain_amounts = amounts_on_law chain.on 1 chain.few

    pub chain_closed : Closed ss g
    chain_closed =
        record {
          at = λ k.
              let b = everywhere a (amount f) te he (λ j. 0) (λ j. 0) (λ j h. refl) (λ j h. refl) chain.balance k in
              let i = in_on chain.on k in let o = out_on chain.on k in
              omega arith;
        }

    abbrev pub chain_gain : ℕ
    chain_gain = weigh (pluses hs) (amount f) (length hs) - weigh (minuses hs) (amount f) (length hs)

    pub chain_worth : worth ss g ≡ pos chain_gain
    chain_worth =
        let r = chain.more in
        worth_on chain.on ∙ sub_up (weigh (pluses hs) (amount f) (length hs)) (weigh (minuses hs) (amount f) (length hs)) (omega arith)

    pub chain_some : 1 ≤ chain_gain
    chain_some = let r = chain.more in omega arith
