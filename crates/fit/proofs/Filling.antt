-- The lent list by the verdicts of the directions: a flow of the fit's length, or a closed chain.
use Prim.Native.Nat.{ℕ, zero, suc, ◌+◌, ◌%◌, ◌≤◌}
use mathlib.Core.Path.{◌≡◌, refl, sym, subst, ◌∙◌}
use mathlib.Core.Bool.{true}
use mathlib.Core.List.{List, [], ◌∷◌, map}
use native.Mathlib.Omega.{arith}
use lib.ListN.{length, get_or, take, drop, replicate, length-replicate}
use borrow.Author.Tests.{le-leb}
use Rattle.model.specs.declared.Chip.{Chip as HeldChip}
use Rattle.model.specs.declared.Spot.{Spot}
use Rattle.model.specs.Meaning.{Chip, chip_of}
use Rattle.placement.specs.Length.{wirelength}
use Rattle.placement.specs.Letters.{Letter}
use Rattle.axis_bounds.specs.Axis.{length_on}
use Rattle.axis_bounds.specs.Answer.{FlowOn}
use Rattle.axis_graph.specs.declared.Verdict.{Verdict}
use Rattle.axis_graph.specs.declared.Verdict.TheVariants as verdict
use Rattle.fit_slots.specs.declared.Direction.{Direction}
use Rattle.fit_slots.specs.declared.Direction.TheVariants.{Horizontal as horizontal, Vertical as vertical}
use Rattle.fit_slots.specs.Slots.{slots_on}
use Rattle.fit_slots.specs.Amounts.{Flow, amounts_on}
use Rattle.fit_slots.specs.Axes.{axis_for, corners_on}
use Rattle.fit_slots.specs.Fit.{Fit, letters_of, slot_count, Kept, Filled}
use Rattle.num_laws.proofs.Stores.{zero_at}
use Rattle.fit_slots.proofs.Flowing.{Agrees}
use Rattle.fit_slots.proofs.Lengths.{lengths_split}
use Rattle.fit_slots.proofs.Whole.{Lists, AllZero, other, whole_flow, whole_chain}
use Rattle.fit_axes.specs.Axes.{SolvedBy, UnsolvedBy, Directed}
use Rattle.fit_lists.specs.Lists.{low16, is_solved, shows_across, shown, both_lists, put_if, slots_put}
use Rattle.fit_tests.specs.Entry.{Asking, fitting}
use Rattle.fit.specs.Results.{Second}
use Rattle.fit.proofs.Asked.{taken, ended, each_m, past_m, no_fitting}
use Rattle.fit.proofs.Listing.{put_both, both_kept, across_agrees, up_agrees}
use Rattle.fit.proofs.Placing.{ps, on, corners_on_law, the_fitting}

-- ---- amounts that fit a slot are put as they are

record Small (f : List ℕ) : Type 0 where
  long : length f ≡ 456
  most : (t : ℕ) → get_or f t 0 ≤ 65535

low_all : (f : List ℕ) → ((t : ℕ) → get_or f t 0 ≤ 65535) → map low16 f ≡ f
low_all [] h = refl
low_all (x ∷ f) h = let l = h 0 in let e : x % 65536 ≡ x = omega arith in rw (e, low_all f (λ t. h (suc t)))

zeros : List ℕ
zeros = replicate 456 0

zeros_small : Small zeros
unfolding zeros
zeros_small = record { long = length-replicate {A = ℕ} 456 0; most = λ t. let e = zero_at 456 t in omega arith }

module _ (c : HeldChip) (s : List ℕ) (m : ℕ) (ask : Asking c s m) (entry : List ℕ) (room : m + m ≤ length entry) where
  abbrev C : Chip
  C = chip_of c

  abbrev ls : List Letter
  ls = letters_of s

  module _ (fx fy : List ℕ) (lx : Small fx) (ly : Small fy) where
    as_put : both_lists m fx fy entry ≡ put_both m fx fy entry
    as_put = rw (low_all fx lx.most, low_all fy ly.most)

    abbrev exit : List ℕ
    exit = put_both m fx fy entry

    abbrev F : List ℕ
    F = take (slot_count C) exit

    hx : m ≤ length fx
    hx = let a = ask.slots.few in let l = lx.long in omega arith

    hy : m ≤ length fy
    hy = let a = ask.slots.few in let l = ly.long in omega arith

    kept : Kept (slot_count C) entry exit
    kept = subst (λ (k : ℕ). Kept k entry exit) ask.slots.both (both_kept m fx fy entry hx hy room)

    agrees_x : ((t : ℕ) → m ≤ t → get_or fx t 0 ≡ 0) → Lists C ls F horizontal fx
    agrees_x z =
        subst (λ (k : ℕ). Agrees (slots_on horizontal C ls) fx (take k F)) (sym (each_m c s m ask horizontal))
        (subst (λ (k : ℕ). Agrees (slots_on horizontal C ls) fx (take m (take k exit))) ask.slots.both
        (across_agrees m fx fy entry hx hy room (slots_on horizontal C ls) (each_m c s m ask horizontal) z))

    agrees_y : ((t : ℕ) → m ≤ t → get_or fy t 0 ≡ 0) → Lists C ls F vertical fy
    agrees_y z =
        subst (λ (k : ℕ). Agrees (slots_on vertical C ls) fy (take k (drop k F))) (sym (each_m c s m ask horizontal))
        (subst (λ (k : ℕ). Agrees (slots_on vertical C ls) fy (take m (drop m (take k exit)))) ask.slots.both
        (up_agrees m fx fy entry hx hy room (slots_on vertical C ls) (each_m c s m ask vertical) z))

    -- ---- both directions solved

    module _ (ax ay : List ℕ) (sx : SolvedBy c s horizontal ax fx) (sy : SolvedBy c s vertical ay fy) where
      flows : Direction → List ℕ
      flows horizontal = fx
      flows vertical = fy

      abbrev corners : List Spot
      corners = ps c s m ask ax ay fx fy sx sy

      solved_flow : (d : Direction) → FlowOn (axis_for d C ls) (flows d) (length_on (axis_for d C ls) (on c s m ask ax ay fx fy sx sy d))
      unfolding flows
      solved_flow horizontal = sx.solved.flow
      solved_flow vertical = sy.solved.flow

      flow_on : (d : Direction) → FlowOn (axis_for d C ls) (flows d) (length_on (axis_for d C ls) (corners_on d corners))
      flow_on d = subst (λ (z : List ℕ). FlowOn (axis_for d C ls) (flows d) (length_on (axis_for d C ls) z)) (sym (corners_on_law c s m ask ax ay fx fy sx sy d)) (solved_flow d)

      lists_on : (d : Direction) → Lists C ls F d (flows d)
      unfolding flows
      lists_on horizontal = agrees_x (past_m c s m ask horizontal fx sx.solved.flow.on.past)
      lists_on vertical = agrees_y (past_m c s m ask vertical fy sy.solved.flow.on.past)

      the_flow : Flow C ls F (wirelength C corners)
      the_flow =
          subst (λ (l : ℕ). Flow C ls F l) (sym (lengths_split C ls corners ask.passed.valid))
          (whole_flow C ls ask.passed.valid (ended c s m ask) F flows lists_on (λ d. length_on (axis_for d C ls) (corners_on d corners)) flow_on)

      flow_list : Filled C s (fitting c s) entry exit
      flow_list = subst (λ (f : Fit). Filled C s f entry exit) (sym (the_fitting c s m ask ax ay fx fy sx sy)) (record { flow = the_flow; kept = kept })

    -- ---- one direction without a solution: its chain, and 0 in the slots of the other

    chain_list : (d : Direction) (f : List ℕ) → UnsolvedBy c s d f → Lists C ls F d f → AllZero (slots_on (other d) C ls) (amounts_on (other d) C ls F) → Filled C s (fitting c s) entry exit
    chain_list d f u on rest =
        subst (λ (g : Fit). Filled C s g entry exit) (sym (no_fitting c s m ask d f u))
        (record { chain = whole_chain C ls ask.passed.valid d (ended c s m ask d) F f on u.unsolved.chain rest; kept = kept })

    zero_list : (d : Direction) (f : List ℕ) → ((t : ℕ) → get_or f t 0 ≡ 0) → Lists C ls F d f → AllZero (slots_on d C ls) (amounts_on d C ls F)
    zero_list d f z on = record { long = on.long; zero = λ t. on.at t ∙ z t }

    across_chain : UnsolvedBy c s horizontal fx → ((t : ℕ) → get_or fy t 0 ≡ 0) → Filled C s (fitting c s) entry exit
    across_chain u z = chain_list horizontal fx u (agrees_x (past_m c s m ask horizontal fx u.unsolved.chain.on.past)) (zero_list vertical fy z (agrees_y (λ t l. z t)))

    up_chain : UnsolvedBy c s vertical fy → ((t : ℕ) → get_or fx t 0 ≡ 0) → Filled C s (fitting c s) entry exit
    up_chain u z = chain_list vertical fy u (agrees_y (past_m c s m ask vertical fy u.unsolved.chain.on.past)) (zero_list horizontal fx z (agrees_x (λ t l. z t)))

  -- ---- by the verdicts

  module _ (ax ay fx fy : List ℕ) where
    solved_small : (d : Direction) (at f : List ℕ) → SolvedBy c s d at f → Small f
    solved_small d at f u = record { long = u.room; most = λ t. let e = u.solved.flow.most t in omega arith }

    chain_small : (d : Direction) (f : List ℕ) → UnsolvedBy c s d f → Small f
    chain_small d f u = record { long = u.room; most = λ t. let e = u.unsolved.chain.few t in omega arith }

    abbrev Put : List ℕ → List ℕ → Type 0
    Put f g = Filled C s (fitting c s) entry (both_lists m f g entry)

    put : (f g : List ℕ) (sf : Small f) (sg : Small g) → Filled C s (fitting c s) entry (put_both m f g entry) → Put f g
    put f g sf sg h = subst (λ (t : List ℕ). Filled C s (fitting c s) entry t) (sym (as_put f g sf sg)) h

    by : (v w : Verdict) → Directed c s horizontal v ax fx → (is_solved v ≡ true → Directed c s vertical w ay fy) → Filled C s (fitting c s) entry (put_if true (both_lists m (shown (shows_across v w) fx) (shown (is_solved v) fy) entry) entry)
    unfolding zeros
    by verdict.Malformed w a b = absurd a
    by verdict.Unsolvable w a b = let f = chain_small horizontal fx a in put fx zeros f zeros_small (across_chain fx zeros f zeros_small a (zero_at 456))
    by verdict.Solved verdict.Malformed a b = absurd (b refl)
    by verdict.Solved verdict.Unsolvable a b = let u = b refl in let g = chain_small vertical fy u in put zeros fy zeros_small g (up_chain zeros fy zeros_small g u (zero_at 456))
    by verdict.Solved verdict.Solved a b =
        let f = solved_small horizontal ax fx a in
        let u = b refl in
        let g = solved_small vertical ay fy u in
        put fx fy f g (flow_list fx fy f g ax ay a u)

    pub slots_filled : (v w : Verdict) → Directed c s horizontal v ax fx → Second c s v w ay fy → (exit : List ℕ) → exit ≡ slots_put m v fx w fy entry → Filled C s (fitting c s) entry exit
    slots_filled v w a b exit e = rw (e, le-leb m 456 ask.slots.few, le-leb (m + m) (length entry) room) (by v w a (b.told (taken c s m ask)))
