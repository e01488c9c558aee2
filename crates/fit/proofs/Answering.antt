-- From the tests before the fit and the two directions to the answer, in the form of the needs.
use Rattle.std.specs.Prelude.{Result, Ok, Err, Option, Some, None}
use Prim.Native.Nat.{ℕ, ◌+◌, ◌≤◌}
use mathlib.Core.Path.{◌≡◌, refl, sym, ap, subst, ◌∙◌}
use mathlib.Core.Bool.{Bool, true, false, not, true≢false, false≢true}
use mathlib.Core.List.{List, []}
use native.Mathlib.Omega.{arith}
use lib.ListN.{length, take, length-replicate}
use lib.Seq.{length-take-le}
use borrow.Author.Tests.{not-true, not-false}
use Rattle.model.specs.declared.Chip.{Chip as HeldChip}
use Rattle.model.specs.declared.Refusal.{Refusal}
use Rattle.model.specs.Meaning.{chip_of, blank_spot}
use Rattle.model.specs.Limits.{most_macs}
use Rattle.model.specs.Held.{filled}
use Rattle.axis_graph.specs.declared.Verdict.{Verdict}
use Rattle.axis_graph.specs.declared.Verdict.TheVariants as verdict
use Rattle.fit_slots.specs.declared.Direction.{Direction}
use Rattle.fit_slots.specs.declared.Direction.TheVariants.{Horizontal as horizontal, Vertical as vertical}
use Rattle.fit_slots.specs.Fit.{Fit, refused_by, letter_count, dots, string_for, fit_letters, Filled}
use Rattle.fit_slots.proofs.Strings.{none_given, some_given, take_dots}
use Rattle.fit_pairs.specs.Count.{letter_total}
use Rattle.fit_pairs.proofs.Counts.{chip_letters, chip_few}
use Rattle.fit_axes.specs.Axes.{SolvedBy, Directed, Solves}
use Rattle.fit_lists.specs.Lists.{is_solved, slots_put}
use Rattle.fit_tests.specs.Entry.{Asking, fitting, Ready, Entered}
use Rattle.fit.specs.declared.FitAnswer.{FitAnswer}
use Rattle.fit.specs.Answer.{answer_for}
use Rattle.fit.specs.Results.{Second, Answered}
use Rattle.fit.proofs.Asked.{taken, no_fitting}
use Rattle.fit.proofs.Filling.{slots_filled}

-- ---- a direction with or without coordinates

module _ (c : HeldChip) (s : List ℕ) (d : Direction) (at f : List ℕ) where
  solved_by : (v : Verdict) → Directed c s d v at f → true ≡ is_solved v → SolvedBy c s d at f
  solved_by verdict.Solved told e = told
  solved_by verdict.Unsolvable told e = absurd (true≢false e)
  solved_by verdict.Malformed told e = absurd told

  no_fit_law : (m : ℕ) → Asking c s m → (v : Verdict) → Directed c s d v at f → false ≡ is_solved v → record { outcome = Ok None; spots = filled most_macs blank_spot [] } ≡ answer_for (fitting c s)
  no_fit_law m ask verdict.Solved told e = absurd (false≢true e)
  no_fit_law m ask verdict.Unsolvable told e = ap answer_for (sym (no_fitting c s m ask d f told))
  no_fit_law m ask verdict.Malformed told e = absurd told

  module _ (v : Verdict) (told : Directed c s d v at f) (b : Bool) (e : b ≡ is_solved v) where
    pub has_coordinates : not b ≡ false → SolvedBy c s d at f
    has_coordinates h = solved_by v told (sym (not-false b h) ∙ e)

    pub no_coordinates : (m : ℕ) → Asking c s m → not b ≡ true → (r : FitAnswer) → r ≡ record { outcome = Ok None; spots = filled most_macs blank_spot [] } → r ≡ answer_for (fitting c s)
    no_coordinates m ask h r q = q ∙ no_fit_law m ask v told (sym (not-true b h) ∙ e)

-- ---- the vertical direction beside the horizontal one

module _ (c : HeldChip) (s : List ℕ) (v : Verdict) (b : Bool) (e : b ≡ is_solved v) where
  pub second_idle : not b ≡ true → (w : Verdict) (at f : List ℕ) → Second c s v w at f
  second_idle h w at f = record { told = λ t q. absurd (false≢true (sym (not-true b h) ∙ (e ∙ q))) }

  pub second_solved : (w : Verdict) (at f : List ℕ) → Solves c s vertical w at f → Second c s v w at f
  second_solved w at f o = record { told = λ t q. o.told t }

  module _ (h : not b ≡ false) (w : Verdict) (at f : List ℕ) (o : Second c s v w at f) (m : ℕ) (ask : Asking c s m) (k : Bool) (g : k ≡ is_solved w) where
    told : Directed c s vertical w at f
    told = o.told (taken c s m ask) (sym e ∙ not-false b h)

    pub second_coordinates : not k ≡ false → SolvedBy c s vertical at f
    second_coordinates i = has_coordinates c s vertical at f w told k g i

    pub no_second : not k ≡ true → (r : FitAnswer) → r ≡ record { outcome = Ok None; spots = filled most_macs blank_spot [] } → r ≡ answer_for (fitting c s)
    no_second i r q = no_coordinates c s vertical at f w told k g m ask i r q

-- ---- a chip and one letter for each pair

pub direction_told : (c : HeldChip) (s : List ℕ) (m : ℕ) → Asking c s m → (d : Direction) (v : Verdict) (at f : List ℕ) → Solves c s d v at f → Directed c s d v at f
direction_told c s m ask d v at f o = o.told (taken c s m ask)

module _ (c : HeldChip) (s : List ℕ) (m : ℕ) (before : List ℕ) (ask : Asking c s m) (enough : m + m ≤ length before) where
  pub each_answered : (v w : Verdict) (ax ay fx fy : List ℕ) → Solves c s horizontal v ax fx → Second c s v w ay fy → (after : List ℕ) → after ≡ slots_put m v fx w fy before → (r : FitAnswer) → r ≡ answer_for (fitting c s) → Answered c s (fitting c s) r before after
  each_answered v w ax ay fx fy a b after e r q =
      record {
        answer = q;
        list = slots_filled c s m ask before enough ax ay fx fy v w (direction_told c s m ask horizontal v ax fx a) b after e;
      }

-- ---- a string that passes every test: the letters that it stands for

module _ (c : HeldChip) (s : List ℕ) (room m : ℕ) (ready : Ready c s room m) where
  abbrev t : List ℕ
  t = string_for (chip_of c) s

  abbrev Answers : List ℕ → FitAnswer → List ℕ → List ℕ → Type 0
  Answers u r before after = Answered c u (fitting c u) r before after

  -- letters are asked and answered for those that the string stands for
  module _ (u : List ℕ) (e : u ≡ t) where
    asked_by : Asking c u m
    asked_by = subst (λ (v : List ℕ). Asking c v m) (sym e) ready.asking

    answered_by : (r : FitAnswer) (before after : List ℕ) → Answers u r before after → Answers t r before after
    answered_by r before after a = subst (λ (v : List ℕ). Answers v r before after) e a

  -- it has letters
  module _ (n : length s ≡ 0 → ⊥) where
    own : s ≡ t
    own = sym (some_given (letter_count (chip_of c)) s n)

    pub own_asked : Asking c s m
    own_asked = asked_by s own

    pub own_answered : (r : FitAnswer) (before after : List ℕ) → Answers s r before after → Answers t r before after
    own_answered = answered_by s own

  -- it is empty
  module _ (z : length s ≡ 0) (p : ℕ) (ep : p ≡ letter_total c.n c.k) where
    few_dots : p ≤ 120
    few_dots = let f = chip_few c ready.asking.passed p ep in omega arith

    module _ (array : List ℕ) (ea : array ≡ dots 120) where
      as_dots : take p array ≡ t
      as_dots = ap (take p) ea ∙ (take_dots 120 p few_dots ∙ (ap dots (chip_letters c ready.asking.passed p ep) ∙ sym (none_given (letter_count (chip_of c)) s z)))

      pub dots_within : p ≤ length array
      dots_within = rw (ea, length-replicate {A = ℕ} 120 46) few_dots

      pub dots_counted : p ≡ length (take p array)
      dots_counted = sym (length-take-le p array dots_within)

      pub dots_asked : Asking c (take p array) m
      dots_asked = asked_by (take p array) as_dots

      pub dots_answered : (r : FitAnswer) (before after : List ℕ) → Answers (take p array) r before after → Answers t r before after
      dots_answered = answered_by (take p array) as_dots

-- ---- the tests before the fit

module _ (c : HeldChip) (s : List ℕ) (room : ℕ) (e : Result ℕ Refusal) (told : Entered c s room e) where
  abbrev F : Fit
  F = fit_letters (chip_of c) s room

  abbrev its : List ℕ
  its = string_for (chip_of c) s

  pub entry_ready : (m : ℕ) → e ≡ Ok m → Ready c s room m
  entry_ready m q = subst (Entered c s room) q told

  module _ (m : ℕ) (q : e ≡ Ok m) (r : FitAnswer) (before after : List ℕ) (a : Answered c its (fitting c its) r before after) where
    pub ready_answer : r ≡ answer_for F
    ready_answer = a.answer ∙ ap answer_for (sym (entry_ready m q).fits)

    pub ready_list : Filled (chip_of c) its F before after
    ready_list = subst (λ (f : Fit). Filled (chip_of c) its f before after) (sym (entry_ready m q).fits) a.list

  module _ (f : Refusal) (q : e ≡ Err f) where
    is_refused : F ≡ refused_by f.no f.line
    is_refused = subst (Entered c s room) q told

    pub refused_answer : (r : FitAnswer) → r ≡ record { outcome = Err f; spots = filled most_macs blank_spot [] } → r ≡ answer_for F
    refused_answer r o = o ∙ ap answer_for (sym is_refused)

    pub refused_list : (list : List ℕ) → Filled (chip_of c) its F list list
    refused_list list = subst (λ (t : Fit). Filled (chip_of c) its t list list) (sym is_refused) refl
