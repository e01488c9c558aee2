-- From the test or the reading of a chip to its record, and to what is written: in the form of the needs of the services.
use Rattle.std.specs.Prelude.{Ok, Err, Result}
use Prim.{tt}
use Prim.Native.Nat.{ℕ, ◌≤◌}
use mathlib.Core.Path.{◌≡◌, refl, sym, ap, subst, ◌∙◌}
use mathlib.Core.Bool.{true}
use mathlib.Core.List.{List}
use native.Mathlib.Omega.{arith}
use lib.ListN.{length, replicate}
use Rattle.model.specs.declared.Spot.{Spot}
use Rattle.model.specs.declared.Chip.{Chip as HeldChip}
use Rattle.model.specs.declared.Record.{Record as HeldRecord}
use Rattle.model.specs.declared.Refusal.{Refusal}
use Rattle.model.specs.Meaning.{Chip, Record, none, least, chip_of, record_of}
use Rattle.text_grammar.specs.Reading.{Reading, accepted, refused}
use Rattle.text_grammar.specs.Writing.{Written, tested_as, refuse, write_text}
use Rattle.chip_text.specs.Text.{read_chip, chip_text}
use Rattle.chip_text.specs.Passed.{Passed}
use Rattle.chip_text.specs.Valid.{Valid}
use Rattle.chip_text.proofs.Accepted.{accepted_valid}
use Rattle.chip_read.specs.Answer.{meant_chip}
use Rattle.record_text.specs.Text.{record_text, write_record}
use Rattle.placement.specs.Letters.{Letter, dot}
use Rattle.placement.specs.Pairs.{pairs}
use Rattle.placement.specs.Least.{earliest_least, best_record, chip_record}
use Rattle.fit_slots.specs.declared.Direction.{Direction}
use Rattle.fit_slots.specs.declared.Direction.TheVariants.{Horizontal as horizontal, Vertical as vertical}
use Rattle.fit_slots.specs.Fit.{are_letters, letter_count, dots}
use Rattle.fit_slots.proofs.Counting.{pairs_count}
use Rattle.fit_slots.proofs.Strings.{dots_are, take_dots}
use Rattle.fit_pairs.specs.Count.{letter_total}
use Rattle.fit_pairs.proofs.Counts.{chip_letters, chip_few}
use Rattle.placement.proofs.Demand.{earliest_least_found}
use Rattle.search_branches.specs.Branch.{in_branch}
use Rattle.search_branches.proofs.Branching.{dots_branch}
use Rattle.search_halves.specs.Result.{Real}
use Rattle.search_halves.proofs.Covers.{real_answer}
use Rattle.search_halves.proofs.EqualMacros.{equal_macros}
use Rattle.search_best.specs.Best.{result_of, best_of, Counted}
use Rattle.search_tables.specs.Made.{Hold, ArraysFor}
use Rattle.search_node.specs.Letters.{letters_in, Lettered}
use Rattle.search_node.specs.Node.{no_record, Arrayed}
use Rattle.search_close.specs.Step.{Searched}
use Rattle.search.specs.Search.{RootOk}
use Rattle.search_node.specs.declared.Node.{Node}
use Rattle.search.specs.Place.{placed_read, meant_found, search_chip, place_text, place_read}
use Rattle.search.specs.declared.service.Found.{Found}
use Rattle.search_node.proofs.Lettering.{dots_in}
use Rattle.search_node.proofs.Records.{no_best, none_counted}
use Rattle.search.proofs.RecordsRead.{chip_record_read}

-- ---- the record of a chip whose test is passed

module _ (c : HeldChip) (p : ℕ) (ok : Passed c) (e : p ≡ letter_total c.n c.k) where
  count : p ≡ letter_count (chip_of c)
  count = chip_letters c ok p e

  few : p ≤ 120
  few = let f = chip_few c ok p e in omega arith

  pub dots_lettered : Lettered c (dots 120) p
  dots_lettered = record { count = count; few = few; bytes = ap are_letters (take_dots 120 p few) ∙ dots_are p }

  pub many : (ps : List Spot) → length ps ≡ length (chip_of c).macs → length (pairs (chip_of c) ps) ≡ p
  many ps l = pairs_count (chip_of c) ps l ∙ sym count

  best_is : (r : Record) → best_record (result_of r) ≡ r
  best_is none = refl
  best_is (least wl ps) = refl

  -- the answer at the root is the chip's earliest least placement
  pub whole_record : (node : Node) (o r : HeldRecord) → RootOk c p node → o ≡ no_record → Searched c node.letters p node.kx node.ky o r → record_of r ≡ chip_record (chip_of c)
  unfolding chip_record best_of
  whole_record node o r root q w = sym (best_is (record_of r)) ∙ ap best_record all
    where
      C : Chip
      C = chip_of c

      start : Real C (best_of o)
      start = subst (Real C) (sym (ap best_of q ∙ no_best)) tt

      are_dots : letters_in node.letters p ≡ replicate p dot
      are_dots = ap (λ (t : List ℕ). letters_in t p) root.letters ∙ dots_in 120 p few

      all : best_of r ≡ earliest_least C
      all = real_answer C (best_of r) (w.real start) (λ l ps e.
          let f = earliest_least_found C l ps e in
          w.covers ps (subst (λ (t : List Letter). in_branch C t ps ≡ true) (sym are_dots) (dots_branch C p many ps f.passed))
          (root.keeps ps f.passed (record { le = λ i j h a. equal_macros C ok.valid l ps f i j h a })))

-- the arrays of a chip whose test is passed
pub arrays_hold : (c : HeldChip) (d : Direction) (tab arcs : List ℕ) → Passed c → ArraysFor c d tab arcs → Hold c d tab arcs
arrays_hold c d tab arcs ok a = a.passed ok

pub arrays_stand : (c : HeldChip) (tx ty ax ay : List ℕ) → Passed c → ArraysFor c horizontal tx ax → ArraysFor c vertical ty ay → Arrayed c tx ty
arrays_stand c tx ty ax ay ok x y = record { x = (x.passed ok).tabled; y = (y.passed ok).tabled }

pub start_counted : (c : HeldChip) (o : HeldRecord) → Passed c → o ≡ no_record → Counted c.n o
start_counted c o ok q = rw q (none_counted c.n ok.fine.mac_count)

-- ---- what the search finds for a text

module _ (text : List ℕ) (a : Result HeldChip Refusal) (e : meant_chip a ≡ read_chip text) where
  pub found_refused : (f : Refusal) → a ≡ Err f → refused f.no f.line ≡ placed_read (read_chip text)
  found_refused f q = ap placed_read (ap meant_chip (sym q) ∙ e)

  pub found_placed : (c : HeldChip) → a ≡ Ok c → (r : HeldRecord) → record_of r ≡ chip_record (chip_of c) → accepted (chip_of c, record_of r) ≡ placed_read (read_chip text)
  found_placed c q r o = rw o (ap placed_read (ap meant_chip (sym q) ∙ e))

-- back to the reading of the text
read_refused : (x : Reading Chip) (n l : ℕ) → refused n l ≡ placed_read x → x ≡ refused n l
read_refused (accepted c) n l e = let z : ◌≡◌ {A = ℕ} 0 1 = cc in absurd (omega arith)
read_refused (refused k m) n l e = cc

read_found : (x : Reading Chip) (c : Chip) (r : Record) → accepted (c, r) ≡ placed_read x → (x ≡ accepted c) × (r ≡ chip_record c)
read_found (accepted d) c r e =
    let p : ◌≡◌ {A = Chip × Record} (c, r) (d, chip_record d) = cc in
    let q : c ≡ d = ap (λ (t : Chip × Record). t.0) p in
    (ap accepted (sym q), ap (λ (t : Chip × Record). t.1) p ∙ ap chip_record (sym q))
read_found (refused k m) c r e = let z : ◌≡◌ {A = ℕ} 0 1 = cc in absurd (omega arith)

module _ (text : List ℕ) (a : Result Found Refusal) (e : meant_found a ≡ placed_read (read_chip text)) where
  pub text_refused : (f : Refusal) → a ≡ Err f → read_chip text ≡ refused f.no f.line
  text_refused f q = read_refused (read_chip text) f.no f.line (ap meant_found (sym q) ∙ e)

  module _ (p : Found) (q : a ≡ Ok p) where
    its : (read_chip text ≡ accepted (chip_of p.chip)) × (record_of p.best ≡ chip_record (chip_of p.chip))
    its = read_found (read_chip text) (chip_of p.chip) (record_of p.best) (ap meant_found (sym q) ∙ e)

    pub text_accepted : read_chip text ≡ accepted (chip_of p.chip)
    text_accepted = its.0

    pub record_found : record_of p.best ≡ chip_record (chip_of p.chip)
    record_found = its.1

-- ---- what is written

module _ (c : Chip) (v : Valid c) (r : HeldRecord) (q : record_of r ≡ chip_record c) (out : List ℕ) (w : Written) (e : w ≡ write_record (record_of r) out) where
  -- the record is not refused when it is tested
  written : w ≡ write_text (accepted c) (record_text (chip_record c)) out
  written = e ∙ rw (q, chip_record_read c v)

pub record_searched : (c : HeldChip) → Passed c → (r : HeldRecord) → record_of r ≡ chip_record (chip_of c) → (out : List ℕ) (w : Written) → w ≡ write_record (record_of r) out → w ≡ search_chip (chip_of c) out
record_searched c ok r q out w e = written (chip_of c) ok.valid r q out w e ∙ ap (λ (t : Reading Chip). write_text t (record_text (chip_record (chip_of c))) out) ok.read

pub search_refused : (c : HeldChip) (out : List ℕ) (f : Refusal) (t : Result (Unit {0}) Refusal) → tested_as (chip_of c) t ≡ read_chip (chip_text (chip_of c)) → t ≡ Err f → refuse f.no f.line out ≡ search_chip (chip_of c) out
search_refused c out f t e q = ap (λ (s : Reading Chip). write_text s (record_text (chip_record (chip_of c))) out) (ap (tested_as (chip_of c)) (sym q) ∙ e)

module _ (text out : List ℕ) (a : Result Found Refusal) (e : meant_found a ≡ placed_read (read_chip text)) where
  pub place_refused : (f : Refusal) → a ≡ Err f → refuse f.no f.line out ≡ place_text text out
  place_refused f q = ap (λ (t : Reading Chip). place_read t out) (sym (text_refused text a e f q))

  pub record_placed : (p : Found) → a ≡ Ok p → (w : Written) → w ≡ write_record (record_of p.best) out → w ≡ place_text text out
  record_placed p q w o =
      let t = text_accepted text a e p q in
      written (chip_of p.chip) (accepted_valid text (chip_of p.chip) t) p.best (record_found text a e p q) out w o ∙ ap (λ (x : Reading Chip). place_read x out) (sym t)
