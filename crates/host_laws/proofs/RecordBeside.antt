-- Document 02, Card 1, in its own words: "The chip is read first, then the record; the count, the legality and the length are tested, in that order. A `none`
-- record passes, and leastness is not examined here. It refuses a record with another count of macros by 13, an illegal placement by 16 and a wl other than
-- the measured one by 17, line 0, after all reading. .. a line is that of the text at fault."
use Prim.Native.Nat.{ℕ, zero, suc}
use native.Mathlib.Omega.{arith}
use mathlib.Core.Path.{◌≡◌, refl, sym, ap, ◌∙◌}
use mathlib.Core.Logic.{◌⊎◌, inl, inr}
use mathlib.Core.Bool.{true, false}
use mathlib.Core.List.{List}
use lib.ListN.{length, take}
use lib.Seq.{take_at}
use borrow.Author.Tests.{eq-eqb, ne_eqb, eqb-true}
use Rattle.model.specs.declared.Spot.{Spot}
use Rattle.model.specs.Meaning.{Chip, Record, none, least}
use Rattle.refusals.specs.Tests.{first_failed, unless_failed}
use Rattle.refusals.proofs.FirstFailed.{first_passes, rest_passes}
use Rattle.text_grammar.specs.Reading.{Reading, accepted, refused as not_read}
use Rattle.text_grammar.specs.Writing.{Written, wrote}
use Rattle.chip_text.specs.Text.{read_chip}
use Rattle.chip_text.proofs.Accepted.{accepted_valid}
use Rattle.record_text.specs.Text.{read_record, record_text}
use Rattle.placement.specs.Integers.{legal_z, wirelength_z, integers}
use Rattle.placement.specs.Least.{chip_record}
use Rattle.placement.proofs.Integers.{legal_same}
use Rattle.placement.proofs.Nearby.{within_long, legal_inside}
use Rattle.beside_check.specs.declared.AtFault.TheVariants as text
use Rattle.beside_check.specs.Beside.{passed, refused, beside_tests, not_of_chip, beside_read, check_beside}
use Rattle.search.specs.Place.{record_for, place_text}
use Rattle.search.proofs.Demand3.{place_means}
use Rattle.search.proofs.RecordsRead.{chip_record_read}
use Rattle.quote.specs.Quote.{quote_text}
use Rattle.place_print.specs.DemandZ.{SaysNoneZ, SaysLeastZ}
use Rattle.text_refusal.specs.Refusal.{printed_for}
use Rattle.place_print.specs.Printed.{printed}
use Rattle.place_print.proofs.DemandZ.{record_says}
use Rattle.host_laws.proofs.QuotingPage.{page_writes}

-- a record with the chip's count of macros, a legal placement and its own wirelength
pub record Placed (c : Chip) (r : Record) : Type 0 where
  pub wl : ℕ
  pub placement : List Spot
  pub is : r ≡ least wl placement
  pub count : length placement ≡ length c.macs
  pub legal : legal_z c (integers placement) ≡ true
  pub own : wl ≡ wirelength_z c (integers placement)

-- both texts are accepted, and the record is `none` or such a record
pub record Belongs (chip beside : List ℕ) : Type 0 where
  pub of : Chip
  pub result : Record
  pub chip_read : read_chip chip ≡ accepted of
  pub record_read : read_record beside ≡ accepted result
  pub says : (result ≡ none) ⊎ Placed of result

-- ---- after all reading

module _ (c : Chip) where
  placed_first : (r : Record) → Placed c r → first_failed (beside_tests c r) ≡ 0
  unfolding first_failed
  placed_first r p = rw (p.is, eq-eqb _ _ p.count, p.legal, eq-eqb _ _ p.own)

  first_placed : (wl : ℕ) (ps : List Spot) → first_failed (beside_tests c (least wl ps)) ≡ 0 → Placed c (least wl ps)
  first_placed wl ps e = record {
    wl = wl;
    placement = ps;
    is = refl;
    count = eqb-true _ _ (first_passes 12 _ _ e);
    legal = first_passes 15 _ _ (rest_passes 12 _ _ e);
    own = eqb-true _ _ (first_passes 16 _ _ (rest_passes 15 _ _ (rest_passes 12 _ _ e)));
  }

  says_first : (r : Record) → (r ≡ none) ⊎ Placed c r → first_failed (beside_tests c r) ≡ 0
  unfolding first_failed
  says_first r (inl e) = rw e
  says_first r (inr p) = placed_first r p

  first_says : (r : Record) → first_failed (beside_tests c r) ≡ 0 → (r ≡ none) ⊎ Placed c r
  first_says none e = inl refl
  first_says (least wl ps) e = inr (first_placed wl ps e)

passed_first : (k : ℕ) → unless_failed not_of_chip k passed ≡ passed → k ≡ 0
passed_first zero e = refl
passed_first (suc k) e = let z : ◌≡◌ {A = ℕ} 0 1 = cc in absurd (omega arith)

-- ---- it passes exactly when the record belongs to the chip

module _ (chip beside : List ℕ) where
  pub belongs_passes : Belongs chip beside → check_beside chip beside ≡ passed
  belongs_passes b = rw (b.chip_read, b.record_read, says_first b.of b.result b.says)

  pub passes_belongs : check_beside chip beside ≡ passed → Belongs chip beside
  passes_belongs = by (read_chip chip) (read_record beside) refl refl
    where
      by : (x : Reading Chip) (y : Reading Record) → read_chip chip ≡ x → read_record beside ≡ y → beside_read x y ≡ passed → Belongs chip beside
      by (not_read n l) y p q e = let z : ◌≡◌ {A = ℕ} 0 1 = cc in absurd (omega arith)
      by (accepted c) (not_read n l) p q e = let z : ◌≡◌ {A = ℕ} 0 1 = cc in absurd (omega arith)
      by (accepted c) (accepted r) p q e = record { of = c; result = r; chip_read = p; record_read = q; says = first_says c r (passed_first (first_failed (beside_tests c r)) e) }

  -- ---- and is refused else: the chip's refusal first, then the record's, each with its own line

  pub chip_first : (n l : ℕ) → read_chip chip ≡ not_read n l → check_beside chip beside ≡ refused n l text.Chip
  chip_first n l e = rw e

  module _ (c : Chip) (read : read_chip chip ≡ accepted c) where
    pub record_next : (n l : ℕ) → read_record beside ≡ not_read n l → check_beside chip beside ≡ refused n l text.Record
    record_next n l e = rw (read, e)

    -- then 13, 16 and 17, line 0
    module _ (wl : ℕ) (ps : List Spot) (e : read_record beside ≡ accepted (least wl ps)) where
      pub other_count : (length ps ≡ length c.macs → ⊥) → check_beside chip beside ≡ refused 13 0 text.Neither
      unfolding first_failed
      other_count n = rw (read, e, ne_eqb (length ps) (length c.macs) n)

      module _ (m : length ps ≡ length c.macs) where
        pub illegal : legal_z c (integers ps) ≡ false → check_beside chip beside ≡ refused 16 0 text.Neither
        unfolding first_failed
        illegal h = rw (read, e, eq-eqb _ _ m, h)

        pub other_length_law : legal_z c (integers ps) ≡ true → (wl ≡ wirelength_z c (integers ps) → ⊥) → check_beside chip beside ≡ refused 17 0 text.Neither
        unfolding first_failed
        other_length_law h n = rw (read, e, eq-eqb _ _ m, h, ne_eqb wl (wirelength_z c (integers ps)) n)

-- ---- what the search writes for a chip always passes beside it

record_placed : (c : Chip) → SaysNoneZ c (chip_record c) ⊎ SaysLeastZ c (chip_record c) → (chip_record c ≡ none) ⊎ Placed c (chip_record c)
record_placed c (inl s) = inl s.is
record_placed c (inr s) =
    let legal = s.first.passed in
    inr (record {
      wl = s.length;
      placement = s.placement;
      is = s.is;
      count = within_long c s.placement (legal_inside c s.placement (sym (legal_same c s.placement) ∙ legal));
      legal = legal;
      own = s.first.long;
    })

record_passes : (text : List ℕ) (c : Chip) → read_chip text ≡ accepted c → check_beside text (record_text (chip_record c)) ≡ passed
record_passes text c e = belongs_passes text (record_text (chip_record c)) (record {
  of = c;
  result = chip_record c;
  chip_read = e;
  record_read = chip_record_read c (accepted_valid text c e);
  says = record_placed c (record_says c);
})

pub placed_passes : (text out : List ℕ) (k : ℕ) → (place_text text out).answer ≡ wrote k → check_beside text (take k (place_text text out).buffer) ≡ passed
placed_passes text out k e =
    let p = place_means text out k e in
    let r = record_text (chip_record p.chip) in
    let t : take k (place_text text out).buffer ≡ r = ap (take k) p.bytes ∙ take_at r _ k (sym p.count) in
    ap (check_beside text) t ∙ record_passes text p.chip p.read

-- what the program `place` prints for a chip too
pub printed_passes : (text : List ℕ) (c : Chip) → read_chip text ≡ accepted c → check_beside text (printed text) ≡ passed
printed_passes text c e = ap (λ (r : Reading Chip). check_beside text (printed_for record_for r)) e ∙ record_passes text c e

-- and the quoting page's records
pub quoted_passes : (text out : List ℕ) (k : ℕ) → (quote_text text out).answer ≡ wrote k → check_beside text (take k (quote_text text out).buffer) ≡ passed
quoted_passes text out k e =
    let s = page_writes text out k e in
    ap (λ (w : Written). check_beside text (take k w.buffer)) s ∙ placed_passes text out k (sym (ap (λ (w : Written). w.answer) s) ∙ e)
