-- Document 02, Card 11, in its own words: "Sales run the search behind a web page and must keep it to 4 macros, 2 fixes and 16 pins. The design desk keeps
-- its own limits. Within the page's limits both give the same bytes. It refuses an accepted chip beyond them by 22, line 0, after the reading."
use Prim.Native.Nat.{ℕ, ◌≤◌, ◌<◌}
use native.Mathlib.Decide.{dec_le}
use native.Mathlib.Omega.{arith}
use mathlib.Core.Path.{◌≡◌, refl, sym, ap, subst, ◌∙◌}
use mathlib.Core.Logic.{◌⊎◌, inl, inr}
use mathlib.Core.Bool.{true, false, and-false}
use mathlib.Core.List.{List}
use lib.ListN.{length}
use borrow.Author.Tests.{le-leb, lt-leb}
use Rattle.model.specs.Meaning.{Chip}
use Rattle.text_grammar.specs.Reading.{Reading, accepted, refused}
use Rattle.text_grammar.specs.Writing.{Written, wrote, not_written, refuse}
use Rattle.chip_text.specs.Kind.{pin_count, counts_of}
use Rattle.chip_text.specs.Text.{read_chip}
use Rattle.search.specs.Place.{place_read, place_text}
use Rattle.quote_page.specs.Page.{within_page, page_read}
use Rattle.quote.specs.Quote.{quote_text}
use Rattle.quote_page.proofs.Answering.{page_accepts}
use Rattle.place_print.specs.DemandZ.{PlacedZ}
use Rattle.chip_text.proofs.Numbers.{chip_number}
use Rattle.place_print.proofs.Refusals.{place_number}
use Rattle.place_print.proofs.DemandZ.{place_means_integers}

-- a chip is within the page's limits, or beyond one of them
pub record Within (c : Chip) : Type 0 where
  pub macs : length c.macs ≤ 4
  pub fixes : length c.fixes ≤ 2
  pub pins : pin_count c.nets ≤ 16

abbrev pub Beyond : Chip → Type 0
Beyond c = (4 < length c.macs) ⊎ ((2 < length c.fixes) ⊎ (16 < pin_count c.nets))

-- the text of an accepted chip beyond them
pub record OfBeyond (text : List ℕ) : Type 0 where
  pub chip : Chip
  pub read : read_chip text ≡ accepted chip
  pub beyond : Beyond chip

module _ (c : Chip) where
  within_yes : Within c → within_page (counts_of c) ≡ true
  within_yes w = rw (le-leb (length c.macs) 4 w.macs, le-leb (length c.fixes) 2 w.fixes, le-leb (pin_count c.nets) 16 w.pins)

  beyond_no : Beyond c → within_page (counts_of c) ≡ false
  beyond_no (inl h) = rw (lt-leb (length c.macs) 4 h)
  beyond_no (inr (inl h)) = rw (lt-leb (length c.fixes) 2 h, and-false)
  beyond_no (inr (inr h)) = rw (lt-leb (pin_count c.nets) 16 h, and-false, and-false)

  -- one or the other
  sorted : Within c ⊎ Beyond c
  sorted = by (dec_le (length c.macs) 4) (dec_le (length c.fixes) 2) (dec_le (pin_count c.nets) 16)
    where
      by : Dec (length c.macs ≤ 4) → Dec (length c.fixes ≤ 2) → Dec (pin_count c.nets ≤ 16) → Within c ⊎ Beyond c
      by (no h) f p = inr (inl (omega arith))
      by (yes m) (no h) p = inr (inr (inl (omega arith)))
      by (yes m) (yes f) (no h) = inr (inr (inr (omega arith)))
      by (yes m) (yes f) (yes p) = inl (record { macs = m; fixes = f; pins = p })

module _ (text out : List ℕ) where
  module _ (c : Chip) (e : read_chip text ≡ accepted c) where
    -- within the page's limits both give the same bytes: the answer and the buffer
    pub page_same : Within c → quote_text text out ≡ place_text text out
    page_same w = rw (e, within_yes c w)

    -- beyond them 22, line 0, and the buffer as it was, whatever its length
    pub page_beyond : Beyond c → quote_text text out ≡ refuse 22 0 out
    page_beyond b = rw (e, beyond_no c b)

  -- after the reading: a text that is refused gets its own refusal
  pub page_unread : (n l : ℕ) → read_chip text ≡ refused n l → quote_text text out ≡ refuse n l out
  page_unread n l e = rw e

  -- and nothing else gets 22
  pub page_told : (l : ℕ) → (quote_text text out).answer ≡ not_written 22 l → OfBeyond text
  page_told l e = by (read_chip text) refl
    where
      by : (r : Reading Chip) → read_chip text ≡ r → OfBeyond text
      by (refused n m) t =
          let q : n ≡ 22 = (let z = sym (ap (λ (w : Written). w.answer) (page_unread n m t)) ∙ e in cc) in
          let k = chip_number text n m t in
          absurd (omega (arith, k.within))
      by (accepted c) t = on (sorted c)
        where
          on : Within c ⊎ Beyond c → OfBeyond text
          on (inr b) = record { chip = c; read = t; beyond = b }
          on (inl w) = let k = place_number out 22 l text (sym (ap (λ (w : Written). w.answer) (page_same c t w)) ∙ e) in absurd (omega (arith, k.within))

  -- whatever the page writes, the desk writes; so demand 3 holds of it
  pub page_writes : (k : ℕ) → (quote_text text out).answer ≡ wrote k → quote_text text out ≡ place_text text out
  page_writes k e = by (page_read (read_chip text)) refl e
    where
      by : (r : Reading Chip) → page_read (read_chip text) ≡ r → (place_read r out).answer ≡ wrote k → quote_text text out ≡ place_text text out
      by (accepted c) t q = ap (λ (r : Reading Chip). place_read r out) (page_accepts (read_chip text) c t)
      by (refused n l) t q = let z : ◌≡◌ {A = ℕ} 0 1 = cc in absurd (omega arith)

  pub page_means_integers : (k : ℕ) → (quote_text text out).answer ≡ wrote k → PlacedZ text out k (quote_text text out).buffer
  page_means_integers k e =
      let s = page_writes k e in
      subst (λ (w : Written). PlacedZ text out k w.buffer) (sym s) (place_means_integers text out k (sym (ap (λ (w : Written). w.answer) s) ∙ e))
