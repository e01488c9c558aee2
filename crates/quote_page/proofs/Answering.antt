-- What the page makes of a reading, in the form of the needs, and that it accepts only what the reading accepts.
use Prim.Native.Nat.{ℕ}
use native.Mathlib.Omega.{arith}
use mathlib.Core.Path.{◌≡◌, refl}
use mathlib.Core.Bool.{Bool, true, false, cond}
use Rattle.model.specs.declared.Chip.{Chip as HeldChip}
use Rattle.model.specs.declared.Refusal.{Refusal}
use Rattle.model.specs.Meaning.{Chip, chip_of}
use Rattle.text_grammar.specs.Reading.{Reading, accepted, refused}
use Rattle.chip_text.specs.Kind.{counts_of}
use Rattle.std.specs.Prelude.{Result, Ok, Err}
use Rattle.chip_read.specs.Answer.{meant_chip}
use Rattle.quote_page.specs.Page.{within_page, page_read}

module _ (a : Result HeldChip Refusal) where
  -- a refusal comes first
  pub refusal_first : (f : Refusal) → a ≡ Err f → refused f.no f.line ≡ page_read (meant_chip a)
  refusal_first f q = rw q

  -- within the limits the chip stays; beyond them 22
  module _ (c : HeldChip) (q : a ≡ Ok c) (b : Bool) (e : b ≡ within_page (counts_of (chip_of c))) where
    pub within_stays : b ≡ true → accepted (chip_of c) ≡ page_read (meant_chip a)
    within_stays h = rw (q, ← e, h)

    pub beyond_told : b ≡ false → refused 22 0 ≡ page_read (meant_chip a)
    beyond_told h = rw (q, ← e, h)

pub page_accepts : (r : Reading Chip) (c : Chip) → page_read r ≡ accepted c → page_read r ≡ r
page_accepts (refused n l) c e = refl
page_accepts (accepted d) c e = by (within_page (counts_of d)) e
  where
    by : (b : Bool) → cond b (accepted d) (refused 22 0) ≡ accepted c → cond b (accepted d) (refused 22 0) ≡ accepted d
    by true q = refl
    by false q = let z : ◌≡◌ {A = ℕ} 0 1 = cc in absurd (omega arith)
