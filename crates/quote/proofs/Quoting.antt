-- From the reading and the page's answer to what is written, in the form of the needs.
use Prim.Native.Nat.{ℕ}
use mathlib.Core.Path.{◌≡◌, sym, ap, ◌∙◌}
use mathlib.Core.List.{List}
use Rattle.model.specs.declared.Refusal.{Refusal}
use Rattle.model.specs.Meaning.{Chip, chip_of}
use Rattle.text_grammar.specs.Reading.{Reading}
use Rattle.text_grammar.specs.Writing.{Written, refuse}
use Rattle.chip_text.specs.Text.{read_chip}
use Rattle.std.specs.Prelude.{Result, Ok, Err}
use Rattle.model.specs.declared.Chip.{Chip as HeldChip}
use Rattle.chip_read.specs.Answer.{meant_chip}
use Rattle.search.specs.Place.{place_read, place_text}
use Rattle.quote_page.specs.Page.{page_read}
use Rattle.quote_page.proofs.Answering.{page_accepts}
use Rattle.quote.specs.Quote.{quote_text}

module _ (text out : List ℕ) (read : Result HeldChip Refusal) (e : meant_chip read ≡ read_chip text) (a : Result HeldChip Refusal) (p : meant_chip a ≡ page_read (meant_chip read)) where
  -- the page's answer is the one for the text
  told : (x : Result HeldChip Refusal) → a ≡ x → meant_chip x ≡ page_read (read_chip text)
  told x q = ap meant_chip (sym q) ∙ (p ∙ ap page_read e)

  pub quote_refused : (f : Refusal) → a ≡ Err f → refuse f.no f.line out ≡ quote_text text out
  quote_refused f q = ap (λ (r : Reading Chip). place_read r out) (told (Err f) q)

  pub quote_placed : (c : HeldChip) → a ≡ Ok c → (w : Written) → w ≡ place_text text out → w ≡ quote_text text out
  quote_placed c q w o = o ∙ ap (λ (r : Reading Chip). place_read r out) (sym (page_accepts (read_chip text) (chip_of c) (sym (told (Ok c) q))))
