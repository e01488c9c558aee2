-- A text that is known to fit into the bytes that are lent: it stands there, and nothing else is written out.
use Rattle.std.specs.Prelude.{Ok, Err, Result}
use Rattle.std.proofs.Common.{◌≡◌, ℕ, ◌≤◌, List, ◌++◌, Bool, leb, length, take, drop, sym, refl, ap, ◌∙◌, arith, le-leb, length-append, length-take-le, take_all, le_refl}
use lib.Seq.{take-append-le}
use Rattle.io.specs.Counts.{IsPrefixLen}
use Rattle.model.specs.declared.Refusal.{Refusal}
use Rattle.text_grammar.specs.Writing.{Written, wrote, answer_of, if_room}
use Rattle.console.specs.Buffer.{InBuffer, text_in}

-- as many bytes as a buffer has
pub counted : (n : ℕ) (b : List ℕ) → n ≤ length b → IsPrefixLen n b
counted n b h = (h, sym (length-take-le n b h))

module _ (text b m : List ℕ) (a : Result ℕ Refusal) (short : length text ≤ length b) (e : record { answer = answer_of a; buffer = m } ≡ if_room (leb (length text) (length b)) text b) where
  whole : ◌≡◌ {A = Written} (record { answer = answer_of a; buffer = m }) (record { answer = wrote (length text); buffer = text ++ drop (length text) b })
  whole = e ∙ ap (λ (x : Bool). if_room x text b) (le-leb (length text) (length b) short)

  told : answer_of a ≡ wrote (length text)
  told = ap (λ (w : Written). w.answer) whole

  stands : m ≡ text ++ drop (length text) b
  stands = ap (λ (w : Written). w.buffer) whole

  never_fifteen : (f : Refusal) → a ≡ Err f → ⊥
  never_fifteen f q = let t : answer_of (Err f) ≡ wrote (length text) = rw q at told in let z : ◌≡◌ {A = ℕ} 0 1 = cc in absurd (omega arith)

  as_long : (n : ℕ) → a ≡ Ok n → n ≡ length text
  as_long n q = let t : answer_of (Ok n) ≡ wrote (length text) = rw q at told in cc

  in_room : (n : ℕ) → a ≡ Ok n → n ≤ length m
  in_room n q = let k = as_long n q in rw (stands, length-append) (omega arith)

  first_bytes : (n : ℕ) → n ≡ length text → take n m ≡ text
  first_bytes n k =
      ap (λ (j : ℕ). take j m) k ∙ ap (take (length text)) stands ∙ take-append-le (length text) text (drop (length text) b) (le_refl (length text))
      ∙ take_all (length text) text (le_refl (length text))

  -- so it stands in the buffer
  pub in_buffer : InBuffer a m
  in_buffer = by a refl
    where
      by : (x : Result ℕ Refusal) → a ≡ x → InBuffer x m
      by (Ok n) q = counted n m (in_room n q)
      by (Err f) q = never_fifteen f q

  -- and it is what stands there
  pub text_whole : text_in a m ≡ text
  text_whole = by a refl
    where
      by : (x : Result ℕ Refusal) → a ≡ x → text_in x m ≡ text
      by (Ok n) q = first_bytes n (as_long n q)
      by (Err f) q = absurd (never_fifteen f q)
