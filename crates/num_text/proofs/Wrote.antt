-- Texts written one after the other into a buffer.
use mathlib.Core.Path.{◌≡◌, refl, sym, ap, ◌∙◌}
use mathlib.Core.List.{List, [], ◌∷◌, ◌++◌}
use Prim.Native.Nat.{ℕ, suc, ◌+◌, ◌^◌, ◌≤◌, ◌<◌}
use native.Mathlib.Decide.{dec_le}
use native.Mathlib.Omega.{arith}
use lib.ListN.{length, length-append}
use lib.Seq.{sets, set_out, length-sets}
use Rattle.num_laws.proofs.Stores.{sets_append}
use Rattle.num_text.specs.Held.{last_place, Wrote}

-- nothing is written past the end
sets_out : (t b : List ℕ) (i : ℕ) → length b ≤ i → sets b i t ≡ b
sets_out [] b i h = refl
sets_out (x ∷ t) b i h = rw (set_out b i x h) (sets_out t b (suc i) (omega arith))

pub wrote_none : (b : List ℕ) (at : ℕ) → at ≤ last_place → Wrote b b [] at at
wrote_none b at h = record { place = omega arith; bytes = refl }

pub wrote_then : (b m a s t : List ℕ) (at k r : ℕ) → length b < 2 ^ 64 → Wrote b m s at k → Wrote m a t k r → Wrote b a (s ++ t) at r
wrote_then b m a s t at k r f p q = record { place = rw (length-append s t) (omega arith); bytes = q.bytes ∙ rw (sets_append s t b at, p.bytes) (by (dec_le (at + length s) last_place)) }
  where
    by : Dec (at + length s ≤ last_place) → sets (sets b at s) k t ≡ sets (sets b at s) (at + length s) t
    by (yes l) = ap (λ (j : ℕ). sets (sets b at s) j t) (omega arith)
    by (no l) = let e = length-sets b at s in sets_out t (sets b at s) k (omega arith) ∙ sym (sets_out t (sets b at s) (at + length s) (omega arith))

pub wrote_length : (b a t : List ℕ) (at n : ℕ) → Wrote b a t at n → length a ≡ length b
wrote_length b a t at n w = ap length w.bytes ∙ length-sets b at t
