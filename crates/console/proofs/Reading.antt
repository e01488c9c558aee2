-- The known bytes of a reader, in the first bytes of a buffer.
use Prim.{tt}
use Rattle.std.proofs.Common.{◌≡◌, ℕ, ◌+◌, ◌≤◌, List, ◌++◌, Option, None, Some, IfSome, length, take, drop, sym, ap, subst, ◌∙◌, le_refl, append-nil, take_all, length-take-le}
use lib.Seq.{take-add, take-append-le}
use Rattle.std.specs.Io.KnownBytes.{Consumes, IsAtEnd}
use Rattle.std.proofs.KnownBytes.{Consumes-trans}

-- what one more read gave stands after what was read before
pub read_more : (a b c : Option (List ℕ)) (xs ys : List ℕ) (at n : ℕ) → take at ys ≡ take at xs → Consumes a b (take at xs) → Consumes b c (take n (drop at ys)) → Consumes a c (take (at + n) ys)
read_more a b c xs ys at n same before read =
    subst (Consumes a c) (ap (λ l. l ++ take n (drop at ys)) (sym same) ∙ sym (take-add at n ys)) (Consumes-trans a b c _ _ before read)

-- a full buffer holds the beginning of the bytes
pub as_far : (a c : Option (List ℕ)) (ys : List ℕ) (n : ℕ) → length ys ≤ n → Consumes a c (take n ys) → IfSome a (λ text. take n ys ≡ take (length ys) text)
as_far None c ys n full p = tt
as_far (Some xs) None ys n full p = absurd p
as_far (Some xs) (Some zs) ys n full p =
    let whole : take n ys ≡ ys = take_all n ys full in
    let e : xs ≡ ys ++ zs = p ∙ ap (λ l. l ++ zs) whole in
    whole ∙ sym (ap (take (length ys)) e ∙ take-append-le (length ys) ys zs (le_refl (length ys)) ∙ take_all (length ys) ys (le_refl (length ys)))

-- at the end of the bytes, a buffer holds them all
pub as_ended : (a c : Option (List ℕ)) (ys : List ℕ) (n : ℕ) → n ≤ length ys → Consumes a c (take n ys) → IsAtEnd c → IfSome a (λ text. take n ys ≡ take (length ys) text)
as_ended None c ys n h p q = tt
as_ended (Some xs) None ys n h p q = absurd p
as_ended (Some xs) (Some zs) ys n h p q =
    let e : xs ≡ take n ys = p ∙ ap (λ l. take n ys ++ l) q ∙ append-nil (take n ys) in
    let short : length (take n ys) ≡ n = length-take-le n ys h in
    let within : length xs ≤ length ys = rw (e, short) h in
    sym e ∙ sym (take_all (length ys) xs within)
