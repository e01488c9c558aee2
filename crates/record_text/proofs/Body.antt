-- The lines of a record before the last one: `done` follows them, and a macro put last into the record puts its line last.
use mathlib.Core.Path.{◌≡◌, refl, ap}
use mathlib.Core.List.{List, [], ◌∷◌, ◌++◌}
use Prim.Native.Nat.{ℕ, suc, ◌+◌}
use native.Mathlib.Omega.{arith}
use lib.ListN.{length}
use Rattle.model.specs.declared.Spot.{Spot}
use Rattle.model.specs.Meaning.{Record, none, least}
use Rattle.record_text.specs.Text.{Item, least_item, done_item, at_item, at_items, body, record_items}

pub body_done : (r : Record) → record_items r ≡ body r ++ (done_item ∷ [])
unfolding record_items
body_done none = refl
body_done (least wl ps) = refl

at_last : (m n : ℕ) (ps : List Spot) (p : Spot) → n ≡ m + length ps → at_items m (ps ++ (p ∷ [])) ≡ at_items m ps ++ (at_item n p ∷ [])
unfolding at_items
at_last m n [] p h = let e : n ≡ m = omega arith in rw e
at_last m n (q ∷ ps) p h = rw (at_last (suc m) n ps p (omega arith))

pub body_at : (wl n : ℕ) (ps : List Spot) (p : Spot) → n ≡ suc (length ps) → body (least wl (ps ++ (p ∷ []))) ≡ body (least wl ps) ++ (at_item n p ∷ [])
body_at wl n ps p h = ap (λ (is : List Item). least_item wl ∷ is) (at_last 1 n ps p (omega arith))
