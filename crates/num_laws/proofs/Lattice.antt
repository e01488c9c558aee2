-- Two lists of numbers, and the lists of the smaller and of the larger of each two: their spreads together are no more than those of the two lists.
use Prim.Native.Nat.{ℕ, ◌+◌, ◌≤◌, ◌<◌, min, max}
use mathlib.Core.Path.{◌≡◌}
use mathlib.Core.List.{List, [], ◌∷◌}
use native.Mathlib.Omega.{arith}
use lib.ListN.{length, get_or}
use Rattle.num_laws.specs.Spread.{top, bottom, spread}
use Rattle.num_laws.proofs.Spreads.{top_bottom, each_le_top, bottom_le_each, top_le, le_bottom}

-- s and t are equally long; u holds the smaller and v the larger of each two of their numbers
pub record Extremes (s t u v : List ℕ) : Type 0 where
  pub other : length t ≡ length s
  pub lesser : length u ≡ length s
  pub greater : length v ≡ length s
  pub low : (i : ℕ) → get_or u i 0 ≡ min (get_or s i 0) (get_or t i 0)
  pub high : (i : ℕ) → get_or v i 0 ≡ max (get_or s i 0) (get_or t i 0)

module _ (s t u v : List ℕ) (e : Extremes s t u v) where
  -- the greatest of u is at most that of s and that of t, and the greatest of v at most the greater of the two
  tops : top u + top v ≤ top s + top t
  tops =
      let ls = e.other in let lu = e.lesser in let lv = e.greater in
      let p = top_le (min (top s) (top t)) u (record { at = λ i l. let a = each_le_top s i (omega arith) in let b = each_le_top t i (omega arith) in let h = e.low i in omega arith }) in
      let q = top_le (max (top s) (top t)) v (record { at = λ i l. let a = each_le_top s i (omega arith) in let b = each_le_top t i (omega arith) in let h = e.high i in omega arith }) in
      omega arith

  -- the least of u is at least the lesser of the two, and the least of v at least that of s and that of t
  bottoms : 0 < length s → bottom s + bottom t ≤ bottom u + bottom v
  bottoms n =
      let ls = e.other in let lu = e.lesser in let lv = e.greater in
      let p = le_bottom (min (bottom s) (bottom t)) u (omega arith) (record { at = λ i l. let a = bottom_le_each s i (omega arith) in let b = bottom_le_each t i (omega arith) in let h = e.low i in omega arith }) in
      let q = le_bottom (max (bottom s) (bottom t)) v (omega arith) (record { at = λ i l. let a = bottom_le_each s i (omega arith) in let b = bottom_le_each t i (omega arith) in let h = e.high i in omega arith }) in
      omega arith

  some_spreads : 0 < length s → spread u + spread v ≤ spread s + spread t
  some_spreads n =
      let a = top_bottom s in let b = top_bottom t in let c = top_bottom u in let d = top_bottom v in
      let p = tops in let q = bottoms n in
      omega arith

pub extremes_spread : (s t u v : List ℕ) → Extremes s t u v → spread u + spread v ≤ spread s + spread t
unfolding spread
extremes_spread [] t [] [] e = omega arith
extremes_spread [] t (b ∷ u) v e = let l = e.lesser in absurd (omega arith)
extremes_spread [] t [] (b ∷ v) e = let l = e.greater in absurd (omega arith)
extremes_spread (a ∷ s) t u v e = some_spreads (a ∷ s) t u v e (omega arith)
