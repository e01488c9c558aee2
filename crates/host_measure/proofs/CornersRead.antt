-- Corners read from a list of numbers x1, y1, x2, y2 ..
use Prim.Native.Nat.{ℕ, suc, ◌+◌, ◌≤◌, ◌<◌}
use mathlib.Core.Path.{◌≡◌, refl, sym, ap, ◌∙◌}
use mathlib.Core.List.{List, [], ◌∷◌, ◌++◌, append_assoc}
use native.Mathlib.Numerals.{add-one}
use native.Mathlib.Omega.{arith}
use lib.ListN.{length, get_or, take, set, length-set}
use lib.Seq.{take-suc, take-suc-set, take_all}
use Rattle.model.specs.declared.Spot.{Spot}
use Rattle.placement.specs.Order.{keys}
use Rattle.host_lists.proofs.Numbers.{keys_snoc}
use Rattle.host_measure.specs.MeasureText.{corners_of}

corners_keys : (ps : List Spot) → corners_of (keys ps) ≡ ps
unfolding corners_of keys
corners_keys [] = refl
corners_keys (p ∷ ps) = ap (λ (t : List Spot). p ∷ t) (corners_keys ps)

-- the first i corners are the first numbers of the list
pub record CornersTo (list : List ℕ) (spots : List Spot) (i : ℕ) : Type 0 where
  pub long : length spots ≡ 8
  pub are : keys (take i spots) ≡ take (i + i) list

pub corners_none : (list : List ℕ) (spots : List Spot) → length spots ≡ 8 → CornersTo list spots 0
unfolding keys
corners_none list spots l = record { long = l; are = refl }

module _ (list : List ℕ) (n : ℕ) (e : length list ≡ n + n) where
  two_more : (i : ℕ) → i < n → take ((i + 1) + (i + 1)) list ≡ take (i + i) list ++ (get_or list (i + i) 0 ∷ get_or list (i + i + 1) 0 ∷ [])
  two_more i h =
      let q : (i + 1) + (i + 1) ≡ suc (suc (i + i)) = omega arith in
      let r : suc (i + i) ≡ i + i + 1 = omega arith in
      ap (λ (k : ℕ). take k list) q
      ∙ (take-suc list (suc (i + i)) 0 (omega arith)
      ∙ (ap (λ (t : List ℕ). t ++ (get_or list (suc (i + i)) 0 ∷ [])) (take-suc list (i + i) 0 (omega arith))
      ∙ (append_assoc (take (i + i) list) (get_or list (i + i) 0 ∷ []) (get_or list (suc (i + i)) 0 ∷ [])
      ∙ ap (λ (k : ℕ). take (i + i) list ++ (get_or list (i + i) 0 ∷ get_or list k 0 ∷ [])) r)))

  pub corners_more : (spots : List Spot) (i : ℕ) → i < n → n ≤ 8 → CornersTo list spots i → CornersTo list (set spots i (record { x = get_or list (i + i) 0; y = get_or list (i + i + 1) 0 })) (i + 1)
  corners_more spots i h few s =
      let v : Spot = record { x = get_or list (i + i) 0; y = get_or list (i + i + 1) 0 } in
      let l = s.long in
      record {
        long = length-set spots i v ∙ l;
        are = ap (λ (k : ℕ). keys (take k (set spots i v))) (add-one i)
            ∙ (ap keys (take-suc-set spots i v (omega arith))
            ∙ (keys_snoc (take i spots) v
            ∙ (ap (λ (t : List ℕ). t ++ (v.x ∷ v.y ∷ [])) s.are ∙ sym (two_more i h))));
      }

  pub corners_all : (spots : List Spot) (i : ℕ) → i ≤ n → n ≤ i → CornersTo list spots i → take n spots ≡ corners_of list
  corners_all spots i h o s =
      let q : i ≡ n = omega arith in
      sym (corners_keys (take n spots))
      ∙ ap corners_of (ap (λ (k : ℕ). keys (take k spots)) (sym q) ∙ (s.are ∙ (ap (λ (k : ℕ). take (k + k) list) q ∙ take_all (n + n) list (omega arith))))
