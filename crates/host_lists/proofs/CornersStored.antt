-- Corners stored into a list as numbers x1, y1, x2, y2 ..
use Prim.Native.Nat.{ℕ, suc, ◌+◌, ◌≤◌, ◌<◌}
use mathlib.Core.Path.{◌≡◌, refl, sym, ap, ◌∙◌}
use mathlib.Core.List.{List, [], ◌∷◌}
use native.Mathlib.Numerals.{add-one}
use native.Mathlib.Omega.{arith}
use lib.ListN.{length, get_or, take, set}
use lib.Seq.{sets, length-sets, take-suc, take_all, length-take-le}
use Rattle.model.specs.declared.Spot.{Spot}
use Rattle.model.specs.Meaning.{blank_spot}
use Rattle.num_laws.proofs.Stores.{sets_append}
use Rattle.placement.specs.Order.{keys}
use Rattle.placement.proofs.OrderLaws.{length_keys}
use Rattle.host_lists.proofs.Numbers.{keys_snoc}

-- the first i corners are stored at the front of a list
pub record Stored (entry : List ℕ) (spots : List Spot) (list : List ℕ) (i : ℕ) : Type 0 where
  pub is : list ≡ sets entry 0 (keys (take i spots))

module _ (entry : List ℕ) (spots : List Spot) where
  pub stored_none : Stored entry spots entry 0
  unfolding keys
  stored_none = record { is = refl }

  module _ (list : List ℕ) (i : ℕ) (st : Stored entry spots list i) where
    pub stored_long : length list ≡ length entry
    stored_long = ap (λ (t : List ℕ). length t) st.is ∙ length-sets entry 0 (keys (take i spots))

    module _ (h : i < 8) (eight : length spots ≡ 8) where
      ends : 0 + length (keys (take i spots)) ≡ i + i
      ends = let a = length_keys (take i spots) in let b = length-take-le i spots (omega arith) in omega arith

      abbrev p : Spot
      p = get_or spots i blank_spot

      abbrev before : List ℕ
      before = sets entry 0 (keys (take i spots))

      more : sets entry 0 (keys (take (i + 1) spots)) ≡ set (set before (i + i) p.x) (i + i + 1) p.y
      more =
          let r : suc (i + i) ≡ i + i + 1 = omega arith in
          ap (λ (k : ℕ). sets entry 0 (keys (take k spots))) (add-one i)
          ∙ (ap (λ (t : List Spot). sets entry 0 (keys t)) (take-suc spots i blank_spot (omega arith))
          ∙ (ap (sets entry 0) (keys_snoc (take i spots) p)
          ∙ (sets_append (keys (take i spots)) (p.x ∷ p.y ∷ []) entry 0
          ∙ (ap (λ (k : ℕ). sets before k (p.x ∷ p.y ∷ [])) ends
          ∙ ap (λ (k : ℕ). set (set before (i + i) p.x) k p.y) r))))

      pub stored_more : (l r : List ℕ) → l ≡ set list (i + i) (get_or spots i blank_spot).x → r ≡ set l (i + i + 1) (get_or spots i blank_spot).y → Stored entry spots r (i + 1)
      stored_more l r e f =
          record { is = f ∙ (ap (λ (t : List ℕ). set t (i + i + 1) p.y) (e ∙ ap (λ (t : List ℕ). set t (i + i) p.x) st.is) ∙ sym more) }

    -- as many as are asked for, or all
    pub stored_asked : (n : ℕ) → i ≤ n → n ≤ i → list ≡ sets entry 0 (keys (take n spots))
    stored_asked n h o = st.is ∙ ap (λ (k : ℕ). sets entry 0 (keys (take k spots))) (let q : i ≡ n = omega arith in q)

    pub stored_all : (n : ℕ) → i ≤ n → 8 ≤ i → length spots ≡ 8 → list ≡ sets entry 0 (keys (take n spots))
    stored_all n h o eight = st.is ∙ ap (λ (t : List Spot). sets entry 0 (keys t)) (take_all i spots (omega arith) ∙ sym (take_all n spots (omega arith)))
