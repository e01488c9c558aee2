-- What holds of every element of a list.
use Prim.{Unit, tt}
use mathlib.Core.List.{List, [], ◌∷◌, ◌++◌, map}

module _ {A : Type 0} where
  abbrev pub Every : (A → Type 0) → List A → Type 0
  Every P [] = Unit {0}
  Every P (a ∷ s) = P a × Every P s

  pub every_append : (P : A → Type 0) (s t : List A) → Every P s → Every P t → Every P (s ++ t)
  every_append P [] t p q = q
  every_append P (a ∷ s) t p q = (p.0, every_append P s t p.1 q)

  pub every_map : {B : Type 0} (P : A → Type 0) (f : B → A) → ((b : B) → P (f b)) → (s : List B) → Every P (map f s)
  every_map P f h [] = tt
  every_map P f h (b ∷ s) = (h b, every_map P f h s)
