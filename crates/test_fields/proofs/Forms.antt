-- The sample layouts are their forms, within the limits.
use mathlib.Core.Path.{◌≡◌, refl}
use mathlib.Core.List.{[], ◌∷◌}
use Rattle.text_line.specs.declared.Rule.{Rule}
use Rattle.text_line.specs.Layout.{no_rule, with_letters, with_other, short_rule, form_at, is_layout, layout_for}
use Rattle.text_line.proofs.Layouts.{Laying}
use Rattle.test_fields.specs.Forms.{net_form, at_form, leaf_form}

pub net_laid : (w x y z v : Rule) → v ≡ short_rule 119 0 1 1000 → w ≡ with_other 2 v → x ≡ short_rule 120 0 1 1000 → y ≡ short_rule 121 0 1 1000 → z ≡ no_rule → record { rules = w ∷ z ∷ x ∷ y ∷ [] } ≡ layout_for net_form
net_laid w x y z v ev ew ex ey ez = rw (ew, ev, ex, ey, ez)

pub at_laid : (n x y t v : Rule) → n ≡ short_rule 110 0 1 8 → x ≡ short_rule 120 0 0 1024 → y ≡ short_rule 121 0 0 1024 → v ≡ short_rule 116 1 0 2 → t ≡ with_other 2 v → record { rules = n ∷ x ∷ y ∷ t ∷ [] } ≡ layout_for at_form
at_laid n x y t v en ex ey ev et = rw (en, ex, ey, et, ev)

pub leaf_laid : (s t k l v z : Rule) → s ≡ short_rule 115 0 0 92 → t ≡ with_letters (76 ∷ 82 ∷ 66 ∷ 65 ∷ []) 4 s → k ≡ short_rule 107 0 1 1 → l ≡ with_letters (110 ∷ 102 ∷ 111 ∷ 0 ∷ []) 3 k → v ≡ short_rule 118 0 0 589824000 → z ≡ no_rule → record { rules = t ∷ l ∷ v ∷ z ∷ [] } ≡ layout_for leaf_form
leaf_laid s t k l v z es et ek el ev ez = rw (et, es, el, ek, ev, ez)

-- a layout with a choice, and one with strings, means the form that it is made from
pub net_laying : Laying net_form
unfolding form_at is_layout
net_laying = record { means = refl; fine = refl }

pub at_laying : Laying at_form
unfolding form_at is_layout
at_laying = record { means = refl; fine = refl }

pub leaf_laying : Laying leaf_form
unfolding form_at is_layout
leaf_laying = record { means = refl; fine = refl }
