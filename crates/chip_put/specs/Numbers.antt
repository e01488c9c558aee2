-- The numbers of an item, side by side in the array.
use Rattle.std.specs.Prelude.{ℕ, List, [], ◌∷◌}
use Rattle.model.specs.declared.Fix.{Fix}
use Rattle.model.specs.declared.Mac.{Mac}
use Rattle.model.specs.declared.Net.{Net as HeldNet}
use Rattle.model.specs.declared.Pin.{Pin as HeldPin}

abbrev pub mac_numbers : Mac → List ℕ
mac_numbers m = m.w ∷ m.h ∷ []

abbrev pub net_numbers : HeldNet → List ℕ
net_numbers t = t.weight ∷ t.pins ∷ []

abbrev pub pin_numbers : HeldPin → List ℕ
pin_numbers p = p.m ∷ p.xup ∷ p.yup ∷ []

abbrev pub fix_numbers : Fix → List ℕ
fix_numbers f = f.x ∷ f.y ∷ f.w ∷ f.h ∷ []
