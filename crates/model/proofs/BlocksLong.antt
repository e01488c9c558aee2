-- The blocks of a chip: their arrays are as long as the type says.
use mathlib.Core.Path.{◌≡◌, sym, ◌∙◌}
use mathlib.Core.List.{map}
use lib.ListN.{length, length-map}
use Rattle.model.specs.declared.Fix.{Fix}
use Rattle.model.specs.declared.Mac.{Mac}
use Rattle.model.specs.declared.Blocks.{Blocks}

module _ (b : Blocks) {A : Type 0} where
  pub macs_eight : (f : Mac → A) → length (map f b.macs) ≡ 8 → length b.macs ≡ 8
  macs_eight f e = sym (length-map b.macs f) ∙ e

  pub fixes_eight : (f : Fix → A) → length (map f b.fixes) ≡ 8 → length b.fixes ≡ 8
  fixes_eight f e = sym (length-map b.fixes f) ∙ e
