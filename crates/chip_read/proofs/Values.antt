-- The values of a line, as an array of four numbers holds them.
use mathlib.Core.Path.{◌≡◌, refl}
use mathlib.Core.List.{List, [], ◌∷◌}
use Prim.Native.Nat.{ℕ}
use native.Mathlib.Omega.{arith}
use lib.ListN.{length, get_or}
use Rattle.model.specs.declared.Die.{Die}
use Rattle.model.specs.declared.Fix.{Fix}
use Rattle.model.specs.declared.Mac.{Mac}
use Rattle.model.specs.declared.Pin.{Pin as HeldPin}
use Rattle.chip_text.specs.declared.ChipWord.TheVariants as word
use Rattle.model.specs.Meaning.{pin_of}
use Rattle.text_grammar.specs.Words.{size}
use Rattle.text_line.specs.Layout.{values_at}
use Rattle.chip_read.specs.State.{chip_values}
use Rattle.chip_text.specs.Kind.{die_of, fix_of, mac_of, pin_of as pin_in}

pub by_four : (P : List ℕ → Type 0) → ((a b c d : ℕ) → P (a ∷ b ∷ c ∷ d ∷ [])) → (v : List ℕ) → length v ≡ 4 → P v
by_four P h [] e = absurd (omega arith)
by_four P h (a ∷ []) e = absurd (omega arith)
by_four P h (a ∷ b ∷ []) e = absurd (omega arith)
by_four P h (a ∷ b ∷ c ∷ []) e = absurd (omega arith)
by_four P h (a ∷ b ∷ c ∷ d ∷ []) e = h a b c d
by_four P h (a ∷ b ∷ c ∷ d ∷ x ∷ v) e = absurd (omega arith)

-- ---- what the program makes of the numbers v

module _ (v : List ℕ) where
  abbrev pub held_die : Die
  held_die = record { w = get_or v 0 0; h = get_or v 1 0 }

  abbrev pub held_fix : Fix
  held_fix = record { x = get_or v 0 0; y = get_or v 1 0; w = get_or v 2 0; h = get_or v 3 0 }

  abbrev pub held_mac : Mac
  held_mac = record { w = get_or v 0 0; h = get_or v 1 0 }

  abbrev pub held_pin : HeldPin
  held_pin = record { m = get_or v 0 0; xup = get_or v 1 0; yup = get_or v 2 0 }

-- ---- what the values mean

pub die_values : (v : List ℕ) → length v ≡ 4 → die_of (chip_values word.Die v) ≡ held_die v
unfolding values_at
die_values = by_four (λ v. die_of (chip_values word.Die v) ≡ held_die v) (λ a b c d. refl)

pub fix_values : (v : List ℕ) → length v ≡ 4 → fix_of (chip_values word.Fix v) ≡ held_fix v
unfolding values_at
fix_values = by_four (λ v. fix_of (chip_values word.Fix v) ≡ held_fix v) (λ a b c d. refl)

pub mac_values : (v : List ℕ) → length v ≡ 4 → mac_of (chip_values word.Mac v) ≡ held_mac v
unfolding values_at
mac_values = by_four (λ v. mac_of (chip_values word.Mac v) ≡ held_mac v) (λ a b c d. refl)

pub net_values_law : (v : List ℕ) → length v ≡ 4 → size (chip_values word.Net v) 0 ≡ get_or v 0 0
unfolding values_at
net_values_law = by_four (λ v. size (chip_values word.Net v) 0 ≡ get_or v 0 0) (λ a b c d. refl)

pub pin_values : (v : List ℕ) → length v ≡ 4 → pin_in (chip_values word.Pin v) ≡ pin_of (held_pin v)
unfolding values_at
pin_values = by_four (λ v. pin_in (chip_values word.Pin v) ≡ pin_of (held_pin v)) (λ a b c d. refl)
