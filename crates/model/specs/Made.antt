-- What the constructors answer: the thing, or refusal 4 (document 01, "number outside its range") where a number is outside its range.
use Rattle.std.specs.Prelude.{ℕ, ◌&&◌, ℤ, pos, Option, Some, None}
use Rattle.model.specs.declared.Die.{Die}
use Rattle.model.specs.declared.Fix.{Fix}
use Rattle.model.specs.declared.Mac.{Mac}
use Rattle.model.specs.declared.Net.{Net}
use Rattle.model.specs.declared.Pin.{Pin as HeldPin}
use Rattle.model.specs.declared.Spot.{Spot}
use Rattle.model.specs.Step.{Step, next, fault, check}
use Rattle.model.specs.Meaning.{Pin, pin_of}
use Rattle.model.specs.Limits.{is_within, die_side, fix_corner, fix_side, mac_side, net_weight, pin_macro, pin_place, placed_corner}

-- what each case of a constructor's answer means
abbrev pub made : {A : Type 0} → Option A → Step A
made (Some a) = next a
made None = fault 4

-- the same of x or y of a pin, and of a pin, whose x and y are held higher
abbrev pub made_place : Option ℕ → Step ℤ
made_place (Some v) = next (pin_of (record { m = 0; xup = v; yup = 0 })).x
made_place None = fault 4

abbrev pub made_pin : Option HeldPin → Step Pin
made_pin (Some p) = next (pin_of p)
made_pin None = fault 4

-- a die of width w and height h
abbrev pub make_die : ℕ → ℕ → Step Die
make_die w h = check (is_within die_side (pos w) && is_within die_side (pos h)) 4 (next (record { w = w; h = h }))

-- a fix with its corner at x,y, of width w and height h
abbrev pub make_fix : ℕ → ℕ → ℕ → ℕ → Step Fix
make_fix x y w h =
    check (is_within fix_corner (pos x) && is_within fix_corner (pos y) && is_within fix_side (pos w) && is_within fix_side (pos h)) 4
    (next (record { x = x; y = y; w = w; h = h }))

-- a macro of width w and height h
abbrev pub make_mac : ℕ → ℕ → Step Mac
make_mac w h = check (is_within mac_side (pos w) && is_within mac_side (pos h)) 4 (next (record { w = w; h = h }))

-- a net of that weight with that many pins; how many pins a net may have is tested with its chip
abbrev pub make_net : ℕ → ℕ → Step Net
make_net weight pins = check (is_within net_weight (pos weight)) 4 (next (record { weight = weight; pins = pins }))

-- x or y of a pin
abbrev pub make_place : ℤ → Step ℤ
make_place z = check (is_within pin_place z) 4 (next z)

-- a pin of macro m, or a pad where m is 0, at x,y
abbrev pub make_pin : ℕ → ℤ → ℤ → Step Pin
make_pin m x y = check (is_within pin_macro (pos m) && is_within pin_place x && is_within pin_place y) 4 (next (record { m = m; x = x; y = y }))

-- the same of a pin held as a value
abbrev pub remake_pin : HeldPin → Step Pin
remake_pin p = make_pin p.m (pin_of p).x (pin_of p).y

-- a macro's corner at x,y in a record
abbrev pub make_spot : ℕ → ℕ → Step Spot
make_spot x y = check (is_within placed_corner (pos x) && is_within placed_corner (pos y)) 4 (next (record { x = x; y = y }))
