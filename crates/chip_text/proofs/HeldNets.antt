-- Nets that take their pins from one list: what stands where.
use Prim.Native.Nat.{ℕ, zero, suc, ◌+◌, ◌≤◌, ◌<◌, min}
use native.Mathlib.Nat.{le_of_suc-le-suc}
use native.Mathlib.Numerals.{add-one}
use native.Mathlib.Omega.{arith}
use mathlib.Core.Path.{◌≡◌, refl, ap, ◌∙◌}
use mathlib.Core.List.{List, [], ◌∷◌}
use lib.ListN.{length, get_or, drop, length-drop}
use lib.Seq.{drop-drop}
use Rattle.model.specs.declared.Net.{Net as HeldNet}
use Rattle.model.specs.declared.Pin.{Pin as HeldPin}
use Rattle.model.specs.Meaning.{first_of, blank_net, blank_pin, pin_of, pins_of, nets_of}
use Rattle.model.specs.Counted.{taken}
use Rattle.model.proofs.FirstOf.{first_length}
use Rattle.model.proofs.Nets.{length_pins}
use Rattle.chip_text.specs.Kind.{pin_count}
use Rattle.chip_text.specs.Valid.{no_pin, no_net, pins_before}

pub get_d_pins : (ps : List HeldPin) (i : ℕ) → i < length ps → get_or (pins_of ps) i no_pin ≡ pin_of (get_or ps i blank_pin)
unfolding pins_of
get_d_pins [] i h = absurd (omega arith)
get_d_pins (p ∷ ps) zero h = refl
get_d_pins (p ∷ ps) (suc i) h = get_d_pins ps i (le_of_suc-le-suc h)

-- ---- the pins before a net

before_none : (j : ℕ) → pins_before j [] ≡ 0
unfolding pins_before
before_none zero = refl
before_none (suc j) = refl

-- the next net's pins come after those before it
pub pins_before_more : (j : ℕ) (ts : List HeldNet) → pins_before (suc j) ts ≡ pins_before j ts + (get_or ts j blank_net).pins
unfolding pins_before
pins_before_more j [] = let q = before_none j in omega arith
pins_before_more zero (t ∷ ts) = omega arith
pins_before_more (suc j) (t ∷ ts) = let q = pins_before_more j ts in omega arith

pub pins_before_next : (j : ℕ) (ts : List HeldNet) → pins_before (j + 1) ts ≡ pins_before j ts + (get_or ts j blank_net).pins
pins_before_next j ts = rw add-one (pins_before_more j ts)

-- more nets have no fewer pins
pub pins_before_up : (i j : ℕ) (ts : List HeldNet) → i ≤ j → pins_before i ts ≤ pins_before j ts
unfolding pins_before
pins_before_up zero j ts h = omega arith
pins_before_up (suc i) zero ts h = absurd (omega arith)
pins_before_up (suc i) (suc j) [] h = omega arith
pins_before_up (suc i) (suc j) (t ∷ ts) h = let q = pins_before_up i j ts (le_of_suc-le-suc h) in omega arith

pub before_first : (j n : ℕ) (ts : List HeldNet) → j ≤ n → pins_before j (first_of blank_net n ts) ≡ pins_before j ts
unfolding pins_before first_of
before_first zero n ts h = refl
before_first (suc j) zero ts h = absurd (omega arith)
before_first (suc j) (suc n) [] h = let q = before_none j in omega arith
before_first (suc j) (suc n) (t ∷ ts) h = rw (before_first j n ts (le_of_suc-le-suc h))

pub taken_first : (n : ℕ) (ts : List HeldNet) → taken (first_of blank_net n ts) ≡ pins_before n ts
unfolding taken pins_before first_of
taken_first zero ts = refl
taken_first (suc n) [] = refl
taken_first (suc n) (t ∷ ts) = ap (λ (q : ℕ). t.pins + q) (taken_first n ts)

-- ---- the nets

pub get_d_weight : (ts : List HeldNet) (ps : List HeldPin) (j : ℕ) → (get_or (nets_of ts ps) j no_net).weight ≡ (get_or ts j blank_net).weight
unfolding nets_of
get_d_weight [] ps j = refl
get_d_weight (t ∷ ts) ps zero = refl
get_d_weight (t ∷ ts) ps (suc j) = get_d_weight ts (drop t.pins ps) j

pub get_d_net : (ts : List HeldNet) (ps : List HeldPin) (j : ℕ) → (get_or (nets_of ts ps) j no_net).pins ≡ pins_of (first_of blank_pin (get_or ts j blank_net).pins (drop (pins_before j ts) ps))
unfolding nets_of pins_before first_of pins_of
get_d_net [] ps j = refl
get_d_net (t ∷ ts) ps zero = refl
get_d_net (t ∷ ts) ps (suc j) = get_d_net ts (drop t.pins ps) j ∙ rw (drop-drop (pins_before j ts) t.pins ps)

-- how many pins nets mean: as many as they count, up to one more than the list holds
pub pins_mean : (ts : List HeldNet) (ps : List HeldPin) → min (suc (length ps)) (pin_count (nets_of ts ps)) ≡ min (suc (length ps)) (taken ts)
unfolding nets_of pin_count taken
pins_mean [] ps = refl
pins_mean (t ∷ ts) ps =
    let p = length_pins (first_of blank_pin t.pins ps) in
    let f = first_length blank_pin t.pins ps in
    let d = length-drop t.pins ps in
    let i = pins_mean ts (drop t.pins ps) in
    omega arith
