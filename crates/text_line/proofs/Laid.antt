-- The rules of a layout that is within the limits.
use mathlib.Core.Path.{◌≡◌, refl, sym, ◌∙◌}
use mathlib.Core.Bool.{Bool, true, false, ◌&&◌, not, false≢true}
use mathlib.Core.List.{List, [], ◌∷◌}
use Prim.Native.Nat.{ℕ, zero, suc, ◌≤◌, ◌<◌}
use native.Mathlib.Omega.{arith}
use lib.Dec.{leb, ltb}
use lib.ListN.{length, get_or, get_or-eq_default}
use borrow.Author.Tests.{leb-true, ltb-true, not-false}
use Rattle.model.specs.Meaning.{pin_up}
use Rattle.num_text.specs.Held.{cap}
use Rattle.text_grammar.specs.Choice.{rule_room}
use Rattle.text_line.specs.declared.Rule.{Rule as HeldRule}
use Rattle.text_line.specs.Layout.{no_rule, rule_at, Sane, is_sane, is_layout, Laid}

both : (a b : Bool) → (a && b) ≡ true → (a ≡ true) × (b ≡ true)
both true b e = (refl, e)
both false b e = absurd (false≢true e)

sane_one : (r : HeldRule) → is_sane r ≡ true → Sane r
sane_one r e =
    let p = both (leb r.size 4) (leb r.up pin_up && ltb r.most cap) e in
    let q = both (leb r.up pin_up) (ltb r.most cap) p.1 in
    record { name = leb-true _ _ p.0; shift = leb-true _ _ q.0; top = ltb-true _ _ q.1 }

sane_at : (rs : List HeldRule) (j : ℕ) → is_layout rs ≡ true → Sane (rule_at rs j)
unfolding is_layout
sane_at [] j s = sane_one no_rule refl
sane_at (r ∷ rs) zero s = sane_one r (both (is_sane r) (is_layout rs) s).0
sane_at (r ∷ rs) (suc j) s = sane_at rs j (both (is_sane r) (is_layout rs) s).1

pub laid : (rs : List HeldRule) (r : Bool) → r ≡ is_layout rs → not r ≡ false → Laid rs
laid rs r e h = record { fine = sym e ∙ not-false r h }

pub rule_sane : (rs : List HeldRule) (j : ℕ) (r : HeldRule) → Laid rs → r ≡ rule_at rs j → Sane r
rule_sane rs j r ok e = rw e (sane_at rs j ok.fine)
