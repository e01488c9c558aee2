-- What the answers of tests mean.
use mathlib.Core.Path.{◌≡◌, sym, ◌∙◌}
use mathlib.Core.Bool.{Bool, true, false, true≢false, false≢true}
use Rattle.axis_graph.specs.Graph.{Decides}

pub says_yes : {P : Type 0} → P → Decides true P
says_yes p = record { holds = λ e. p; fails = λ e q. true≢false e }

pub says_no : {P : Type 0} → (P → ⊥) → Decides false P
says_no n = record { holds = λ e. absurd (false≢true e); fails = λ e q. n q }

-- ---- both of two tests, the second made where the first holds

pub both_then : {P Q : Type 0} (b r v : Bool) → Decides b P → b ≡ true → Decides r Q → v ≡ r → Decides v (P × Q)
both_then b r v d e s q = record { holds = λ t. (d.holds e, s.holds (sym q ∙ t)); fails = λ t w. s.fails (sym q ∙ t) w.1 }

pub both_else : {P Q : Type 0} (b v : Bool) → Decides b P → b ≡ false → v ≡ b → Decides v (P × Q)
both_else b v d e q = record { holds = λ t. absurd (false≢true (sym e ∙ sym q ∙ t)); fails = λ t w. d.fails e w.0 }
