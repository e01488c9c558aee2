use mathlib.Core.Path.{◌≡◌, sym, ap, ◌∙◌}
use mathlib.Core.Bool.{Bool, true}
use mathlib.Core.List.{List}
use Prim.Native.Nat.{ℕ}
use lib.ListN.{get_or, take}
use lib.Seq.{get_or-take}
use Rattle.std.proofs.lemmas.Bool.Decides.{Decides-eqb}
use Rattle.std.proofs.lemmas.Slice.Eq.{slice_eq-Decides}
use Rattle.axis_graph.specs.Graph.{Shows}
use Rattle.axis_tie.specs.Even.{Even}
use Rattle.axis_tie.proofs.is_even.Goals as goal

-- equal parts at the front have the same numbers there
even_by : (into out : List ℕ) (n : ℕ) (r : Bool) → (r ≡ true → take n into ≡ take n out) → Shows r (Even into out n)
even_by into out n r h = record { shown = λ t. record { eq = λ k l. sym (get_or-take n into k 0 l) ∙ ap (λ (u : List ℕ). get_or u k 0) (h t) ∙ get_or-take n out k 0 l } }

pub returns-then-n-le-NODE_ROOM : goal.returns-then-n-le-NODE_ROOM
returns-then-n-le-NODE_ROOM c =
    even_by c.args.into c.args.out c.args.n _ (slice_eq-Decides Decides-eqb _ _ _ c.eq.ensures).0
