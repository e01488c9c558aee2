-- The tests of positions (document 01, "Refusal table"): "Then 11 or 13, 12 or 14".
use Rattle.std.specs.Prelude.{List, [], ◌∷◌, Bool, ◌&&◌, eqb, length, pos}
use Rattle.num_text.specs.Number.{all_of}
use Rattle.model.specs.declared.Spot.{Spot}
use Rattle.model.specs.Meaning.{Chip}
use Rattle.model.specs.Limits.{is_within, placed_corner}
use Rattle.refusals.specs.Tests.{Test, test}

-- each x and y is 0..1,024
abbrev pub in_range : List Spot → Bool
in_range ps = all_of (λ (p : Spot). is_within placed_corner (pos p.x) && is_within placed_corner (pos p.y)) ps

-- 13, position list not n long, and 14, position above 1,024
abbrev pub measure_tests : Chip → List Spot → List Test
measure_tests c ps =
    test 13 (eqb (length ps) (length c.macs))
    ∷ test 14 (in_range ps)
    ∷ []
