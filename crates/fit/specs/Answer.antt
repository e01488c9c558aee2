-- The program's answer for a fit (document 01, "The fit" and "Refusal table"): the number and the line of a refusal, no fit, or the wirelength and
-- the number of slots of a placement; beside it the positions, 0,0 past the macros, and 0,0 everywhere without a placement.
use Rattle.model.specs.declared.Refusal.{Refusal}
use Rattle.fit.specs.declared.Fitted.{Fitted}
use Rattle.std.specs.Prelude.{List, [], Result, Ok, Err, Option, Some, None}
use Rattle.model.specs.declared.Spot.{Spot}
use Rattle.model.specs.Meaning.{blank_spot}
use Rattle.model.specs.Limits.{most_macs}
use Rattle.model.specs.Held.{filled}
use Rattle.fit_slots.specs.Fit.{Fit, refused_by, no_fit, placed}
use Rattle.fit.specs.declared.FitAnswer.{FitAnswer}

abbrev pub outcome_of : Fit → Result (Option Fitted) Refusal
outcome_of (refused_by number line) = Err (record { no = number; line = line })
outcome_of no_fit = Ok None
outcome_of (placed l count ps) = Ok (Some (record { length = l; slots = count }))

abbrev pub positions_of : Fit → List Spot
positions_of (refused_by number line) = []
positions_of no_fit = []
positions_of (placed l count ps) = ps

abbrev pub answer_for : Fit → FitAnswer
answer_for f = record { outcome = outcome_of f; spots = filled most_macs blank_spot (positions_of f) }
