-- What the programs of one text print for it.
use Rattle.std.specs.Prelude.{List, ℕ, ⊤}
use Rattle.place_print.specs.Printed.{printed}
use Rattle.place_boxes.specs.Boxes.{printed_boxes}
use Rattle.console.specs.declared.texts.Program.{Program}
use Rattle.console.specs.declared.texts.Program.TheVariants as program
use Rattle.console.specs.declared.files.Failed.{Failed}
use Rattle.console.specs.declared.files.Failed.TheVariants as failed

-- by the program's name
abbrev pub printed_by : Program → List ℕ → List ℕ
printed_by program.Place text = printed text
printed_by program.Boxes text = printed_boxes text

-- P, where it was a read that failed
abbrev pub IfUnread : Failed → Type 0 → Type 0
IfUnread (failed.Read e) P = P
IfUnread (failed.Write e) P = ⊤
