-- What is printed for the first 16,385 bytes of a text is what is printed for the text.
use Prim.{tt}
use Rattle.std.proofs.Common.{◌≡◌, ℕ, ◌<◌, List, Option, ◌+◌, length, sym, arith, take_all, None, Some, IfSome, take, ap, ◌∙◌, subst}
use Rattle.std.specs.Io.KnownBytes.{Appends}
use Rattle.place_print.proofs.PrintedShort.{printed_start}
use Rattle.place_boxes.proofs.Short.{boxes_start}
use Rattle.beside_print.proofs.Short.{beside_start}
use Rattle.beside_print.specs.Printed.{printed_beside}
use Rattle.console.specs.declared.texts.Program.{Program}
use Rattle.console.specs.declared.texts.Program.TheVariants as program
use Rattle.console.specs.Printed.{printed_by}

printed_by_start : (p : Program) (text : List ℕ) (k : ℕ) → 16384 < k → printed_by p (take k text) ≡ printed_by p text
printed_by_start program.Place text k h = printed_start text k h
printed_by_start program.Boxes text k h = boxes_start text k h

-- where so many bytes were read, and what is printed for them was written
pub printed_of_start : (p : Program) (known : Option (List ℕ)) (bs : List ℕ) (k : ℕ) (a b : Option (List ℕ)) → 16384 < k → IfSome known (λ text. bs ≡ take k text)
    → Appends a b (printed_by p bs) → IfSome known (λ text. Appends a b (printed_by p text))
printed_of_start p None bs k a b h e made = tt
printed_of_start p (Some text) bs k a b h e made = subst (Appends a b) (ap (printed_by p) e ∙ printed_by_start p text k h) made

beside_of_start : (chip beside : List ℕ) (k : ℕ) → 16384 < k → printed_beside chip (take k beside) ≡ printed_beside chip beside
beside_of_start chip beside k h =
    let all : take (length chip + 16385) chip ≡ chip = take_all (length chip + 16385) chip (omega arith) in
    ap (λ c. printed_beside c (take k beside)) (sym all) ∙ beside_start chip beside (length chip + 16385) k (omega arith) h

-- the same of a record beside a chip
pub beside_of_first : (chip : List ℕ) (known : Option (List ℕ)) (bs : List ℕ) (k : ℕ) (a b : Option (List ℕ)) → 16384 < k → IfSome known (λ text. bs ≡ take k text)
    → Appends a b (printed_beside chip bs) → IfSome known (λ text. Appends a b (printed_beside chip text))
beside_of_first chip None bs k a b h e made = tt
beside_of_first chip (Some text) bs k a b h e made = subst (Appends a b) (ap (printed_beside chip) e ∙ beside_of_start chip text k h) made
