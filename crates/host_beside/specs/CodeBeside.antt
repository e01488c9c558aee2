-- How jizdovel_check_beside answers (embed/jizdovel.h): a number and a value as every exported function, and beside them the text at fault.
use Rattle.std.specs.Prelude.{ℕ}
use Rattle.beside_check.specs.declared.AtFault.{AtFault}
use Rattle.beside_check.specs.declared.AtFault.TheVariants as text
use Rattle.beside_check.specs.Beside.{Beside, passed, refused}
use Rattle.host_codes.specs.Code.{code, granted, refused as refused_code}
use Rattle.host_beside.specs.declared.BesideCode.{BesideCode}

-- 1 is the chip and 2 the record, whose line the value then is; 0 is neither
abbrev pub text_number : AtFault → ℕ
text_number text.Neither = 0
text_number text.Chip = 1
text_number text.Record = 2

-- a record that passes: 0, and no text at fault
abbrev pub beside_code : Beside → BesideCode
beside_code passed = record { code = code (granted 0); text = text_number text.Neither }
beside_code (refused number line t) = record { code = code (refused_code number line); text = text_number t }
