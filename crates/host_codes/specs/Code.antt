-- How every exported function answers (embed/jizdovel.h): a number, and a value beside it. This is the one encoding of refusals, lines and results.
use Rattle.std.specs.Prelude.{ℕ, true, false}
use Rattle.text_grammar.specs.Reading.{Reading, accepted, refused as not_read}
use Rattle.text_grammar.specs.Writing.{Answer, wrote, not_written}
use Rattle.measure_held.specs.Answer.{Measure, measured, refused as not_measured}
use Rattle.fit_slots.specs.Fit.{Fit, refused_by, no_fit, placed}
use Rattle.host_codes.specs.declared.Code.{Code}

-- what there is to say: yes or no, with a value, or a refusal with its number and line
pub data Outcome : Type 0 where
  granted : ℕ → Outcome
  denied : ℕ → Outcome
  refused : ℕ → ℕ → Outcome

-- number 0 is yes, 255 is no, any other is document 01's refusal number, with its line as the value
abbrev pub code : Outcome → Code
code (granted value) = record { number = 0; value = value }
code (denied value) = record { number = 255; value = value }
code (refused number line) = record { number = number; value = line }

-- a text is accepted: 0
abbrev pub of_reading : {A : Type 0} → Reading A → Outcome
of_reading (accepted a) = granted 0
of_reading (not_read number line) = refused number line

-- a text is written: its length
abbrev pub of_answer : Answer → Outcome
of_answer (wrote n) = granted n
of_answer (not_written number line) = refused number line

-- legal or not: the wirelength
abbrev pub of_measure : Measure → Outcome
of_measure (measured true wl) = granted wl
of_measure (measured false wl) = denied wl
of_measure (not_measured number line) = refused number line

-- a fit: its wirelength; no fit: 0
abbrev pub of_fit : Fit → Outcome
of_fit (placed wl slots ps) = granted wl
of_fit no_fit = denied 0
of_fit (refused_by number line) = refused number line
