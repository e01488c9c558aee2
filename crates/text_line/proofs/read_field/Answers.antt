-- A field: its name, its string or its number, its range.
use Rattle.text_line.proofs.OneField.{no_mark, not_here, name_end, field_end, field_end_fits, no_string, string_read, no_number_law, too_far_below, negative, positive, magnitude_fits}
use borrow.Author.Rules.{rules}
use Rattle.text_line.proofs.read_field.Goals as goal

pub returns-then-no-ne0 : goal.returns-then-no-ne0
returns-then-no-ne0 c = search no_mark

pub returns-then-not-starts_at : goal.returns-then-not-starts_at
returns-then-not-starts_at c = search not_here

pub slice_bounds-bytes_before-count : goal.slice_bounds-bytes_before-count
slice_bounds-bytes_before-count c = search name_end

pub overflow_add-b : goal.overflow_add-b
overflow_add-b c = search (rules, field_end_fits)

pub returns-then-not-is_string : goal.returns-then-not-is_string
returns-then-not-is_string c = search no_string

pub returns-then-rule-ne0 : goal.returns-then-rule-ne0
returns-then-rule-ne0 c = search string_read

pub returns-in_default : goal.returns-in_default
returns-in_default c = search no_number_law

pub returns-then-up-number : goal.returns-then-up-number
returns-then-up-number c = search too_far_below

pub returns-then-number : goal.returns-then-number
returns-then-number c = search negative

pub overflow_add-up : goal.overflow_add-up
overflow_add-up c = search (rules, magnitude_fits)

pub returns : goal.returns
returns c = search positive

pub slice_bounds-is_string-end : goal.slice_bounds-is_string-end
slice_bounds-is_string-end c = search (rules, field_end)

pub slice_bounds-read_number-end : goal.slice_bounds-read_number-end
slice_bounds-read_number-end c = search (rules, field_end)
