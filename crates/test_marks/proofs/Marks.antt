-- The marked cases hold: computed.
use mathlib.Core.Path.{◌≡◌, refl}
use mathlib.Core.List.{[], ◌∷◌, zip_with, flat_map, product}
use Rattle.num_text.specs.Number.{all_of, value_from, plain, numeral_of, digits_in, digits}
use Rattle.refusals.specs.Tests.{first_failed}
use Rattle.text_grammar.specs.Line.{lines, up_to, from, strip, fields, fields_text}
use Rattle.text_grammar.specs.Words.{is_in, same, word_in, item_text, items_text}
use Rattle.text_grammar.specs.Reading.{step_bytes, read_lines, read_text}
use Rattle.text_grammar.proofs.Every.{Every}
use Rattle.geometry.specs.Box.{clear_of}
use Rattle.chip_text.specs.Kind.{pin_count, add_pin}
use Rattle.chip_text.specs.Text.{read_chip}
use Rattle.record_text.specs.Text.{at_items, record_items, record_text, read_record}
use Rattle.placement.specs.Integers.{within_z, each_two, pairs_z, legal_z, greatest, least as smallest, greatest_of, least_of, nets_length_z}
use Rattle.placement.specs.Letters.{keeps_all_z, keeps_letters_z}
use Rattle.placement.specs.Least.{up_from, placements, try_all, first_least, chip_record}
use Rattle.place_print.specs.Printed.{printed}
use Rattle.host_fit.specs.FitText.{fit_text}
use Rattle.quote.specs.Quote.{quote_text}
use Rattle.text_refusal.specs.Refusal.{refusal_line}
use Rattle.beside_check.specs.Beside.{check_beside}
use Rattle.beside_print.specs.Printed.{printed_beside}
use Rattle.box_text.specs.Text.{box_items, boxed_text}
use Rattle.place_boxes.specs.Boxes.{boxes_text, printed_boxes}
use Rattle.test_marks.specs.Marks.{bytes, text, RecordCase, FitCase, WriteCase, BesideCase, blank, marked_records, marked_fits, marked_quotes, marked_besides, marked_boxes, marked_boxes_lent}

pub marked_records_law : Every (λ (c : RecordCase). printed (text c.chip) ≡ text c.prints) marked_records
unfolding bytes text digits_in digits fields_text item_text items_text at_items record_items record_text all_of value_from plain numeral_of lines up_to from strip fields is_in same word_in step_bytes read_lines read_text pin_count clear_of add_pin read_chip zip_with within_z each_two product pairs_z legal_z greatest smallest greatest_of least_of nets_length_z keeps_all_z keeps_letters_z up_from flat_map placements try_all first_least chip_record
marked_records_law = (refl, (refl, (refl, (refl, (refl, (refl, tt))))))

-- with 22 slots lent, and 4 positions
pub marked_fits_law : Every (λ (c : FitCase). fit_text (text c.chip) (bytes c.letters) 22 4 ≡ c.answer) marked_fits
unfolding bytes text first_failed all_of value_from plain numeral_of lines up_to from strip fields is_in same word_in step_bytes read_lines read_text pin_count clear_of add_pin read_chip zip_with within_z each_two product pairs_z legal_z greatest smallest greatest_of least_of nets_length_z keeps_all_z keeps_letters_z up_from flat_map placements try_all first_least chip_record
marked_fits_law = (refl, (refl, (refl, (refl, (refl, (refl, (refl, (refl, tt))))))))

pub marked_quotes_law : Every (λ (c : WriteCase). quote_text (text c.chip) (blank c.room) ≡ c.left) marked_quotes
unfolding bytes text digits_in digits fields_text item_text items_text at_items record_items record_text all_of value_from plain numeral_of lines up_to from strip fields is_in same word_in step_bytes read_lines read_text pin_count clear_of add_pin read_chip zip_with within_z each_two product pairs_z legal_z greatest smallest greatest_of least_of nets_length_z keeps_all_z keeps_letters_z up_from flat_map placements try_all first_least chip_record
marked_quotes_law = (refl, (refl, (refl, (refl, (refl, (refl, (refl, (refl, tt))))))))

pub marked_besides_law : Every (λ (c : BesideCase). (check_beside (text c.chip) (text c.beside) ≡ c.answer) × (printed_beside (text c.chip) (text c.beside) ≡ text (c.prints ∷ []))) marked_besides
unfolding bytes text digits_in digits refusal_line first_failed all_of value_from plain numeral_of lines up_to from strip fields is_in same word_in step_bytes read_lines read_text pin_count clear_of add_pin read_chip read_record zip_with within_z each_two product pairs_z legal_z greatest smallest greatest_of least_of nets_length_z
marked_besides_law = ((refl, refl), ((refl, refl), ((refl, refl), ((refl, refl), ((refl, refl), ((refl, refl), ((refl, refl), ((refl, refl), tt))))))))

pub marked_boxes_law : Every (λ (c : RecordCase). printed_boxes (text c.chip) ≡ text c.prints) marked_boxes
unfolding refusal_line bytes text digits_in digits fields_text item_text items_text at_items record_items record_text box_items boxed_text all_of value_from plain numeral_of lines up_to from strip fields is_in same word_in step_bytes read_lines read_text pin_count clear_of add_pin read_chip zip_with within_z each_two product pairs_z legal_z greatest smallest greatest_of least_of nets_length_z keeps_all_z keeps_letters_z up_from flat_map placements try_all first_least chip_record
marked_boxes_law = (refl, (refl, (refl, (refl, (refl, tt)))))

pub marked_boxes_lent_law : Every (λ (c : WriteCase). boxes_text (text c.chip) (blank c.room) ≡ c.left) marked_boxes_lent
unfolding bytes text digits_in digits fields_text item_text items_text at_items record_items record_text box_items boxed_text all_of value_from plain numeral_of lines up_to from strip fields is_in same word_in step_bytes read_lines read_text pin_count clear_of add_pin read_chip zip_with within_z each_two product pairs_z legal_z greatest smallest greatest_of least_of nets_length_z keeps_all_z keeps_letters_z up_from flat_map placements try_all first_least chip_record
marked_boxes_lent_law = (refl, (refl, (refl, tt)))
