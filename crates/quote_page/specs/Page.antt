-- The quoting page (document 02, Card 11): "Sales run the search behind a web page and must keep it to 4 macros, 2 fixes and 16 pins. .. It refuses an
-- accepted chip beyond them by 22, line 0, after the reading."
use Rattle.std.specs.Prelude.{ℕ, Bool, ◌&&◌, cond, leb}
use Rattle.model.specs.Meaning.{Chip}
use Rattle.text_grammar.specs.Reading.{Reading, accepted, refused}
use Rattle.chip_text.specs.Kind.{Counts, counts_of}

-- the page's limits, each once: how many macros, fixes and pins a chip has at most; nets have no limit of their own
abbrev pub page_macs : ℕ
page_macs = 4

abbrev pub page_fixes : ℕ
page_fixes = 2

abbrev pub page_pins : ℕ
page_pins = 16

-- a chip with these counts is within them
abbrev pub within_page : Counts → Bool
within_page n = leb n.macs page_macs && (leb n.fixes page_fixes && leb n.pins page_pins)

-- what the page makes of a reading: its refusal stays; an accepted chip beyond the limits is refused by 22, line 0
abbrev pub page_read : Reading Chip → Reading Chip
page_read (accepted c) = cond (within_page (counts_of c)) (accepted c) (refused 22 0)
page_read (refused n l) = refused n l
