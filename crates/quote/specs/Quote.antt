-- What the search behind the quoting page answers and leaves in the lent buffer (document 02, Card 11): the refusals of reading the chip, then 22 beyond
-- the page's limits, then what the design desk's search says and writes.
use Rattle.std.specs.Prelude.{ℕ, List}
use Rattle.text_grammar.specs.Writing.{Written}
use Rattle.chip_text.specs.Text.{read_chip}
use Rattle.quote_page.specs.Page.{page_read}
use Rattle.search.specs.Place.{place_read}

abbrev pub quote_text : List ℕ → List ℕ → Written
quote_text text out = place_read (page_read (read_chip text)) out
