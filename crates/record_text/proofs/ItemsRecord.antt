-- A record can be told from its lines: `same_items`.
use mathlib.Core.Path.{◌≡◌, refl, sym, ap, ◌∙◌}
use mathlib.Core.List.{List, [], ◌∷◌, ◌++◌}
use Prim.Native.Nat.{ℕ, suc}
use Rattle.model.specs.declared.Spot.{Spot}
use Rattle.record_text.specs.declared.RecordWord.{RecordWord}
use Rattle.record_text.specs.declared.RecordWord.TheVariants as word
use Rattle.model.specs.Meaning.{Record, none, least}
use Rattle.text_grammar.specs.Line.{Value}
use Rattle.text_grammar.specs.Words.{size}
use Rattle.record_text.specs.Kind.{spot_of}
use Rattle.record_text.specs.Text.{Item, done_item, at_items, record_items}

-- the spots that lines say, and the record
abbrev spot_first : RecordWord → List Value → List Spot → List Spot
spot_first word.Least vs ps = ps
spot_first word.None vs ps = ps
spot_first word.At vs ps = spot_of vs ∷ ps
spot_first word.Done vs ps = ps

abbrev spots : List Item → List Spot
spots [] = []
spots (i ∷ is) = spot_first i.word i.values (spots is)

abbrev record_first : RecordWord → List Value → List Spot → Record
record_first word.Least vs ps = least (size vs 0) ps
record_first word.None vs ps = none
record_first word.At vs ps = none
record_first word.Done vs ps = none

abbrev said : List Item → Record
said [] = none
said (i ∷ is) = record_first i.word i.values (spots is)

said_spots : (m : ℕ) (ps : List Spot) → spots (at_items m ps ++ (done_item ∷ [])) ≡ ps
unfolding at_items
said_spots m [] = refl
said_spots m (p ∷ ps) = ap (λ (s : List Spot). p ∷ s) (said_spots (suc m) ps)

said_record : (r : Record) → said (record_items r) ≡ r
unfolding record_items
said_record none = refl
said_record (least wl ps) = ap (least wl) (said_spots 1 ps)

pub same_items : (r d : Record) → record_items r ≡ record_items d → r ≡ d
same_items r d e = sym (said_record r) ∙ (ap said e ∙ said_record d)
