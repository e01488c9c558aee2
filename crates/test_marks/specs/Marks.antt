-- The marked cases of document 01, and those of Cards 1, 2, 11 and 12 in document 02, from bytes to bytes: what is printed for a chip's text, with boxes and
-- without, the fit of a letter string, what the quoting page and the service with boxes say and write, and what is answered and printed for a record beside its
-- chip.
use Rattle.std.specs.Prelude.{ℕ, List, [], ◌∷◌, ◌++◌, replicate}
use Prim.Native.Char.{code}
use Prim.Native.String.{String, [] as empty, ◌∷◌ as ◌▹◌}
use Rattle.text_grammar.specs.Line.{line_feed}
use Rattle.text_grammar.specs.Writing.{Written, wrote, refuse}
use Rattle.beside_check.specs.declared.AtFault.TheVariants as at
use Rattle.beside_check.specs.Beside.{Beside, passed, refused}
use Rattle.fit_slots.specs.Fit.{Fit, refused_by, no_fit, placed}

-- the bytes of ASCII characters
unfoldable pub bytes : String → List ℕ
bytes empty = []
bytes (c ▹ s) = code c ∷ bytes s

-- the bytes of lines, each with its LF
unfoldable pub text : List String → List ℕ
text [] = []
text (s ∷ ls) = bytes s ++ (line_feed ∷ text ls)

-- a chip, and what is printed for it
pub record RecordCase : Type 0 where
  pub chip : List String
  pub prints : List String

-- a chip, letters, and their fit: its length, the number of its slots and its corners, or none, or the refusal
pub record FitCase : Type 0 where
  pub chip : List String
  pub letters : String
  pub answer : Fit

-- a chip, how many bytes are lent, and what is answered and left there
pub record WriteCase : Type 0 where
  pub chip : List String
  pub room : ℕ
  pub left : Written

-- a chip, a record, what is answered for the record beside the chip, and what is printed
pub record BesideCase : Type 0 where
  pub chip : List String
  pub beside : List String
  pub answer : Beside
  pub prints : String

-- what n lent bytes hold before
abbrev pub blank : ℕ → List ℕ
blank n = replicate n 35

abbrev pub example : List String
example = "die,w,5,h,3" ∷ "fix,x,2,y,0,w,1,h,2" ∷ "mac,w,2,h,2" ∷ "mac,w,2,h,1" ∷ "net,w,3" ∷ "pin,m,1,x,0,y,0" ∷ "pin,m,2,x,0,y,0" ∷ "end" ∷ []

abbrev pub marked_records : List RecordCase
marked_records =
    record { chip = example; prints = "least,wl,3" ∷ "at,m,1,x,0,y,1" ∷ "at,m,2,x,0,y,0" ∷ "done" ∷ [] } ∷
    record { chip = "die,w,3,h,1" ∷ "mac,w,2,h,1" ∷ "mac,w,2,h,1" ∷ "end" ∷ []; prints = "none" ∷ "done" ∷ [] } ∷
    record { chip = "die,w,4,h,1" ∷ "mac,w,2,h,1" ∷ "mac,w,2,h,1" ∷ "end" ∷ []; prints = "least,wl,0" ∷ "at,m,1,x,0,y,0" ∷ "at,m,2,x,2,y,0" ∷ "done" ∷ [] } ∷
    record { chip = "die,w,4,h,1" ∷ "net,w,2" ∷ "pin,m,0,x,-2,y,0" ∷ "pin,m,0,x,3,y,1" ∷ "end" ∷ []; prints = "least,wl,12" ∷ "done" ∷ [] } ∷
    record { chip = "die,w,2,h,1" ∷ "fix,x,0,y,0,w,1,h,1" ∷ "mac,w,1,h,1" ∷ "end" ∷ []; prints = "least,wl,0" ∷ "at,m,1,x,1,y,0" ∷ "done" ∷ [] } ∷
    record { chip = "die,w,2,h,1" ∷ "fix,x,0,y,0,w,1,h,1" ∷ "mac,w,2,h,1" ∷ "end" ∷ []; prints = "none" ∷ "done" ∷ [] } ∷
    []

abbrev pub marked_fits : List FitCase
marked_fits =
    record { chip = example; letters = "ALL"; answer = placed 3 22 (record { x = 0; y = 1 } ∷ record { x = 0; y = 0 } ∷ []) } ∷
    record { chip = example; letters = "BLL"; answer = placed 6 22 (record { x = 0; y = 0 } ∷ record { x = 0; y = 2 } ∷ []) } ∷
    record { chip = example; letters = "LLR"; answer = placed 9 22 (record { x = 0; y = 0 } ∷ record { x = 3; y = 0 } ∷ []) } ∷
    record { chip = example; letters = "LLL"; answer = no_fit } ∷
    record { chip = example; letters = "..."; answer = placed 0 22 (record { x = 0; y = 0 } ∷ record { x = 0; y = 0 } ∷ []) } ∷
    record { chip = example; letters = ""; answer = placed 0 22 (record { x = 0; y = 0 } ∷ record { x = 0; y = 0 } ∷ []) } ∷
    record { chip = example; letters = ".."; answer = refused_by 11 0 } ∷
    record { chip = example; letters = "...."; answer = refused_by 11 0 } ∷
    []

-- chips a macro, a fix and a pin beyond the page's limits, and one at all of them, whose macros are wider than the die
abbrev pub five_macros : List String
five_macros = "die,w,5,h,1" ∷ "mac,w,1,h,1" ∷ "mac,w,1,h,1" ∷ "mac,w,1,h,1" ∷ "mac,w,1,h,1" ∷ "mac,w,1,h,1" ∷ []

abbrev pub three_fixes : List String
three_fixes = "die,w,3,h,1" ∷ "fix,x,0,y,0,w,1,h,1" ∷ "fix,x,1,y,0,w,1,h,1" ∷ "fix,x,2,y,0,w,1,h,1" ∷ "end" ∷ []

abbrev pub pads : ℕ → List String
pads n = replicate n "pin,m,0,x,0,y,0"

abbrev pub seventeen_pins : List String
seventeen_pins = "die,w,1,h,1" ∷ "net,w,1" ∷ pads 9 ++ ("net,w,1" ∷ pads 8 ++ ("end" ∷ []))

abbrev pub at_limits : List String
at_limits =
    "die,w,2,h,1" ∷ "fix,x,0,y,0,w,1,h,1" ∷ "fix,x,1,y,0,w,1,h,1" ∷ "mac,w,3,h,1" ∷ "mac,w,3,h,1" ∷ "mac,w,3,h,1" ∷ "mac,w,3,h,1" ∷ "net,w,1" ∷
    pads 9 ++ ("net,w,1" ∷ pads 7 ++ ("end" ∷ []))

abbrev pub marked_quotes : List WriteCase
marked_quotes =
    record { chip = example; room = 50; left = record { answer = wrote 46; buffer = text ("least,wl,3" ∷ "at,m,1,x,0,y,1" ∷ "at,m,2,x,0,y,0" ∷ "done" ∷ []) ++ blank 4 } } ∷
    record { chip = example; room = 45; left = refuse 15 0 (blank 45) } ∷
    record { chip = five_macros ++ ("end" ∷ []); room = 50; left = refuse 22 0 (blank 50) } ∷
    record { chip = five_macros ++ ("end" ∷ []); room = 0; left = refuse 22 0 [] } ∷
    record { chip = five_macros; room = 50; left = refuse 5 7 (blank 50) } ∷
    record { chip = three_fixes; room = 50; left = refuse 22 0 (blank 50) } ∷
    record { chip = seventeen_pins; room = 50; left = refuse 22 0 (blank 50) } ∷
    record { chip = at_limits; room = 10; left = record { answer = wrote 10; buffer = text ("none" ∷ "done" ∷ []) } } ∷
    []

abbrev pub marked_besides : List BesideCase
marked_besides =
    record { chip = example; beside = "least,wl,3" ∷ "at,m,1,x,0,y,1" ∷ "at,m,2,x,0,y,0" ∷ "done" ∷ []; answer = passed; prints = "passed" } ∷
    record { chip = example; beside = "least,wl,6" ∷ "at,m,1,x,0,y,0" ∷ "at,m,2,x,0,y,2" ∷ "done" ∷ []; answer = passed; prints = "passed" } ∷
    record { chip = example; beside = "none" ∷ "done" ∷ []; answer = passed; prints = "passed" } ∷
    record { chip = example; beside = "least,wl,1" ∷ "at,m,1,x,0,y,0" ∷ "done" ∷ []; answer = refused 13 0 at.Neither; prints = "refused,no,13,line,0" } ∷
    record { chip = example; beside = "least,wl,1" ∷ "at,m,1,x,0,y,0" ∷ "at,m,2,x,2,y,0" ∷ "done" ∷ []; answer = refused 16 0 at.Neither; prints = "refused,no,16,line,0" } ∷
    record { chip = example; beside = "least,wl,4" ∷ "at,m,1,x,0,y,1" ∷ "at,m,2,x,0,y,0" ∷ "done" ∷ []; answer = refused 17 0 at.Neither; prints = "refused,no,17,line,0" } ∷
    record { chip = example; beside = "least,wl,3" ∷ "at,m,1,x,0,y,1" ∷ "at,m,2,x,0,y,0" ∷ []; answer = refused 5 4 at.Record; prints = "refused,no,5,line,4" } ∷
    record { chip = "die,w,5" ∷ []; beside = "x" ∷ []; answer = refused 2 1 at.Chip; prints = "refused,no,2,line,1" } ∷
    []

-- what is printed with the boxes: of the example, of a chip with a net and without a placement, of pads off the die, of nets of one macro that a pad draws to
-- x 4, the second of one pin outside it, and of a text that is refused
abbrev pub boxed_example : List String
boxed_example = "least,wl,3" ∷ "at,m,1,x,0,y,1" ∷ "at,m,2,x,0,y,0" ∷ "done" ∷ "box,n,1,l,0,r,0,b,0,t,1" ∷ []

abbrev pub marked_boxes : List RecordCase
marked_boxes =
    record { chip = example; prints = boxed_example } ∷
    record { chip = "die,w,3,h,1" ∷ "mac,w,2,h,1" ∷ "mac,w,2,h,1" ∷ "net,w,1" ∷ "pin,m,1,x,0,y,0" ∷ "end" ∷ []; prints = "none" ∷ "done" ∷ [] } ∷
    record { chip = "die,w,4,h,1" ∷ "net,w,2" ∷ "pin,m,0,x,-2,y,0" ∷ "pin,m,0,x,3,y,1" ∷ "end" ∷ []; prints = "least,wl,12" ∷ "done" ∷ "box,n,1,l,-2,r,3,b,0,t,1" ∷ [] } ∷
    record { chip = "die,w,5,h,1" ∷ "mac,w,1,h,1" ∷ "net,w,1" ∷ "pin,m,1,x,0,y,0" ∷ "pin,m,0,x,4,y,0" ∷ "net,w,2" ∷ "pin,m,1,x,-6,y,3" ∷ "end" ∷ []; prints = "least,wl,0" ∷ "at,m,1,x,4,y,0" ∷ "done" ∷ "box,n,1,l,4,r,4,b,0,t,0" ∷ "box,n,2,l,-2,r,-2,b,3,t,3" ∷ [] } ∷
    record { chip = "die,w,5" ∷ []; prints = "refused,no,2,line,1" ∷ [] } ∷
    []

-- the same into lent bytes: 70 are enough for the example, 69 are not, and the 46 of its record alone are not
abbrev pub marked_boxes_lent : List WriteCase
marked_boxes_lent =
    record { chip = example; room = 72; left = record { answer = wrote 70; buffer = text boxed_example ++ blank 2 } } ∷
    record { chip = example; room = 69; left = refuse 15 0 (blank 69) } ∷
    record { chip = example; room = 46; left = refuse 15 0 (blank 46) } ∷
    []
