-- Reading line by line: what is left to read, and each end of the reading.
use mathlib.Core.Path.{◌≡◌, refl, sym, ap}
use mathlib.Core.Bool.{true, false, not, false≢true}
use mathlib.Core.List.{List, flat_map}
use Prim.Native.Nat.{ℕ, ◌+◌, ◌≤◌, ◌<◌}
use lib.ListN.{length}
use borrow.Author.Tests.{not-true, not-false}
use Rattle.std.specs.Prelude.{Result, Ok, Err, Option, Some, None}
use Rattle.model.specs.declared.Chip.{Chip as HeldChip}
use Rattle.model.specs.declared.Refusal.{Refusal}
use Rattle.model.specs.Counted.{taken}
use Rattle.model.specs.Meaning.{Chip, chip_of, first_of, nets_of, blank_fix, blank_mac, blank_net, blank_pin}
use Rattle.model.specs.Held.{held_chip}
use Rattle.model.specs.Limits.{most_fixes, most_macs, most_nets, most_pins}
use Rattle.model.proofs.Holding.{holds_none}
use Rattle.model.proofs.HeldAgain.{held_again}
use Rattle.text_grammar.specs.declared.Following.{Following}
use Rattle.text_grammar.specs.Reading.{Reading, refused, is_last, step_line, part_read}
use Rattle.text_grammar.specs.Steps.{ending, line_end, line_at}
use Rattle.text_grammar.proofs.Left.{Left, text_left, text_fails, text_goes_on, text_ends}
use Rattle.chip_text.specs.declared.ChipWord.TheVariants as word
use Rattle.chip_text.specs.Words.{chip_words}
use Rattle.chip_text.specs.Tests.{last_of, chip_following}
use Rattle.chip_text.specs.Kind.{start, chip_kind, Part}
use Rattle.chip_text.specs.Text.{read_chip}
use Rattle.chip_read.specs.declared.State.{State}
use Rattle.chip_read.specs.State.{Sound, part_of, TakenOk, ReadOk}

pub refuses : (f : Refusal) (read : Reading Chip) → refused f.no f.line ≡ read → ReadOk read (Err f)
refuses f read q = rw (← q) (record { meant = refl; whole = refl })

-- ---- before the first line

abbrev empty : HeldChip → State
empty c = record { last = None; pins = 0; chip = c }

module _ (c : HeldChip) (e : c ≡ held_chip start.chip) where
  pub all_left : (text : List ℕ) → length text ≤ 16384 → (l : ℕ) → l ≡ 1 → Left chip_kind start text (part_of (empty c)) 0 l
  unfolding chip_of first_of nets_of
  all_left text h l q = rw (q, e) (text_left chip_kind start text h)

  pub empty_sound : Sound (empty c)
  unfolding first_of taken flat_map
  empty_sound =
      rw e
      (record {
        fixes = holds_none blank_fix most_fixes;
        macs = holds_none blank_mac most_macs;
        nets = holds_none blank_net most_nets;
        pins = holds_none blank_pin most_pins;
        counted = refl;
        opened = λ o. absurd (false≢true o);
      })

-- ---- a line

module _ (text : List ℕ) (a : ℕ) (s : State) (t : Result State Refusal) (line : ℕ) (h : a < length text) (left : Left chip_kind start text (part_of s) a line) (z : ℕ) (e : z ≡ line_end text a) (ok : TakenOk t line (step_line chip_kind (part_of s) (line_at text a z))) where
  pub line_fails : (f : Refusal) → t ≡ Err f → refused f.no f.line ≡ read_chip text
  unfolding read_chip
  line_fails f g =
      let own : f.line ≡ line = rw g at ok.ok.at in
      rw own (ap (part_read (λ (s : Part). s.chip)) (text_fails chip_kind start text (part_of s) a line left z e h f.no (rw g at ok.ok.meant)))

  pub line_read : (u : State) → t ≡ Ok u → Left chip_kind start text (part_of u) (z + 1) (line + 1)
  line_read u g = text_goes_on chip_kind start text (part_of s) a line left z e h (part_of u) (rw g at ok.ok.meant)

-- ---- after the last line

pub all_read : (text : List ℕ) (s : State) (a line : ℕ) → Left chip_kind start text (part_of s) a line → length text ≤ a → (r : Result HeldChip Refusal) → ReadOk (part_read (λ (s : Part). s.chip) (ending chip_kind (part_of s) line)) r → ReadOk (read_chip text) r
unfolding read_chip
all_read text s a line left h r ok = rw (text_ends chip_kind start text (part_of s) a line left h) ok

module _ (s : State) (line : ℕ) (f : Following) (row : f ≡ chip_following (last_of s.last)) where
  own : f.over ≡ is_last chip_words (last_of s.last) word.End
  unfolding chip_following
  own = ap (λ (x : Following). x.over) row

  pub complete : Sound s → not f.over ≡ false → ReadOk (part_read (λ (s : Part). s.chip) (ending chip_kind (part_of s) line)) (Ok s.chip)
  complete sound h =
      record {
        meant = rw (← own, not-false f.over h);
        whole = rw (← own, not-false f.over h) (ap Ok (sym (held_again s.chip s.pins sound.fixes sound.macs sound.nets sound.pins sound.counted)));
      }

  pub not_complete : not f.over ≡ true → refused 5 line ≡ part_read (λ (s : Part). s.chip) (ending chip_kind (part_of s) line)
  not_complete h = rw (← own, not-true f.over h)
