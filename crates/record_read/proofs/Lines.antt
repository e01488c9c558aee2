-- Reading line by line: what is left to read, and each end of the reading.
use mathlib.Core.Path.{◌≡◌, refl, sym, ap, ap₂, subst}
use mathlib.Core.Bool.{true, false, not, false≢true}
use mathlib.Core.List.{List}
use Prim.Native.Nat.{ℕ, ◌+◌, ◌≤◌, ◌<◌}
use lib.ListN.{length, replicate}
use borrow.Author.Tests.{not-true, not-false}
use Rattle.std.specs.Prelude.{Result, Ok, Err, Option, Some, None}
use Rattle.model.specs.declared.Spot.{Spot}
use Rattle.model.specs.declared.Outcome.TheVariants as outcome
use Rattle.model.specs.declared.Record.{Record as HeldRecord}
use Rattle.model.specs.declared.Refusal.{Refusal}
use Rattle.model.specs.Meaning.{Record, record_of, first_of, blank_spot}
use Rattle.model.specs.Limits.{most_macs}
use Rattle.model.specs.Held.{filled}
use Rattle.model.proofs.FirstOf.{length_first}
use Rattle.model.proofs.Holding.{holds_all, holds_none, filled_again}
use Rattle.text_grammar.specs.declared.Following.{Following}
use Rattle.text_grammar.specs.Reading.{Reading, refused, is_last, step_line, part_read}
use Rattle.text_grammar.specs.Steps.{ending, line_end, line_at}
use Rattle.text_grammar.proofs.Left.{Left, text_left, text_fails, text_goes_on, text_ends}
use Rattle.record_text.specs.declared.RecordWord.TheVariants as word
use Rattle.record_text.specs.Words.{record_words}
use Rattle.record_text.specs.Tests.{last_of, record_following}
use Rattle.record_text.specs.Kind.{start, record_kind, Part}
use Rattle.record_text.specs.Text.{read_record}
use Rattle.record_read.specs.declared.State.{State}
use Rattle.record_read.specs.State.{Sound, part_of, TakenOk, RecordIs, ReadOk}

pub refuses : (f : Refusal) (read : Reading Record) → refused f.no f.line ≡ read → ReadOk read (Err f)
refuses f read q = rw (← q) (record { meant = refl; whole = refl })

-- ---- before the first line

module _ (ps : List Spot) (e : ps ≡ replicate 8 blank_spot) where
  pub empty_sound : Sound (record { last = None; wl = None; count = 0; spots = ps })
  empty_sound = record { spots = rw e (holds_none blank_spot most_macs); blank = λ f. refl; opened = λ o. absurd (false≢true o) }

pub all_left : (text : List ℕ) → length text ≤ 16384 → (l : ℕ) → l ≡ 1 → Left record_kind start text start 0 l
all_left text h l q = rw q (text_left record_kind start text h)

-- ---- a line

module _ (text : List ℕ) (a : ℕ) (s : State) (t : Result State Refusal) (line : ℕ) (h : a < length text) (left : Left record_kind start text (part_of s) a line) (z : ℕ) (e : z ≡ line_end text a) (ok : TakenOk t line (step_line record_kind (part_of s) (line_at text a z))) where
  pub line_fails : (f : Refusal) → t ≡ Err f → refused f.no f.line ≡ read_record text
  unfolding read_record
  line_fails f g =
      let own : f.line ≡ line = rw g at ok.ok.at in
      rw own (ap (part_read (λ (s : Part). s.result)) (text_fails record_kind start text (part_of s) a line left z e h f.no (rw g at ok.ok.meant)))

  pub line_read : (u : State) → t ≡ Ok u → Left record_kind start text (part_of u) (z + 1) (line + 1)
  line_read u g = text_goes_on record_kind start text (part_of s) a line left z e h (part_of u) (rw g at ok.ok.meant)

-- ---- after the last line

pub all_read : (text : List ℕ) (s : State) (a line : ℕ) → Left record_kind start text (part_of s) a line → length text ≤ a → (r : Result HeldRecord Refusal) → ReadOk (part_read (λ (s : Part). s.result) (ending record_kind (part_of s) line)) r → ReadOk (read_record text) r
unfolding read_record
all_read text s a line left h r ok = rw (text_ends record_kind start text (part_of s) a line left h) ok

module _ (s : State) (sound : Sound s) where
  pub least_held : (wl : ℕ) → s.wl ≡ Some wl → RecordIs (record { outcome = outcome.Least wl s.count; spots = s.spots }) (part_of s).result
  unfolding record_of
  least_held wl e =
      rw e
      (record {
        meant = refl;
        whole =
            ap₂ (λ (n : ℕ) (ps : List Spot). record { outcome = outcome.Least wl n; spots = ps })
            (sym (length_first blank_spot s.count s.spots (holds_all sound.spots)))
            (sym (filled_again blank_spot most_macs s.count s.spots sound.spots));
      })

  pub none_held : s.wl ≡ None → RecordIs (record { outcome = outcome.None; spots = s.spots }) (part_of s).result
  unfolding record_of first_of
  none_held e =
      let blank : replicate most_macs blank_spot ≡ s.spots = subst (λ (n : ℕ). filled most_macs blank_spot (first_of blank_spot n s.spots) ≡ s.spots) (sound.blank e) (filled_again blank_spot most_macs s.count s.spots sound.spots) in
      rw e (record { meant = refl; whole = ap (λ (ps : List Spot). record { outcome = outcome.None; spots = ps }) (sym blank) })

module _ (s : State) (line : ℕ) (f : Following) (row : f ≡ record_following (last_of s.last)) where
  own : f.over ≡ is_last record_words (last_of s.last) word.Done
  unfolding record_following
  own = ap (λ (x : Following). x.over) row

  pub complete : not f.over ≡ false → (r : HeldRecord) → RecordIs r (part_of s).result → ReadOk (part_read (λ (s : Part). s.result) (ending record_kind (part_of s) line)) (Ok r)
  complete h r q =
      record {
        meant = rw (← own, not-false f.over h, q.meant);
        whole = rw (← own, not-false f.over h) (ap Ok q.whole);
      }

  pub not_complete : not f.over ≡ true → refused 5 line ≡ part_read (λ (s : Part). s.result) (ending record_kind (part_of s) line)
  not_complete h = rw (← own, not-true f.over h)
