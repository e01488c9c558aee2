-- Every accepted chip is valid: `accepted_valid`.
-- Each line of an accepted text keeps what is sound (`Sound`), and after the last line a sound chip is valid.
use Prim.Native.Nat.{ℕ, suc}
use mathlib.Core.Path.{◌≡◌, ap, subst}
use mathlib.Core.Bool.{true, false, false≢true}
use mathlib.Core.List.{List, [], ◌∷◌}
use lib.ListN.{length}
use Rattle.model.specs.Meaning.{Chip}
use Rattle.chip_text.specs.declared.ChipWord.{ChipWord}
use Rattle.chip_text.specs.declared.ChipWord.TheVariants as word
use Rattle.model.specs.Step.{next}
use Rattle.text_grammar.specs.Steps.{in_place}
use Rattle.text_grammar.specs.Reading.{Last, before, after, is_last, accepted, read_text}
use Rattle.text_grammar.proofs.Words.{is_word_equal}
use Rattle.text_grammar.proofs.Items.{Formed, WellFormed, item_step, run_items, check_next, onward_accepted, items_read, read_text_lines}
use Rattle.text_grammar.proofs.Meaning.{part_accepted}
use Rattle.text_grammar.proofs.Run.{step_passed, ending_accepted}
use Rattle.chip_text.specs.Kind.{Part, start, counts, counts_of, room, pinned, chip_kind}
use Rattle.text_grammar.specs.Words.{same}
use Rattle.chip_text.specs.Words.{chip_words}
use Rattle.chip_text.specs.Text.{Item, read_chip}
use Rattle.chip_text.proofs.Told.{words_told}
use Rattle.chip_text.specs.Valid.{ValidNet, Valid, no_net}
use Rattle.chip_text.proofs.LineValues.{item_ranges}
use Rattle.chip_text.proofs.NetsRead.{NetsRead, every_at}
use Rattle.chip_text.proofs.LineSound.{Sound, is_before, at_start, sound_add}

sound_step : (s s' : Part) (i : Item) → Formed chip_words i → item_step chip_kind s i ≡ next s' → Sound s → Sound s'
unfolding item_step
sound_step s s' i f e v =
    let w : ChipWord = i.word in
    let p = step_passed chip_kind s s' i f e in
    let d = check_next (in_place chip_kind s w) 5 _ s' e in
    let g = check_next (room counts (counts_of s.chip) w) 6 _ s' d.1 in
    let h = check_next (pinned s.last w) 7 _ s' g.1 in
    sound_add s s' v w i.values (item_ranges i f p.within) p.in_place_law g.0 h.0 p.added

sound_run : (s s' : Part) (n : ℕ) (is : List Item) → WellFormed chip_kind is → run_items chip_kind s n is ≡ accepted s' → Sound s → Sound s' × (is_last chip_words s'.last word.End ≡ true)
unfolding run_items
sound_run s s' n [] f e v = let q = ending_accepted chip_kind s s' n e in rw (← q.0) (v, q.1)
sound_run s s' n (i ∷ is) f e v =
    let o = onward_accepted (item_step chip_kind s i) n (λ t. run_items chip_kind t (suc n) is) s' e in
    sound_run o.0 s' (suc n) is f.1 o.2 (sound_step s o.0 i f.0 o.1 v)

-- the last word is that one
last_word : (l : Last ChipWord) (w : ChipWord) → is_last chip_words l w ≡ true → l ≡ after w
last_word before w e = absurd (false≢true e)
last_word (after v) w e = ap after (is_word_equal chip_words words_told v w e)

-- after the last line
sound_valid : (s : Part) → Sound s → s.last ≡ after word.End → Valid s.chip
unfolding same
sound_valid s v e =
    let d = v.die (ap is_before e) in
    let n = subst (λ (l : Last ChipWord). NetsRead (length s.chip.macs) (is_last chip_words l word.Net) s.chip.nets) e v.nets in
    record {
      die_w = d.0;
      die_h = d.1;
      fix_count = v.fix_count;
      mac_count = v.mac_count;
      net_count = v.net_count;
      pins = v.pins;
      fix = v.fix;
      mac = v.mac;
      net = every_at (ValidNet (length s.chip.macs)) no_net s.chip.nets n;
    }

-- a chip that a text is accepted as is valid
pub accepted_valid : (t : List ℕ) (c : Chip) → read_chip t ≡ accepted c → Valid c
unfolding read_chip
accepted_valid t c e =
    let b = part_accepted (λ (s : Part). s.chip) (read_text chip_kind start t) c e in
    let i = items_read chip_kind words_told start b.0 1 t (read_text_lines chip_kind start t b.0 b.1) in
    let r = sound_run start b.0 1 i.items i.formed i.run at_start in
    subst Valid b.2 (sound_valid b.0 r.0 (last_word b.0.last word.End r.1))
