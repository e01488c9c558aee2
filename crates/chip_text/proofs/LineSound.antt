-- What has been read of a chip so far is valid, but that the last net may have no pin yet and that the die is missing before the first line: `Sound`. Each line keeps this: `sound_add`.
use Prim.{tt}
use Prim.Native.Nat.{ℕ, ◌≤◌, ◌<◌}
use native.Mathlib.Omega.{arith}
use mathlib.Core.Path.{◌≡◌, refl}
use mathlib.Core.Bool.{Bool, true, false, not, ◌||◌, true≢false, false≢true}
use mathlib.Core.List.{List, [], ◌∷◌, ◌++◌, map}
use lib.Dec.{leb}
use lib.ListN.{length, get_or, length-append}
use borrow.Author.Tests.{leb-true, ltb-true}
use Rattle.model.specs.Meaning.{blank_fix, blank_mac}
use Rattle.chip_text.specs.declared.ChipWord.{ChipWord}
use Rattle.chip_text.specs.declared.ChipWord.TheVariants as word
use Rattle.geometry.specs.Box.{box_of, in_die, clear_of}
use Rattle.model.specs.Step.{next}
use Rattle.text_grammar.specs.Line.{Value}
use Rattle.text_grammar.specs.Words.{same, is_word, is_in, size}
use Rattle.text_grammar.specs.Reading.{Last, before, after, is_last}
use Rattle.text_grammar.proofs.Items.{check_next}
use Rattle.chip_text.specs.Words.{chip_words}
use Rattle.chip_text.specs.Kind.{Part, start, followers, counts, counts_of, room, pinned, pin_count, fix_of, mac_of, net_of, pin_of, add}
use Rattle.chip_text.specs.Valid.{Between, ValidFix, ValidMac}
use Rattle.chip_text.proofs.LineValues.{Ranges, die_valid, fix_valid, mac_valid, weight_valid, pin_valid}
use Rattle.chip_text.proofs.NetsRead.{NetsRead, each_snoc, count_net, count_pin, length_pin, nets_more, net_read, pin_read}

-- no line has been read
abbrev pub is_before : Last ChipWord → Bool
is_before before = true
is_before (after w) = false

pub record Sound (s : Part) : Type 0 where
  pub die : is_before s.last ≡ false → Between 1 s.chip.die.w 1024 × Between 1 s.chip.die.h 1024
  pub fix_count : length s.chip.fixes ≤ 8
  pub mac_count : length s.chip.macs ≤ 8
  pub net_count : length s.chip.nets ≤ 32
  pub pins : pin_count s.chip.nets ≤ 128
  pub fix : (i : ℕ) → i < length s.chip.fixes → ValidFix (get_or s.chip.fixes i blank_fix)
  pub mac : (i : ℕ) → i < length s.chip.macs → ValidMac (get_or s.chip.macs i blank_mac)
  pub nets : NetsRead (length s.chip.macs) (is_last chip_words s.last word.Net) s.chip.nets

pub at_start : Sound start
unfolding pin_count
at_start = record {
  die = λ e. absurd (true≢false e);
  fix_count = omega arith;
  mac_count = omega arith;
  net_count = omega arith;
  pins = omega arith;
  fix = λ i h. absurd (omega arith);
  mac = λ i h. absurd (omega arith);
  nets = tt;
}

sound_next : {s s' : Part} → next s ≡ next s' → Sound s → Sound s'
sound_next {s} {s'} a t = let e : s' ≡ s = cc in rw e t

-- a line that is no pin does not follow a net
no_net_law : (b : Bool) → (not b || false) ≡ true → b ≡ false
no_net_law true e = absurd (false≢true e)
no_net_law false e = refl

-- only the die is first
not_first : (l : Last ChipWord) (w : ChipWord) → is_word chip_words w word.Die ≡ false → is_in chip_words w (followers l) ≡ true → is_before l ≡ false
unfolding is_in
not_first before w d e = absurd (false≢true (rw d at e))
not_first (after v) w d e = refl

-- a line keeps what is sound
module _ (s s' : Part) (v : Sound s) where
  all_valid : (not (is_last chip_words s.last word.Net) || false) ≡ true → NetsRead (length s.chip.macs) false s.chip.nets
  all_valid e = rw (no_net_law (is_last chip_words s.last word.Net) e) at v.nets

  pub sound_add : (w : ChipWord) (vs : List Value) → Ranges w vs → is_in chip_words w (followers s.last) ≡ true → room counts (counts_of s.chip) w ≡ true → pinned s.last w ≡ true → add s w vs ≡ next s' → Sound s'
  unfolding same
  sound_add word.Die vs r p h q a = sound_next a (record { die = λ e. die_valid vs r; fix_count = v.fix_count; mac_count = v.mac_count; net_count = v.net_count; pins = v.pins; fix = v.fix; mac = v.mac; nets = all_valid q })
  sound_add word.Fix vs r p h q a =
      let d = check_next (in_die s.chip.die (box_of (fix_of vs))) 9 _ s' a in
      let o = check_next (clear_of 0 (box_of (fix_of vs)) (map box_of s.chip.fixes)) 10 _ s' d.1 in
      let n = ltb-true (length s.chip.fixes) 8 h in
      sound_next o.1 (record { die = λ e. v.die (not_first s.last word.Fix refl p); fix_count = rw length-append (omega arith); mac_count = v.mac_count; net_count = v.net_count; pins = v.pins; fix = each_snoc ValidFix blank_fix s.chip.fixes (fix_of vs) v.fix (fix_valid vs r); mac = v.mac; nets = all_valid q })
  sound_add word.Mac vs r p h q a =
      let n = ltb-true (length s.chip.macs) 8 h in
      sound_next a (record { die = λ e. v.die (not_first s.last word.Mac refl p); fix_count = v.fix_count; mac_count = rw length-append (omega arith); net_count = v.net_count; pins = v.pins; fix = v.fix; mac = each_snoc ValidMac blank_mac s.chip.macs (mac_of vs) v.mac (mac_valid vs r); nets = nets_more (length s.chip.macs) (length (s.chip.macs ++ (mac_of vs ∷ []))) (rw length-append (omega arith)) s.chip.nets (all_valid q) })
  sound_add word.Net vs r p h q a =
      let n = ltb-true (length s.chip.nets) 32 h in
      sound_next a (record { die = λ e. v.die (not_first s.last word.Net refl p); fix_count = v.fix_count; mac_count = v.mac_count; net_count = rw length-append (omega arith); pins = rw count_net (omega (arith, v.pins)); fix = v.fix; mac = v.mac; nets = net_read (length s.chip.macs) s.chip.nets (net_of vs) (all_valid q) (record { weight = weight_valid vs r; pin = λ i g. absurd (omega arith) }) })
  sound_add word.Pin vs r p h q a =
      let m = check_next (leb (size vs 0) (length s.chip.macs)) 8 _ s' a in
      let n = ltb-true (pin_count s.chip.nets) 128 h in
      let k = count_pin (pin_of vs) s.chip.nets in
      sound_next m.1 (record { die = λ e. v.die (not_first s.last word.Pin refl p); fix_count = v.fix_count; mac_count = v.mac_count; net_count = rw length_pin v.net_count; pins = omega arith; fix = v.fix; mac = v.mac; nets = pin_read (length s.chip.macs) (is_last chip_words s.last word.Net) (pin_of vs) s.chip.nets (pin_valid vs (length s.chip.macs) r (leb-true (size vs 0) (length s.chip.macs) m.0)) v.nets })
  sound_add word.End vs r p h q a = sound_next a (record { die = λ e. v.die (not_first s.last word.End refl p); fix_count = v.fix_count; mac_count = v.mac_count; net_count = v.net_count; pins = v.pins; fix = v.fix; mac = v.mac; nets = all_valid q })
