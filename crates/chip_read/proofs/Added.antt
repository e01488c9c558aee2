-- What a line adds: the die, a fix, a macro, a net.
use mathlib.Core.Path.{◌≡◌, refl, sym, ap, subst, ◌∙◌}
use mathlib.Core.Bool.{true, false, ◌||◌, false≢true}
use mathlib.Core.List.{List, [], ◌∷◌, ◌++◌}
use Prim.Native.Nat.{ℕ, ◌+◌, ◌<◌}
use native.Mathlib.Omega.{arith}
use lib.ListN.{length, get_or, take, set}
use Rattle.model.specs.declared.Refusal.{Refusal}
use Rattle.std.specs.Prelude.{Result, Ok, Err, Option, Some, None}
use Rattle.model.specs.declared.Die.{Die}
use Rattle.model.specs.declared.Fix.{Fix}
use Rattle.model.specs.declared.Mac.{Mac}
use Rattle.model.specs.declared.Net.{Net as HeldNet}
use Rattle.model.specs.declared.Chip.{Chip as HeldChip}
use Rattle.model.specs.Meaning.{Net, chip_of, first_of, pins_of, blank_fix, blank_mac, blank_net}
use Rattle.model.specs.Made.{made, make_die, make_fix, make_mac, make_net}
use Rattle.model.specs.Counted.{taken, Holds}
use Rattle.model.specs.Limits.{most_fixes, most_macs}
use Rattle.model.proofs.Holding.{holds_more, holds_all, fits_in}
use Rattle.model.proofs.FirstOf.{first_take, first_set}
use Rattle.model.proofs.Nets.{taken_snoc, nets_snoc}
use Rattle.text_grammar.specs.Words.{same, is_word}
use Rattle.text_grammar.specs.Steps.{Entered}
use Rattle.chip_read.proofs.MadeOf.{the_die, the_fix, the_mac, the_net}
use Rattle.chip_text.specs.declared.ChipWord.{ChipWord}
use Rattle.chip_text.specs.declared.ChipWord.TheVariants as word
use Rattle.chip_text.specs.Words.{chip_words}
use Rattle.chip_text.specs.Kind.{chip_kind, add_fix, add, read_to, with_die, with_mac, with_net, with_fix}
use Rattle.chip_text.specs.Faults.{placed_fault}
use Rattle.chip_text.proofs.Faults.{fix_adds}
use Rattle.text_grammar.proofs.Entry.{found_or, found_none, found_fault}
use Rattle.chip_read.specs.declared.State.{State}
use Rattle.chip_read.specs.State.{Sound, part_of, chip_values, with_chip, TakenOk}
use Rattle.chip_read.proofs.Values.{held_die, held_mac, die_values, fix_values, mac_values, net_values_law}
use Rattle.chip_read.proofs.Entry.{fix_fits, mac_fits, net_fits}

-- a line of a word that opens no net keeps the nets
module _ (s : State) (sound : Sound s) (w : ChipWord) (e : (is_word chip_words w word.Net || is_word chip_words w word.Pin) ≡ false) (d : Die) where
  pub kept_sound : {k n : ℕ} {fs : List Fix} {ms : List Mac} → Holds blank_fix most_fixes k fs → Holds blank_mac most_macs n ms → Sound (record { last = Some w; pins = s.pins; chip = record { die = d; k = k; fixes = fs; n = n; macs = ms; t = s.chip.t; nets = s.chip.nets; pins = s.chip.pins } })
  kept_sound f m = record { fixes = f; macs = m; nets = sound.nets; pins = sound.pins; counted = sound.counted; opened = λ o. absurd (false≢true (sym e ∙ o)) }

-- ---- the chip with one thing more

module _ (c : HeldChip) where
  abbrev hold_die : Die → HeldChip
  hold_die d = record { die = d; k = c.k; fixes = c.fixes; n = c.n; macs = c.macs; t = c.t; nets = c.nets; pins = c.pins }

  abbrev hold_fix : Fix → HeldChip
  hold_fix f = record { die = c.die; k = c.k + 1; fixes = set c.fixes c.k f; n = c.n; macs = c.macs; t = c.t; nets = c.nets; pins = c.pins }

  abbrev hold_mac : Mac → HeldChip
  hold_mac m = record { die = c.die; k = c.k; fixes = c.fixes; n = c.n + 1; macs = set c.macs c.n m; t = c.t; nets = c.nets; pins = c.pins }

  abbrev hold_net : HeldNet → HeldChip
  hold_net t = record { die = c.die; k = c.k; fixes = c.fixes; n = c.n; macs = c.macs; t = c.t + 1; nets = set c.nets c.t t; pins = c.pins }

module _ (s : State) (v : List ℕ) (four : length v ≡ 4) (sound : Sound s) (r : State) (l : ℕ) where
  pub die_added : (m : Option Die) → made m ≡ make_die (get_or v 0 0) (get_or v 1 0) → (d : Die) → m ≡ Some d → r ≡ with_chip s word.Die (hold_die s.chip d) → TakenOk (Ok r) l (add (part_of s) word.Die (chip_values word.Die v))
  unfolding chip_of same
  die_added m o d q e =
      rw (e, the_die (get_or v 0 0) (get_or v 1 0) m o d q)
      (record {
        ok = record { meant = ap (λ (d : Die). read_to word.Die (with_die (chip_of s.chip) d)) (sym (die_values v four)); at = refl };
        sound = kept_sound s sound word.Die refl (held_die v) sound.fixes sound.macs;
      })

  pub mac_added : Entered chip_kind (part_of s) word.Mac → (m : Option Mac) → made m ≡ make_mac (get_or v 0 0) (get_or v 1 0) → (a : Mac) → m ≡ Some a → r ≡ with_chip s word.Mac (hold_mac s.chip a) → TakenOk (Ok r) l (add (part_of s) word.Mac (chip_values word.Mac v))
  unfolding chip_of same
  mac_added p m o a q e =
      rw (e, the_mac (get_or v 0 0) (get_or v 1 0) m o a q)
      (record {
        ok = record { meant = rw (first_set blank_mac s.chip.n s.chip.macs (held_mac v) (fits_in sound.macs fits)) (ap (λ (m : Mac). read_to word.Mac (with_mac (chip_of s.chip) m)) (sym (mac_values v four))); at = refl };
        sound = kept_sound s sound word.Mac refl s.chip.die sound.fixes (holds_more sound.macs (held_mac v) fits);
      })
    where
      fits : s.chip.n < 8
      fits = mac_fits s sound p

  pub net_added : Entered chip_kind (part_of s) word.Net → (m : Option HeldNet) → made m ≡ make_net (get_or v 0 0) 0 → (t : HeldNet) → m ≡ Some t → r ≡ with_chip s word.Net (hold_net s.chip t) → TakenOk (Ok r) l (add (part_of s) word.Net (chip_values word.Net v))
  unfolding chip_of pins_of first_of
  net_added p m o u q e =
      rw (e, the_net (get_or v 0 0) 0 m o u q)
      (record {
        ok = record { meant = rw (one_more, nets_snoc nets net s.chip.pins) (ap (λ (w : ℕ). read_to word.Net (with_net (chip_of s.chip) (record { weight = w; pins = [] }))) (sym (net_values_law v four))); at = refl };
        sound = record { fixes = sound.fixes; macs = sound.macs; nets = holds_more sound.nets net fits; pins = sound.pins; counted = ap taken one_more ∙ taken_snoc nets net ∙ omega (arith, sound.counted); opened = λ o. omega arith };
      })
    where
      fits : s.chip.t < 32
      fits = net_fits s sound p

      net : HeldNet
      net = record { weight = get_or v 0 0; pins = 0 }

      nets : List HeldNet
      nets = first_of blank_net s.chip.t s.chip.nets

      one_more : first_of blank_net (s.chip.t + 1) (set s.chip.nets s.chip.t net) ≡ nets ++ (net ∷ [])
      one_more = first_set blank_net s.chip.t s.chip.nets net (fits_in sound.nets fits)

  pub fix_made_law : (m : Option Fix) → made m ≡ make_fix (get_or v 0 0) (get_or v 1 0) (get_or v 2 0) (get_or v 3 0) → (f : Fix) → m ≡ Some f → (t : Result State Refusal) → TakenOk t l (add_fix (part_of s) f) → TakenOk t l (add (part_of s) word.Fix (chip_values word.Fix v))
  fix_made_law m o f q r t =
      subst (λ (g : Fix). TakenOk r l (add_fix (part_of s) g)) (the_fix (get_or v 0 0) (get_or v 1 0) (get_or v 2 0) (get_or v 3 0) m o f q ∙ sym (fix_values v four)) t

-- a fix by the last tests of its line
module _ (s : State) (f : Fix) (sound : Sound s) (l no : ℕ) (e : no ≡ placed_fault s.chip.die f (take s.chip.k s.chip.fixes)) where
  by_fault : add_fix (part_of s) f ≡ found_or no (read_to word.Fix (with_fix (chip_of s.chip) f))
  unfolding chip_of
  by_fault = fix_adds (part_of s) f ∙ rw (e, first_take blank_fix s.chip.k s.chip.fixes (holds_all sound.fixes))

  pub fix_faulty : (no ≡ 0 → ⊥) → TakenOk (Err (record { no = no; line = l })) l (add_fix (part_of s) f)
  fix_faulty z = rw by_fault (record { ok = record { meant = found_fault no _ z; at = refl }; sound = tt })

  pub fix_added : no ≡ 0 → Entered chip_kind (part_of s) word.Fix → (r : State) → r ≡ with_chip s word.Fix (hold_fix s.chip f) → TakenOk (Ok r) l (add_fix (part_of s) f)
  unfolding chip_of same
  fix_added z p r q =
      rw (q, by_fault)
      (record {
        ok = record { meant = rw (first_set blank_fix s.chip.k s.chip.fixes f (fits_in sound.fixes fits)) (found_none no _ z); at = refl };
        sound = kept_sound s sound word.Fix refl s.chip.die (holds_more sound.fixes f fits) sound.macs;
      })
    where
      fits : s.chip.k < 8
      fits = fix_fits s sound p
