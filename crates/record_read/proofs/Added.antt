-- What a line adds: the length, a spot, the end.
use mathlib.Core.Path.{◌≡◌, refl, sym, ap, ◌∙◌}
use mathlib.Core.Bool.{true, false, ◌&&◌, false≢true, true≢false}
use mathlib.Core.List.{List}
use Prim.Native.Nat.{ℕ, ◌+◌}
use lib.IntN.{pos}
use lib.ListN.{length, get_or, set, replicate}
use Rattle.model.specs.declared.Refusal.{Refusal}
use Rattle.std.specs.Prelude.{Result, Ok, Err, Option, Some, None}
use Rattle.std.proofs.lemmas.Option.{none-some}
use Rattle.model.specs.declared.Spot.{Spot}
use Rattle.model.specs.Meaning.{first_of, blank_spot}
use Rattle.model.specs.Limits.{is_within, placed_corner, most_macs}
use Rattle.model.specs.Made.{made, make_spot}
use Rattle.model.proofs.Tests.{refused, kept}
use Rattle.model.proofs.Holding.{holds_more, holds_none, fits_in}
use Rattle.model.proofs.FirstOf.{first_set}
use Rattle.text_grammar.specs.Steps.{Entered, ReadAs}
use Rattle.text_grammar.specs.Words.{same}
use Rattle.record_text.specs.declared.RecordWord.TheVariants as word
use Rattle.record_text.specs.Words.{record_words}
use Rattle.record_text.specs.Kind.{record_kind, add, read_to, with_spot, spot_of}
use Rattle.record_text.specs.Tests.{turn_fault}
use Rattle.record_text.proofs.Tests.{at_adds}
use Rattle.text_grammar.proofs.Entry.{found_or, found_fault}
use Rattle.record_read.specs.declared.State.{State}
use Rattle.record_read.specs.State.{Sound, part_of, record_values, TakenOk}
use Rattle.record_read.proofs.Values.{held_spot, least_values, at_values, corners_in}
use Rattle.record_read.proofs.Entry.{count_meant, at_fits, at_found}

module _ (s : State) (v : List ℕ) (sound : Sound s) (l : ℕ) where
  pub least_added : (ps : List Spot) → ps ≡ replicate most_macs blank_spot → TakenOk (Ok (record { last = Some word.Least; wl = Some (get_or v 0 0); count = 0; spots = ps })) l (add (part_of s) word.Least (record_values word.Least v))
  unfolding first_of
  least_added ps e =
      record {
        ok = record { meant = rw (least_values v); at = refl };
        sound = record { spots = rw e (holds_none blank_spot most_macs); blank = λ f. refl; opened = λ o. (get_or v 0 0, refl) };
      }

  pub none_added : (ps : List Spot) → ps ≡ replicate most_macs blank_spot → TakenOk (Ok (record { last = Some word.None; wl = None; count = 0; spots = ps })) l (add (part_of s) word.None (record_values word.None v))
  unfolding same
  none_added ps e = record { ok = record { meant = refl; at = refl }; sound = record { spots = rw e (holds_none blank_spot most_macs); blank = λ f. refl; opened = λ o. absurd (false≢true o) } }

  pub done_added : TakenOk (Ok (record { last = Some word.Done; wl = s.wl; count = s.count; spots = s.spots })) l (add (part_of s) word.Done (record_values word.Done v))
  unfolding same
  done_added = record { ok = record { meant = refl; at = refl }; sound = record { spots = sound.spots; blank = sound.blank; opened = λ o. absurd (false≢true o) } }

  -- by the fault of m against the next number
  module _ (f : ℕ) (e : f ≡ turn_fault s.count (get_or v 0 0)) where
    by_fault : add (part_of s) word.At (record_values word.At v) ≡ found_or f (read_to word.At (with_spot (part_of s).result (spot_of (record_values word.At v))))
    by_fault = at_adds (part_of s) (record_values word.At v) ∙ rw ((at_values v).0, count_meant s sound, e)

    pub out_of_turn : (f ≡ 0 → ⊥) → TakenOk (Err (record { no = f; line = l })) l (add (part_of s) word.At (record_values word.At v))
    out_of_turn h = rw by_fault (record { ok = record { meant = found_fault f _ h; at = refl }; sound = tt })

  pub spot_never : length v ≡ 4 → ReadAs record_words word.At (record_values word.At v) → (m : Option Spot) → made m ≡ make_spot (get_or v 1 0) (get_or v 2 0) → m ≡ None → (r : Result State Refusal) → TakenOk r l (add (part_of s) word.At (record_values word.At v))
  spot_never four i m o q r =
      absurd (true≢false (sym (corners_in v four i) ∙ refused (is_within placed_corner (pos (get_or v 1 0)) && is_within placed_corner (pos (get_or v 2 0))) (held_spot v) (ap made (sym q) ∙ o)))

  the_spot : (m : Option Spot) → made m ≡ make_spot (get_or v 1 0) (get_or v 2 0) → (p : Spot) → m ≡ Some p → p ≡ held_spot v
  the_spot m o p q = (kept (is_within placed_corner (pos (get_or v 1 0)) && is_within placed_corner (pos (get_or v 2 0))) (held_spot v) p (ap made (sym q) ∙ o)).1

  pub at_added : Entered record_kind (part_of s) word.At → (f : ℕ) → f ≡ turn_fault s.count (get_or v 0 0) → f ≡ 0 → (m : Option Spot) → made m ≡ make_spot (get_or v 1 0) (get_or v 2 0) → (p : Spot) → m ≡ Some p → TakenOk (Ok (record { last = Some word.At; wl = s.wl; count = s.count + 1; spots = set s.spots s.count p })) l (add (part_of s) word.At (record_values word.At v))
  at_added e f t h m o p q =
      record {
        ok = record { meant = sym (by_fault f t ∙ rw (h, (at_found s sound e).1, (at_values v).1, ← the_spot m o p q, first_set blank_spot s.count s.spots p (fits_in sound.spots (at_fits s sound e)))); at = refl };
        sound = record {
          spots = holds_more sound.spots p (at_fits s sound e);
          blank = λ f. absurd (none-some _ (sym f ∙ (at_found s sound e).1));
          opened = λ o. at_found s sound e;
        };
      }
