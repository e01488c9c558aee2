-- Where a net's pins begin and end, and the mates of nets, in the form of the needs.
use Prim.Native.Nat.{ℕ, suc, ◌+◌, ◌≤◌, ◌<◌, min}
use mathlib.Core.Path.{◌≡◌, sym, subst, ◌∙◌}
use mathlib.Core.Bool.{Bool, true, false, not}
use mathlib.Core.List.{List}
use native.Mathlib.Decide.{dec_lt}
use native.Mathlib.Omega.{arith}
use mir.Syntax.{w64}
use mir.Val.{Fits}
use lib.ListN.{get_or}
use lib.Dec.{eqb}
use borrow.Author.Tests.{eqb-true, not-false}
use Rattle.model.specs.declared.Net.{Net}
use Rattle.model.specs.declared.Pin.{Pin}
use Rattle.model.specs.Meaning.{blank_net}
use Rattle.chip_text.specs.Valid.{pins_before}
use Rattle.chip_text.proofs.HeldNets.{pins_before_more, pins_before_next, pins_before_up}
use Rattle.search_equal.specs.Answer.{Yes}
use Rattle.search_equal.specs.Held.{Covers, Turns, MatesTo}

-- ---- where a net's pins begin

module _ (nets : List Net) where
  -- the pins of a net end within the array
  module _ (a from : ℕ) (ef : from ≡ min 129 (pins_before a nets)) (l : pins_before (a + 1) nets ≤ 128) where
    start_is : from ≡ pins_before a nets
    start_is = let p = pins_before_next a nets in omega arith

    end_is : from + (get_or nets a blank_net).pins ≡ pins_before (suc a) nets
    end_is = let p = pins_before_more a nets in let q = start_is in omega arith

    pub net_ends : from + (get_or nets a blank_net).pins ≤ 128
    net_ends = let p = pins_before_next a nets in let q = start_is in omega arith

    pub end_fits : Fits w64 (from + (get_or nets a blank_net).pins)
    end_fits = let p = net_ends in omega arith

  pub net_within : (t a : ℕ) → pins_before t nets ≤ 128 → a < t → pins_before (a + 1) nets ≤ 128
  net_within t a h l = let p = pins_before_up (a + 1) t nets (omega arith) in omega arith

-- ---- mates

module _ (nets : List Net) (pins : List Pin) (i j : ℕ) where
  pub net_turns : (a b from low : ℕ) (r : Bool) → from ≡ min 129 (pins_before a nets) → low ≡ min 129 (pins_before b nets) → pins_before (a + 1) nets ≤ 128 → pins_before (b + 1) nets ≤ 128
      → (q : Bool) → q ≡ eqb (get_or nets a blank_net).weight (get_or nets b blank_net).weight → q ≡ true
      → Yes r (Covers pins i j from (from + (get_or nets a blank_net).pins) low (low + (get_or nets b blank_net).pins)) → Yes r (Turns nets pins i j a b)
  net_turns a b from low r ef el la lb q w n s = record {
    then = λ e. record {
      weight = sym (eqb-true (get_or nets a blank_net).weight (get_or nets b blank_net).weight (sym w ∙ n));
      covers = rw (sym (start_is nets a from ef la), sym (end_is nets a from ef la), sym (start_is nets b low el lb), sym (end_is nets b low el lb)) (s.then e);
    };
  }

  module _ (t : ℕ) (mates : List ℕ) where
    pub mates_more : (k : ℕ) (r : Bool) → MatesTo nets pins t i j mates k → get_or mates k 0 < t → get_or mates (get_or mates k 0) 0 ≡ k → Yes r (Turns nets pins i j k (get_or mates k 0)) → not r ≡ false → MatesTo nets pins t i j mates (k + 1)
    mates_more k r m l b s e = record {
      inside = λ a g. any a g (λ (x : ℕ). get_or mates x 0 < t) (m.inside a) l;
      back = λ a g. any a g (λ (x : ℕ). get_or mates (get_or mates x 0) 0 ≡ x) (m.back a) b;
      turns = λ a g. any a g (λ (x : ℕ). Turns nets pins i j x (get_or mates x 0)) (m.turns a) (s.then (not-false r e));
    }
      where
        any : (a : ℕ) → a < k + 1 → (P : ℕ → Type 0) → (a < k → P a) → P k → P a
        any a g P before here = by (dec_lt a k)
          where
            by : Dec (a < k) → P a
            by (yes h) = before h
            by (no h) = let q : k ≡ a = omega arith in subst P q here
