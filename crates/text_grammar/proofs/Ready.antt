-- Runs of items: where each word that may follow is ready for the items before it, items that are run to a last line are those of the state that they
-- lead to (`run_ready`).
use mathlib.Core.Path.{◌≡◌}
use mathlib.Core.Bool.{true, false}
use mathlib.Core.List.{List, [], ◌∷◌, ◌++◌}
use Prim.Native.Nat.{ℕ}
use Rattle.model.specs.Step.{next}
use Rattle.text_grammar.specs.Line.{Value}
use Rattle.text_grammar.specs.Words.{Item}
use Rattle.text_grammar.specs.Reading.{Kind, accepted}
use Rattle.text_grammar.proofs.Every.{Every}
use Rattle.text_grammar.proofs.Words.{Told, every_in}
use Rattle.text_grammar.proofs.Items.{Formed, WellFormed, run_items}
use Rattle.text_grammar.proofs.Run.{Passed, run_keeps}
use Rattle.text_grammar.proofs.Values.{held_of, held_same}

-- what makes a word ready for the items that led to a state, and the items of a state after the last line
pub record Stages (W S : Type 0) : Type 1 where
  pub Ready : S → List (Item W) → W → Type 0
  pub items : S → List (Item W)

module _ {W S : Type 0} (k : Kind W S) (g : Stages W S) where
  -- the items js have led to s
  abbrev pub Staged : S → List (Item W) → Type 0
  Staged s js = Every (g.Ready s js) (k.followers s) × (k.complete s ≡ true → js ≡ g.items s)

  pub staged_next : {s s' : S} {js : List (Item W)} → next s ≡ next s' → Staged s js → Staged s' js
  staged_next {s} {s'} a t = let e : s' ≡ s = cc in rw e t

  -- after a line that is not the last
  pub staged_on : {s s' : S} {js : List (Item W)} → next s ≡ next s' → k.complete s ≡ false → Every (g.Ready s js) (k.followers s) → Staged s' js
  staged_on a f t = staged_next a (t, λ q. cc)

  module _ (told : Told k.words) (add : (s s' : S) (w : W) (vs : List Value) (js : List (Item W)) → held_of k.words w vs ≡ vs → k.add s w vs ≡ next s' → g.Ready s js w → Staged s' (js ++ (record { word = w; values = vs } ∷ []))) where
    staged_step : (s s' : S) (js : List (Item W)) (i : Item W) → Formed k.words i → Passed k s s' i → Staged s js → Staged s' (js ++ (i ∷ []))
    staged_step s s' js i f p t =
        add s s' i.word i.values js (held_same (k.words.form i.word) i.values i.values f p.within) p.added
        (every_in k.words told (g.Ready s js) (k.followers s) t.0 i.word p.in_place_law)

    pub run_ready : (s s' : S) (n : ℕ) (is : List (Item W)) → WellFormed k is → run_items k s n is ≡ accepted s' → Staged s [] → is ≡ g.items s'
    run_ready s s' n is f e t = let r = run_keeps k Staged staged_step s s' n [] is f e t in r.0.1 r.1
