-- Accepted runs of items, for any kind of text: what a step has passed (`step_passed`), what every step keeps (`run_keeps`), and that all values pass
-- their tests (`run_within`).
use mathlib.Core.Path.{◌≡◌, refl, ap, ◌∙◌}
use mathlib.Core.Bool.{true}
use mathlib.Core.List.{List, [], ◌∷◌, ◌++◌, append-nil}
use Prim.{tt}
use Prim.Native.Nat.{ℕ, suc}
use lib.Seq.{append_snoc}
use Rattle.model.specs.Step.{Step, next, fault, check, on_next}
use Rattle.text_grammar.specs.Line.{Value}
use Rattle.text_grammar.specs.Words.{Item}
use Rattle.text_grammar.specs.Reading.{Kind, accepted}
use Rattle.text_grammar.specs.Steps.{in_place, ending}
use Rattle.text_grammar.proofs.FieldsText.{no_fault, judged, judged_same}
use Rattle.text_grammar.proofs.Every.{Every, every_append}
use Rattle.text_grammar.proofs.Items.{Formed, Within, WellFormed, item_step, run_items, check_next, word_next, onward_accepted}

module _ {W S : Type 0} (k : Kind W S) where
  -- what an item has passed that leads from s to s'
  pub record Passed (s s' : S) (i : Item W) : Type 0 where
    pub in_place_law : in_place k s i.word ≡ true
    pub within : Within k.words i
    pub added : k.add s i.word i.values ≡ next s'

  fields_passed : (s s' : S) (i : Item W) (f : Step (List Value)) → in_place k s i.word ≡ true → Formed k.words i → judged (k.words.form i.word) i.values ≡ f → on_next f (k.add s i.word) ≡ next s' → Passed s s' i
  fields_passed s s' i (next ys) p h q e = let y = judged_same (k.words.form i.word) i.values ys h q in record { in_place_law = p; within = q ∙ ap next y; added = rw y at e }
  fields_passed s s' i (fault n) p h q e = no_fault e

  pub step_passed : (s s' : S) (i : Item W) → Formed k.words i → item_step k s i ≡ next s' → Passed s s' i
  unfolding item_step
  step_passed s s' i f e = let c = word_next k s i.word _ s' e in fields_passed s s' i _ c.0 f refl c.1

  pub ending_accepted : (s s' : S) (n : ℕ) → ending k s n ≡ accepted s' → (s ≡ s') × (k.complete s ≡ true)
  ending_accepted s s' n e =
      let o = onward_accepted (check (k.complete s) 5 (next s)) n accepted s' e in
      let c = check_next (k.complete s) 5 (next s) o.0 o.1 in
      (cc (c.1, o.2), c.0)

  -- P of the state and of the items that led to it
  module _ (P : S → List (Item W) → Type 0) (step : (s s' : S) (js : List (Item W)) (i : Item W) → Formed k.words i → Passed s s' i → P s js → P s' (js ++ (i ∷ []))) where
    pub run_keeps : (s s' : S) (n : ℕ) (js is : List (Item W)) → WellFormed k is → run_items k s n is ≡ accepted s' → P s js → P s' (js ++ is) × (k.complete s' ≡ true)
    unfolding run_items
    run_keeps s s' n js [] f e p = let q = ending_accepted s s' n e in rw (append-nil, ← q.0) (p, q.1)
    run_keeps s s' n js (i ∷ is) f e p =
        let o = onward_accepted (item_step k s i) n (λ t. run_items k t (suc n) is) s' e in
        rw append_snoc at (run_keeps o.0 s' (suc n) (js ++ (i ∷ [])) is f.1 o.2 (step s o.0 js i f.0 (step_passed s o.0 i f.0 o.1) p))

  -- the values of items that are accepted pass their tests
  pub run_within : (s s' : S) (n : ℕ) (is : List (Item W)) → WellFormed k is → run_items k s n is ≡ accepted s' → Every (Within k.words) is
  run_within s s' n is f e = (run_keeps (λ t js. Every (Within k.words) js) (λ t u js i g p q. every_append (Within k.words) js (i ∷ []) q (p.within, tt)) s s' n [] is f e tt).0
