use borrow.Author.Rules.{rules}
use mathlib.Core.Path.{◌≡◌, ◌∙◌}
use Prim.Native.Nat.{ℕ}
use lib.ListN.{length, length-map}
use Rattle.model.specs.declared.Fix.{Fix}
use Rattle.model.specs.declared.Mac.{Mac}
use Rattle.search_choose.proofs.Choosing.{none_seen, taken_seen, left_seen, all_placed}
use Rattle.search_choose.proofs.choose_pair.Goals as goal
use Rattle.search_choose.proofs.choose_pair.Goals.{then-most-v, else-most-v}

pub loop-s-preserved : goal.loop-s-preserved
loop-s-preserved c =
    elim c.if-most-v.branch [
      | then-most-v w ↦ rw (w.best-is, w.best_at-is, w.most-is) (search taken_seen)
      | else-most-v w ↦ rw (w.best-is, w.best_at-is, w.most-is) (search left_seen)
    ]

pub returns-clause-place_of : goal.returns-clause-place_of
returns-clause-place_of c = search all_placed

pub loop-s-init : goal.loop-s-init
loop-s-init c =
    let wf = c.well_formed in
    let ls : length c.args.spots ≡ 8 = search rules in
    let lm : length c.args.blocks.macs ≡ 8 = search rules in
    let lf : length c.args.blocks.fixes ≡ 8 = search rules in
    none_seen c.args.blocks c.args.spots c.args.p _ ℕ ℕ (λ (m : Mac). 0) (λ (f : Fix). 0) c.requires (length-map c.args.blocks.macs (λ (m : Mac). 0) ∙ lm) (length-map c.args.blocks.fixes (λ (f : Fix). 0) ∙ lf) ls c.first_pair-at.ensures.first
