-- The tables of the words of chips, as the walk takes them.
use mathlib.Core.Path.{◌≡◌, refl, sym, subst, ◌∙◌}
use mathlib.Core.Bool.{Bool}
use mathlib.Core.List.{List, [], ◌∷◌}
use Prim.Native.Nat.{ℕ, zero, suc, ◌≤◌, ◌<◌}
use native.Mathlib.Omega.{arith}
use lib.ListN.{get_or}
use Rattle.text_grammar.specs.declared.Following.{Following}
use Rattle.text_grammar.specs.Steps.{entry_fault}
use Rattle.text_line.specs.declared.Spelling.{Spelling}
use Rattle.text_line.specs.Held.{spelled}
use Rattle.text_walk.specs.declared.Tests.{Tests}
use Rattle.text_walk.specs.Walk.{fault_at}
use Rattle.text_walk.proofs.Means.{TableOf, FaultsOf}
use Rattle.chip_text.specs.declared.ChipWord.{ChipWord}
use Rattle.chip_text.specs.declared.ChipWord.TheVariants as word
use Rattle.chip_text.specs.Words.{spell, chip_words}
use Rattle.chip_text.specs.Kind.{Part, Counts, counts_of, chip_kind}
use Rattle.text_grammar.specs.Reading.{Last}
use Rattle.chip_text.specs.Tests.{chip_following, chip_rooms}
use Rattle.chip_words.specs.Meant.{chip_spellings, chip_tests}

pub table_of : (ps : List Spelling) → ps ≡ chip_spellings → TableOf chip_kind word.Die ps 6
table_of ps e = rw e (record { spells = refl })

-- the tests of word i
fault_is : (s : Part) (i : ℕ) → i < 6 → fault_at (chip_tests s.last (counts_of s.chip)) i ≡ entry_fault chip_kind s (get_or chip_words.all i word.Die)
unfolding chip_following chip_rooms entry_fault
fault_is s zero h = refl
fault_is s (suc zero) h = refl
fault_is s (suc (suc zero)) h = refl
fault_is s (suc (suc (suc zero))) h = refl
fault_is s (suc (suc (suc (suc zero)))) h = refl
fault_is s (suc (suc (suc (suc (suc zero))))) h = refl
fault_is s (suc (suc (suc (suc (suc (suc i)))))) h = absurd (omega arith)

pub faults_of : (s : Part) (l : Last ChipWord) (c : Counts) → l ≡ s.last → c ≡ counts_of s.chip → (fs : Tests) → fs ≡ chip_tests l c → FaultsOf chip_kind word.Die s fs
faults_of s l c p q fs e = subst (λ (x : Tests). FaultsOf chip_kind word.Die s x) (sym (e ∙ same)) (record { at = fault_is s })
  where
    same : chip_tests l c ≡ chip_tests s.last (counts_of s.chip)
    same = rw (p, q)
