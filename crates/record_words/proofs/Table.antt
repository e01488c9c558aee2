-- The tables of the words of records, as the walk takes them.
use mathlib.Core.Path.{◌≡◌, refl, sym, subst, ◌∙◌}
use mathlib.Core.Bool.{Bool}
use mathlib.Core.List.{List, [], ◌∷◌}
use Prim.Native.Nat.{ℕ, zero, suc, ◌≤◌, ◌<◌}
use native.Mathlib.Omega.{arith}
use lib.ListN.{length, get_or}
use Rattle.text_grammar.specs.declared.Following.{Following}
use Rattle.text_grammar.specs.Steps.{entry_fault}
use Rattle.text_line.specs.declared.Spelling.{Spelling}
use Rattle.text_line.specs.Held.{spelled}
use Rattle.text_walk.specs.declared.Tests.{Tests}
use Rattle.text_walk.specs.Walk.{fault_at}
use Rattle.text_walk.proofs.Means.{TableOf, FaultsOf}
use Rattle.record_text.specs.declared.RecordWord.{RecordWord}
use Rattle.record_text.specs.declared.RecordWord.TheVariants as word
use Rattle.record_text.specs.Words.{spell, record_words}
use Rattle.record_text.specs.Kind.{Part, spots_of, record_kind}
use Rattle.text_grammar.specs.Reading.{Last}
use Rattle.record_text.specs.Tests.{record_following, record_rooms}
use Rattle.record_words.specs.Meant.{record_spellings, record_tests}

pub table_of : (ps : List Spelling) → ps ≡ record_spellings → TableOf record_kind word.Least ps 4
table_of ps e = rw e (record { spells = refl })

-- the tests of word i
fault_is : (s : Part) (i : ℕ) → i < 4 → fault_at (record_tests s.last (length (spots_of s.result))) i ≡ entry_fault record_kind s (get_or record_words.all i word.Least)
unfolding record_following record_rooms entry_fault
fault_is s zero h = refl
fault_is s (suc zero) h = refl
fault_is s (suc (suc zero)) h = refl
fault_is s (suc (suc (suc zero))) h = refl
fault_is s (suc (suc (suc (suc i)))) h = absurd (omega arith)

pub faults_of : (s : Part) (l : Last RecordWord) (n : ℕ) → l ≡ s.last → n ≡ length (spots_of s.result) → (fs : Tests) → fs ≡ record_tests l n → FaultsOf record_kind word.Least s fs
faults_of s l n p q fs e = subst (λ (x : Tests). FaultsOf record_kind word.Least s x) (sym (e ∙ same)) (record { at = fault_is s })
  where
    same : record_tests l n ≡ record_tests s.last (length (spots_of s.result))
    same = rw (p, q)
