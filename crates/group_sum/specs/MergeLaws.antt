-- Laws of terms merged.
use Rattle.std.specs.Prelude.{◌≡◌, ℕ, ◌-◌, List, []}
use Rattle.cube_model.specs.declared.term.Term.{Term}
use Rattle.cube_model.specs.Answer.{merge}
use Rattle.group_sum.specs.Terms.{AreTerms, TermList}

-- in either order they are the same
abbrev pub MergeCommutes : Type 0
MergeCommutes = (columns : ℕ) (left right : List Term) → merge columns left right ≡ merge columns right left

-- in either grouping
abbrev pub MergeAssociates : Type 0
MergeAssociates = (columns : ℕ) (first second third : List Term) → AreTerms (record { columns = columns; terms = first }) → AreTerms (record { columns = columns; terms = second }) → AreTerms (record { columns = columns; terms = third })
    → merge (columns - 1) (merge (columns - 1) first second) third ≡ merge (columns - 1) first (merge (columns - 1) second third)

-- nothing merged changes nothing
abbrev pub MergesNothing : Type 0
MergesNothing = (list : TermList) → AreTerms list → merge (list.columns - 1) list.terms [] ≡ list.terms

-- what gives the same with a part is the same, so what was merged can be taken back
abbrev pub MergeCancels : Type 0
MergeCancels = (columns : ℕ) (first second part : List Term) → AreTerms (record { columns = columns; terms = first }) → AreTerms (record { columns = columns; terms = second }) → AreTerms (record { columns = columns; terms = part })
    → merge (columns - 1) first part ≡ merge (columns - 1) second part → first ≡ second
