-- A view that was made by hand.
use Rattle.std.specs.Prelude.{ℕ, true, List, [], ◌∷◌, ℤ, pos, Some, None}
use Rattle.cube_model.specs.declared.term.Term.{Term}
use Rattle.group_sum.specs.Examples.{one_sum}
use Rattle.group_sum.specs.Terms.{TermList}
use Rattle.region_algebra.specs.Examples.{small_space}
use Rattle.view_store.specs.declared.change.ViewChange.{ViewChange}
use Rattle.view_store.specs.Changes.{facts_put, shares}
use Rattle.view_store.specs.Views.{ViewMap}

-- one term, over the count and one column
abbrev pub small_entry : ℕ → ℕ → ℤ → TermList
small_entry den count sum = record { columns = 2; terms = one_sum den count sum ∷ [] }

-- Of the family over the pair, cut at depths 1 and 0: two facts under its node 1, a third of one at its node 6, and a place without a value for node 4.
abbrev pub small_view : ViewMap
small_view = record { columns = 2; depths = 1 ∷ 0 ∷ []; entries = (18, Some (small_entry 3 1 (pos 200))) ∷ (12, None) ∷ (3, Some (small_entry 1 2 (pos 400))) ∷ [] }

-- facts of the region of the family's node 1 and the pair's root with the rows of a fact that is two thirds in cell 0 and one third
-- in cell 2, with their values added up
abbrev pub put_of : ℕ → ℤ → ViewChange
put_of facts sum = record { put = true; facts = facts; den = 3; region = 1 ∷ 0 ∷ []; rows = (0, 2) ∷ (2, 1) ∷ []; cols = sum ∷ [] }

-- three such facts put at once
abbrev pub three_at_once : List ViewChange
three_at_once = put_of 3 (pos 610) ∷ []

-- and one after another
abbrev pub one_by_one : List ViewChange
one_by_one = put_of 1 (pos 100) ∷ put_of 1 (pos 500) ∷ put_of 1 (pos 10) ∷ []

-- what the facts of changes add up to in the region of a code of the family over the pair
abbrev pub put_at : List ViewChange → ℕ → List Term
put_at changes code = (shares 2 small_space (facts_put changes) code).terms
