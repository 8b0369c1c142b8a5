-- Views of facts.
use Rattle.std.specs.Prelude.{◌≡◌, ℕ, ◌+◌, ◌-◌, true, false, List, [], ◌++◌, ◌+ℤ◌}
use Rattle.cube_model.specs.Allocation.{ExtendedFact}
use Rattle.cube_model.specs.Answer.{answer, count_at, sum_at}
use Rattle.cube_model.specs.Tree.{Dimension}
use Rattle.view_store.specs.declared.change.ViewChange.{ViewChange}
use Rattle.view_store.specs.Changes.{change_facts}
use Rattle.view_store.specs.Views.{IsViewOf, ViewMap, entry_at, is_in_view, region_at}

-- Each entry in the product of the cuts is the answer of the facts there, and there are no others. All are over the columns.
pub record IsViewOfFacts (dims : List Dimension) (facts : List ExtendedFact) (view : ViewMap) : Type 0 where
  pub columns : (code : ℕ) → (entry_at view code).columns ≡ view.columns
  pub answers : (code : ℕ) → is_in_view dims view.depths code ≡ true → (entry_at view code).terms ≡ answer (view.columns - 1) dims facts (region_at dims code)
  pub others : (code : ℕ) → is_in_view dims view.depths code ≡ false → (entry_at view code).terms ≡ []

-- Of two maps of one view: where the first is one of any facts, the second is one of these and of the facts of a change.
pub record AddsFacts (dims : List Dimension) (change : ViewChange) (old new : ViewMap) : Type 0 where
  pub columns : new.columns ≡ old.columns
  pub depths : new.depths ≡ old.depths
  pub over : IsViewOf dims new
  pub facts : (facts : List ExtendedFact) → IsViewOfFacts dims facts old → IsViewOfFacts dims (facts ++ change_facts change) new

-- Facts are those before, less those taken away and with those given: inside any cells they add up to as much, at every denominator.
pub record FollowBy (before taken given after : List ExtendedFact) : Type 0 where
  pub counts : (cells : List ℕ) (d : ℕ) → count_at cells after d + count_at cells taken d ≡ count_at cells before d + count_at cells given d
  pub sums : (cells : List ℕ) (k d : ℕ) → sum_at cells after k d +ℤ sum_at cells taken k d ≡ sum_at cells before k d +ℤ sum_at cells given k d
