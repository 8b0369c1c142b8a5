-- Facts in order of their ids.
use Rattle.std.specs.Prelude.{ℕ, ◌<◌, ◌==◌, List, Option, AllPairs, find}
use Rattle.cube_model.specs.declared.edit.Fact.{Fact}

-- the facts, and how many more may be put without memory
pub record SparedFacts : Type 0 where
  pub facts : List Fact
  pub spare : ℕ

-- each fact has a smaller id than every later one
abbrev pub IsAscending : List Fact → Type 0
IsAscending facts = AllPairs (λ f g. f.id < g.id) facts

-- the fact of an id, if there is one
abbrev pub fact_of : ℕ → List Fact → Option Fact
fact_of id facts = find (λ f. f.id == id) facts

-- the facts that a walk has before it
abbrev pub facts_left : List Fact → List Fact
facts_left facts = facts
