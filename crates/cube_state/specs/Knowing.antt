-- A state that knows the patterns of depths at which its imprecise facts lie.
use Rattle.std.specs.Prelude.{ℕ, List, if◌then◌else◌}
use Rattle.std.specs.Option.{option_map_or}
use Rattle.cube_model.specs.declared.edit.Edit.{Edit}
use Rattle.cube_model.specs.declared.edit.Fact.{Fact}
use Rattle.cube_model.specs.Allocation.{Policy}
use Rattle.cube_model.specs.Facts.{is_precise}
use Rattle.cube_model.specs.Tree.{Dimension}
use Rattle.fact_groups.specs.Edits.{given}
use Rattle.fact_records.specs.Shape.{ShapeValue}
use Rattle.region_index.specs.Patterns.{KnowsPatterns, Patterns, noted, pattern_of}
use Rattle.fact_indexes.specs.Kept.{IsState, Kept}

-- the patterns once a fact's is known, where it is imprecise
abbrev pub noted_fact : List Dimension → Patterns → Fact → Patterns
noted_fact dims patterns fact = if is_precise dims fact then patterns else noted patterns (pattern_of dims fact.region)

-- the patterns once that of an edit's new fact is known
abbrev pub noted_given : List Dimension → Patterns → Edit → Patterns
noted_given dims patterns edit = option_map_or (noted_fact dims patterns) (given edit) patterns

-- What a state keeps is what its facts make it, and the patterns of the imprecise facts' regions are known.
pub record IsKnowingState (policy : Policy) (shape : ShapeValue) (dims : List Dimension) (cuts : List (List ℕ)) (facts : List Fact) (kept : Kept) (patterns : Patterns) : Type 0 where
  pub state : IsState policy shape dims cuts facts kept
  pub known : KnowsPatterns dims facts patterns
