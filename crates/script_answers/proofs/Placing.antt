-- Facts that a cube may have are such as may be shared round after round.
use Rattle.std.proofs.Common.{◌+◌, ap, List}
use Rattle.cube_model.specs.declared.edit.Fact.{Fact}
use Rattle.cube_model.specs.Tree.{Dimension}
use Rattle.fact_records.specs.Shape.{IsShape, ShapeValue, width_of_all}
use Rattle.fact_records.specs.Valid.{AreValid}
use Rattle.fact_records.proofs.SmallValues.{count-accepted, small-accepted}
use Rattle.cube_core.proofs.Rows.{few_cells}
use Rattle.iter_alloc.specs.Counting.{ArePlacedIn}
use Rattle.iter_alloc.specs.Portions.{AreValued}

module _ (shape : ShapeValue) (dims : List Dimension) (facts : List Fact) (valid : AreValid shape dims facts) where
  pub valid-placed : ArePlacedIn dims facts
  valid-placed = record {
    ascending = valid.ascending;
    few = valid.few;
    regions = λ i d within. (valid.each i d within).accepted.placed.region;
    sizes = λ i d within. few_cells dims _ (valid.each i d within).size;
  }

  pub valid-valued : IsShape shape → AreValued (width_of_all shape.measures + 1) facts
  valid-valued is = record {
    width = λ i d within. ap (λ n. n + 1) (count-accepted shape _ (valid.each i d within).accepted.values);
    small = λ i d within. small-accepted shape _ (valid.each i d within).accepted.values is.measures;
  }
