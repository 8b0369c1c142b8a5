-- Which record of a file is refused, where its facts are put one after another.
use Rattle.std.specs.Prelude.{ℕ, ◌+◌, List, [], ◌∷◌, Option, Some, None}
use Rattle.std.specs.Option.{option_or}
use Rattle.cube_base.specs.declared.code.Code.{Code}
use Rattle.cube_model.specs.declared.edit.Edit.TheVariants.{Put}
use Rattle.cube_model.specs.declared.edit.Fact.{Fact}
use Rattle.cube_model.specs.Facts.{put}
use Rattle.cube_model.specs.Tree.{Dimension}
use Rattle.fact_records.specs.Judge.{fact_refusal}
use Rattle.fact_records.specs.Shape.{ShapeValue}
use Rattle.fact_records.specs.declared.fact_seq.BadRecord.{BadRecord}
use Rattle.fact_records.specs.declared.fact_seq.FactSeq.{FactSeq}

-- the record of an index, where a code refuses it, else what is refused after it
abbrev pub refused_or : ℕ → Option Code → Option BadRecord → Option BadRecord
refused_or index (Some refusal) later = Some (record { index = index; code = refusal })
refused_or index None later = later

-- of new facts, the first of which has this index, the first whose put is refused over the facts and those before it
abbrev pub refused_among : ShapeValue → List Dimension → ℕ → List Fact → List Fact → Option BadRecord
refused_among shape dims index facts [] = None
refused_among shape dims index facts (fact ∷ new) =
    refused_or index (fact_refusal shape dims (Put fact) facts) (refused_among shape dims (index + 1) (put fact facts) new)

-- the first record of a file that is refused: the first such fact, or else the record that could not be read
abbrev pub refused_in : ShapeValue → List Dimension → List Fact → FactSeq → Option BadRecord
refused_in shape dims facts seq = option_or (refused_among shape dims 1 facts seq.facts) seq.bad
