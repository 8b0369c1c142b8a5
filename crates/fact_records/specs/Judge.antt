-- Which edits are accepted.
use Rattle.std.specs.Prelude.{List, [], ◌∷◌, Option, None}
use Rattle.cube_base.specs.declared.code.Code.{Code}
use Rattle.cube_base.specs.declared.code.Code.TheVariants as code
use Rattle.cube_model.specs.declared.edit.Fact.{Fact}
use Rattle.cube_model.specs.declared.edit.Edit.{Edit}
use Rattle.cube_model.specs.declared.edit.Edit.TheVariants.{Put, Change, Withdraw}
use Rattle.cube_model.specs.Accepted.{first_refusal, first_that_holds, has_many_rows, is_missing, is_over, is_repeat}
use Rattle.cube_model.specs.Allocation.{Policy, extended}
use Rattle.cube_model.specs.Facts.{after}
use Rattle.cube_model.specs.Tree.{Dimension}
use Rattle.fact_records.specs.Accepted.{cols_refusal, region_refusal}
use Rattle.fact_records.specs.Shape.{ShapeValue}

-- why the values of an edit's fact are refused
abbrev pub edit_cols_refusal : ShapeValue → Edit → Option Code
edit_cols_refusal shape (Put fact) = cols_refusal shape fact.cols
edit_cols_refusal shape (Change fact) = cols_refusal shape fact.cols
edit_cols_refusal shape (Withdraw id) = None

-- why the region of an edit's fact is refused
abbrev pub edit_region_refusal : List Dimension → Edit → Option Code
edit_region_refusal dims (Put fact) = region_refusal dims fact.region
edit_region_refusal dims (Change fact) = region_refusal dims fact.region
edit_region_refusal dims (Withdraw id) = None

-- why an edit is refused before its rows are looked at
abbrev pub fact_refusal : ShapeValue → List Dimension → Edit → List Fact → Option Code
fact_refusal shape dims edit facts =
    first_refusal
    (edit_cols_refusal shape edit
    ∷ first_that_holds ((is_repeat edit facts, code.Exists) ∷ (is_missing edit facts, code.Missing) ∷ [])
    ∷ edit_region_refusal dims edit
    ∷ first_that_holds ((is_over edit facts, code.Facts) ∷ []) ∷ [])

-- why an edit is refused: its fact is, or the facts after it have too many rows
abbrev pub judge : Policy → ShapeValue → List Dimension → Edit → List Fact → Option Code
judge policy shape dims edit facts =
    first_refusal
    (fact_refusal shape dims edit facts
    ∷ first_that_holds ((has_many_rows (extended policy dims (after edit facts)), code.Rows) ∷ []) ∷ [])
