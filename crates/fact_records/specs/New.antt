-- New facts that are put one after another.
use Rattle.std.specs.Prelude.{◌≡◌, List, [], ◌∷◌, None}
use Rattle.cube_model.specs.declared.edit.Edit.TheVariants.{Put}
use Rattle.cube_model.specs.declared.edit.Fact.{Fact}
use Rattle.cube_model.specs.Facts.{put}
use Rattle.cube_model.specs.Tree.{Dimension}
use Rattle.fact_records.specs.Judge.{fact_refusal}
use Rattle.fact_records.specs.Shape.{ShapeValue}
use Rattle.fact_records.specs.Valid.{IsPlaced}

-- the facts with the new ones, put in order
abbrev pub put_all : List Fact → List Fact → List Fact
put_all [] facts = facts
put_all (fact ∷ new) facts = put_all new (put fact facts)

-- a put accepts the fact over the facts, the number of rows aside
pub record IsNew (shape : ShapeValue) (dims : List Dimension) (facts : List Fact) (fact : Fact) : Type 0 where
  pub placed : IsPlaced dims fact
  pub accepted : fact_refusal shape dims (Put fact) facts ≡ None

-- so each of the new facts, in order, is over the facts and those before it
abbrev pub AreNew : ShapeValue → List Dimension → List Fact → List Fact → Type 0
AreNew shape dims facts [] = Unit {0}
AreNew shape dims facts (fact ∷ new) = IsNew shape dims facts fact × AreNew shape dims (put fact facts) new
