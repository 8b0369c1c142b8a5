-- What the steps of loading a content answer.
use Rattle.std.specs.Prelude.{◌≡◌, ◌≢◌, ℕ, ◌<◌, List, Option, slice_get, ⊤}
use Rattle.cube_model.specs.Allocation.{Allocation}
use Rattle.cube_model.specs.Tree.{Dimension}
use Rattle.fact_keeper.specs.declared.content.KeptFact.{KeptFact}
use Rattle.fact_keeper.specs.declared.content.KeptRows.{KeptRows}
use Rattle.fact_records.specs.Shape.{ShapeValue}
use Rattle.fact_indexes.specs.declared.fault.TooMany.{TooMany}
use Rattle.fact_indexes.specs.declared.fault.TooMany.TheVariants as too_many
use Rattle.store_audit.specs.Sound.{IsBadFact}
use Rattle.store_audit.specs.declared.finding.Finding.{Finding}
use Rattle.store_audit.specs.declared.finding.Finding.TheVariants as finding
use Rattle.store_audit.specs.declared.finding.LoadFault.{LoadFault}
use Rattle.store_audit.specs.declared.finding.LoadFault.TheVariants as load_fault

-- what is found where facts are not kept
abbrev pub too_many_told : TooMany → LoadFault
too_many_told (too_many.Rows would) = load_fault.Bad (finding.TooManyRows would)
too_many_told too_many.Memory = load_fault.Memory

-- the rows of an id that is spread so, as they are kept
abbrev pub rows_told : ℕ → Allocation → KeptRows
rows_told id spread = record { id = id; den = spread.den; rows = spread.rows }

-- how the fact of kept rows is spread by them
abbrev pub spread_told : KeptRows → Allocation
spread_told kept = record { den = kept.den; rows = kept.rows }

-- Why facts are not read: one is refused; or out of memory, of which nothing is said.
abbrev pub IsFactFinding : ShapeValue → List Dimension → List KeptFact → Finding → Type 0
IsFactFinding shape dims facts (finding.Schema line why) = ⊥
IsFactFinding shape dims facts (finding.Fact place id why) = IsBadFact shape dims facts place id why
IsFactFinding shape dims facts (finding.TooManyRows would) = ⊥
IsFactFinding shape dims facts (finding.Rows place kept anew) = ⊥

abbrev pub IsFactFault : ShapeValue → List Dimension → List KeptFact → LoadFault → Type 0
IsFactFault shape dims facts (load_fault.Bad found) = IsFactFinding shape dims facts found
IsFactFault shape dims facts load_fault.Memory = ⊤

-- two lists have others at a place, and at none before it
pub record DifferFirst (kept anew : List KeptRows) (place : ℕ) (here there : Option KeptRows) : Type 0 where
  pub here_is : here ≡ slice_get kept place
  pub there_is : there ≡ slice_get anew place
  pub different : here ≢ there
  pub first : (earlier : ℕ) → earlier < place → slice_get kept earlier ≡ slice_get anew earlier

-- Why rows are not those that were made anew: where the lists differ first; or out of memory.
abbrev pub IsRowsFinding : List KeptRows → List KeptRows → Finding → Type 0
IsRowsFinding kept anew (finding.Schema line why) = ⊥
IsRowsFinding kept anew (finding.Fact place id why) = ⊥
IsRowsFinding kept anew (finding.TooManyRows would) = ⊥
IsRowsFinding kept anew (finding.Rows place here there) = DifferFirst kept anew place here there

abbrev pub IsRowsFault : List KeptRows → List KeptRows → LoadFault → Type 0
IsRowsFault kept anew (load_fault.Bad found) = IsRowsFinding kept anew found
IsRowsFault kept anew load_fault.Memory = ⊤

-- what is told of a place is that, and its parts are different
pub record IsTold (at : ℕ) (kept anew : Option KeptRows) (place : ℕ) (here there : Option KeptRows) : Type 0 where
  pub place_is : place ≡ at
  pub here_is : here ≡ kept
  pub there_is : there ≡ anew
  pub different : here ≢ there

-- why what is kept at a place is not what was made anew
abbrev pub IsPlaceFinding : ℕ → Option KeptRows → Option KeptRows → Finding → Type 0
IsPlaceFinding at kept anew (finding.Schema line why) = ⊥
IsPlaceFinding at kept anew (finding.Fact place id why) = ⊥
IsPlaceFinding at kept anew (finding.TooManyRows would) = ⊥
IsPlaceFinding at kept anew (finding.Rows place here there) = IsTold at kept anew place here there

abbrev pub DiffersAt : ℕ → Option KeptRows → Option KeptRows → LoadFault → Type 0
DiffersAt at kept anew (load_fault.Bad found) = IsPlaceFinding at kept anew found
DiffersAt at kept anew load_fault.Memory = ⊤
