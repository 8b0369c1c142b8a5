-- What puts the rows of a content right whose schema and facts are sound, and what the content then is.
use Rattle.std.specs.Prelude.{ℕ, ◌+◌, ◌≤◌, Bool, ◌&&◌, ◌||◌, ◌==◌, List, [], filter, length, map, None, not, ⊤}
use Rattle.std.specs.List.{list_any}
use Rattle.cube_model.specs.declared.edit.Fact.{Fact}
use Rattle.cube_model.specs.Allocation.{Policy}
use Rattle.cube_model.specs.Ascending.{ascends_from}
use Rattle.cube_model.specs.Difference.{is_same}
use Rattle.cube_model.specs.Facts.{has_id}
use Rattle.cube_model.specs.Limits.{MAX_ROWS}
use Rattle.cube_model.specs.Tree.{Dimension}
use Rattle.fact_keeper.specs.Batch.{rows_id}
use Rattle.fact_keeper.specs.declared.content.Batch.{Batch}
use Rattle.fact_keeper.specs.declared.content.KeptFact.{KeptFact}
use Rattle.fact_keeper.specs.declared.content.KeptRows.{KeptRows}
use Rattle.fact_keeper.specs.declared.content.Stored.{Stored}
use Rattle.fact_records.specs.Shape.{ShapeValue}
use Rattle.store_audit.specs.Loading.{spread_told}
use Rattle.store_audit.specs.Sound.{AreGood, HaveManyRows, IsBadFact, rows_anew, rows_counted}
use Rattle.store_audit.specs.declared.finding.Finding.{Finding}
use Rattle.store_audit.specs.declared.finding.Finding.TheVariants as finding
use Rattle.store_audit.specs.declared.finding.LoadFault.{LoadFault}
use Rattle.store_audit.specs.declared.finding.LoadFault.TheVariants as load_fault

-- two entries are of one id, with one denominator and the same rows
abbrev pub is_equal : KeptRows → KeptRows → Bool
is_equal a b = a.id == b.id && is_same (spread_told a) (spread_told b)

-- Rows that were made anew are to be put: none of the kept entries is equal to them, or these do not ascend by id, each id once.
abbrev pub is_wanting : List KeptRows → KeptRows → Bool
is_wanting kept new = not (ascends_from rows_id 0 kept) || not (list_any (λ k. is_equal k new) kept)

-- no fact has the id of kept rows
abbrev pub is_stray : List KeptFact → KeptRows → Bool
is_stray facts rows = not (list_any (λ f. f.id == rows.id) facts)

-- the ids of the kept rows of which no fact has the id, one for each such entry, in their order
abbrev pub strays : List KeptRows → List KeptFact → List ℕ
strays rows facts = map rows_id (filter (is_stray facts) rows)

-- the batch that puts the rows of a content right
abbrev pub mended_batch : Policy → List Dimension → Stored → Batch
mended_batch policy dims content = record {
  schema = None;
  gone = strays content.rows content.facts;
  facts = [];
  rows = filter (is_wanting content.rows) (rows_anew policy dims content);
}

-- how many entries of rows a batch drops or puts
abbrev pub changed_by : Batch → ℕ
changed_by batch = length batch.gone + length batch.rows

-- the content with the rows that its facts make
abbrev pub mended : Policy → List Dimension → Stored → Stored
mended policy dims content = record { schema = content.schema; facts = content.facts; rows = rows_anew policy dims content }

-- The rows of a content may be put right: no kept fact is refused, and they have not too many rows.
pub record IsMendable (policy : Policy) (shape : ShapeValue) (dims : List Dimension) (content : Stored) : Type 0 where
  pub good : AreGood shape dims content.facts
  pub few : rows_counted policy dims content ≤ MAX_ROWS

-- what is found first in a content of which the rows may not be put right; whatever rows it has, they are not it
abbrev pub IsMendFinding : Policy → ShapeValue → List Dimension → Stored → Finding → Type 0
IsMendFinding policy shape dims content (finding.Schema line why) = ⊥
IsMendFinding policy shape dims content (finding.Fact place id why) = IsBadFact shape dims content.facts place id why
IsMendFinding policy shape dims content (finding.TooManyRows would) = HaveManyRows policy shape dims content would
IsMendFinding policy shape dims content (finding.Rows place kept anew) = ⊥

-- why the rows of a content are not put right; out of memory says nothing
abbrev pub IsMendFault : Policy → ShapeValue → List Dimension → Stored → LoadFault → Type 0
IsMendFault policy shape dims content (load_fault.Bad found) = IsMendFinding policy shape dims content found
IsMendFault policy shape dims content load_fault.Memory = ⊤

-- The same beside any facts and rows made of them: the ids of kept rows that are deleted, and the batch.
abbrev pub gone_beside : List Fact → List KeptRows → List ℕ
gone_beside facts kept = map rows_id (filter (λ r. not (has_id r.id facts)) kept)

abbrev pub batch_beside : List Fact → List KeptRows → List KeptRows → Batch
batch_beside facts anew kept = record { schema = None; gone = gone_beside facts kept; facts = []; rows = filter (is_wanting kept) anew }
