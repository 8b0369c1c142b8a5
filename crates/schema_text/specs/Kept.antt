-- What is kept of a schema while its lines are read, beside what they say.
use Rattle.std.specs.Prelude.{◌≡◌, map, string_bytes}
use Rattle.fact_records.specs.Shape.{width_of_all}
use Rattle.schema_text.specs.declared.open_dim.OpenDim.{OpenDim}
use Rattle.schema_text.specs.declared.reader.Reader.{Reader}
use Rattle.schema_text.specs.Draft.{AreTaken, IsDraft}
use Rattle.schema_text.specs.SchemaText.{Draft}

-- the names and the numbers that are known are those of the nodes
pub record KnowsNodes (open_dim : OpenDim) : Type 0 where
  pub known : map string_bytes open_dim.known.keys ≡ map (λ n. n.name) open_dim.nodes.items
  pub taken : AreTaken open_dim.version open_dim.nodes.items open_dim.taken.keys

-- what the lines said
abbrev pub draft_of : Reader → Draft
draft_of r = record { last = r.last; version = r.named_last.version; policy = r.policy; measures = r.measures.items; names = r.names.items; dims = r.dims.items; nodes = r.named_last.nodes.items; views = r.views.items }

-- a reader after accepted lines
pub record IsReader (r : Reader) : Type 0 where
  pub draft : IsDraft (draft_of r)
  pub width : r.columns ≡ width_of_all r.measures.items
  pub kept : KnowsNodes r.named_last
