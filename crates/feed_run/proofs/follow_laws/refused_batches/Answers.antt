-- The definitions compute it.
use Rattle.std.proofs.Common.{refl}
use Rattle.std.specs.Char.{encode_utf8}
use Rattle.std.specs.Fmt.{digits}
use Rattle.std.specs.Str.{chars, is_utf8}
use Rattle.cube_model.specs.Allocation.{allocation, extended}
use Rattle.cube_model.specs.Cells.{all_cells, cells_of, is_inside}
use Rattle.cube_model.specs.Difference.{refreshed}
use Rattle.cube_model.specs.Tree.{is_leaf, is_numbered, is_under, leaves, parent, path}
use Rattle.row_feed.specs.FeedLine.{feed_line_of}
use Rattle.schema_text.specs.SchemaText.{schema_of, schema_text}
use Rattle.feed_run.specs.Following.{step_at}
use Rattle.feed_run.proofs.follow_laws.refused_batches.Goals as goal

pub returns : goal.returns
unfolding step_at feed_line_of schema_of schema_text is_utf8 chars encode_utf8 digits path parent is_under is_leaf is_numbered leaves all_cells is_inside cells_of allocation extended refreshed
returns c = record {
  none = refl;
  skipped = refl;
  asks = refl;
  fields = refl;
  order_first = refl;
  number = refl;
  exists = refl;
  a_row_more = refl;
  a_comment = refl;
  again = refl;
}
