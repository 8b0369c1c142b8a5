use Rattle.std.proofs.Common.{refl}
use Rattle.std.specs.Char.{encode_utf8}
use Rattle.std.specs.Fmt.{digits}
use Rattle.std.specs.Str.{chars, is_utf8}
use Rattle.cube_model.specs.Allocation.{allocation, extended}
use Rattle.cube_model.specs.Answer.{answer}
use Rattle.cube_model.specs.Cells.{all_cells, cells_of, is_inside}
use Rattle.cube_model.specs.Difference.{refreshed}
use Rattle.cube_model.specs.Tree.{is_leaf, is_numbered, is_under, leaves, parent, path}
use Rattle.script_text.specs.ScriptLine.{line_of}
use Rattle.script_run.specs.Kept.{batches_at}
use Rattle.script_run.specs.Run.{step}
use Rattle.feed_run.specs.Leading.{text_at}
use Rattle.feed_run.proofs.lead_laws.worked_texts.Goals as goal

-- the definitions compute it
pub returns : goal.returns
unfolding is_utf8 chars encode_utf8 digits path parent is_under is_leaf is_numbered leaves all_cells is_inside cells_of allocation extended answer refreshed line_of step batches_at text_at
returns c = refl
