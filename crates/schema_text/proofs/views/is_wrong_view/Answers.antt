-- A name is taken where a view has it.
use Rattle.std.proofs.Common.{rules}
use Rattle.schema_text.proofs.ViewsMore.{is_among_names-views}
use Rattle.schema_text.proofs.views.is_wrong_view.Goals as goal

pub returns-else-not-is_name : goal.returns-else-not-is_name
returns-else-not-is_name c = rw (is_among_names-views c.args.name.now c.args.before.now) (search rules)
