-- A name is UTF-8.
use Rattle.std.proofs.Common.{sym, ◌∙◌, true≢false}
use Rattle.schema_text.proofs.Names.{is_name-not_utf8}
use Rattle.schema_text.proofs.name.text_of.Goals as goal

pub unreachable-requires : goal.unreachable-requires
unreachable-requires c = true≢false (sym c.requires ∙ is_name-not_utf8 _ c.in-Err.ensures.cases.0)
