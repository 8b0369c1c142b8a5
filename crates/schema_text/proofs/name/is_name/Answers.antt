-- Bytes that are not UTF-8 are no name.
use Rattle.std.proofs.Common.{sym}
use Rattle.schema_text.proofs.Names.{is_name-not_utf8}
use Rattle.schema_text.proofs.name.is_name.Goals as goal

pub returns-in-Err : goal.returns-in-Err
returns-in-Err c = sym (is_name-not_utf8 _ c.in-Err.ensures.cases.0)
