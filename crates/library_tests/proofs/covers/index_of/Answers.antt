use Rattle.std.proofs.Common.{◌∙◌}
use Rattle.library_tests.proofs.Noted.{HasPatterns-first}
use Rattle.library_tests.proofs.covers.index_of.Goals as goal

pub returns : goal.returns
returns c =
    HasPatterns-first _ _ _ _ _ _ _ _ c.in_ok-pairs.ensures c.new-index.ensures c.stage.ensures.content c.install.ensures.applies (c.in_ok-entries.ensures.changes.0 ∙ c.deref.ensures.value) c.in_ok-entries.ensures.changes.1
