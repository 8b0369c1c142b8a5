-- by the lemma
use Rattle.cube_core.proofs.Tabled.{tables-merged}
use Rattle.cube_core.proofs.tabling.tables_merge.Goals as goal

pub returns : goal.returns
returns c = λ weigh schema facts depths region trees deep named. tables-merged weigh schema facts depths region trees deep named
