-- Both roots are found, and the lesser becomes the parent of the greater.
use Rattle.iter_alloc.proofs.forest.join.Goals as goal
use Rattle.iter_alloc.proofs.Roots.{joined-found}
use Rattle.std.proofs.Common.{◌∙◌}

pub returns-clause-roots : goal.returns-clause-roots
returns-clause-roots c = λ roots are.
    rw (c.max.ensures, c.min.ensures) (joined-found c.args.parents.now c.find-a.new.parents c.find-b.new.parents c.args.a c.args.b c.find-a.result c.find-b.result c.requires.first c.requires.second
    (c.find-b.ensures.as_many ∙ c.find-a.ensures.as_many) c.find-a.ensures.root c.find-a.ensures.kept c.find-b.ensures.root c.find-b.ensures.kept roots are)
