-- The place of the fact's cell is raised.
use Rattle.iter_alloc.proofs.begun.add_precise.Goals as goal
use Rattle.cube_model.specs.Facts.{lies_at}
use Rattle.iter_alloc.proofs.Beginning.{lies-some, place-tells, raised-one}
use Rattle.iter_alloc.specs.Forest.{at}
use Rattle.iter_alloc.specs.Rounds.{WHOLE_FACT}
use Rattle.std.proofs.Common.{ap, sym, ◌∙◌, arith}
use Rattle.std.specs.Prelude.{if◌then◌else◌}

pub returns-in-Some-get_index_of : goal.returns-in-Some-get_index_of
returns-in-Some-get_index_of c =
    let keys = c.args.cells.now.keys in
    raised-one (λ i. if lies_at c.args.space.now (at keys i) c.args.fact then WHOLE_FACT else 0) c.args.begun.now c.in-Some-get_index_of.place WHOLE_FACT (omega (arith, c.in-Some-get_index_of.ensures.within, c.requires.as_many))
    (λ i within.
    ap (λ b. if b then WHOLE_FACT else 0)
    (lies-some c.args.space.now c.args.fact c.in-Some.cell (sym c.in-Some.ensures.only) (at keys i)
    ∙ place-tells keys c.in-Some.cell c.in-Some-get_index_of.place c.requires.own (sym c.in-Some-get_index_of.ensures.index) i (omega (arith, within, c.requires.as_many))))
