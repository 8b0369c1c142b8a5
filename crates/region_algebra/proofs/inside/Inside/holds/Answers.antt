use Rattle.std.proofs.Common.{◌≡◌, false, sym, ap, ◌∙◌, arith}
use Rattle.std.specs.Prelude.{nat_lt}
use Rattle.std.proofs.lemmas.Bool.Decides.{nat_tests}
use Rattle.cube_model.specs.Cells.{is_among}
use Rattle.region_algebra.proofs.InsideDigits.{is_among-past}
use Rattle.region_algebra.proofs.inside.Inside.holds.Goals as goal

pub returns-else-cell-self : goal.returns-else-cell-self
returns-else-cell-self c =
    let past : nat_lt c.args.cell c.self.inside.cells ≡ false = grind (arith, nat_tests, c.if-cell-self.false) in
    past ∙ sym (ap (λ cells. is_among cells c.args.cell) (sym c.self.view_is) ∙ is_among-past c.self.inside.space.now c.self.inside.region c.args.cell (omega (arith, c.if-cell-self.false, c.self.invariant.whole)))
