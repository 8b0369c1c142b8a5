use Rattle.std.proofs.Common.{◌+◌, drop, sym, ap, ◌∙◌}
use Rattle.std.specs.Prelude.{◌&&◌}
use Rattle.std.specs.List.{list_all}
use Rattle.std.proofs.lemmas.List.{drop_all}
use Rattle.region_algebra.specs.Inside.{is_held}
use Rattle.region_algebra.proofs.InsideDigits.{all-next, no_digit}
use Rattle.region_algebra.proofs.inside.all_hold.Goals as goal

pub loop-digit-preserved : goal.loop-digit-preserved
loop-digit-preserved c =
    c.loop-digit.invariant
    ∙ all-next (is_held c.args.cell) c.args.digits.now c.loop-digit.digit-index no_digit c.loop-digit-test.true
    ∙ ap (λ b. b && list_all (is_held c.args.cell) (drop (c.loop-digit.digit-index + 1) c.args.digits.now)) (sym c.holds.ensures ∙ c.if-not-holds.false)

pub returns : goal.returns
returns c = sym (c.loop-digit.invariant ∙ ap (list_all (is_held c.args.cell)) (drop_all c.loop-digit.digit-index c.args.digits.now c.loop-digit-test.false))
