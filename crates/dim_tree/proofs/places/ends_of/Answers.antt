use Rattle.std.proofs.Common.{◌<◌, ◌-◌, get_or, refl, length, arith}
use Rattle.std.proofs.lemmas.Bool.Decides.{nat_tests}
use Rattle.std.proofs.lemmas.Grind.{common_steps}
use Rattle.dim_tree.proofs.Passes.{HasEnds_more, shallow_at}
use Rattle.dim_tree.proofs.places.ends_of.Goals as goal

pub loop-place-preserved : goal.loop-place-preserved
loop-place-preserved c =
    let within : c.loop-place.place - 1 < length c.args.depths.now = omega arith in
    let shallow = shallow_at c.args.depths.now (c.loop-place.place - 1) c.requires.shallow within in
    HasEnds_more c.args.depths.now (c.loop-place.place - 1) c.loop-place.place c.loop-place.next _ c.loop-place.ends.items (get_or c.args.depths.now (c.loop-place.place - 1) 0) (omega arith) c.loop-place.invariant within refl shallow (λ d lt. grind (arith, nat_tests, common_steps))
