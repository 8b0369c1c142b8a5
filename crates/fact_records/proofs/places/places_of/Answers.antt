use Rattle.std.proofs.Common.{FitsSigned, w64, [], arith, rules}
use Rattle.std.proofs.lemmas.Int.{to_z-of_z}
use Rattle.std.proofs.lemmas.List.{length-set}
use Rattle.fact_records.proofs.Filling.{filled-more}
use Rattle.fact_records.proofs.places.places_of.Goals as goal

pub loop-i-preserved : goal.loop-i-preserved
loop-i-preserved c =
    let fits : FitsSigned w64 c.get.result = search rules in
    rw (to_z-of_z w64 c.get.result fits) (
      filled-more [] c.args.cols c.loop-i.places c.loop-i.i c.loop-i.i c.get.result c.loop-i.invariant.0 (omega (arith)) c.get.ensures,
      rw length-set c.loop-i.invariant.1,
    )
