use Rattle.std.proofs.Common.{◌≡◌, [], ◌∷◌, ◌++◌, refl, ◌∙◌, subst}
use Rattle.std.specs.Prelude.{option_map}
use Rattle.std.proofs.lemmas.Result.{err_from_is_err_and}
use Rattle.fact_keeper.specs.declared.content.Batch.{Batch}
use Rattle.feed_run.proofs.BaseCubes.{cube-difference, cube-lacks, cube-made}
use Rattle.feed_run.proofs.begin.make_cube.Goals as goal

pub returns-in_err-cube : goal.returns-in_err-cube
returns-in_err-cube g c = let exit = err_from_is_err_and c.from_residual.result c.from_residual.ensures.1 in rw (exit.1, exit.2) tt

pub import-requires-clause-placed : goal.import-requires-clause-placed
import-requires-clause-placed g c = rw c.in_ok-cube.ensures.schema (λ k d within. (c.requires.facts.each k d within).accepted.placed)

pub returns-in-Ok : goal.returns-in-Ok
returns-in-Ok g c =
    let schema = c.args.schema in
    let facts = c.args.seq.now.facts in
    let cube = c.in_ok-cube.cube in
    let policy_is = c.in_ok-cube.ensures.policy ∙ c.policy-policy.ensures.policy in
    let before = g.Q.Keeper.tells c.args.keeper.now in
    let after = g.Q.Keeper.tells c.import.new.keeper in
    record {
      is = cube-made schema facts c.requires.facts cube policy_is c.in_ok-cube.ensures.schema c.in_ok-cube.ensures.facts c.args.seq.now refl c.requires.whole c.import.new.self c.in-Ok.ensures.facts c.in-Ok.ensures.few;
      journal = subst (λ (b : Batch). after.journal ≡ option_map (λ batches. batches ++ b ∷ []) before.journal)
          (cube-difference schema facts c.requires.facts cube policy_is c.in_ok-cube.ensures.schema c.in_ok-cube.ensures.facts c.args.seq.now refl c.requires.whole) c.in-Ok.ensures.journal;
    }

pub returns-in-Err : goal.returns-in-Err
returns-in-Err g c =
    let cube = c.in_ok-cube.cube in
    let policy_is = c.in_ok-cube.ensures.policy ∙ c.policy-policy.ensures.policy in
    let before = g.Q.Keeper.tells c.args.keeper.now in
    let after = g.Q.Keeper.tells c.import.new.keeper in
    cube-lacks c.args.schema c.args.seq.now.facts c.requires.facts cube policy_is c.in_ok-cube.ensures.schema c.in_ok-cube.ensures.facts c.args.seq.now refl c.requires.whole before.faults after.faults c.in-Err.fault c.in-Err.ensures.fault c.in-Err.ensures.count
