use Rattle.std.proofs.Common.{◌≡◌, [], refl, sym, ap, ◌∙◌, inr, Some}
use Rattle.std.proofs.KnownBytes.{Keeps-refl}
use Rattle.schema_text.specs.SchemaText.{schema_text}
use Rattle.script_run.specs.Seen.{SeenAll, seen_of}
use Rattle.store_audit.specs.Sound.{facts_told}
use Rattle.feed_run.specs.Following.{Base}
use Rattle.cube_cli.specs.declared.command.Command.TheVariants.{Store}
use Rattle.cube_cli.specs.declared.command.StoreCommand.TheVariants.{Follow}
use Rattle.cube_cli.specs.Doing.{Fits, base_in, doing_of, ends_of}
use Rattle.cube_cli.proofs.Auditing.{loaded_cube, sound_content}
use Rattle.cube_cli.proofs.First.{wants_memory}
use Rattle.cube_cli.proofs.FollowEnds.{base_in-schema}
use Rattle.cube_cli.proofs.Opening.{follow_not_loaded}
use Rattle.cube_cli.proofs.following.follow_store.Goals as goal

pub returns-in-Ok-base_of-clause-says : goal.returns-in-Ok-base_of-clause-says
returns-in-Ok-base_of-clause-says g c = λ given holds.
    let is = loaded_cube c.args.schema c.policy-policy.result c.args.content c.in-Ok.cube c.policy-policy.ensures.policy c.in-Ok.ensures.schema c.in-Ok.ensures.policy c.in-Ok.ensures.facts c.in-Ok.ensures.sound holds in
    let base : base_in c.args.content ≡ Some c.in-Ok-base_of.base = base_in-schema c.args.content c.in-Ok.cube.schema is.holds.schema_is ∙ ap (λ (b : Base). Some b) (sym c.in-Ok-base_of.ensures) in
    c.follow_over.ensures.says c.args.content given base (inr (sound_content c.args.content c.in-Ok.cube.schema is.holds.schema_is is.sound))

pub returns-in-Err-base_of-clause-says : goal.returns-in-Err-base_of-clause-says
returns-in-Err-base_of-clause-says g c = λ given holds.
    let seen : SeenAll = seen_of g.S.Source.tells g.K.Sink.tells g.Q.Keeper.tells c.args.source.now c.args.source.now c.args.out.now c.args.out.now c.args.keeper.now c.args.keeper.now in
    wants_memory seen (record { nothing = record { wrote = Keeps-refl _; kept = refl }; read = Keeps-refl _ }) (ends_of (Some (Store Follow))) (doing_of [] (Some (Store Follow))) (Fits (Some (Store Follow))) refl
    (record { read = refl; write = refl; keep = refl })

pub returns-in-Err-clause-says : goal.returns-in-Err-clause-says
returns-in-Err-clause-says g c = λ given holds.
    let seen : SeenAll = seen_of g.S.Source.tells g.K.Sink.tells g.Q.Keeper.tells c.args.source.now c.args.source.now c.args.out.now c.args.out.now c.args.keeper.now c.args.keeper.now in
    rw c.end_of_load.ensures
    (follow_not_loaded seen (record { read = record { read = Keeps-refl _; count = refl }; wrote = Keeps-refl _; write = refl }) c.args.schema c.policy-policy.result c.args.content given holds c.policy-policy.ensures.policy (record { kept = refl; count = refl }) c.in-Err.fault c.in-Err.ensures.fault)
