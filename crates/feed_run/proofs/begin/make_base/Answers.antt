use Rattle.std.proofs.Common.{None, refl}
use Rattle.fact_keeper.specs.declared.content.Batch.{Batch}
use Rattle.feed_run.specs.Following.{base_batch}
use Rattle.feed_run.proofs.BaseBegins.{import-refused, lacks-refusal, taken-made}
use Rattle.feed_run.proofs.begin.make_base.Goals as goal

pub stop_of_import-requires : goal.stop_of_import-requires
stop_of_import-requires c = lacks-refusal c.args.schema c.args.seq.now.facts c.in-Err.fault c.in-Err.ensures

pub returns-in-Err : goal.returns-in-Err
returns-in-Err c =
    let refusal = lacks-refusal c.args.schema c.args.seq.now.facts c.in-Err.fault c.in-Err.ensures in
    rw c.stop_of_import.ensures (import-refused c.args.number c.args.schema c.args.seq.now.facts 0 0 c.in-Err.fault c.in-Err.ensures refusal)

pub whole_batch-requires : goal.whole_batch-requires
whole_batch-requires c =
    let batch : Batch = record (base_batch c.args.schema c.args.seq.now.facts) { schema = None } in
    (batch, taken-made c.new-catcher.result.caught c.make_cube.new.keeper.caught c.take.new.self.caught batch c.take.result (rw c.new-catcher.ensures refl) c.in-Ok.ensures.journal c.take.ensures.taken c.take.ensures.none)

pub returns-in-Ok-whole_batch : goal.returns-in-Ok-whole_batch
returns-in-Ok-whole_batch c =
    let batch : Batch = record (base_batch c.args.schema c.args.seq.now.facts) { schema = None } in
    let taken = taken-made c.new-catcher.result.caught c.make_cube.new.keeper.caught c.take.new.self.caught batch c.take.result (rw c.new-catcher.ensures refl) c.in-Ok.ensures.journal c.take.ensures.taken c.take.ensures.none in
    record {
      is = c.in-Ok.ensures.is;
      batch_is = rw (c.schema.ensures, c.in-Ok.ensures.is.is_cube.schema) at (c.in-Ok-whole_batch.ensures batch taken);
    }

pub returns : goal.returns
returns c = rw c.from.ensures refl
