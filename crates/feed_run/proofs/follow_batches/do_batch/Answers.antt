use Rattle.std.proofs.Common.{refl, sym, ap, ◌∙◌}
use Rattle.std.proofs.lemmas.Result.{err_from_is_err_and}
use Rattle.std.specs.Option.{option_to_list}
use Rattle.feed_run.proofs.BatchCubes.{batch-refused, batch-rows, batch-taken}
use Rattle.feed_run.proofs.follow_batches.do_batch.Goals as goal

pub returns-in-Err-clause-takes : goal.returns-in-Err-clause-takes
returns-in-Err-clause-takes c = λ work at. rw (c.in-Err.is, c.refuse_line.ensures) refl

pub do_caught-requires : goal.do_caught-requires
do_caught-requires c = rw c.in_default.is ((rw c.in_default.is at c.requires).there)

pub returns-in_err-reply-clause-takes : goal.returns-in_err-reply-clause-takes
returns-in_err-reply-clause-takes c = λ work at. let exit = err_from_is_err_and c.from_residual.result c.from_residual.ensures.1 in rw (exit.1, exit.2) refl

pub returns-in-Some-clause-takes : goal.returns-in-Some-clause-takes
returns-in-Some-clause-takes c = λ work at.
    let is = (rw c.in_default.is at c.requires).there in
    let are = rw c.in_default.is at (ap option_to_list (sym c.in-Some.is) ∙ c.in_ok-reply.ensures.batch) in
    rw c.in_default.is (batch-taken work c.args.cube.now at c.args.number c.in_default.field-0 is c.in-Some.batch c.do_caught.new.cube are (rw c.in_default.is at c.in_ok-reply.ensures.state))

pub returns-in-None-clause-takes : goal.returns-in-None-clause-takes
returns-in-None-clause-takes c = λ work at.
    let is = (rw c.in_default.is at c.requires).there in
    let none = rw c.in_default.is at (ap option_to_list (sym c.in-None.is) ∙ c.in_ok-reply.ensures.batch) in
    rw (c.in_default.is, c.refuse_line-in-None.ensures, c.refusal_in-code.ensures) (batch-refused work c.args.cube.now at c.args.number c.in_default.field-0 is c.in_ok-reply.field-0.reply none (rw c.in_default.is at c.in_ok-reply.ensures.reply))

pub returns-in-Some-clause-rows : goal.returns-in-Some-clause-rows
returns-in-Some-clause-rows c =
    let is = (rw c.in_default.is at c.requires).there in
    let are = rw c.in_default.is at (ap option_to_list (sym c.in-Some.is) ∙ c.in_ok-reply.ensures.batch) in
    batch-rows c.args.cube.now c.in_default.field-0 is c.in-Some.batch c.do_caught.new.cube are (rw c.in_default.is at c.in_ok-reply.ensures.state)
