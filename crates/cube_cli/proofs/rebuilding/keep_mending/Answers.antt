use Rattle.std.proofs.Common.{◌≡◌, ◌∷◌, [], arith, false, refl, sym, ap, ◌∙◌, subst}
use Rattle.std.specs.Prelude.{codes, ◌==◌}
use Rattle.std.specs.Fmt.{decimal}
use Rattle.std.proofs.KnownBytes.{Keeps-refl}
use Rattle.std.proofs.lemmas.Bool.Decides.{nat_tests}
use Rattle.text_lines.specs.Text.{line_text}
use Rattle.script_run.specs.Seen.{SeenAll, keeper_seen, sink_seen}
use Rattle.store_audit.specs.Mending.{changed_by}
use Rattle.cube_cli.proofs.Keepers.{unkept}
use Rattle.cube_cli.specs.Steps.{WritesText}
use Rattle.cube_cli.proofs.PutRight.{line_of, not_rebuilt, rebuilt_none, rebuilt_one}
use Rattle.cube_cli.proofs.rebuilding.keep_mending.Goals as goal

pub returns-then-changed-eq0-clause-says : goal.returns-then-changed-eq0-clause-says
returns-then-changed-eq0-clause-says g c = λ source schema content unread given is.
    let seen : SeenAll = record { source = source; sink = sink_seen g.K.Sink.tells c.args.out.now c.tell_rebuilt-told.new.out; keeper = keeper_seen g.Q.Keeper.tells c.args.keeper.now c.args.keeper.now } in
    let none : changed_by c.args.mending.batch ≡ 0 = grind (arith, nat_tests, c.changed_by-changed.ensures, c.if-changed-eq0.true) in
    let line = line_of c.args.mending schema content 0 is (sym none) in
    rw c.end_of_write.ensures
    (rebuilt_none seen unread c.args.mending schema content given is none (unkept seen.keeper refl) refl c.tell_rebuilt-told.result (subst (λ t. WritesText t seen.sink c.tell_rebuilt-told.result) line c.tell_rebuilt-told.ensures))

pub returns-in-Ok-clause-says : goal.returns-in-Ok-clause-says
returns-in-Ok-clause-says g c = λ source schema content unread given is.
    let seen : SeenAll = record { source = source; sink = sink_seen g.K.Sink.tells c.args.out.now c.tell_rebuilt-told-in-Ok.new.out; keeper = keeper_seen g.Q.Keeper.tells c.args.keeper.now c.keep_one.new.keeper } in
    let some : (changed_by c.args.mending.batch == 0) ≡ false = grind (arith, nat_tests, c.changed_by-changed.ensures, c.if-changed-eq0.false) in
    let line = line_of c.args.mending schema content (changed_by c.args.mending.batch) is refl in
    rw c.end_of_write-in-Ok.ensures
    (rebuilt_one seen unread c.args.mending schema content given is some c.in-Ok.ensures.kept c.in-Ok.ensures.count c.tell_rebuilt-told-in-Ok.result
    (subst (λ t. WritesText t seen.sink c.tell_rebuilt-told-in-Ok.result) line (rw (sym c.changed_by-changed.ensures) c.tell_rebuilt-told-in-Ok.ensures)))

pub returns-in-Err-clause-says : goal.returns-in-Err-clause-says
returns-in-Err-clause-says g c = λ source schema content unread given is.
    let seen : SeenAll = record { source = source; sink = sink_seen g.K.Sink.tells c.args.out.now c.args.out.now; keeper = keeper_seen g.Q.Keeper.tells c.args.keeper.now c.keep_one.new.keeper } in
    rw c.end_of_keep.ensures
    (not_rebuilt seen (record { read = unread; wrote = Keeps-refl _; write = refl }) c.in-Err.error c.in-Err.ensures.not_kept c.in-Err.ensures.count)
