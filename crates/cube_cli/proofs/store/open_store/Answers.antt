use Rattle.std.proofs.Common.{◌≡◌, refl, ap, sym, ◌∙◌, subst}
use Rattle.schema_text.specs.declared.schema.SchemaFault.{SchemaFault}
use Rattle.script_run.specs.Seen.{Told, keeper_seen, told_of}
use Rattle.cube_cli.specs.SchemaAlone.{HasCauseAlone, schema_alone}
use Rattle.cube_cli.proofs.Keepers.{same_told}
use Rattle.cube_cli.proofs.Known.{given_empty}
use Rattle.cube_cli.proofs.Names.{named_unread}
use Rattle.cube_cli.proofs.Opening.{not_read}
use Rattle.cube_cli.proofs.store.open_store.Goals as goal

pub returns-in-Ok-read_schema_alone-clause-opened : goal.returns-in-Ok-read_schema_alone-clause-opened
returns-in-Ok-read_schema_alone-clause-opened g c = record {
  told = c.in-Ok.ensures.given;
  schema_is = ap schema_alone (sym c.as_slice.ensures) ∙ c.in-Ok-read_schema_alone.ensures.read;
  some = λ none. absurd (cc (c.is_empty.ensures.1 none, c.if-is_empty.false));
  kept = same_told (told_of g.Q.Keeper.tells c.args.keeper.now) (told_of g.Q.Keeper.tells c.load.new.self) c.in-Ok.ensures.content c.in-Ok.ensures.journal;
  count = c.in-Ok.ensures.count;
}

pub returns-in-Err-Failed-clause-not_opened : goal.returns-in-Err-Failed-clause-not_opened
returns-in-Err-Failed-clause-not_opened g c =
    let before : Told = told_of g.Q.Keeper.tells c.args.keeper.now in
    let after : Told = told_of g.Q.Keeper.tells c.load.new.self in
    (same_told before after c.in-Err-Failed.ensures.content c.in-Err-Failed.ensures.journal, rw c.in-Err-Failed.field-0-is at c.in-Err-Failed.ensures.count)

pub returns-in-Err-Memory-clause-not_opened : goal.returns-in-Err-Memory-clause-not_opened
returns-in-Err-Memory-clause-not_opened g c =
    let before : Told = told_of g.Q.Keeper.tells c.args.keeper.now in
    let after : Told = told_of g.Q.Keeper.tells c.load.new.self in
    (same_told before after c.in-Err-Memory.ensures.content c.in-Err-Memory.ensures.journal, rw c.in-Err-Memory.field-0-is at c.in-Err-Memory.ensures.count)

pub returns-then-is_empty-clause-not_opened : goal.returns-then-is_empty-clause-not_opened
returns-then-is_empty-clause-not_opened g c =
    let before : Told = told_of g.Q.Keeper.tells c.args.keeper.now in
    let after : Told = told_of g.Q.Keeper.tells c.load.new.self in (
      same_told before after c.in-Ok.ensures.content c.in-Ok.ensures.journal,
      c.in-Ok.ensures.count,
      given_empty before.content before.content c.in-Ok.content refl c.in-Ok.ensures.given (c.is_empty.ensures.0 c.if-is_empty.true),
    )

pub returns-in-Err-clause-not_opened : goal.returns-in-Err-clause-not_opened
returns-in-Err-clause-not_opened g c =
    let before : Told = told_of g.Q.Keeper.tells c.args.keeper.now in
    let after : Told = told_of g.Q.Keeper.tells c.load.new.self in
    let cause : (fault : SchemaFault) → c.in-Err.fault ≡ fault → HasCauseAlone c.in-Ok.content.schema fault =
    λ fault is. subst (λ text. HasCauseAlone text fault) c.as_slice.ensures (subst (HasCauseAlone c.as_slice.result.now) is c.in-Err.ensures.refused) in
    rw c.load_fault_of.ensures
    (not_read (keeper_seen g.Q.Keeper.tells c.args.keeper.now c.load.new.self) c.in-Ok.content c.in-Err.fault c.in-Ok.ensures.given
    (λ none. absurd (cc (c.is_empty.ensures.1 none, c.if-is_empty.false))) (same_told before after c.in-Ok.ensures.content c.in-Ok.ensures.journal) c.in-Ok.ensures.count (cause c.in-Err.fault refl))

pub returns-in-Err-clause-named : goal.returns-in-Err-clause-named
returns-in-Err-clause-named g c =
    rw c.load_fault_of.ensures (named_unread c.args.name.now (g.Q.Keeper.tells c.args.keeper.now) (g.Q.Keeper.tells c.load.new.self) c.in-Ok.ensures.named c.in-Err.fault)
