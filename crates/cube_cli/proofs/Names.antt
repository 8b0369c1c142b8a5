-- Which store a run opened.
use Rattle.std.proofs.Common.{◌≡◌, ℕ, List, refl, sym, ◌∙◌, subst, inl, inr}
use Rattle.std.specs.Prelude.{◌⊎◌, IfSome}
use Rattle.cube_base.specs.Outside.{next_count}
use Rattle.fact_keeper.specs.Keeper.{KeeperTold, StaysOpen}
use Rattle.fact_keeper.specs.declared.keeper.KeepError.{KeepError}
use Rattle.fact_keeper.specs.declared.keeper.KeepError.TheVariants as keep_error
use Rattle.script_run.specs.Seen.{SeenAll}
use Rattle.schema_text.specs.declared.schema.SchemaFault.{SchemaFault}
use Rattle.schema_text.specs.declared.schema.SchemaFault.TheVariants as schema_fault
use Rattle.store_audit.specs.declared.finding.LoadFault.TheVariants as load_fault
use Rattle.cube_cli.specs.declared.end.End.{End}
use Rattle.cube_cli.specs.declared.end.End.TheVariants.{KeepFault, Memory}
use Rattle.cube_cli.specs.declared.store.OpenStop.{OpenStop}
use Rattle.cube_cli.specs.declared.store.OpenStop.TheVariants as open_stop
use Rattle.cube_cli.specs.End.{StoppedFirst}
use Rattle.cube_cli.specs.Loaded.{LoadedOnce, NamedAt, OpenedAt, OpenedBy}
use Rattle.cube_cli.specs.RunEnd.{end_of_keep, end_of_open, load_fault_of}

module _ (name : List ℕ) (before after : KeeperTold) (seen : SeenAll) where
  pub opened_at : (end : End) → OpenedBy name after → OpenedAt name before after seen end
  opened_at (KeepFault done) here = inr here
  opened_at (Memory done) here = inr here
  opened_at end here = here

  -- the store was not opened, and nothing was done
  module _ (loads : after.loads ≡ next_count before.loads) (first : StoppedFirst seen 0) where
    pub named_at : (stop : OpenStop) → NamedAt name before after stop → LoadedOnce name before after seen (end_of_open stop)
    named_at open_stop.NoCube named = record { loads = loads; opened = named }
    named_at open_stop.Fault named = record { loads = loads; opened = inl (first, named) }
    named_at (open_stop.Load (load_fault.Bad found)) named = record { loads = loads; opened = named }
    named_at (open_stop.Load load_fault.Memory) named = record { loads = loads; opened = either named }
      where
        either : (after.name ≡ before.name) ⊎ OpenedBy name after → OpenedAt name before after seen (Memory 0)
        either (inl same) = inl (first, same)
        either (inr opened) = inr opened

    pub named_not : (error : KeepError) → after.name ≡ before.name → LoadedOnce name before after seen (end_of_keep error)
    named_not keep_error.Failed same = record { loads = loads; opened = inl (first, same) }
    named_not keep_error.Memory same = record { loads = loads; opened = inl (first, same) }

-- it was, and stays open
pub loaded_once : (name : List ℕ) (before between after : KeeperTold) (seen : SeenAll) (end : End) → between.loads ≡ next_count before.loads → OpenedBy name between → StaysOpen between after → LoadedOnce name before after seen end
loaded_once name before between after seen end loads opened stays = record {
  loads = stays.loads ∙ loads;
  opened = opened_at name before after seen end (subst (λ told. IfSome told (λ by. by ≡ name)) (sym stays.name) opened);
}

pub loaded_only : (name : List ℕ) (before after : KeeperTold) (seen : SeenAll) (end : End) → after.loads ≡ next_count before.loads → OpenedBy name after → LoadedOnce name before after seen end
loaded_only name before after seen end loads opened = record { loads = loads; opened = opened_at name before after seen end opened }

-- it was, and its text is not read as a schema alone
pub named_unread : (name : List ℕ) (before after : KeeperTold) → OpenedBy name after → (fault : SchemaFault) → NamedAt name before after (open_stop.Load (load_fault_of fault))
named_unread name before after opened (schema_fault.Bad line why) = opened
named_unread name before after opened schema_fault.Memory = inr opened
