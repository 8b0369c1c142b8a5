-- Which store a run opened.
use Rattle.std.specs.Prelude.{◌≡◌, ℕ, Bool, true, false, List, [], ◌∷◌, ◌⊎◌, IfSome}
use Rattle.cube_base.specs.Outside.{next_count}
use Rattle.fact_keeper.specs.Keeper.{KeeperTold}
use Rattle.script_run.specs.Seen.{SeenAll}
use Rattle.store_audit.specs.declared.finding.LoadFault.{LoadFault}
use Rattle.store_audit.specs.declared.finding.LoadFault.TheVariants as load_fault
use Rattle.cube_cli.specs.declared.end.End.{End}
use Rattle.cube_cli.specs.declared.end.End.TheVariants.{KeepFault, Memory}
use Rattle.cube_cli.specs.declared.store.OpenStop.{OpenStop}
use Rattle.cube_cli.specs.declared.store.OpenStop.TheVariants as open_stop
use Rattle.cube_cli.specs.End.{StoppedFirst}

-- the second of the words, if there is one: the name of a store
abbrev pub second_word : List (List ℕ) → List ℕ
second_word [] = []
second_word (word ∷ []) = []
second_word (word ∷ name ∷ words) = name

-- the keeper opened the store of this name, where it tells the name
abbrev pub OpenedBy : List ℕ → KeeperTold → Type 0
OpenedBy name after = IfSome after.name (λ opened. opened ≡ name)

-- What is said of the name where a store is not opened: the load was not answered, and the name that the keeper tells stays, or it was.
abbrev pub NamedAt : List ℕ → KeeperTold → KeeperTold → OpenStop → Type 0
NamedAt name before after open_stop.NoCube = OpenedBy name after
NamedAt name before after open_stop.Fault = after.name ≡ before.name
NamedAt name before after (open_stop.Load (load_fault.Bad found)) = OpenedBy name after
NamedAt name before after (open_stop.Load load_fault.Memory) = (after.name ≡ before.name) ⊎ OpenedBy name after

-- What an end says of it: the store was opened, unless nothing was done since the load was not answered.
abbrev pub OpenedAt : List ℕ → KeeperTold → KeeperTold → SeenAll → End → Type 0
OpenedAt name before after seen (KeepFault done) = (StoppedFirst seen done × (after.name ≡ before.name)) ⊎ OpenedBy name after
OpenedAt name before after seen (Memory done) = (StoppedFirst seen done × (after.name ≡ before.name)) ⊎ OpenedBy name after
OpenedAt name before after seen end = OpenedBy name after

-- A store was loaded once, by its name.
pub record LoadedOnce (name : List ℕ) (before after : KeeperTold) (seen : SeenAll) (end : End) : Type 0 where
  pub loads : after.loads ≡ next_count before.loads
  pub opened : OpenedAt name before after seen end

-- No store was loaded.
pub record LoadedNone (before after : KeeperTold) : Type 0 where
  pub loads : after.loads ≡ before.loads
  pub name : after.name ≡ before.name

-- by whether the command calls the keeper
abbrev pub Loads : Bool → List ℕ → KeeperTold → KeeperTold → SeenAll → End → Type 0
Loads true name before after seen end = LoadedOnce name before after seen end
Loads false name before after seen end = LoadedNone before after
