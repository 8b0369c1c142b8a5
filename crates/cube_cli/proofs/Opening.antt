-- What the ends say of a store that is not opened or not loaded alike a cube.
use Rattle.std.proofs.Common.{◌≡◌, ℕ, Bool, false, List, [], refl, sym, ap, ◌∙◌, subst, Some}
use Rattle.std.specs.Prelude.{◌≢◌}
use Rattle.fact_keeper.specs.declared.content.Stored.{Stored}
use Rattle.fact_keeper.specs.Batch.{empty_content}
use Rattle.schema_text.specs.Schema.{SchemaValue, schema_policy, shape_of, weigh_of}
use Rattle.schema_text.specs.declared.word.PolicyWord.{PolicyWord}
use Rattle.store_audit.specs.Mending.{IsMendFault, IsMendFinding}
use Rattle.store_audit.specs.Sound.{IsFinding, IsLoadFault}
use Rattle.schema_text.specs.declared.schema.SchemaFault.{SchemaFault}
use Rattle.schema_text.specs.declared.schema.SchemaFault.TheVariants as schema_fault
use Rattle.store_audit.specs.declared.finding.Finding.{Finding}
use Rattle.store_audit.specs.declared.finding.Finding.TheVariants as finding
use Rattle.store_audit.specs.declared.finding.LoadFault.{LoadFault}
use Rattle.store_audit.specs.declared.finding.LoadFault.TheVariants as load_fault
use Rattle.script_run.specs.Seen.{KeeperSeen, NoKeepFault, SeenAll}
use Rattle.cube_cli.specs.declared.command.Command.TheVariants.{Store}
use Rattle.cube_cli.specs.declared.command.StoreCommand.{StoreCommand}
use Rattle.cube_cli.specs.declared.command.StoreCommand.TheVariants.{Ask, Follow, Input, Rebuild, Tell}
use Rattle.cube_cli.specs.declared.store.InputTask.{InputTask}
use Rattle.cube_cli.specs.declared.store.InputTask.TheVariants.{Run, Import, Lead}
use Rattle.cube_cli.specs.declared.telling.Telling.{Telling}
use Rattle.cube_cli.specs.declared.store.OpenStop.{OpenStop}
use Rattle.cube_cli.specs.declared.store.OpenStop.TheVariants as open_stop
use Rattle.cube_cli.specs.declared.end.End.TheVariants.{BadStore, KeepFault, Memory, NoCube}
use Rattle.cube_cli.specs.Doing.{Fits, doing_of, ends_of}
use Rattle.cube_cli.specs.End.{SaysAsked, SaysOf}
use Rattle.cube_cli.specs.Kinds.{IsAmong, is_of_rows}
use Rattle.cube_cli.specs.RunEnd.{end_of_load, end_of_open, load_fault_of}
use Rattle.cube_cli.specs.SchemaAlone.{HasCauseAlone}
use Rattle.cube_cli.specs.Seen.{Holds, IsUntouched, WasNotCalled}
use Rattle.cube_cli.specs.Steps.{HoldsSchema, NotOpened, OpenedWith}
use Rattle.cube_cli.specs.Store.{Finds, FindsBy}
use Rattle.cube_cli.proofs.First.{IsStill, bad_store, keep_fault, left_all, no_cube, wants_memory}
use Rattle.cube_cli.proofs.Known.{of_given}

-- a command which may give the ends of a store that is not opened: none of these tells of rows
record MayStop (command : StoreCommand) : Type 0 where
  bad_store : (found : Finding) → is_of_rows found ≡ false → IsAmong (ends_of (Some (Store command))) (BadStore found)
  keep_fault : IsAmong (ends_of (Some (Store command))) (KeepFault 0)
  memory : IsAmong (ends_of (Some (Store command))) (Memory 0)

may_input : (task : InputTask) → MayStop (Input task)
may_input Run = record { bad_store = λ found other. refl; keep_fault = refl; memory = refl }
may_input Import = record { bad_store = λ found other. refl; keep_fault = refl; memory = refl }
may_input Lead = record { bad_store = λ found other. refl; keep_fault = refl; memory = refl }

may_follow : MayStop Follow
may_follow = record { bad_store = λ found other. refl; keep_fault = refl; memory = refl }

may_ask : MayStop Ask
may_ask = record { bad_store = λ found other. refl; keep_fault = refl; memory = refl }

may_tell : (telling : Telling) → MayStop (Tell telling)
may_tell telling = record { bad_store = λ found other. refl; keep_fault = refl; memory = refl }

rebuild_finds : (found : Finding) → is_of_rows found ≡ false → IsAmong (ends_of (Some (Store Rebuild))) (BadStore found)
rebuild_finds (finding.Schema line why) other = refl
rebuild_finds (finding.Fact place id why) other = refl
rebuild_finds (finding.TooManyRows would) other = refl
rebuild_finds (finding.Rows place kept anew) other = absurd (cc other)

may_rebuild : MayStop Rebuild
may_rebuild = record { bad_store = rebuild_finds; keep_fault = refl; memory = refl }

module _ (line : List ℕ) (command : StoreCommand) (may : MayStop command) (seen : SeenAll) (still : IsStill seen) where
  not_opened : (stop : OpenStop) → (stop ≡ open_stop.NoCube → IsAmong (ends_of (Some (Store command))) NoCube) → NotOpened seen.keeper stop → SaysAsked line (Some (Store command)) seen (end_of_open stop)
  not_opened open_stop.NoCube none is =
      no_cube seen (left_all seen still is.0) (ends_of (Some (Store command))) (doing_of line (Some (Store command))) (Fits (Some (Store command))) (none refl) (record { read = still.read.count; write = still.write; keep = is.1 }) is.2
  not_opened open_stop.Fault none is =
      keep_fault seen (left_all seen still is.0) (ends_of (Some (Store command))) (doing_of line (Some (Store command))) (Fits (Some (Store command))) may.keep_fault (record { cause = is.1; read = still.read.count; write = still.write })
  not_opened (open_stop.Load (load_fault.Bad found)) none is =
      bad_store seen (left_all seen still is.0) (ends_of (Some (Store command))) (doing_of line (Some (Store command))) (Fits (Some (Store command))) found (may.bad_store found is.3)
      (record { read = still.read.count; write = still.write; keep = is.1 }) is.2
  not_opened (open_stop.Load load_fault.Memory) none is =
      wants_memory seen (left_all seen still is.0) (ends_of (Some (Store command))) (doing_of line (Some (Store command))) (Fits (Some (Store command))) may.memory (record { read = still.read.count; write = still.write; keep = is.1 })

  -- a content was loaded, and is not that of a cube
  module _ (schema : SchemaValue) (policy : PolicyWord) (content : Stored) (given : Holds seen.keeper (λ kept. content ≡ kept)) (holds : HoldsSchema schema content) (named : policy ≡ schema.policy) (uncalled : WasNotCalled seen.keeper) where
    finds_as : (found : Finding) → IsFinding (schema_policy (weigh_of policy) schema) (shape_of schema) schema.dims content found → Finds content found
    finds_as found is =
        subst (λ r. FindsBy r content found) (sym holds.schema_is) (subst (λ p. IsFinding (schema_policy (weigh_of p) schema) (shape_of schema) schema.dims content found) named is)

    bad_content : (found : Finding) → IsAmong (ends_of (Some (Store command))) (BadStore found) → IsFinding (schema_policy (weigh_of policy) schema) (shape_of schema) schema.dims content found
        → SaysAsked line (Some (Store command)) seen (BadStore found)
    bad_content found among is =
        bad_store seen (left_all seen still uncalled.kept) (ends_of (Some (Store command))) (doing_of line (Some (Store command))) (Fits (Some (Store command))) found among
        (record { read = still.read.count; write = still.write; keep = uncalled.count })
        (of_given seen.keeper.told.content content (λ kept. (kept ≢ empty_content) × Finds kept found) given (holds.some, finds_as found is))

    not_loaded : (fault : LoadFault) → ((found : Finding) → IsAmong (ends_of (Some (Store command))) (BadStore found)) → IsLoadFault (schema_policy (weigh_of policy) schema) (shape_of schema) schema.dims content fault
        → SaysAsked line (Some (Store command)) seen (end_of_load fault)
    not_loaded (load_fault.Bad found) among is = bad_content found (among found) is
    not_loaded load_fault.Memory among is = not_opened (open_stop.Load load_fault.Memory) (λ none. absurd (cc none)) (uncalled.kept, uncalled.count)

    not_mended : (fault : LoadFault) → ((found : Finding) → is_of_rows found ≡ false → IsAmong (ends_of (Some (Store command))) (BadStore found))
        → IsMendFault (schema_policy (weigh_of policy) schema) (shape_of schema) schema.dims content fault → SaysAsked line (Some (Store command)) seen (end_of_load fault)
    not_mended (load_fault.Bad (finding.Schema at why)) among is = absurd is
    not_mended (load_fault.Bad (finding.Fact place id why)) among is = bad_content (finding.Fact place id why) (among (finding.Fact place id why) refl) is
    not_mended (load_fault.Bad (finding.TooManyRows would)) among is = bad_content (finding.TooManyRows would) (among (finding.TooManyRows would) refl) is
    not_mended (load_fault.Bad (finding.Rows place kept anew)) among is = absurd is
    not_mended load_fault.Memory among is = not_opened (open_stop.Load load_fault.Memory) (λ none. absurd (cc none)) (uncalled.kept, uncalled.count)

may_find : (task : InputTask) (found : Finding) → IsAmong (ends_of (Some (Store (Input task)))) (BadStore found)
may_find Run found = refl
may_find Import found = refl
may_find Lead found = refl

may_find_none : (task : InputTask) → IsAmong (ends_of (Some (Store (Input task)))) NoCube
may_find_none Run = refl
may_find_none Import = refl
may_find_none Lead = refl

pub input_not_opened : (task : InputTask) (seen : SeenAll) → IsStill seen → (stop : OpenStop) → NotOpened seen.keeper stop → SaysOf (Some (Store (Input task))) seen (end_of_open stop)
input_not_opened task seen still stop is = not_opened [] (Input task) (may_input task) seen still stop (λ none. may_find_none task) is

pub follow_not_opened : (seen : SeenAll) → IsStill seen → (stop : OpenStop) → stop ≢ open_stop.NoCube → NotOpened seen.keeper stop → SaysOf (Some (Store Follow)) seen (end_of_open stop)
follow_not_opened seen still stop some is = not_opened [] Follow may_follow seen still stop (λ none. absurd (some none)) is

pub ask_not_opened : (line : List ℕ) (seen : SeenAll) → IsStill seen → (stop : OpenStop) → NotOpened seen.keeper stop → SaysAsked line (Some (Store Ask)) seen (end_of_open stop)
ask_not_opened line seen still stop is = not_opened line Ask may_ask seen still stop (λ none. refl) is

pub tell_not_opened : (telling : Telling) (seen : SeenAll) → IsStill seen → (stop : OpenStop) → NotOpened seen.keeper stop → SaysOf (Some (Store (Tell telling))) seen (end_of_open stop)
tell_not_opened telling seen still stop is = not_opened [] (Tell telling) (may_tell telling) seen still stop (λ none. refl) is

module _ (seen : SeenAll) (still : IsStill seen) (schema : SchemaValue) (policy : PolicyWord) (content : Stored) (given : Holds seen.keeper (λ kept. content ≡ kept)) (holds : HoldsSchema schema content) (named : policy ≡ schema.policy) (uncalled : WasNotCalled seen.keeper)
    (fault : LoadFault) (is : IsLoadFault (schema_policy (weigh_of policy) schema) (shape_of schema) schema.dims content fault) where
  pub input_not_loaded : (task : InputTask) → SaysOf (Some (Store (Input task))) seen (end_of_load fault)
  input_not_loaded task = not_loaded [] (Input task) (may_input task) seen still schema policy content given holds named uncalled fault (may_find task) is

  pub follow_not_loaded : SaysOf (Some (Store Follow)) seen (end_of_load fault)
  follow_not_loaded = not_loaded [] Follow may_follow seen still schema policy content given holds named uncalled fault (λ found. refl) is

  pub ask_not_loaded : (line : List ℕ) → SaysAsked line (Some (Store Ask)) seen (end_of_load fault)
  ask_not_loaded line = not_loaded line Ask may_ask seen still schema policy content given holds named uncalled fault (λ found. refl) is

  pub tell_not_loaded : (telling : Telling) → SaysOf (Some (Store (Tell telling))) seen (end_of_load fault)
  tell_not_loaded telling = not_loaded [] (Tell telling) (may_tell telling) seen still schema policy content given holds named uncalled fault (λ found. refl) is

-- what stops a rebuilding
pub rebuild_not_opened : (seen : SeenAll) → IsStill seen → (stop : OpenStop) → NotOpened seen.keeper stop → SaysOf (Some (Store Rebuild)) seen (end_of_open stop)
rebuild_not_opened seen still stop is = not_opened [] Rebuild may_rebuild seen still stop (λ none. refl) is

pub rebuild_not_mended : (seen : SeenAll) → IsStill seen → (schema : SchemaValue) (policy : PolicyWord) (content : Stored) → Holds seen.keeper (λ kept. content ≡ kept) → HoldsSchema schema content → policy ≡ schema.policy → WasNotCalled seen.keeper
    → (fault : LoadFault) → IsMendFault (schema_policy (weigh_of policy) schema) (shape_of schema) schema.dims content fault → SaysOf (Some (Store Rebuild)) seen (end_of_load fault)
rebuild_not_mended seen still schema policy content given holds named uncalled fault is =
    not_mended [] Rebuild may_rebuild seen still schema policy content given holds named uncalled fault rebuild_finds is

-- a store was loaded, and holds this schema
pub holds_schema : (schema : SchemaValue) (content : Stored) (keeper : KeeperSeen) → OpenedWith schema content keeper → HoldsSchema schema content
holds_schema schema content keeper opened = record { schema_is = opened.schema_is; some = opened.some }

-- or its text is not read as a schema alone
pub not_read : (keeper : KeeperSeen) (content : Stored) (fault : SchemaFault) → Holds keeper (λ kept. content ≡ kept) → content ≢ empty_content → IsUntouched keeper → NoKeepFault keeper → HasCauseAlone content.schema fault
    → NotOpened keeper (open_stop.Load (load_fault_of fault))
not_read keeper content (schema_fault.Bad line why) given some kept count cause =
    let found : Finding = finding.Schema line why in (
      kept,
      count,
      of_given keeper.told.content content (λ kept. (kept ≢ empty_content) × Finds kept found) given (some, subst (λ r. FindsBy r content found) (sym cause) refl),
      refl,
    )
not_read keeper content schema_fault.Memory given some kept count cause = (kept, count)

-- where it is not opened the content stays
pub opening_kept : (keeper : KeeperSeen) (stop : OpenStop) → NotOpened keeper stop → IsUntouched keeper
opening_kept keeper open_stop.NoCube is = is.0
opening_kept keeper open_stop.Fault is = is.0
opening_kept keeper (open_stop.Load (load_fault.Bad found)) is = is.0
opening_kept keeper (open_stop.Load load_fault.Memory) is = is.0
