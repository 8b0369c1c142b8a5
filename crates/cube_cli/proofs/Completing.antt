-- A run to which no fault comes, over a store that fits the command, is done to its end unless it is refused or it is out of memory: by cases
-- of what its end says.
use Rattle.std.proofs.Common.{◌≡◌, ℕ, ◌≤◌, Bool, true, false, List, [], length, refl, sym, ap, ◌∙◌, subst, arith, inl, inr, Option, Some, None, Result, Ok, Err}
use Rattle.std.specs.Prelude.{◌≢◌, IfSome, IsOkAnd, slice_get}
use Rattle.cube_base.specs.declared.code.Code.TheVariants as code
use Rattle.std.proofs.lemmas.List.{length-append}
use Rattle.cube_model.specs.Allocation.{Policy}
use Rattle.cube_model.specs.Tree.{Dimension}
use Rattle.fact_keeper.specs.Batch.{empty_content}
use Rattle.fact_keeper.specs.declared.content.Stored.{Stored}
use Rattle.fact_records.specs.Shape.{ShapeValue}
use Rattle.schema_text.specs.Schema.{SchemaValue, policy_of, shape_of}
use Rattle.schema_text.specs.SchemaText.{BadLine, schema_of}
use Rattle.store_audit.specs.Mending.{IsMendable}
use Rattle.store_audit.specs.Sound.{IsFinding, IsSound}
use Rattle.store_audit.specs.declared.finding.Finding.{Finding}
use Rattle.store_audit.specs.declared.finding.Finding.TheVariants as finding
use Rattle.script_run.specs.Seen.{KeeperSeen, SeenAll, SourceSeen}
use Rattle.text_lines.specs.Input.{INPUT_LIMIT, GoesOn}
use Rattle.cube_cli.specs.declared.command.Command.{Command}
use Rattle.cube_cli.specs.declared.command.Command.TheVariants.{Drill, Store, Try}
use Rattle.cube_cli.specs.declared.command.StoreCommand.TheVariants.{Ask, Follow, Init, Input, Rebuild, Tell}
use Rattle.cube_cli.specs.declared.store.InputTask.TheVariants.{Run, Import, Lead}
use Rattle.cube_cli.specs.declared.end.End.{End}
use Rattle.cube_cli.specs.declared.end.End.TheVariants.{Finished, Usage, Schema, NoCube, HasCube, BadStore, ReadFault, WriteFault, KeepFault, Memory, TooLong, BadRecord, ImportRows, BadFeed, Order, Base, Differs}
use Rattle.cube_cli.specs.Doing.{Fits, doing_of, ends_of}
use Rattle.cube_cli.specs.End.{IsCompleteOf, IsDone, SaysAsked}
use Rattle.cube_cli.specs.Kinds.{IsAmong, is_of_rows}
use Rattle.cube_cli.specs.SchemaAlone.{schema_alone}
use Rattle.cube_cli.specs.Seen.{Holds, OfContent, OfInput}
use Rattle.cube_cli.specs.Store.{Finds, FindsBy, IsEmptyOrSound, IsMendableContent, IsMendableOver, IsSoundContent, IsSoundOver}
use Rattle.cube_cli.proofs.Known.{each_content, each_input, told-weaker}

-- an input that goes on behind the limit is longer
not_longer : (left after : Option (List ℕ)) (P : Type 0) → GoesOn INPUT_LIMIT left after → IfSome left (λ input. length input ≤ INPUT_LIMIT → P)
not_longer None after P goes = tt
not_longer (Some input) None P goes = absurd goes.bytes
not_longer (Some input) (Some rest) P goes = λ few. absurd (omega (arith, few, goes.above, ap length goes.bytes, length-append goes.input rest))

of_long : (reads : Bool) (source : SourceSeen) (P : Type 0) → reads ≡ true → GoesOn INPUT_LIMIT source.left source.left_after → OfInput reads source (λ input. length input ≤ INPUT_LIMIT → P)
of_long true source P is goes = not_longer source.left source.left_after P goes
of_long false source P is goes = absurd (cc is)

-- what the store holds does not fit the command
not_fitting : (stores : Bool) (keeper : KeeperSeen) (P Fitting : Stored → Type 0) (R : Stored → Type 0) → stores ≡ true → ((content : Stored) → P content → Fitting content → ⊥) → Holds keeper P
    → OfContent stores keeper (λ content. Fitting content → R content)
not_fitting true keeper P Fitting R is never here = told-weaker keeper.told.content P (λ content. Fitting content → R content) (λ content holds fits. absurd (never content holds fits)) here
not_fitting false keeper P Fitting R is never here = absurd (cc is)

-- in a content that is sound nothing is found
none_found : (policy : Policy) (shape : ShapeValue) (dims : List Dimension) (content : Stored) (found : Finding) → IsSound policy shape dims content → IsFinding policy shape dims content found → ⊥
none_found policy shape dims content (finding.Schema at why) sound is = is
none_found policy shape dims content (finding.Fact place id why) sound is = absurd (cc (sound.good place, is.refused))
none_found policy shape dims content (finding.TooManyRows would) sound is = absurd (omega (arith, is.many, is.count, sound.few))
none_found policy shape dims content (finding.Rows place kept anew) sound is = is.different (is.kept_is ∙ ap (λ rows. slice_get rows place) sound.rows_are ∙ sym is.anew_is)

nothing_found : (content : Stored) (found : Finding) → IsSoundContent content → Finds content found → ⊥
nothing_found content found sound finds = by (schema_alone content.schema) sound finds
  where
    by : (read : Result SchemaValue BadLine) → IsOkAnd read (λ schema. IsSoundOver schema content) → FindsBy read content found → ⊥
    by (Err bad) sound is = sound
    by (Ok schema) sound is = none_found (policy_of schema) (shape_of schema) schema.dims content found sound is

-- in one whose schema and facts are sound nothing is found but in its rows
none_but_rows : (policy : Policy) (shape : ShapeValue) (dims : List Dimension) (content : Stored) (found : Finding) → is_of_rows found ≡ false → IsMendable policy shape dims content
    → IsFinding policy shape dims content found → ⊥
none_but_rows policy shape dims content (finding.Schema at why) other mendable is = is
none_but_rows policy shape dims content (finding.Fact place id why) other mendable is = absurd (cc (mendable.good place, is.refused))
none_but_rows policy shape dims content (finding.TooManyRows would) other mendable is = absurd (omega (arith, is.many, is.count, mendable.few))
none_but_rows policy shape dims content (finding.Rows place kept anew) other mendable is = absurd (cc other)

nothing_but_rows : (content : Stored) (found : Finding) → is_of_rows found ≡ false → IsMendableContent content → Finds content found → ⊥
nothing_but_rows content found other mendable finds = by (schema_alone content.schema) mendable finds
  where
    by : (read : Result SchemaValue BadLine) → IsOkAnd read (λ schema. IsMendableOver schema content) → FindsBy read content found → ⊥
    by (Err bad) mendable is = mendable
    by (Ok schema) mendable is = none_but_rows (policy_of schema) (shape_of schema) schema.dims content found other mendable is

not_of_rows : (line : List ℕ) (found : Finding) → IsAmong (ends_of (Some (Store Rebuild))) (BadStore found) → is_of_rows found ≡ false
not_of_rows line (finding.Schema at why) may = refl
not_of_rows line (finding.Fact place id why) may = refl
not_of_rows line (finding.TooManyRows would) may = refl
not_of_rows line (finding.Rows place kept anew) may = absurd (cc may)

-- and there is something in it
empty_schema : schema_alone [] ≡ Err (record { line = 1; reason = code.Cut })
unfolding schema_of
empty_schema = refl

not_empty : (content : Stored) → IsSoundContent content → content ≡ empty_content → ⊥
not_empty content sound none = subst (λ r. IsOkAnd r (λ schema. IsSoundOver schema content)) (ap (λ (c : Stored). schema_alone c.schema) none ∙ empty_schema) sound

-- nothing is found in what is empty or sound, and is not empty
not_both : (content : Stored) (found : Finding) → (content ≢ empty_content) × Finds content found → IsEmptyOrSound content → ⊥
not_both content found is (inl none) = is.0 none
not_both content found is (inr sound) = nothing_found content found sound is.1

not_empty_mendable : (content : Stored) → IsMendableContent content → content ≡ empty_content → ⊥
not_empty_mendable content mendable none = subst (λ r. IsOkAnd r (λ schema. IsMendableOver schema content)) (ap (λ (c : Stored). schema_alone c.schema) none ∙ empty_schema) mendable

-- which commands may give an end
reads_failing : (line : List ℕ) (command : Option Command) (done : ℕ) → IsAmong (ends_of command) (ReadFault done) → (doing_of line command).reads ≡ true
reads_failing line None done may = absurd (cc may)
reads_failing line (Some Try) done may = refl
reads_failing line (Some (Drill n)) done may = absurd (cc may)
reads_failing line (Some (Store Init)) done may = refl
reads_failing line (Some (Store (Input Run))) done may = refl
reads_failing line (Some (Store (Input Import))) done may = refl
reads_failing line (Some (Store (Input Lead))) done may = refl
reads_failing line (Some (Store Follow)) done may = refl
reads_failing line (Some (Store Ask)) done may = absurd (cc may)
reads_failing line (Some (Store Rebuild)) done may = absurd (cc may)
reads_failing line (Some (Store (Tell telling))) done may = absurd (cc may)

reads_long : (line : List ℕ) (command : Option Command) (done : ℕ) → IsAmong (ends_of command) (TooLong done) → (doing_of line command).reads ≡ true
reads_long line None done may = absurd (cc may)
reads_long line (Some Try) done may = refl
reads_long line (Some (Drill n)) done may = absurd (cc may)
reads_long line (Some (Store Init)) done may = refl
reads_long line (Some (Store (Input Run))) done may = refl
reads_long line (Some (Store (Input Import))) done may = refl
reads_long line (Some (Store (Input Lead))) done may = refl
reads_long line (Some (Store Follow)) done may = refl
reads_long line (Some (Store Ask)) done may = absurd (cc may)
reads_long line (Some (Store Rebuild)) done may = absurd (cc may)
reads_long line (Some (Store (Tell telling))) done may = absurd (cc may)

stores_failing : (line : List ℕ) (command : Option Command) (done : ℕ) → IsAmong (ends_of command) (KeepFault done) → (doing_of line command).stores ≡ true
stores_failing line None done may = absurd (cc may)
stores_failing line (Some Try) done may = absurd (cc may)
stores_failing line (Some (Drill n)) done may = absurd (cc may)
stores_failing line (Some (Store Init)) done may = refl
stores_failing line (Some (Store (Input Run))) done may = refl
stores_failing line (Some (Store (Input Import))) done may = refl
stores_failing line (Some (Store (Input Lead))) done may = refl
stores_failing line (Some (Store Follow)) done may = refl
stores_failing line (Some (Store Ask)) done may = refl
stores_failing line (Some (Store Rebuild)) done may = refl
stores_failing line (Some (Store (Tell telling))) done may = refl

-- over a store in which there is nothing, or something, or something that is not sound
record Unfit (line : List ℕ) (command : Option Command) (P : Stored → Type 0) : Type 0 where
  stores : (doing_of line command).stores ≡ true
  never : (content : Stored) → P content → Fits command content → ⊥

no_cube_unfit : (line : List ℕ) (command : Option Command) → IsAmong (ends_of command) NoCube → Unfit line command (λ content. content ≡ empty_content)
no_cube_unfit line None may = absurd (cc may)
no_cube_unfit line (Some Try) may = absurd (cc may)
no_cube_unfit line (Some (Drill n)) may = absurd (cc may)
no_cube_unfit line (Some (Store Init)) may = absurd (cc may)
no_cube_unfit line (Some (Store (Input Run))) may = record { stores = refl; never = λ content none sound. not_empty content sound none }
no_cube_unfit line (Some (Store (Input Import))) may = record { stores = refl; never = λ content none sound. not_empty content sound none }
no_cube_unfit line (Some (Store (Input Lead))) may = record { stores = refl; never = λ content none sound. not_empty content sound none }
no_cube_unfit line (Some (Store Follow)) may = absurd (cc may)
no_cube_unfit line (Some (Store Ask)) may = record { stores = refl; never = λ content none sound. not_empty content sound none }
no_cube_unfit line (Some (Store Rebuild)) may = record { stores = refl; never = λ content none mendable. not_empty_mendable content mendable none }
no_cube_unfit line (Some (Store (Tell telling))) may = record { stores = refl; never = λ content none sound. not_empty content sound none }

has_cube_unfit : (line : List ℕ) (command : Option Command) → IsAmong (ends_of command) HasCube → Unfit line command (λ content. content ≢ empty_content)
has_cube_unfit line None may = absurd (cc may)
has_cube_unfit line (Some Try) may = absurd (cc may)
has_cube_unfit line (Some (Drill n)) may = absurd (cc may)
has_cube_unfit line (Some (Store Init)) may = record { stores = refl; never = λ content some none. some none }
has_cube_unfit line (Some (Store (Input Run))) may = absurd (cc may)
has_cube_unfit line (Some (Store (Input Import))) may = absurd (cc may)
has_cube_unfit line (Some (Store (Input Lead))) may = absurd (cc may)
has_cube_unfit line (Some (Store Follow)) may = absurd (cc may)
has_cube_unfit line (Some (Store Ask)) may = absurd (cc may)
has_cube_unfit line (Some (Store Rebuild)) may = absurd (cc may)
has_cube_unfit line (Some (Store (Tell telling))) may = absurd (cc may)

bad_store_unfit : (line : List ℕ) (command : Option Command) (found : Finding) → IsAmong (ends_of command) (BadStore found) → Unfit line command (λ content. (content ≢ empty_content) × Finds content found)
bad_store_unfit line None found may = absurd (cc may)
bad_store_unfit line (Some Try) found may = absurd (cc may)
bad_store_unfit line (Some (Drill n)) found may = absurd (cc may)
bad_store_unfit line (Some (Store Init)) found may = absurd (cc may)
bad_store_unfit line (Some (Store (Input Run))) found may = record { stores = refl; never = λ content is sound. nothing_found content found sound is.1 }
bad_store_unfit line (Some (Store (Input Import))) found may = record { stores = refl; never = λ content is sound. nothing_found content found sound is.1 }
bad_store_unfit line (Some (Store (Input Lead))) found may = record { stores = refl; never = λ content is sound. nothing_found content found sound is.1 }
bad_store_unfit line (Some (Store Follow)) found may = record { stores = refl; never = λ content is fits. not_both content found is fits }
bad_store_unfit line (Some (Store Ask)) found may = record { stores = refl; never = λ content is sound. nothing_found content found sound is.1 }
bad_store_unfit line (Some (Store Rebuild)) found may = record { stores = refl; never = λ content is mendable. nothing_but_rows content found (not_of_rows line found may) mendable is.1 }
bad_store_unfit line (Some (Store (Tell telling))) found may = record { stores = refl; never = λ content is sound. nothing_found content found sound is.1 }

module _ (line : List ℕ) (command : Option Command) (seen : SeenAll) where
  abbrev Complete : End → Type 0
  Complete end = OfContent (doing_of line command).stores seen.keeper (λ content. Fits command content → OfInput (doing_of line command).reads seen.source (λ input. length input ≤ INPUT_LIMIT → IsDone end))

  -- it is done
  done : (end : End) → IsDone end → Complete end
  done end is = each_content (doing_of line command).stores seen.keeper _ (λ content fits. each_input (doing_of line command).reads seen.source _ (λ input few. is))

  -- or over what does not fit
  unfit : (end : End) (P : Stored → Type 0) → Unfit line command P → Holds seen.keeper P → Complete end
  unfit end P is here =
      not_fitting (doing_of line command).stores seen.keeper P (Fits command) (λ content. OfInput (doing_of line command).reads seen.source (λ input. length input ≤ INPUT_LIMIT → IsDone end)) is.stores is.never here

  pub complete : (end : End) → SaysAsked line command seen end → IsCompleteOf line command seen end
  complete (Finished refused) says = λ none. done (Finished refused) refl
  complete Usage says = λ none. done Usage refl
  complete (Schema line why) says = λ none. done (Schema line why) refl
  complete (BadRecord bad) says = λ none. done (BadRecord bad) refl
  complete (ImportRows would) says = λ none. done (ImportRows would) refl
  complete (BadFeed line why) says = λ none. done (BadFeed line why) refl
  complete (Order want got) says = λ none. done (Order want got) refl
  complete (Base place) says = λ none. done (Base place) refl
  complete (Differs number line) says = λ none. done (Differs number line) refl
  complete (Memory count) says = λ none. done (Memory count) refl
  complete (ReadFault count) says = λ none. absurd (none.read (reads_failing line command count says.may) says.faults.cause)
  complete (WriteFault count) says = λ none. absurd (none.write says.faults.cause)
  complete (KeepFault count) says = λ none. absurd (none.keep (stores_failing line command count says.may) says.faults.cause)
  complete (TooLong count) says = λ none.
      each_content (doing_of line command).stores seen.keeper _ (λ content fits. of_long (doing_of line command).reads seen.source (IsDone (TooLong count)) (reads_long line command count says.may) says.takes)
  complete NoCube says = λ none. unfit NoCube (λ content. content ≡ empty_content) (no_cube_unfit line command says.may) says.fits
  complete HasCube says = λ none. unfit HasCube (λ content. content ≢ empty_content) (has_cube_unfit line command says.may) says.fits
  complete (BadStore found) says = λ none. unfit (BadStore found) (λ content. (content ≢ empty_content) × Finds content found) (bad_store_unfit line command found says.may) says.fits
