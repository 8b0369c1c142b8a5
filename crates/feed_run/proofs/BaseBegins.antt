-- What the beginning with a base does, by what its cube, its comparing and its keeping do.
use Rattle.std.proofs.Common.{◌≡◌, ℕ, false, List, [], ◌∷◌, ◌++◌, length, Option, Some, None, Ok, Err, refl, sym, ap, ◌∙◌, arith, length-append}
use Rattle.std.specs.Prelude.{IfNone}
use Rattle.std.specs.Option.{option_to_list}
use Rattle.cube_core.specs.Cube.{AreFactsOf, CubeValue}
use Rattle.cube_core.specs.declared.fault.ImportFault.{ImportFault}
use Rattle.cube_core.specs.declared.fault.ImportFault.TheVariants as import_fault
use Rattle.cube_model.specs.Accepted.{has_many_rows}
use Rattle.cube_model.specs.Allocation.{extended}
use Rattle.cube_model.specs.declared.edit.Fact.{Fact}
use Rattle.fact_keeper.specs.declared.content.Batch.{Batch}
use Rattle.schema_text.specs.Schema.{SchemaValue, policy_of}
use Rattle.schema_text.specs.declared.word.PolicyWord.{PolicyWord}
use Rattle.script_run.specs.declared.break_off.BreakOff.{BreakOff}
use Rattle.script_run.specs.declared.break_off.BreakOff.TheVariants as break_off
use Rattle.script_run.specs.declared.streaming.StreamStop.TheVariants.{Broke}
use Rattle.script_run.specs.Seen.{KeeperSeen}
use Rattle.script_run.proofs.Batches.{commits_none}
use Rattle.feed_run.specs.declared.follow.FollowStop.TheVariants.{Stream}
use Rattle.feed_run.specs.declared.part_stop.PartStop.{PartStop}
use Rattle.feed_run.specs.declared.part_stop.PartStop.TheVariants as part_stop
use Rattle.feed_run.specs.BeginTurn.{Begins, BeginsOver, Begun, BegunOver, ComparesBase, HaveRegions, IsBaseCube, IsRefusal, LacksCube, MadeBase, import_stop}
use Rattle.feed_run.specs.Following.{Base, Between, base_batch, based_judged, based_over, work_of}
use Rattle.feed_run.specs.HeadTurn.{StopsBy}
use Rattle.feed_run.specs.LeadTurn.{KeepsBatch, KeptNothing}
use Rattle.feed_run.specs.PartEnds.{at_part}

-- the one batch that was caught is given
pub taken-base : (caught rest : List Batch) (batch : Batch) (given : Option Batch) → caught ≡ batch ∷ [] → caught ≡ rest ++ option_to_list given → IfNone given (caught ≡ []) → given ≡ Some batch
taken-base caught rest batch None is taken none = let empty : batch ∷ [] ≡ [] = sym is ∙ none in cc empty
taken-base caught [] batch (Some given) is taken none = let same : given ∷ [] ≡ batch ∷ [] = sym taken ∙ is in cc same
taken-base caught (first ∷ rest) batch (Some given) is taken none = absurd (omega (arith, ap length is, ap length taken, length-append rest (given ∷ [])))

pub taken-made : (first now rest : List Batch) (batch : Batch) (given : Option Batch) → first ≡ [] → Some now ≡ Some (first ++ batch ∷ []) → now ≡ rest ++ option_to_list given → IfNone given (now ≡ []) → given ≡ Some batch
taken-made first now rest batch given empty both taken none =
    let same : now ≡ first ++ batch ∷ [] = cc both in
    taken-base now rest batch given (same ∙ ap (λ l. l ++ batch ∷ []) empty) taken none

-- and has the text of the schema then
abbrev pub with_text : Batch → List ℕ → Batch
with_text batch text = record batch { schema = Some text }

pub whole-is : (caught : Option Batch) (found batch : Batch) (text other : List ℕ) → caught ≡ Some found → caught ≡ Some batch → text ≡ other → with_text found text ≡ with_text batch other
whole-is caught found batch text other one two same =
    let both : Some found ≡ Some batch = sym one ∙ two in
    let alike : found ≡ batch = cc both in
    rw (alike, same) refl

-- over a keeper that never fails
pub lacks-refusal : (schema : SchemaValue) (facts : List Fact) (fault : ImportFault) → LacksCube schema facts 0 0 fault → IsRefusal fault
lacks-refusal schema facts (import_fault.Rows would) lacks = tt
lacks-refusal schema facts import_fault.KeepFault lacks = absurd (omega (arith, lacks))
lacks-refusal schema facts import_fault.Memory lacks = tt
lacks-refusal schema facts (import_fault.BadRecord bad) lacks = lacks

module _ (number : ℕ) (schema : SchemaValue) (facts : List Fact) where
  -- the rows are too many, or not
  pub import-refused : (before after : ℕ) (fault : ImportFault) → LacksCube schema facts before after fault → IsRefusal fault → StopsBy (λ why. (base : Option Base) → based_judged base number schema facts ≡ Err why) (import_stop number fault)
  import-refused before after (import_fault.Rows would) many is = λ base. rw many refl
  import-refused before after import_fault.KeepFault lacks is = absurd is
  import-refused before after import_fault.Memory lacks is = refl
  import-refused before after (import_fault.BadRecord bad) lacks is = absurd is

  judged-few : (base : Option Base) → has_many_rows (extended (policy_of schema) schema.dims facts) ≡ false → based_judged base number schema facts ≡ based_over base schema facts
  judged-few base few = rw few refl

  pub refused-over : (base : Base) (stop : PartStop) → StopsBy (λ why. (b : Option Base) → based_judged b number schema facts ≡ Err why) stop → BeginsOver base number schema facts (Err stop)
  refused-over base (part_stop.Feed why) told = told (Some base)
  refused-over base (part_stop.Input stop) told = told

  -- it is compared
  pub compared-over : (base : Base) (cube : CubeValue PolicyWord) → IsBaseCube schema facts cube → ComparesBase {T = Unit {0}} base schema facts (Ok tt) → BegunOver base number schema facts cube
  compared-over base cube is told = record { moves = judged-few (Some base) is.few ∙ told; is_cube = is.is_cube }

  pub differs-over : (base : Base) (cube : CubeValue PolicyWord) (stop : PartStop) → IsBaseCube schema facts cube → ComparesBase {T = Unit {0}} base schema facts (Err stop) → BeginsOver base number schema facts (Err stop)
  differs-over base cube (part_stop.Feed why) is told = judged-few (Some base) is.few ∙ told
  differs-over base cube (part_stop.Input stop) is told = told

  -- no more is kept
  module _ (keeper : KeeperSeen) (nothing : KeptNothing keeper) where
    pub begin-stops : (base : Option Base) (stop : PartStop) → StopsBy (λ why. based_judged base number schema facts ≡ Err why) stop → Begins base number schema facts keeper (Err (at_part 0 stop))
    begin-stops base (part_stop.Feed why) told = (told, nothing)
    begin-stops base (part_stop.Input stop) told = rw told (refl, nothing)

    pub begin-refused : (base : Option Base) (stop : PartStop) → StopsBy (λ why. (b : Option Base) → based_judged b number schema facts ≡ Err why) stop → Begins base number schema facts keeper (Err (at_part 0 stop))
    begin-refused base (part_stop.Feed why) told = (told base, nothing)
    begin-refused base (part_stop.Input stop) told = rw told (refl, nothing)

    pub begun-over : (base : Base) (cube : CubeValue PolicyWord) → BegunOver base number schema facts cube → Begun (Some base) number schema facts keeper cube
    begun-over base cube over = record {
      batches = [];
      moves = over.moves;
      is_cube = over.is_cube;
      kept = commits_none keeper.told keeper.told_after nothing.told;
      keep = nothing.keep;
    }

  -- or the batch of the base
  module _ (keeper : KeeperSeen) (cube : CubeValue PolicyWord) (batch : Batch) (made : MadeBase schema facts cube batch) where
    moves-new : based_judged None number schema facts ≡ Ok (record { place = Between (work_of schema facts); batches = base_batch schema facts ∷ [] })
    moves-new = judged-few None made.is.few

    pub begun-new : KeepsBatch {T = Unit {0}} batch 0 keeper (Ok tt) → Begun None number schema facts keeper cube
    begun-new kept = record {
      batches = base_batch schema facts ∷ [];
      moves = moves-new;
      is_cube = made.is.is_cube;
      kept = rw (sym made.batch_is) kept.commits;
      keep = kept.keep;
    }

    pub unkept-new : (off : BreakOff) → KeepsBatch {T = Unit {0}} batch 0 keeper (Err off) → Begins None number schema facts keeper (Err (Stream (Broke off)))
    unkept-new (break_off.Write line) told = told
    unkept-new (break_off.SinkMemory line) told = told
    unkept-new (break_off.Memory done) told = told
    unkept-new (break_off.Keep done) told = (told.0, record { batch = base_batch schema facts; moves = moves-new; kept = told.1 })

-- regions are there
pub have-regions : (schema : SchemaValue) (facts : List Fact) → AreFactsOf schema facts → HaveRegions schema.dims facts
have-regions schema facts valid k d within = (valid.each k d within).accepted.placed.region
