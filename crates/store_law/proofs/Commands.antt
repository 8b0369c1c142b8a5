-- What runs of the program leave of a store.
use Rattle.std.proofs.Common.{◌≡◌, ◌≢◌, ◌-◌, ◌≤◌, arith, ℕ, Bool, true, false, List, [], ◌∷◌, take, ltb-false, refl, sym, ap, ◌∙◌, subst, inl, inr, Option, Some, None, Result, Ok, Err}
use Rattle.std.specs.Prelude.{◌⊎◌, ◌==◌, IfSome, IsOkAnd, IsSome, nat_lt, if◌then◌else◌}
use Rattle.std.proofs.lemmas.Bool.Decides.{nat_tests}
use Rattle.std.specs.Option.{option_map, option_map_or}
use Rattle.std.specs.Result.{result_ok}
use Rattle.text_lines.specs.Text.{lines_of}
use Rattle.cube_model.specs.declared.edit.Fact.{Fact}
use Rattle.cube_model.specs.Allocation.{Policy}
use Rattle.cube_model.specs.Limits.{MAX_ROWS}
use Rattle.fact_keeper.specs.declared.content.Batch.{Batch}
use Rattle.fact_records.specs.declared.fact_seq.BadRecord.{BadRecord as RecordAt}
use Rattle.fact_keeper.specs.declared.content.Stored.{Stored}
use Rattle.fact_keeper.specs.Batch.{apply_batch, empty_content}
use Rattle.schema_text.specs.Schema.{SchemaValue, policy_of, shape_of}
use Rattle.schema_text.specs.SchemaText.{BadLine, schema_of, schema_text}
use Rattle.store_audit.specs.Mending.{changed_by, mended, mended_batch}
use Rattle.store_audit.specs.Sound.{IsSound, facts_told}
use Rattle.store_audit.proofs.Mended.{mended-sound, mending-applied, unchanged-sound}
use Rattle.script_run.specs.Kept.{Commits, apply_all}
use Rattle.script_run.specs.Seen.{SeenAll, Told}
use Rattle.cube_cli.specs.declared.command.Command.{Command}
use Rattle.cube_cli.specs.declared.command.Command.TheVariants.{Drill, Store, Try}
use Rattle.cube_cli.specs.declared.command.StoreCommand.TheVariants.{Ask, Follow, Init, Input, Rebuild, Tell}
use Rattle.cube_cli.specs.declared.store.InputTask.TheVariants.{Import, Lead, Run}
use Rattle.cube_cli.specs.declared.end.End.{End}
use Rattle.cube_cli.specs.declared.end.End.TheVariants.{Finished, Usage, Schema, NoCube, HasCube, BadStore, ReadFault, WriteFault, KeepFault, Memory, TooLong, BadRecord, ImportRows, BadFeed, Order, Base, Differs}
use Rattle.cube_cli.specs.Command.{asked_line, command_of}
use Rattle.cube_cli.specs.Doing.{Fits, LineWork, OneWork, ask_work, base_in, feed_lines, file_work, follow_work, import_work, init_work, lead_work, mending_work, rebuild_work, refused_schema, run_work, text_work}
use Rattle.cube_cli.specs.End.{DidKeep, FitsAt, Leaves, MeansAsNeeded, MeansAtOnce, MeansByLines, Says, SaysAsked, SaysOf, StoppedFirst}
use Rattle.cube_cli.specs.Files.{IsAccepted, import_batch, mending_batches, refused_file, refused_over, row_count_with_file}
use Rattle.cube_cli.specs.SchemaAlone.{schema_alone}
use Rattle.cube_cli.specs.Seen.{Holds, IsUntouched}
use Rattle.cube_cli.specs.Store.{IsEmptyOrSound, IsMendableContent, IsMendableOver, IsSoundContent, IsSoundOver, batches_over, schema_batch}
use Rattle.store_law.specs.Holds.{BeginsSound, IsRebuilt, StaysSound, content_after}
use Rattle.store_law.proofs.Alone.{alone-schema, text-alone}
use Rattle.store_law.proofs.Followed.{BeginsWith, all-hold, parts-hold}
use Rattle.store_law.proofs.Imported.{file-holds}
use Rattle.store_law.proofs.Scripted.{scripted-sound}
use Rattle.store_law.proofs.Told.{holds-none}

-- a file that is not refused is accepted
not-refused : (answer : Option RecordAt) (rows : ℕ) → refused_file answer rows ≡ None → (answer ≡ None) × (rows ≤ MAX_ROWS)
not-refused (Some bad) rows none = absurd (cc none)
not-refused None rows none = (refl, by (nat_lt MAX_ROWS rows) refl none)
  where
    by : (many : Bool) → nat_lt MAX_ROWS rows ≡ many → (if many then Some (ImportRows rows) else None) ≡ None → rows ≤ MAX_ROWS
    by true is none = absurd (cc none)
    by false is none = ltb-false MAX_ROWS rows is

accepted-file : (policy : Policy) (schema : SchemaValue) (facts : List Fact) (file : List ℕ) → refused_file (refused_over schema facts file) (row_count_with_file policy schema facts file) ≡ None → IsAccepted policy schema facts file
accepted-file policy schema facts file none =
    let is = not-refused (refused_over schema facts file) (row_count_with_file policy schema facts file) none in
    record { accepted = is.0; few = is.1 }

-- The rows of a content that are put right, over its schema: nothing is kept where they are right, and else the batch that makes it sound.
module _ (content : Stored) (schema : SchemaValue) (alone : schema_alone content.schema ≡ Ok schema) (may : IsMendableOver schema content) where
  abbrev its_batch : Batch
  its_batch = mended_batch (policy_of schema) schema.dims content

  abbrev right : Stored
  right = mended (policy_of schema) schema.dims content

  sound_with : (other : Stored) → other.schema ≡ content.schema → IsSoundOver schema other → IsSoundContent other
  sound_with other same over = subst (λ read. IsOkAnd read (λ s. IsSoundOver s other)) (sym (ap schema_alone same ∙ alone)) over

  right_sound : IsSoundContent right
  right_sound = sound_with right refl (mended-sound (policy_of schema) (shape_of schema) schema.dims content may)

  right_after : apply_batch its_batch content ≡ right
  right_after = mending-applied (policy_of schema) (shape_of schema) schema.dims content may

  right_already : changed_by its_batch ≡ 0 → IsSoundContent content
  right_already none = sound_with content refl (unchanged-sound (policy_of schema) (shape_of schema) schema.dims content may none)

  kept_right : (rebuild_work [] content).kept ≡ mending_batches (policy_of schema) schema.dims content
  kept_right = ap (λ r. (option_map_or (λ schema. mending_work (policy_of schema) schema content) (result_ok r) (text_work [])).kept) alone

  -- what holds of it afterwards: it was sound, or the batch made it so
  rebuilt_by : (P : Stored → Type 0) (none : Bool) → (changed_by its_batch == 0) ≡ none → (IsSoundContent content → P content) → (IsSoundContent right → P right)
      → P (apply_all (if none then [] else its_batch ∷ []) content)
  rebuilt_by P true is same made = let nothing : changed_by its_batch ≡ 0 = grind (arith, nat_tests, is) in same (right_already nothing)
  rebuilt_by P false is same made = subst P (sym right_after) (made right_sound)

  pub after_right : (P : Stored → Type 0) → (IsSoundContent content → P content) → (IsSoundContent right → P right) → P (apply_all (rebuild_work [] content).kept content)
  after_right P same made =
      subst (λ batches. P (apply_all batches content)) (sym kept_right) (rebuilt_by P (changed_by its_batch == 0) refl same made)

-- The keeper told a content, and the source its input. What holds of the content, of any sound one, of what lines leave and of what the
-- parts of a feed leave holds of what the keeper tells afterwards.
module _ (seen : SeenAll) (content : Stored) (input : List ℕ) (told : seen.keeper.told.content ≡ Some content) (left : seen.source.left ≡ Some input)
    (P : Stored → Type 0) (here : P content) (sounds : (other : Stored) → IsSoundContent other → P other) (kept : (lines : List (List ℕ)) → P (content_after content lines)) (begins : BeginsWith (base_in content) content) where
  abbrev Stays : Type 0
  Stays = IfSome seen.keeper.told_after.content P

  untouched : IsUntouched seen.keeper → Stays
  untouched same = subst (λ (t : Told). IfSome t.content P) (sym same) (subst (λ c. IfSome c P) (sym told) here)

  committed : (batches : List Batch) → Commits batches seen.keeper.told seen.keeper.told_after → P (apply_all batches content) → Stays
  committed batches commits after = subst (λ c. IfSome c P) (sym (commits.content ∙ ap (option_map (apply_all batches)) told)) after

  -- what is said of the content and the input
  of_input : (Q : List ℕ → Type 0) → IfSome seen.source.left Q → Q input
  of_input Q all = subst (λ o. IfSome o Q) left all

  of_held : (Q : Stored → Type 0) → Holds seen.keeper Q → Q content
  of_held Q all = subst (λ held. IfSome held Q) told all

  of_both : (Q : Stored → List ℕ → Type 0) → Holds seen.keeper (λ content. IfSome seen.source.left (Q content)) → Q content input
  of_both Q all = of_input (Q content) (of_held (λ content. IfSome seen.source.left (Q content)) all)

  -- an input done by its lines, where it holds of what any number of parts leaves, and of what all leave
  module _ (work : LineWork) (reads : Bool) (text : List ℕ) (each : (parts : ℕ) → P (apply_all (work.kept parts) content)) (all : P (apply_all work.all_kept content)) where
    first_parts : (parts : ℕ) → Commits (work.kept parts) seen.keeper.told seen.keeper.told_after → Stays
    first_parts parts commits = committed (work.kept parts) commits (each parts)

    lines-stay : (end : End) → Leaves seen end → MeansByLines work reads text seen end → Stays
    lines-stay Usage leaves means = untouched leaves.nothing.kept
    lines-stay NoCube leaves means = untouched leaves.nothing.kept
    lines-stay HasCube leaves means = untouched leaves.nothing.kept
    lines-stay (BadStore found) leaves means = untouched leaves.nothing.kept
    lines-stay (Schema at why) leaves means = untouched leaves.kept
    lines-stay (BadRecord bad) leaves means = untouched leaves.kept
    lines-stay (ImportRows would) leaves means = untouched leaves.kept
    lines-stay (BadFeed at why) leaves means = committed work.all_kept means.kept all
    lines-stay (Order want got) leaves means = committed work.all_kept means.kept all
    lines-stay (Base place) leaves means = committed work.all_kept means.kept all
    lines-stay (Differs number at) leaves means = committed work.all_kept means.kept all
    lines-stay (Finished refused) leaves means = committed work.all_kept means.kept all
    lines-stay (ReadFault done) leaves means = first_parts means.says.parts means.says.kept
    lines-stay (TooLong done) leaves means = first_parts means.parts means.kept
    lines-stay (WriteFault done) leaves means = first_parts means.parts means.kept
    lines-stay (KeepFault done) leaves (inl stopped) = untouched stopped.left.nothing.kept
    lines-stay (KeepFault done) leaves (inr at) = first_parts at.parts at.kept
    lines-stay (Memory done) leaves (inl stopped) = untouched stopped.left.nothing.kept
    lines-stay (Memory done) leaves (inr wanted) = first_parts wanted.parts wanted.kept

  -- a script
  run-stays : (end : End) → SaysOf (Some (Store (Input Run))) seen end → Stays
  run-stays end says =
      lines-stay (run_work input content) true input (λ parts. kept (take parts (lines_of input))) (kept (lines_of input)) end says.leaves
      (of_both (λ content input. MeansByLines (run_work input content) true input seen end) says.means)

  -- one line
  ask-stays : (line : List ℕ) (end : End) → SaysAsked line (Some (Store Ask)) seen end → Stays
  ask-stays line end says =
      lines-stay (ask_work line [] content) false [] (λ parts. kept (take parts (line ∷ []))) (kept (line ∷ [])) end says.leaves
      (of_held (λ content. MeansByLines (ask_work line [] content) false [] seen end) says.means)

  -- a script that leads, and a feed that is followed
  lead-stays : (end : End) → SaysOf (Some (Store (Input Lead))) seen end → Stays
  lead-stays end says =
      lines-stay (lead_work input content) true input (λ parts. kept (take (parts - 1) (lines_of input))) (kept (lines_of input)) end says.leaves
      (of_both (λ content input. MeansByLines (lead_work input content) true input seen end) says.means)

  follow-stays : (end : End) → SaysOf (Some (Store Follow)) seen end → Stays
  follow-stays end says =
      lines-stay (follow_work input content) true input (λ parts. parts-hold (base_in content) content P here sounds begins (feed_lines input) parts) (all-hold (base_in content) content P here sounds begins (feed_lines input)) end says.leaves
      (of_both (λ content input. MeansByLines (follow_work input content) true input seen end) says.means)

  -- a file
  file-sound : (schema : SchemaValue) → schema_alone content.schema ≡ Ok schema → IsSoundOver schema content → IsAccepted (policy_of schema) schema (facts_told content) input
      → IsSoundContent (apply_batch (import_batch (policy_of schema) schema (facts_told content) input) content)
  file-sound schema alone over accepted =
      let later = apply_batch (import_batch (policy_of schema) schema (facts_told content) input) content in
      subst (λ read. IsOkAnd read (λ s. IsSoundOver s later)) (sym alone) (file-holds schema content input (alone-schema content.schema schema alone) over accepted).sound

  of_file : IsSoundContent content → DidKeep (import_work input content) true input seen → Stays
  of_file sound did = by (schema_alone content.schema) refl sound
    where
      by : (read : Result SchemaValue BadLine) → schema_alone content.schema ≡ read → IsOkAnd read (λ schema. IsSoundOver schema content) → Stays
      by (Err bad) is none = absurd none
      by (Ok schema) is over =
          let work : import_work input content ≡ file_work (policy_of schema) schema (facts_told content) input =
          ap (λ r. option_map_or (λ schema. file_work (policy_of schema) schema (facts_told content) input) (result_ok r) (text_work [])) is in
          let batch = import_batch (policy_of schema) schema (facts_told content) input in
          let accepted : IsAccepted (policy_of schema) schema (facts_told content) input =
          accepted-file (policy_of schema) schema (facts_told content) input (sym (ap (λ (w : OneWork). w.refusal) work) ∙ did.judged.is) in
          committed (batch ∷ []) (subst (λ batches. Commits batches seen.keeper.told seen.keeper.told_after) (ap (λ (w : OneWork). w.kept) work) did.kept)
          (sounds (apply_batch batch content) (file-sound schema is over accepted))

  import-stays : (end : End) → SaysOf (Some (Store (Input Import))) seen end → Stays
  import-stays Usage says = untouched says.leaves.nothing.kept
  import-stays NoCube says = untouched says.leaves.nothing.kept
  import-stays HasCube says = untouched says.leaves.nothing.kept
  import-stays (BadStore found) says = untouched says.leaves.nothing.kept
  import-stays (Schema at why) says = untouched says.leaves.kept
  import-stays (BadRecord bad) says = untouched says.leaves.kept
  import-stays (ImportRows would) says = untouched says.leaves.kept
  import-stays (BadFeed at why) says = absurd (cc says.may)
  import-stays (Order want got) says = absurd (cc says.may)
  import-stays (Base place) says = absurd (cc says.may)
  import-stays (Differs number at) says = absurd (cc says.may)
  import-stays (ReadFault done) says = untouched says.counts.nothing.kept
  import-stays (TooLong done) says = untouched says.counts.nothing.kept
  import-stays (KeepFault done) says = untouched says.counts.nothing.kept
  import-stays (Finished refused) says =
      of_file (of_held IsSoundContent says.fits) (of_both (λ content input. MeansAtOnce (import_work input content) true 1 input seen (Finished refused)) says.means).0
  import-stays (WriteFault done) says =
      of_file (of_held IsSoundContent says.fits) (of_both (λ content input. MeansAtOnce (import_work input content) true 1 input seen (WriteFault done)) says.means).0
  import-stays (Memory done) says =
      by (of_held (FitsAt IsSoundContent seen (Memory done)) says.fits) (of_both (λ content input. MeansAtOnce (import_work input content) true 1 input seen (Memory done)) says.means)
    where
      by : StoppedFirst seen done ⊎ IsSoundContent content → MeansAtOnce (import_work input content) true 1 input seen (Memory done) → Stays
      by (inl stopped) means = untouched stopped.left.nothing.kept
      by (inr sound) (inl before) = untouched before.nothing.kept
      by (inr sound) (inr did) = of_file sound did.1

  -- a new store, where there was none
  init-stays : (end : End) → (content ≡ empty_content → Stays) → SaysOf (Some (Store Init)) seen end → Stays
  init-stays Usage empty says = untouched says.leaves.nothing.kept
  init-stays NoCube empty says = untouched says.leaves.nothing.kept
  init-stays HasCube empty says = untouched says.leaves.nothing.kept
  init-stays (BadStore found) empty says = untouched says.leaves.nothing.kept
  init-stays (Schema at why) empty says = untouched says.leaves.kept
  init-stays (BadRecord bad) empty says = untouched says.leaves.kept
  init-stays (ImportRows would) empty says = untouched says.leaves.kept
  init-stays (BadFeed at why) empty says = absurd (cc says.may)
  init-stays (Order want got) empty says = absurd (cc says.may)
  init-stays (Base place) empty says = absurd (cc says.may)
  init-stays (Differs number at) empty says = absurd (cc says.may)
  init-stays (ReadFault done) empty says = untouched says.counts.nothing.kept
  init-stays (TooLong done) empty says = untouched says.counts.nothing.kept
  init-stays (KeepFault done) empty says = untouched says.counts.nothing.kept
  init-stays (Finished refused) empty says = empty (of_held (Fits (Some (Store Init))) says.fits)
  init-stays (WriteFault done) empty says = empty (of_held (Fits (Some (Store Init))) says.fits)
  init-stays (Memory done) empty says = by (of_held (FitsAt (Fits (Some (Store Init))) seen (Memory done)) says.fits)
    where
      by : StoppedFirst seen done ⊎ (content ≡ empty_content) → Stays
      by (inl stopped) = untouched stopped.left.nothing.kept
      by (inr none) = empty none

  -- rows put right
  of_mending : IsMendableContent content → DidKeep (rebuild_work [] content) false [] seen → Stays
  of_mending may did = by (schema_alone content.schema) refl may
    where
      by : (read : Result SchemaValue BadLine) → schema_alone content.schema ≡ read → IsOkAnd read (λ schema. IsMendableOver schema content) → Stays
      by (Err bad) is none = absurd none
      by (Ok schema) is over =
          committed (rebuild_work [] content).kept did.kept (after_right content schema is over P (λ sound. here) (λ sound. sounds (mended (policy_of schema) schema.dims content) sound))

  rebuild-stays : (end : End) → SaysOf (Some (Store Rebuild)) seen end → Stays
  rebuild-stays Usage says = untouched says.leaves.nothing.kept
  rebuild-stays NoCube says = untouched says.leaves.nothing.kept
  rebuild-stays HasCube says = untouched says.leaves.nothing.kept
  rebuild-stays (BadStore found) says = untouched says.leaves.nothing.kept
  rebuild-stays (Schema at why) says = untouched says.leaves.kept
  rebuild-stays (BadRecord bad) says = untouched says.leaves.kept
  rebuild-stays (ImportRows would) says = untouched says.leaves.kept
  rebuild-stays (BadFeed at why) says = absurd (cc says.may)
  rebuild-stays (Order want got) says = absurd (cc says.may)
  rebuild-stays (Base place) says = absurd (cc says.may)
  rebuild-stays (Differs number at) says = absurd (cc says.may)
  rebuild-stays (ReadFault done) says = absurd (cc says.may)
  rebuild-stays (TooLong done) says = absurd (cc says.may)
  rebuild-stays (KeepFault done) says = untouched says.counts.nothing.kept
  rebuild-stays (Finished refused) says =
      of_mending (of_held IsMendableContent says.fits) (of_held (λ content. MeansAsNeeded (rebuild_work [] content) false [] seen (Finished refused)) says.means).1.0
  rebuild-stays (WriteFault done) says =
      of_mending (of_held IsMendableContent says.fits) (of_held (λ content. MeansAsNeeded (rebuild_work [] content) false [] seen (WriteFault done)) says.means).1.0
  rebuild-stays (Memory done) says =
      by (of_held (FitsAt IsMendableContent seen (Memory done)) says.fits) (of_held (λ content. MeansAsNeeded (rebuild_work [] content) false [] seen (Memory done)) says.means)
    where
      by : StoppedFirst seen done ⊎ IsMendableContent content → MeansAsNeeded (rebuild_work [] content) false [] seen (Memory done) → Stays
      by (inl stopped) means = untouched stopped.left.nothing.kept
      by (inr may) (counts, inl before) = untouched before.nothing.kept
      by (inr may) (counts, inr did) = of_mending may did.1

  -- any command but `init`
  command-stays : (line : List ℕ) (command : Option Command) (end : End) → command ≢ Some (Store Init) → SaysAsked line command seen end → Stays
  command-stays line None end other says = untouched (says.unkept refl)
  command-stays line (Some Try) end other says = untouched (says.unkept refl)
  command-stays line (Some (Drill n)) end other says = untouched (says.unkept refl)
  command-stays line (Some (Store Init)) end other says = absurd (other refl)
  command-stays line (Some (Store (Input Run))) end other says = run-stays end says
  command-stays line (Some (Store (Input Import))) end other says = import-stays end says
  command-stays line (Some (Store (Input Lead))) end other says = lead-stays end says
  command-stays line (Some (Store Follow)) end other says = follow-stays end says
  command-stays line (Some (Store Ask)) end other says = ask-stays line end says
  command-stays line (Some (Store Rebuild)) end other says = rebuild-stays end says
  command-stays line (Some (Store (Tell telling))) end other says = untouched (says.unkept refl)

-- The keeper told an empty content, and the source its input.
module _ (seen : SeenAll) (input : List ℕ) (told : seen.keeper.told.content ≡ Some empty_content) (left : seen.source.left ≡ Some input) where
  -- what it tells afterwards is empty or sound
  abbrev Begins : Type 0
  Begins = IfSome seen.keeper.told_after.content IsEmptyOrSound

  unwritten : IsUntouched seen.keeper → Begins
  unwritten same = subst (λ (t : Told). IfSome t.content IsEmptyOrSound) (sym same) (subst (λ c. IfSome c IsEmptyOrSound) (sym told) (inl refl))

  begun : DidKeep (init_work input empty_content) true input seen → Begins
  begun did = by_read (schema_alone input) refl
    where
      new-sound : (schema : SchemaValue) → schema_alone input ≡ Ok schema → IsSoundContent (apply_batch (schema_batch schema) empty_content)
      new-sound schema alone =
          subst (λ read. IsOkAnd read (λ s. IsSoundOver s (apply_batch (schema_batch schema) empty_content))) (sym (text-alone schema (alone-schema input schema alone))) (holds-none schema).sound

      by_read : (read : Result SchemaValue BadLine) → schema_alone input ≡ read → Begins
      by_read (Err bad) is = absurd (cc (did.judged.is, ap refused_schema is))
      by_read (Ok schema) is =
          let made : Commits (schema_batch schema ∷ []) seen.keeper.told seen.keeper.told_after =
          subst (λ batches. Commits batches seen.keeper.told seen.keeper.told_after) (ap (λ read. option_map_or (λ schema. schema_batch schema ∷ []) (result_ok read) []) is) did.kept in
          subst (λ c. IfSome c IsEmptyOrSound) (sym (made.content ∙ ap (option_map (apply_all (schema_batch schema ∷ []))) told)) (inr (new-sound schema is))

  of_whole : (Q : List ℕ → Type 0) → IfSome seen.source.left Q → Q input
  of_whole Q all = subst (λ o. IfSome o Q) left all

  init-begins : (end : End) → SaysOf (Some (Store Init)) seen end → Begins
  init-begins Usage says = unwritten says.leaves.nothing.kept
  init-begins NoCube says = unwritten says.leaves.nothing.kept
  init-begins HasCube says = unwritten says.leaves.nothing.kept
  init-begins (BadStore found) says = unwritten says.leaves.nothing.kept
  init-begins (Schema at why) says = unwritten says.leaves.kept
  init-begins (BadRecord bad) says = unwritten says.leaves.kept
  init-begins (ImportRows would) says = unwritten says.leaves.kept
  init-begins (BadFeed at why) says = absurd (cc says.may)
  init-begins (Order want got) says = absurd (cc says.may)
  init-begins (Base place) says = absurd (cc says.may)
  init-begins (Differs number at) says = absurd (cc says.may)
  init-begins (ReadFault done) says = unwritten says.counts.nothing.kept
  init-begins (TooLong done) says = unwritten says.counts.nothing.kept
  init-begins (KeepFault done) says = unwritten says.counts.nothing.kept
  init-begins (Finished refused) says = begun (of_whole (λ input. MeansAtOnce (init_work input empty_content) true 1 input seen (Finished refused)) says.means).0
  init-begins (WriteFault done) says = begun (of_whole (λ input. MeansAtOnce (init_work input empty_content) true 1 input seen (WriteFault done)) says.means).0
  init-begins (Memory done) says = by (of_whole (λ input. MeansAtOnce (init_work input empty_content) true 1 input seen (Memory done)) says.means)
    where
      by : MeansAtOnce (init_work input empty_content) true 1 input seen (Memory done) → Begins
      by (inl before) = unwritten before.nothing.kept
      by (inr did) = begun did.1

-- lines commit nothing to a content in which there is nothing
empty-kept : (lines : List (List ℕ)) → content_after empty_content lines ≡ empty_content
unfolding schema_of
empty-kept lines = refl

is-init : (command : Option Command) → (command ≡ Some (Store Init)) ⊎ (command ≢ Some (Store Init))
is-init None = inr (λ is. cc)
is-init (Some Try) = inr (λ is. cc)
is-init (Some (Drill n)) = inr (λ is. cc)
is-init (Some (Store Init)) = inl refl
is-init (Some (Store (Input task))) = inr (λ is. cc)
is-init (Some (Store Follow)) = inr (λ is. cc)
is-init (Some (Store Ask)) = inr (λ is. cc)
is-init (Some (Store Rebuild)) = inr (λ is. cc)
is-init (Some (Store (Tell telling))) = inr (λ is. cc)

-- what a follower begins with is what its store holds, where that is sound or nothing
begins-sound : (content : Stored) → IsSoundContent content → BeginsWith (base_in content) content
begins-sound content sound = by (schema_alone content.schema) refl sound
  where
    by : (read : Result SchemaValue BadLine) → schema_alone content.schema ≡ read → IsOkAnd read (λ schema. IsSoundOver schema content)
        → BeginsWith (option_map (λ schema. record { text = schema_text schema; facts = facts_told content }) (result_ok read)) content
    by (Err bad) is none = absurd none
    by (Ok schema) is over = record { schema = schema; read = is; sound = over; text = refl; facts = refl }

begins-empty : BeginsWith (base_in empty_content) empty_content
unfolding schema_of
begins-empty = refl

-- a content in which there is nothing is not sound
empty-unsound : IsSoundContent empty_content → ⊥
unfolding schema_of
empty-unsound sound = sound

pub cube-stays : (words : List (List ℕ)) (seen : SeenAll) (end : End) → IsSome seen.source.left → Says words seen end → StaysSound seen.keeper
cube-stays words seen end tells says = by_content seen.keeper.told.content refl
  where
    by_command : (content : Stored) (input : List ℕ) → seen.keeper.told.content ≡ Some content → seen.source.left ≡ Some input → IsSoundContent content → (command_of words ≡ Some (Store Init)) ⊎ (command_of words ≢ Some (Store Init)) → IfSome seen.keeper.told_after.content IsSoundContent
    by_command content input told left sound (inl init) =
        init-stays seen content input told left IsSoundContent sound (λ later holds. holds) (λ lines. scripted-sound content lines sound) (begins-sound content sound) end
        (λ empty. absurd (empty-unsound (subst IsSoundContent empty sound))) (subst (λ command. SaysAsked (asked_line words) command seen end) init says)
    by_command content input told left sound (inr other) =
        command-stays seen content input told left IsSoundContent sound (λ later holds. holds) (λ lines. scripted-sound content lines sound) (begins-sound content sound) (asked_line words) (command_of words) end other says

    by_input : (content : Stored) → seen.keeper.told.content ≡ Some content → IsSoundContent content → (left : Option (List ℕ)) → seen.source.left ≡ left → IsSome left → IfSome seen.keeper.told_after.content IsSoundContent
    by_input content told sound None is none = cc
    by_input content told sound (Some input) is some = by_command content input told is sound (is-init (command_of words))

    by_content : (held : Option Stored) → seen.keeper.told.content ≡ held → IfSome held (λ content. IsSoundContent content → IfSome seen.keeper.told_after.content IsSoundContent)
    by_content None told = tt
    by_content (Some content) told = λ sound. by_input content told sound seen.source.left refl tells

pub cube-begins : (words : List (List ℕ)) (seen : SeenAll) (end : End) → IsSome seen.source.left → Says words seen end → BeginsSound seen.keeper
cube-begins words seen end tells says = by_content seen.keeper.told.content refl
  where
    by_command : (input : List ℕ) → seen.keeper.told.content ≡ Some empty_content → seen.source.left ≡ Some input → (command_of words ≡ Some (Store Init)) ⊎ (command_of words ≢ Some (Store Init)) → IfSome seen.keeper.told_after.content IsEmptyOrSound
    by_command input told left (inl init) = init-begins seen input told left end (subst (λ command. SaysAsked (asked_line words) command seen end) init says)
    by_command input told left (inr other) =
        command-stays seen empty_content input told left IsEmptyOrSound (inl refl) (λ later holds. inr holds) (λ lines. inl (empty-kept lines)) begins-empty (asked_line words) (command_of words) end other says

    by_input : seen.keeper.told.content ≡ Some empty_content → (left : Option (List ℕ)) → seen.source.left ≡ left → IsSome left → IfSome seen.keeper.told_after.content IsEmptyOrSound
    by_input told None is none = cc
    by_input told (Some input) is some = by_command input told is (is-init (command_of words))

    by_content : (held : Option Stored) → seen.keeper.told.content ≡ held → IfSome held (λ content. content ≡ empty_content → IfSome seen.keeper.told_after.content IsEmptyOrSound)
    by_content None told = tt
    by_content (Some content) told = λ empty. by_input (told ∙ ap Some empty) seen.source.left refl tells

-- A finished `rebuild` leaves a sound content with the schema and the facts that it had.
pub rebuilds-sound : (seen : SeenAll) (refused : ℕ) → SaysOf (Some (Store Rebuild)) seen (Finished refused) → Holds seen.keeper (λ content. IfSome seen.keeper.told_after.content (IsRebuilt content))
rebuilds-sound seen refused says = by_content seen.keeper.told.content refl
  where
    by_read : (content : Stored) → seen.keeper.told.content ≡ Some content → DidKeep (rebuild_work [] content) false [] seen → (read : Result SchemaValue BadLine) → schema_alone content.schema ≡ read
        → IsOkAnd read (λ schema. IsMendableOver schema content) → IfSome seen.keeper.told_after.content (IsRebuilt content)
    by_read content told did (Err bad) is none = absurd none
    by_read content told did (Ok schema) is over =
        subst (λ c. IfSome c (IsRebuilt content)) (sym (did.kept.content ∙ ap (option_map (apply_all (rebuild_work [] content).kept)) told))
        (after_right content schema is over (IsRebuilt content) (λ sound. record { sound = sound; schema = refl; facts = refl }) (λ sound. record { sound = sound; schema = refl; facts = refl }))

    by_content : (held : Option Stored) → seen.keeper.told.content ≡ held → IfSome held (λ content. IfSome seen.keeper.told_after.content (IsRebuilt content))
    by_content None told = tt
    by_content (Some content) told =
        by_read content told (subst (λ held. IfSome held (λ content. MeansAsNeeded (rebuild_work [] content) false [] seen (Finished refused))) told says.means).1.0 (schema_alone content.schema) refl
        (subst (λ held. IfSome held IsMendableContent) told says.fits)
