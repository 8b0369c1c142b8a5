-- A follower of a leader's feed.
use Rattle.std.proofs.Common.{◌≡◌, ℕ, ◌+◌, ◌^◌, ◌<◌, ◌≤◌, List, [], ◌∷◌, ◌++◌, length, map, refl, sym, ap, ◌∙◌, subst, arith, add-one, append-nil, false, take_all, Option, Some, None, Ok}
use Rattle.std.specs.Prelude.{All, take}
use Rattle.std.specs.List.{concat}
use Rattle.std.specs.Option.{option_map_or}
use Rattle.std.specs.Result.{result_ok}
use Rattle.std.proofs.lemmas.Bool.Decides.{nat_tests}
use Rattle.std.proofs.lemmas.List.Folds.{map_fixed}
use Rattle.std.proofs.lemmas.List.Elements.{All-append, All-weaker}
use Rattle.cube_model.specs.declared.edit.Fact.{Fact}
use Rattle.fact_keeper.specs.declared.content.Batch.{Batch}
use Rattle.fact_keeper.specs.declared.content.Stored.{Stored}
use Rattle.fact_keeper.specs.Batch.{apply_batch, empty_content}
use Rattle.fact_records.specs.Valid.{AreValid, IsFactOf, IsValid}
use Rattle.store_audit.specs.Sound.{facts_told}
use Rattle.text_lines.specs.Pieces.{front}
use Rattle.text_lines.specs.LineText.{LINE_FRONT, is_long}
use Rattle.text_lines.specs.Text.{lines_of}
use Rattle.schema_text.specs.Schema.{IsSchema, SchemaValue, shape_of, weigh_of}
use Rattle.schema_text.specs.SchemaText.{schema_text}
use Rattle.script_run.specs.Kept.{apply_all, batches}
use Rattle.script_run.specs.Run.{State, run}
use Rattle.row_feed.specs.FeedText.{base_lines, feed_bytes}
use Rattle.row_feed.specs.PlainText.{IsPlainText}
use Rattle.row_feed.proofs.FeedBytes.{feed_bytes-append}
use Rattle.row_feed.proofs.FeedLinesPlain.{base_lines-plain, plain-cut}
use Rattle.feed_run.specs.Following.{AtStart, Base, Between, Followed, applied_at, base_batch, based_over, cut_at, followed, or_else, work_of}
use Rattle.feed_run.specs.Leading.{feed_from}
use Rattle.cube_cli.specs.Doing.{base_in, feed_lines}
use Rattle.cube_cli.specs.Store.{IsSoundContent, batches_over, state_over}
use Rattle.cube_cli.proofs.FollowEnds.{base_in-schema}
use Rattle.store_law.proofs.Alone.{alone-schema}
use Rattle.store_law.proofs.Scripted.{IsKeptAt, first-kept, last-sound, run-kept, weigh}
use Rattle.store_law.proofs.Told.{good-valid}
use Rattle.store_law.specs.Holds.{content_after}
use Rattle.feed_law.specs.Feeds.{FollowsAll, Tells, canonical, feed_of}
use Rattle.feed_law.proofs.Based.{base-leads, based-none, based-some}
use Rattle.feed_law.proofs.Leads.{leads-append, leads-followed}
use Rattle.feed_law.proofs.Scripts.{IsLed, lines-led, work_at}
use Rattle.feed_law.proofs.Stores.{based-kept, canonical-same, same-kept, text-run}

module _ (schema : SchemaValue) (content : Stored) (tells : Tells schema content) where
  abbrev first : State
  first = state_over schema content

  known : IsSchema schema
  known = alone-schema content.schema schema tells.read

  valid : AreValid (shape_of schema) schema.dims (facts_told content)
  valid = good-valid (shape_of schema) schema.dims content.facts tells.sound.good

  kept : IsKeptAt schema first content
  kept = first-kept schema content tells.read tells.sound

  -- the batches of lines, over the content and in the state
  abbrev committed : List (List ℕ) → List Batch
  committed lines = batches (weigh schema) schema first lines

  committed-are : (lines : List (List ℕ)) → batches_over content lines ≡ committed lines
  committed-are lines = ap (λ read. option_map_or (λ s. batches (weigh_of s.policy) s (state_over s content) lines) (result_ok read) []) tells.read

  -- the lines of the base are plain
  base-plain : All IsPlainText (base_lines schema (facts_told content))
  base-plain =
      base_lines-plain schema (facts_told content) known
      (All-weaker (IsValid (shape_of schema) schema.dims) (IsFactOf (shape_of schema) schema.dims) (λ fact one. one.accepted) (facts_told content) valid.each)

  module _ (base : Option Base) (begun : List Batch) (over : based_over base schema (facts_told content) ≡ Ok (record { place = Between (work_of schema (facts_told content)); batches = begun })) (lines : List (List ℕ)) (n : ℕ) (few : n < 2 ^ 64) where
    abbrev feed : List ℕ
    feed = feed_of schema content lines n

    abbrev done : List Batch
    done = committed (take n lines)

    abbrev last : State
    last = (run (weigh schema) schema first (take n lines)).state

    led : IsLed base schema first 0 (concat (take n (feed_from (weigh schema) schema first 0 lines))) last done
    led = lines-led base schema n first 0 content lines kept (omega (arith, few))

    all : List (List ℕ)
    all = base_lines schema (facts_told content) ++ led.lines

    all-plain : All IsPlainText all
    unfolding all
    all-plain = All-append IsPlainText (base_lines schema (facts_told content)) led.lines base-plain led.plain

    feed-lines : lines_of feed ≡ all
    unfolding all
    feed-lines =
        ap (λ k. lines_of (concat (take k (feed_bytes (base_lines schema (facts_told content)) ∷ feed_from (weigh schema) schema first 0 lines)))) (add-one n)
        ∙ ap (λ t. lines_of (feed_bytes (base_lines schema (facts_told content)) ++ t)) led.text_is
        ∙ ap lines_of (sym (feed_bytes-append (base_lines schema (facts_told content)) led.lines) ∙ sym (append-nil (feed_bytes all)))
        ∙ plain-cut all [] all-plain
        ∙ append-nil all

    -- each is seen whole
    seen-lines : feed_lines feed ≡ all
    seen-lines =
        ap (map front) feed-lines
        ∙ map_fixed front all (All-weaker IsPlainText (λ line. front line ≡ line) (λ line plain. take_all LINE_FRONT line (short line plain.short)) all all-plain)
      where
        short : (line : List ℕ) → is_long line ≡ false → length line ≤ LINE_FRONT
        short line is = grind (arith, nat_tests, is)

    all-followed : followed base (feed_lines feed) ≡ record { place = Between (work_at base schema last (0 + length done)); batches = begun ++ done; stop = None; lines = length all }
    unfolding all
    all-followed =
        ap (followed base) seen-lines
        ∙ leads-followed base 1 AtStart all (Between (work_at base schema last (0 + length done))) (begun ++ done)
        (leads-append base AtStart (base_lines schema (facts_told content)) (Between (work_of schema (facts_told content))) begun led.lines (Between (work_at base schema last (0 + length done))) done
        (base-leads base schema known (facts_told content) begun valid tells.sound.few over) led.leads)

    number : 0 + length done ≡ length done
    number = omega arith

    pub follows-all : FollowsAll base (feed_lines feed) (begun ++ batches_over content (take n lines)) (length (batches_over content (take n lines)))
    follows-all = record {
      accepted = ap (λ (f : Followed). or_else f.stop (cut_at (length (feed_lines feed)) f.place)) all-followed;
      batches = ap (λ (f : Followed). f.batches) all-followed ∙ ap (λ (bs : List Batch). begun ++ bs) (sym (committed-are (take n lines)));
      applied = ap (λ (f : Followed). applied_at f.place) all-followed ∙ number ∙ ap (λ (bs : List Batch). length bs) (sym (committed-are (take n lines)));
    }

  -- what a store of the same schema and facts holds, after the batches of lines
  module _ (there : Stored) (same : IsKeptAt schema first there) (lines : List (List ℕ)) where
    abbrev reached : State
    reached = (run (weigh schema) schema first lines).state

    here-kept : IsKeptAt schema reached (content_after content lines)
    here-kept = subst (λ bs. IsKeptAt schema reached (apply_all bs content)) (sym (committed-are lines)) (run-kept schema first content lines kept)

    there-kept : IsKeptAt schema reached (apply_all (batches_over content lines) there)
    there-kept = subst (λ bs. IsKeptAt schema reached (apply_all bs there)) (sym (committed-are lines)) (run-kept schema first there lines same)

    pub there-same : canonical (apply_all (batches_over content lines) there) ≡ canonical (content_after content lines)
    there-same = same-kept schema reached (apply_all (batches_over content lines) there) (content_after content lines) there-kept here-kept

    pub there-sound : IsSoundContent (apply_all (batches_over content lines) there)
    there-sound = last-sound schema reached (apply_all (batches_over content lines) there) there-kept

    pub there-canonical : there.schema ≡ schema_text schema → canonical (apply_all (batches_over content lines) there) ≡ apply_all (batches_over content lines) there
    there-canonical text =
        canonical-same schema reached (apply_all (batches_over content lines) there) there-kept
        (ap (λ bs. (apply_all bs there).schema) (committed-are lines) ∙ text-run schema first there lines text)

  -- over nothing
  abbrev begun_store : Stored
  begun_store = apply_batch (base_batch schema (facts_told content)) empty_content

  begun-kept : IsKeptAt schema first begun_store
  begun-kept = based-kept schema (facts_told content) known valid tells.sound.few

  module _ (lines : List (List ℕ)) (n : ℕ) (few : n < 2 ^ 64) where
    pub follows-none : FollowsAll None (feed_lines (feed_of schema content lines n)) (base_batch schema (facts_told content) ∷ batches_over content (take n lines)) (length (batches_over content (take n lines)))
    follows-none = follows-all None (base_batch schema (facts_told content) ∷ []) (based-none schema (facts_told content)) lines n few

    abbrev follower : Stored
    follower = apply_all (followed None (feed_lines (feed_of schema content lines n))).batches empty_content

    follower-is : follower ≡ apply_all (batches_over content (take n lines)) begun_store
    follower-is = ap (λ bs. apply_all bs empty_content) follows-none.batches

    pub makes-store : follower ≡ canonical (content_after content (take n lines))
    makes-store = follower-is ∙ sym (there-canonical begun_store begun-kept (take n lines) refl) ∙ there-same begun_store begun-kept (take n lines)

    pub makes-sound : IsSoundContent follower
    makes-sound = subst IsSoundContent (sym follower-is) (there-sound begun_store begun-kept (take n lines))

  pub stays-canonical : (lines : List (List ℕ)) → content.schema ≡ schema_text schema → canonical (content_after content lines) ≡ content_after content lines
  stays-canonical lines text = there-canonical content kept lines text

  -- over a store that is there
  module _ (there : Stored) (other : Tells schema there) (told : facts_told there ≡ facts_told content) where
    first-same : state_over schema there ≡ first
    first-same = ap (λ (facts : List Fact). record { dims = schema.dims; facts = facts }) told

    same-first : IsKeptAt schema first there
    same-first = subst (λ (state : State). IsKeptAt schema state there) first-same (first-kept schema there other.read other.sound)

    batches-same : (lines : List (List ℕ)) → batches_over there lines ≡ batches_over content lines
    batches-same lines =
        ap (λ read. option_map_or (λ s. batches (weigh_of s.policy) s (state_over s there) lines) (result_ok read) []) other.read
        ∙ ap (λ (state : State). batches (weigh schema) schema state lines) first-same
        ∙ sym (committed-are lines)

    module _ (lines : List (List ℕ)) (n : ℕ) (few : n < 2 ^ 64) where
      abbrev feed_there : List (List ℕ)
      feed_there = feed_lines (feed_of schema content lines n)

      over-there : based_over (base_in there) schema (facts_told content) ≡ Ok (record { place = Between (work_of schema (facts_told content)); batches = [] })
      over-there =
          ap (λ base. based_over base schema (facts_told content)) (base_in-schema there schema other.read)
          ∙ ap (λ (facts : List Fact). based_over (Some (record { text = schema_text schema; facts = facts })) schema (facts_told content)) told
          ∙ based-some schema (facts_told content)

      pub follows-some : FollowsAll (base_in there) feed_there (batches_over content (take n lines)) (length (batches_over content (take n lines)))
      follows-some = follows-all (base_in there) [] over-there lines n few

      pub makes-there : apply_all (followed (base_in there) feed_there).batches there ≡ content_after there (take n lines)
      makes-there = ap (λ bs. apply_all bs there) (follows-some.batches ∙ sym (batches-same (take n lines)))

    pub same-there : (lines : List (List ℕ)) → canonical (content_after there lines) ≡ canonical (content_after content lines)
    same-there lines = ap (λ bs. canonical (apply_all bs there)) (batches-same lines) ∙ there-same there same-first lines
