-- What the ends of a leader's run and of a follower's say.
use Rattle.std.proofs.Common.{◌≡◌, ◌≢◌, ℕ, ◌+◌, ◌<◌, ◌^◌, List, [], ◌∷◌, length, refl, sym, ap, ◌∙◌, subst, arith, take_all, true, Option, Some, None, Result, Ok, Err}
use Rattle.std.specs.Prelude.{IfSome, IsOkAnd, if◌then◌else◌, map, take, ◌==◌, ◌++◌}
use Rattle.std.specs.Io.KnownBytes.{Appends}
use Rattle.std.specs.List.{concat, onto_first}
use Rattle.std.specs.Option.{option_map, option_map_or}
use Rattle.std.specs.Result.{result_ok}
use Rattle.std.proofs.lemmas.Bool.{ne_eqb}
use Rattle.fact_keeper.specs.declared.content.Stored.{Stored}
use Rattle.fact_keeper.specs.Batch.{empty_content}
use Rattle.store_audit.specs.declared.finding.Finding.{Finding}
use Rattle.store_audit.specs.Sound.{facts_told}
use Rattle.store_audit.proofs.Once.{sound-none}
use Rattle.text_lines.specs.Pieces.{front}
use Rattle.text_lines.specs.Text.{lines_of}
use Rattle.schema_text.specs.Schema.{SchemaValue, policy_of, shape_of, weigh_of}
use Rattle.schema_text.specs.SchemaText.{BadLine}
use Rattle.script_run.specs.Kept.{apply_all}
use Rattle.script_run.specs.Seen.{SeenAll}
use Rattle.feed_run.specs.Following.{followed, refusal_of}
use Rattle.feed_run.specs.Leading.{leading_texts}
use Rattle.feed_run.proofs.LeadTexts.{length-texts}
use Rattle.feed_run.proofs.SchemaBounds.{lines-few}
use Rattle.cube_cli.specs.declared.end.End.{End}
use Rattle.cube_cli.specs.declared.end.End.TheVariants as ends
use Rattle.cube_cli.specs.Doing.{Fits, base_in, ends_of, feed_lines, follow_work, lead_work}
use Rattle.cube_cli.specs.End.{DidLines, FitsAt, MeansByLines, SaysOf}
use Rattle.cube_cli.specs.Kinds.{IsAmong}
use Rattle.cube_cli.specs.RunEnd.{end_of_feed}
use Rattle.cube_cli.specs.SchemaAlone.{schema_alone}
use Rattle.cube_cli.specs.Store.{Finds, FindsBy, IsSoundContent, IsSoundOver, batches_over, state_over}
use Rattle.cube_cli.proofs.FollowEnds.{base_in-empty}
use Rattle.store_law.specs.Holds.{content_after}
use Rattle.feed_law.specs.Commands.{FOLLOWS, HasFollowed, HasLed, LEADS}
use Rattle.feed_law.specs.Feeds.{Tells, canonical, feed_of}
use Rattle.feed_law.proofs.Feeds.{follows-none, follows-some, makes-store, makes-there}

-- where something is known to be there, what holds of it if it is
of-known : {X : Type 0} (P : X → Type 0) (o : Option X) (x : X) → o ≡ Some x → IfSome o P → P x
of-known P o x is holds = subst (λ found. IfSome found P) is holds

-- the texts of all lines, and of the base
all-texts : (schema : SchemaValue) (content : Stored) (lines : List (List ℕ)) → concat (leading_texts (weigh_of schema.policy) schema (state_over schema content) lines) ≡ feed_of schema content lines (length lines)
all-texts schema content lines =
    let texts = leading_texts (weigh_of schema.policy) schema (state_over schema content) lines in
    let count : length texts ≡ length lines + 1 = length-texts (record { weigh = weigh_of schema.policy; schema = schema; first = state_over schema content }) lines in
    ap concat (sym (take_all (length lines + 1) texts (omega (arith, count))))

-- a leader that is finished
module _ (seen : SeenAll) (refused : ℕ) (content : Stored) (input : List ℕ) (says : SaysOf (Some LEADS) seen (ends.Finished refused)) (holds : seen.keeper.told.content ≡ Some content) (reads : seen.source.left ≡ Some input) where
  did : DidLines (lead_work input content) true input refused seen
  did =
      of-known (λ i. DidLines (lead_work i content) true i refused seen) seen.source.left input reads
      (of-known (λ c. IfSome seen.source.left (λ i. DidLines (lead_work i c) true i refused seen)) seen.keeper.told.content content holds says.means)

  few-lines : length (lines_of input) < 2 ^ 64
  few-lines = let within = (did.read refl).within in omega (arith, within, lines-few input)

  kept-lines : seen.keeper.told_after.content ≡ Some (content_after content (lines_of input))
  kept-lines = did.kept.content ∙ ap (option_map (apply_all (batches_over content (lines_of input)))) holds

  pub has-led : IsOkAnd (schema_alone content.schema) (λ schema. HasLed schema content (lines_of input) seen)
  has-led = by_read (schema_alone content.schema) refl (of-known IsSoundContent seen.keeper.told.content content holds says.fits)
    where
      by_read : (read : Result SchemaValue BadLine) → schema_alone content.schema ≡ read → IsOkAnd read (λ schema. IsSoundOver schema content) → IsOkAnd read (λ schema. HasLed schema content (lines_of input) seen)
      by_read (Err bad) is none = absurd none
      by_read (Ok schema) is sound = record {
        tells = record { read = is; sound = sound };
        few = few-lines;
        wrote =
            subst (Appends seen.sink.taken seen.sink.taken_after)
            (ap (λ r. concat (option_map_or (λ s. leading_texts (weigh_of s.policy) s (state_over s content) (lines_of input)) (result_ok r) [])) is ∙ all-texts schema content (lines_of input)) did.wrote;
        kept = kept-lines;
      }

-- A follower that has nothing to refuse.
module _ (seen : SeenAll) (end : End) (content : Stored) (feed : List ℕ) (says : SaysOf (Some FOLLOWS) seen end) (holds : seen.keeper.told.content ≡ Some content) (reads : seen.source.left ≡ Some feed) where
  means : MeansByLines (follow_work feed content) true feed seen end
  means =
      of-known (λ i. MeansByLines (follow_work i content) true i seen end) seen.source.left feed reads
      (of-known (λ c. IfSome seen.source.left (λ i. MeansByLines (follow_work i c) true i seen end)) seen.keeper.told.content content holds says.means)

  module _ (none : refusal_of (base_in content) (feed_lines feed) ≡ None) (fits : (found : Finding) → (content ≢ empty_content) × Finds content found → ⊥) where
    no-refusal : (stop : End) → option_map end_of_feed (refusal_of (base_in content) (feed_lines feed)) ≡ Some stop → ⊥
    no-refusal stop is = let no : None ≡ Some stop = sym (ap (option_map end_of_feed) none) ∙ is in cc

    abbrev store : Stored
    store = apply_all (followed (base_in content) (feed_lines feed)).batches content

    by_end : (end : End) → IsAmong (ends_of (Some FOLLOWS)) end → FitsAt (Fits (Some FOLLOWS)) seen end content → MeansByLines (follow_work feed content) true feed seen end → HasFollowed store seen end
    by_end (ends.Finished refused) may fit did = record {
      accepts = refl;
      done = λ is. refl;
      reaches = λ n same. (let count = did.count in cc, did.kept.content ∙ ap (option_map (apply_all (followed (base_in content) (feed_lines feed)).batches)) holds);
    }
    by_end (ends.ReadFault done) may fit did = record { accepts = refl; done = λ is. cc is; reaches = λ n same. cc same }
    by_end (ends.TooLong done) may fit did = record { accepts = refl; done = λ is. cc is; reaches = λ n same. cc same }
    by_end (ends.WriteFault done) may fit did = record { accepts = refl; done = λ is. cc is; reaches = λ n same. cc same }
    by_end (ends.KeepFault done) may fit did = record { accepts = refl; done = λ is. cc is; reaches = λ n same. cc same }
    by_end (ends.Memory done) may fit did = record { accepts = refl; done = λ is. refl; reaches = λ n same. cc same }
    by_end (ends.BadStore found) may fit did = absurd (fits found fit)
    by_end (ends.BadFeed line why) may fit did = absurd (no-refusal (ends.BadFeed line why) did.head.cause)
    by_end (ends.Order want got) may fit did = absurd (no-refusal (ends.Order want got) did.head.cause)
    by_end (ends.Base place) may fit did = absurd (no-refusal (ends.Base place) did.head.cause)
    by_end (ends.Differs number line) may fit did = absurd (no-refusal (ends.Differs number line) did.head.cause)
    by_end ends.Usage may fit did = cc may
    by_end (ends.Schema line why) may fit did = cc may
    by_end ends.NoCube may fit did = cc may
    by_end ends.HasCube may fit did = cc may
    by_end (ends.BadRecord bad) may fit did = cc may
    by_end (ends.ImportRows would) may fit did = cc may

    pub has-followed : HasFollowed store seen end
    has-followed = by_end end says.may (of-known (FitsAt (Fits (Some FOLLOWS)) seen end) seen.keeper.told.content content holds says.fits) means

-- a line whose LF is missing is one all the same
pub unended : (text : List ℕ) (byte : ℕ) → byte ≢ 10 → lines_of (text ++ byte ∷ []) ≡ lines_of (text ++ byte ∷ 10 ∷ [])
unended [] byte other = rw (ne_eqb byte 10 other) refl
unended (b ∷ text) byte other = ap (λ lines. if b == 10 then [] ∷ lines else onto_first b lines) (unended text byte other)

-- over nothing, and over a store that is there
module _ (schema : SchemaValue) (content : Stored) (tells : Tells schema content) (lines : List (List ℕ)) (n : ℕ) (few : n < 2 ^ 64) (text : List ℕ) (same : lines_of text ≡ lines_of (feed_of schema content lines n)) (seen : SeenAll) (end : End) where
  same-seen : feed_lines text ≡ feed_lines (feed_of schema content lines n)
  same-seen = ap (map front) same

  pub followed-none : seen.keeper.told.content ≡ Some empty_content → seen.source.left ≡ Some text → SaysOf (Some FOLLOWS) seen end → HasFollowed (canonical (content_after content (take n lines))) seen end
  followed-none holds reads says =
      let none : refusal_of (base_in empty_content) (feed_lines text) ≡ None =
      ap (λ base. refusal_of base (feed_lines text)) base_in-empty ∙ ap (refusal_of None) same-seen ∙ (follows-none schema content tells lines n few).accepted in
      let store : apply_all (followed (base_in empty_content) (feed_lines text)).batches empty_content ≡ canonical (content_after content (take n lines)) =
      ap (λ base. apply_all (followed base (feed_lines text)).batches empty_content) base_in-empty
      ∙ ap (λ seen_lines. apply_all (followed None seen_lines).batches empty_content) same-seen
      ∙ makes-store schema content tells lines n few in
      subst (λ (s : Stored). HasFollowed s seen end) store (has-followed seen end empty_content text says holds reads none (λ found fit. fit.0 refl))

  pub followed-some : (there : Stored) → Tells schema there → facts_told there ≡ facts_told content → seen.keeper.told.content ≡ Some there → seen.source.left ≡ Some text → SaysOf (Some FOLLOWS) seen end
      → HasFollowed (content_after there (take n lines)) seen end
  followed-some there other told holds reads says =
      let sound = λ (found : Finding) (finds : Finds there found). sound-none (policy_of schema) (shape_of schema) schema.dims there found other.sound (subst (λ read. FindsBy read there found) other.read finds) in
      let none : refusal_of (base_in there) (feed_lines text) ≡ None = ap (refusal_of (base_in there)) same-seen ∙ (follows-some schema content tells there other told lines n few).accepted in
      let store : apply_all (followed (base_in there) (feed_lines text)).batches there ≡ content_after there (take n lines) =
      ap (λ seen_lines. apply_all (followed (base_in there) seen_lines).batches there) same-seen ∙ makes-there schema content tells there other told lines n few in
      subst (λ (s : Stored). HasFollowed s seen end) store (has-followed seen end there text says holds reads none (λ found fit. sound found fit.1))
