-- What a follower does from one line of a schema to the next.
use Rattle.std.proofs.Common.{◌≡◌, ℕ, ◌+◌, ◌<◌, ◌^◌, true, false, List, [], ◌∷◌, ◌++◌, Option, Some, Result, Ok, Err, refl, sym, ap, ◌∙◌, subst, append-nil, append_assoc, arith, length}
use Rattle.std.specs.Prelude.{MatchResult}
use Rattle.cube_base.specs.Outside.{SourceTold}
use Rattle.row_feed.specs.FeedText.{feed_bytes}
use Rattle.schema_text.specs.Schema.{SchemaValue}
use Rattle.schema_text.specs.SchemaText.{BadLine, ReadSchema, is_end, schema_of}
use Rattle.schema_text.specs.Fault.{HasCause}
use Rattle.schema_text.specs.declared.schema.SchemaFault.{SchemaFault}
use Rattle.schema_text.specs.declared.schema.SchemaFault.TheVariants as schema_fault
use Rattle.cube_base.specs.declared.code.Code.TheVariants as code
use Rattle.feed_run.specs.declared.feed_stop.FeedStop.{FeedStop}
use Rattle.feed_run.specs.declared.feed_stop.FeedStop.TheVariants.{Bad}
use Rattle.feed_run.specs.declared.part_stop.PartStop.{PartStop}
use Rattle.feed_run.specs.declared.part_stop.PartStop.TheVariants.{Feed, Input}
use Rattle.feed_run.specs.Following.{Base, InBase, InSchema, Moved, moved_to, schema_cut, schema_judged}
use Rattle.feed_run.specs.FollowTurn.{FeedPull, FollowedAs, FollowedBefore, FollowedTo, IsPulledAll, StopsPart}
use Rattle.feed_run.specs.HeadTurn.{InLines, IsEarly, JudgesSchema, StopsBy, schema_stop}
use Rattle.feed_run.proofs.SchemaBounds.{bad-line}
use Rattle.feed_run.proofs.StepsAt.{step-schema}
use Rattle.feed_run.proofs.Turns.{cuts-at, lacks-whole, moves-to, stops-by}

-- a line more is gathered
bytes-push : (before : List (List ℕ)) (line : List ℕ) → feed_bytes (before ++ line ∷ []) ≡ feed_bytes before ++ line ++ 10 ∷ []
bytes-push [] line = append-nil (line ++ 10 ∷ [])
bytes-push (first ∷ before) line =
    ap (λ bytes. (first ++ 10 ∷ []) ++ bytes) (bytes-push before line)
    ∙ ap (λ bytes. (first ++ 10 ∷ []) ++ bytes) (append_assoc (feed_bytes before) line (10 ∷ []))
    ∙ sym (append_assoc (first ++ 10 ∷ []) (feed_bytes before) (line ++ 10 ∷ []))
    ∙ sym (append_assoc (feed_bytes (first ∷ before)) line (10 ∷ []))

-- nothing is gathered yet
pub lines-none : (base : Option Base) (start now : SourceTold) (feed : FeedPull) → FollowedTo base start now feed (InSchema []) [] → InLines base start now feed []
lines-none base start now feed followed = record { before = []; text_is = refl; followed = followed }

-- the line that was pulled last is gathered
module _ (base : Option Base) (start now : SourceTold) (feed : FeedPull) (before : List (List ℕ)) (text : List ℕ) (text_is : text ≡ feed_bytes before ++ feed.line ++ 10 ∷ []) (pulled : FollowedBefore base start now feed (InSchema before) []) where
  text-now : text ≡ feed_bytes (before ++ feed.line ∷ [])
  text-now = text_is ∙ sym (bytes-push before feed.line)

  -- it is not the last
  pub lines-more : is_end feed.line ≡ false → InLines base start now feed text
  lines-more goes_on = record {
    before = before ++ feed.line ∷ [];
    text_is = text-now;
    followed = moves-to base start now feed (InSchema before) [] (InSchema (before ++ feed.line ∷ [])) pulled (step-schema base feed.count before feed.line ∙ rw goes_on refl);
  }

  -- or is, and the schema is judged
  pub lines-end : (result : Result SchemaValue PartStop) → is_end feed.line ≡ true → JudgesSchema (schema_of text) result
      → MatchResult result (λ schema. FollowedTo base start now feed (InBase schema []) []) (StopsPart base start now feed [] 0)
  lines-end (Ok schema) ends told =
      moves-to base start now feed (InSchema before) [] (InBase schema []) pulled (step-schema base feed.count before feed.line ∙ rw ends (subst (λ t. schema_judged (schema_of t) ≡ moved_to (InBase schema [])) text-now told))
  lines-end (Err (Feed why)) ends told =
      stops-by base start now feed (InSchema before) [] (Feed why) pulled (step-schema base feed.count before feed.line ∙ rw ends (subst (λ t. schema_judged (schema_of t) ≡ Err why) text-now told))
  lines-end (Err (Input stop)) ends told = stops-by base start now feed (InSchema before) [] (Input stop) pulled told

-- the input ends within the schema
pub lines-cut : (base : Option Base) (start now : SourceTold) (feed : FeedPull) (before : List (List ℕ)) (text : List ℕ) (stop : PartStop) → text ≡ feed_bytes before → FollowedAs (IsPulledAll start now feed) base (InSchema before) []
    → StopsBy (λ why. why ≡ schema_cut feed.count (schema_of text)) stop → StopsPart base start now feed [] 0 stop
lines-cut base start now feed before text (Feed why) text_is whole is = cuts-at base start now feed (InSchema before) [] why whole (ap Some (sym (is ∙ ap (λ t. schema_cut feed.count (schema_of t)) text_is)))
lines-cut base start now feed before text (Input stop) text_is whole is = rw is (lacks-whole base start now feed (InSchema before) [] whole)

-- a schema is refused for what is the cause
pub schema-refused : (text : List ℕ) (fault : SchemaFault) → HasCause text fault → JudgesSchema (schema_of text) (Err (schema_stop fault))
schema-refused text (schema_fault.Bad line why) cause = ap schema_judged cause
schema-refused text schema_fault.Memory cause = refl

pub schema-early : (text : List ℕ) (fault : SchemaFault) → length text < 2 ^ 63 → HasCause text fault → IsEarly fault
schema-early text (schema_fault.Bad line why) few cause = omega (arith, bad-line text (record { line = line; reason = why }) cause, few)
schema-early text schema_fault.Memory few cause = tt

-- a schema that is cut: the whole of it is read, or why not
pub schema-whole : (count : ℕ) (read : Result ReadSchema BadLine) (schema : SchemaValue) → JudgesSchema read (Ok schema) → (stop : FeedStop) → stop ≡ Bad (count + 1) code.Cut → StopsBy (λ why. why ≡ schema_cut count read) (Feed stop)
schema-whole count (Ok read) schema told stop is = is
schema-whole count (Err bad) schema told stop is = cc

pub schema-stopped : (count : ℕ) (read : Result ReadSchema BadLine) (stop : PartStop) → JudgesSchema read (Err stop) → StopsBy (λ why. why ≡ schema_cut count read) stop
schema-stopped count (Ok read) (Feed why) told = cc
schema-stopped count (Err bad) (Feed why) told = ap (λ (r : Result Moved FeedStop). elim r [ Ok moved ↦ why | Err said ↦ said ]) (sym told)
schema-stopped count read (Input stop) told = told
