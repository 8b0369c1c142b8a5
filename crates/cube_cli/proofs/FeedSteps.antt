-- Where a line of a feed leads that is accepted, by cases.
use Rattle.std.proofs.Common.{◌≡◌, ℕ, ◌+◌, Bool, true, false, List, [], ◌∷◌, ◌++◌, length, refl, subst, Option, Some, None, Result, Ok, Err}
use Rattle.std.specs.Prelude.{◌==◌, ◌||◌, codes, if◌then◌else◌, not}
use Rattle.std.specs.Option.{option_map_or}
use Rattle.std.specs.Str.{bytes_eq}
use Rattle.cube_base.specs.declared.code.Code.{Code}
use Rattle.cube_base.specs.declared.code.Code.TheVariants as code
use Rattle.cube_model.specs.declared.edit.Fact.{Fact}
use Rattle.cube_model.specs.Accepted.{has_many_rows}
use Rattle.cube_model.specs.Allocation.{extended}
use Rattle.fact_keeper.specs.declared.content.Batch.{Batch}
use Rattle.row_feed.specs.declared.feed_line.FeedLine.{FeedLine}
use Rattle.row_feed.specs.declared.feed_line.FeedLine.TheVariants as feed
use Rattle.row_feed.specs.FeedLine.{feed_line_of}
use Rattle.row_feed.specs.FeedText.{behind_lines, feed_bytes}
use Rattle.schema_text.specs.Schema.{SchemaValue, policy_of, weigh_of}
use Rattle.schema_text.specs.SchemaText.{BadLine, ReadSchema, is_end, schema_of, schema_text}
use Rattle.script_run.specs.Kept.{batches_of}
use Rattle.script_run.specs.Run.{schema_at, step_of}
use Rattle.script_text.specs.declared.line.Line.{Line}
use Rattle.text_lines.specs.LineText.{field_at, is_clean, is_long}
use Rattle.text_lines.specs.Text.{fields_of}
use Rattle.feed_run.specs.declared.feed_stop.FeedStop.{FeedStop}
use Rattle.feed_run.specs.declared.feed_stop.FeedStop.TheVariants as feed_stop
use Rattle.feed_run.specs.Following.{AtStart, Base, Between, InBase, InSchema, Moved, Place, Within, Work, base_batch, base_line_judged, base_refusal, based_judged, based_over, batch_judged, batch_line_judged, differs, fact_judged, first_difference, has_word, in_schema, line_done, moved_to, refusal_in, said_judged, schema_judged, step_at, version_judged, where_it_may, within_batch, work_of}

-- to a place, where nothing is committed
abbrev pub to : Place → Moved
to place = record { place = place; batches = [] }

-- the state that a line leaves which a batch says
abbrev pub work_after : Work → Line → Work
work_after work said = record work { state = (step_of (weigh_of work.schema.policy) work.schema work.state said).state }

-- this holds of each place and of where a line may lead from it
pub record HoldsOfSteps (base : Option Base) (Q : Place → Moved → Type 0) : Type 0 where
  pub started : Q AtStart (to (InSchema []))
  pub schema_line : (before : List (List ℕ)) (bytes : List ℕ) → Q (InSchema before) (to (InSchema (before ++ bytes ∷ [])))
  pub schema_read : (before : List (List ℕ)) (bytes : List ℕ) (read : ReadSchema) → schema_of (feed_bytes (before ++ bytes ∷ [])) ≡ Ok read → Q (InSchema before) (to (InBase read.schema []))
  pub fact : (schema : SchemaValue) (facts : List Fact) (bytes : List ℕ) (fact : Fact) → feed_line_of schema bytes ≡ Ok (feed.Fact fact) → base_refusal schema.dims facts fact ≡ None
      → Q (InBase schema facts) (to (InBase schema (facts ++ fact ∷ [])))
  pub begun : (schema : SchemaValue) (facts : List Fact) → base ≡ None → has_many_rows (extended (policy_of schema) schema.dims facts) ≡ false
      → Q (InBase schema facts) (record { place = Between (work_of schema facts); batches = base_batch schema facts ∷ [] })
  pub met : (held : Base) (schema : SchemaValue) (facts : List Fact) → base ≡ Some held → bytes_eq held.text (schema_text schema) ≡ true → first_difference held.facts facts ≡ None
      → Q (InBase schema facts) (to (Between (work_of schema facts)))
  pub said : (work : Work) (bytes : List ℕ) (number : ℕ) (said : Line) (batch : Batch) (rest : List Batch) → feed_line_of (schema_at work.schema work.state) bytes ≡ Ok (feed.Batch number (Ok said))
      → batches_of (weigh_of work.schema.policy) work.schema work.state said ≡ batch ∷ rest
      → Q (Between work) (to (Within (work_after work said) batch (behind_lines (work_after work said).state.dims batch)))
  pub told : (work : Work) (batch : Batch) (bytes next : List ℕ) (left : List (List ℕ)) → Q (Within work batch (bytes ∷ next ∷ left)) (to (Within work batch (next ∷ left)))
  pub done : (work : Work) (batch : Batch) (bytes : List ℕ) → Q (Within work batch (bytes ∷ [])) (record { place = Between (record work { applied = work.applied + 1 }); batches = batch ∷ [] })

module _ (base : Option Base) (Q : Place → Moved → Type 0) (each : HoldsOfSteps base Q) where
  -- it holds of where a line leads, if it does
  abbrev Holds : Place → Result Moved FeedStop → Type 0
  Holds place result = (moved : Moved) → result ≡ Ok moved → Q place moved

  none_holds : (place : Place) (stop : FeedStop) → Holds place (Err stop)
  none_holds place stop moved e = cc

  one_holds : (place : Place) (moved : Moved) → Q place moved → Holds place (Ok moved)
  one_holds place moved here other e =
      let same : moved ≡ other = cc in
      subst (Q place) same here

  where_holds : (place : Place) (n : ℕ) (bytes : List ℕ) (may : Bool) (next : Result Moved FeedStop) → Holds place next → Holds place (where_it_may n bytes may next)
  where_holds place n bytes may next holds = either (is_long bytes) (not (is_clean bytes)) (not may)
    where
      either : (long unclean wrong : Bool)
          → Holds place (if long then Err (feed_stop.Bad n code.Long) else (if unclean then Err (feed_stop.Bad n code.Text) else (if wrong then Err (feed_stop.Bad n code.Order) else next)))
      either true unclean wrong = none_holds place _
      either false true wrong = none_holds place _
      either false false true = none_holds place _
      either false false false = holds

  version_holds : (n : ℕ) (fields : List (List ℕ)) → Holds AtStart (version_judged n fields)
  version_holds n fields = either (not (length fields == 2)) (not (bytes_eq (field_at fields 1) (codes "1")))
    where
      either : (many other : Bool) → Holds AtStart (if many then Err (feed_stop.Bad n code.Fields) else (if other then Err (feed_stop.Bad n code.Number) else moved_to (InSchema [])))
      either true other = none_holds AtStart _
      either false true = none_holds AtStart _
      either false false = one_holds AtStart _ each.started

  schema_holds : (before : List (List ℕ)) (bytes : List ℕ) → Holds (InSchema before) (in_schema before bytes)
  schema_holds before bytes = either (is_end bytes)
    where
      by_read : (read : Result ReadSchema BadLine) → schema_of (feed_bytes (before ++ bytes ∷ [])) ≡ read → Holds (InSchema before) (schema_judged read)
      by_read (Err bad) is = none_holds (InSchema before) _
      by_read (Ok read) is = one_holds (InSchema before) _ (each.schema_read before bytes read is)

      either : (b : Bool) → Holds (InSchema before) (if b then schema_judged (schema_of (feed_bytes (before ++ bytes ∷ []))) else moved_to (InSchema (before ++ bytes ∷ [])))
      either true = by_read (schema_of (feed_bytes (before ++ bytes ∷ []))) refl
      either false = one_holds (InSchema before) _ (each.schema_line before bytes)

  module _ (n : ℕ) (schema : SchemaValue) (facts : List Fact) where
    fact_holds : (bytes : List ℕ) (fact : Fact) → feed_line_of schema bytes ≡ Ok (feed.Fact fact) → Holds (InBase schema facts) (fact_judged n schema facts fact)
    fact_holds bytes fact is = by_refusal (base_refusal schema.dims facts fact) refl
      where
        by_refusal : (refusal : Option Code) → base_refusal schema.dims facts fact ≡ refusal
            → Holds (InBase schema facts) (option_map_or (λ refusal. Err (feed_stop.Bad n refusal)) refusal (moved_to (InBase schema (facts ++ fact ∷ []))))
        by_refusal (Some refusal) none = none_holds (InBase schema facts) _
        by_refusal None none = one_holds (InBase schema facts) _ (each.fact schema facts bytes fact is none)

    over_holds : (over : Option Base) → base ≡ over → has_many_rows (extended (policy_of schema) schema.dims facts) ≡ false → Holds (InBase schema facts) (based_over over schema facts)
    over_holds None is few = one_holds (InBase schema facts) _ (each.begun schema facts is few)
    over_holds (Some held) is few = either (bytes_eq held.text (schema_text schema)) refl (first_difference held.facts facts) refl
      where
        either : (equal : Bool) → bytes_eq held.text (schema_text schema) ≡ equal → (place : Option ℕ) → first_difference held.facts facts ≡ place
            → Holds (InBase schema facts) (if not equal then Err (feed_stop.Base None) else option_map_or (λ place. Err (feed_stop.Base (Some place))) place (moved_to (Between (work_of schema facts))))
        either false texts place differ = none_holds (InBase schema facts) _
        either true texts (Some place) differ = none_holds (InBase schema facts) _
        either true texts None differ = one_holds (InBase schema facts) _ (each.met held schema facts is texts differ)

    based_holds : Holds (InBase schema facts) (based_judged base n schema facts)
    based_holds = either (has_many_rows (extended (policy_of schema) schema.dims facts)) refl
      where
        either : (many : Bool) → has_many_rows (extended (policy_of schema) schema.dims facts) ≡ many
            → Holds (InBase schema facts) (if many then Err (feed_stop.Bad n code.Rows) else based_over base schema facts)
        either true few = none_holds (InBase schema facts) _
        either false few = over_holds base refl few

    base_holds : (bytes : List ℕ) → Holds (InBase schema facts) (base_line_judged base n schema facts (feed_line_of schema bytes))
    base_holds bytes = by_read (feed_line_of schema bytes) refl
      where
        by_read : (read : Result FeedLine Code) → feed_line_of schema bytes ≡ read → Holds (InBase schema facts) (base_line_judged base n schema facts read)
        by_read (Err refusal) is = none_holds (InBase schema facts) _
        by_read (Ok (feed.Fact fact)) is = fact_holds bytes fact is
        by_read (Ok feed.Based) is = based_holds
        by_read (Ok (feed.Batch number said)) is = none_holds (InBase schema facts) _
        by_read (Ok feed.Other) is = none_holds (InBase schema facts) _

  module _ (n : ℕ) (work : Work) where
    batch_holds : (bytes : List ℕ) → Holds (Between work) (batch_line_judged n work (feed_line_of (schema_at work.schema work.state) bytes))
    batch_holds bytes = by_read (feed_line_of (schema_at work.schema work.state) bytes) refl
      where
        by_batches : (number : ℕ) (said : Line) (batches : List Batch) → feed_line_of (schema_at work.schema work.state) bytes ≡ Ok (feed.Batch number (Ok said))
            → batches_of (weigh_of work.schema.policy) work.schema work.state said ≡ batches → Holds (Between work) (said_judged n work (step_of (weigh_of work.schema.policy) work.schema work.state said) batches)
        by_batches number said [] is are = none_holds (Between work) _
        by_batches number said (batch ∷ rest) is are = one_holds (Between work) _ (each.said work bytes number said batch rest is are)

        by_said : (number : ℕ) (said : Result Line Code) → feed_line_of (schema_at work.schema work.state) bytes ≡ Ok (feed.Batch number said) → Holds (Between work) (batch_judged n work said)
        by_said number (Err refusal) is = none_holds (Between work) _
        by_said number (Ok said) is = by_batches number said (batches_of (weigh_of work.schema.policy) work.schema work.state said) is refl

        by_number : (b : Bool) (number : ℕ) (said : Result Line Code) → feed_line_of (schema_at work.schema work.state) bytes ≡ Ok (feed.Batch number said)
            → Holds (Between work) (if b then batch_judged n work said else Err (feed_stop.Order (work.applied + 1) number))
        by_number true number said is = by_said number said is
        by_number false number said is = none_holds (Between work) _

        by_read : (read : Result FeedLine Code) → feed_line_of (schema_at work.schema work.state) bytes ≡ read → Holds (Between work) (batch_line_judged n work read)
        by_read (Err refusal) is = none_holds (Between work) _
        by_read (Ok (feed.Batch number said)) is = by_number (number == work.applied + 1) number said is
        by_read (Ok (feed.Fact fact)) is = none_holds (Between work) _
        by_read (Ok feed.Based) is = none_holds (Between work) _
        by_read (Ok feed.Other) is = none_holds (Between work) _

    within_holds : (batch : Batch) (left : List (List ℕ)) (bytes : List ℕ) → Holds (Within work batch left) (within_batch n work batch left bytes)
    within_holds batch [] bytes = none_holds (Within work batch []) _
    within_holds batch (expected ∷ left) bytes = either (bytes_eq expected bytes)
      where
        by_left : (left : List (List ℕ)) → Q (Within work batch (expected ∷ left)) (line_done work batch left)
        by_left [] = each.done work batch expected
        by_left (next ∷ left) = each.told work batch expected next left

        either : (b : Bool) → Holds (Within work batch (expected ∷ left)) (if b then Ok (line_done work batch left) else Err (differs n work bytes))
        either true = one_holds (Within work batch (expected ∷ left)) (line_done work batch left) (by_left left)
        either false = none_holds (Within work batch (expected ∷ left)) _

  pub step_at-holds : (n : ℕ) (place : Place) (bytes : List ℕ) (moved : Moved) → step_at base n place bytes ≡ Ok moved → Q place moved
  unfolding step_at
  step_at-holds n AtStart bytes moved e = where_holds AtStart n bytes (has_word (codes "feed") bytes) (version_judged n (fields_of bytes)) (version_holds n (fields_of bytes)) moved e
  step_at-holds n (InSchema before) bytes moved e = schema_holds before bytes moved e
  step_at-holds n (InBase schema facts) bytes moved e =
      where_holds (InBase schema facts) n bytes (has_word (codes "fact") bytes || has_word (codes "based") bytes) (base_line_judged base n schema facts (feed_line_of schema bytes)) (base_holds n schema facts bytes) moved e
  step_at-holds n (Between work) bytes moved e =
      where_holds (Between work) n bytes (has_word (codes "batch") bytes) (batch_line_judged n work (feed_line_of (schema_at work.schema work.state) bytes)) (batch_holds n work bytes) moved e
  step_at-holds n (Within work batch left) bytes moved e = within_holds n work batch left bytes moved e
