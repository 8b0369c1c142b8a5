-- What a follower leaves of a store: with the first so many batches of a feed it is sound, or as it was.
use Rattle.std.proofs.Common.{◌≡◌, ℕ, zero, suc, ◌+◌, ◌-◌, ◌<◌, ◌≤◌, Bool, true, false, List, [], ◌∷◌, ◌++◌, length, get_or, take, map, refl, sym, ap, ◌∙◌, subst, arith, length-append, Option, Some, None, Result, Ok, Err}
use Rattle.std.specs.Prelude.{◌==◌, ◌&&◌, if◌then◌else◌, is_none, nat_le, ℤ}
use Rattle.std.specs.Option.{option_map}
use Rattle.std.specs.Ordering.{int_eq}
use Rattle.std.specs.Cmp.Lexicographic.{pointwise}
use Rattle.std.specs.Str.{bytes_eq}
use Rattle.std.proofs.lemmas.Bool.Decides.{nat_tests}
use Rattle.std.proofs.lemmas.List.{take_all}
use Rattle.std.proofs.lemmas.Bool.Decides.{Decides-eqb, Decides-int_eq}
use Rattle.std.proofs.lemmas.Slice.Eq.{bytes_eq-Decides, slice_eq-Decides}
use Rattle.std.proofs.lemmas.List.Elements.{All-append, All-cons, All-nil}
use Rattle.std.proofs.lemmas.List.Quantifiers.{all_pairs_push}
use Rattle.cube_base.specs.declared.code.Code.{Code}
use Rattle.cube_base.specs.declared.code.Code.TheVariants as code
use Rattle.cube_model.specs.declared.statistic.CellStat.{CellStat}
use Rattle.cube_model.specs.declared.edit.Fact.{Fact}
use Rattle.cube_model.specs.Accepted.{first_refusal, first_that_holds, has_many_rows}
use Rattle.cube_model.specs.Allocation.{extended, row_count}
use Rattle.cube_model.specs.Limits.{MAX_FACTS, MAX_ROWS}
use Rattle.cube_model.specs.Tree.{Dimension}
use Rattle.fact_keeper.specs.declared.content.Batch.{Batch}
use Rattle.fact_keeper.specs.declared.content.Stored.{Stored}
use Rattle.fact_keeper.specs.Batch.{apply_batch, empty_content}
use Rattle.dim_tree.proofs.Climbing.{both}
use Rattle.fact_records.specs.Accepted.{region_refusal}
use Rattle.fact_records.specs.FactList.{IsAscending}
use Rattle.fact_records.specs.Shape.{ShapeValue}
use Rattle.fact_records.specs.Valid.{AreValid, IsFactOf, IsValid}
use Rattle.row_feed.specs.declared.feed_line.FeedLine.TheVariants as feed
use Rattle.row_feed.specs.FeedLine.{feed_line_of}
use Rattle.row_feed.specs.FeedText.{feed_bytes}
use Rattle.schema_text.specs.Growth.{dims_with}
use Rattle.schema_text.specs.Schema.{IsSchema, SchemaValue, policy_of, schema_policy, shape_of, weigh_of}
use Rattle.schema_text.specs.SchemaText.{schema_text}
use Rattle.script_run.specs.Kept.{apply_all, batches_of}
use Rattle.script_run.specs.Run.{State, schema_at}
use Rattle.script_text.specs.declared.line.Line.{Line}
use Rattle.script_text.specs.declared.line.Line.TheVariants as line
use Rattle.store_audit.specs.Sound.{facts_told}
use Rattle.cube_core.specs.Growth.{growth_difference, judge_growth}
use Rattle.edit_plan.specs.Plan.{difference}
use Rattle.fact_records.specs.Judge.{judge}
use Rattle.cube_cli.specs.SchemaAlone.{schema_alone}
use Rattle.cube_cli.specs.Store.{IsSoundContent, IsSoundOver}
use Rattle.cube_cli.proofs.FeedSteps.{HoldsOfSteps, step_at-holds, work_after}
use Rattle.cube_cli.proofs.SchemaTrees.{schema_of-trees}
use Rattle.feed_run.specs.declared.feed_stop.FeedStop.{FeedStop}
use Rattle.feed_run.specs.Following.{AtStart, Base, Between, Followed, InBase, InSchema, Moved, Place, Within, Work, after_step, are_same, base_batch, base_refusal, first_difference, follow_from, followed, kept_parts, last_id, step_at}
use Rattle.store_law.specs.Holds.{HoldsState}
use Rattle.store_law.proofs.Alone.{alone-schema, text-alone}
use Rattle.store_law.proofs.Based.{based-holds}
use Rattle.store_law.proofs.Drafted.{schema_of-schema}
use Rattle.store_law.proofs.FeedRead.{IsSaid, feed_line-read}
use Rattle.store_law.proofs.Scripted.{IsKeptAt, fields-kept, first-kept, last-sound}

-- none of some refusals is there, and none of some conditions holds
refused-none : (first : Option Code) (refusals : List (Option Code)) → first_refusal (first ∷ refusals) ≡ None → (first ≡ None) × (first_refusal refusals ≡ None)
refused-none None refusals none = (refl, none)
refused-none (Some refusal) refusals none = cc

holds-none : (holds : Bool) (refusal : Code) → first_that_holds ((holds, refusal) ∷ []) ≡ None → holds ≡ false
holds-none true refusal none = cc
holds-none false refusal none = refl

-- the last of facts in order has the greatest id
below-last : (facts : List Fact) (k : ℕ) (d : Fact) → IsAscending facts → k < length facts → (get_or facts k d).id ≤ last_id facts
below-last [] k d up within = absurd (omega (arith, within))
below-last (fact ∷ []) zero d up within = omega arith
below-last (fact ∷ []) (suc k) d up within = absurd (omega (arith, within))
below-last (fact ∷ next ∷ facts) zero d up within =
    let less : fact.id < next.id = up 0 1 d (omega arith) (omega arith) in
    let rest = below-last (next ∷ facts) 0 d (λ i j d before within. up (suc i) (suc j) d (omega (arith, before)) (omega (arith, within))) (omega arith) in
    omega (arith, less, rest)
below-last (fact ∷ next ∷ facts) (suc k) d up within =
    below-last (next ∷ facts) k d (λ i j d before within. up (suc i) (suc j) d (omega (arith, before)) (omega (arith, within))) (omega (arith, within))

-- the facts of a base are such as a cube may have: none, and with one more that is not refused
valid-none : (shape : ShapeValue) (dims : List Dimension) → AreValid shape dims []
valid-none shape dims = record { ascending = λ i j d before within. absurd (omega (arith, within)); few = omega arith; each = All-nil (IsValid shape dims) }

valid-with : (shape : ShapeValue) (dims : List Dimension) (facts : List Fact) (fact : Fact) → AreValid shape dims facts → IsFactOf shape dims fact → base_refusal dims facts fact ≡ None → AreValid shape dims (facts ++ fact ∷ [])
valid-with shape dims facts fact valid of none =
    let past_id = refused-none (first_that_holds ((nat_le fact.id (last_id facts), code.Exists) ∷ [])) _ none in
    let above = holds-none (nat_le fact.id (last_id facts)) code.Exists past_id.0 in
    let past_region = refused-none (region_refusal dims fact.region) _ past_id.1 in
    let past_facts = refused-none (first_that_holds ((nat_le MAX_FACTS (length facts), code.Facts) ∷ [])) _ past_region.1 in
    let room = holds-none (nat_le MAX_FACTS (length facts)) code.Facts past_facts.0 in
    let later : last_id facts < fact.id = grind (arith, nat_tests, above) in
    let few : length facts < MAX_FACTS = grind (arith, nat_tests, room) in
    record {
      ascending = all_pairs_push (λ f g. f.id < g.id) facts fact valid.ascending (λ k d within. omega (arith, later, below-last facts k d valid.ascending within));
      few = omega (arith, length-append facts (fact ∷ []), few);
      each = All-append (IsValid shape dims) facts (fact ∷ []) valid.each (All-cons (IsValid shape dims) fact [] (record { accepted = of; size = past_region.0 }) (All-nil (IsValid shape dims)));
    }

-- facts that differ at no place are the same
same-fact : (a b : Fact) → are_same a b ≡ true → a ≡ b
same-fact a b is =
    let parts = both (a.id == b.id && pointwise (λ m n. m == n) a.region b.region) (pointwise int_eq a.cols b.cols) is in
    let first = both (a.id == b.id) (pointwise (λ m n. m == n) a.region b.region) parts.0 in
    let ids : a.id ≡ b.id = grind (arith, nat_tests, first.0) in
    let regions : a.region ≡ b.region = (slice_eq-Decides Decides-eqb a.region b.region (pointwise (λ m n. m == n) a.region b.region) refl).0 first.1 in
    let cols : a.cols ≡ b.cols = (slice_eq-Decides Decides-int_eq a.cols b.cols (pointwise int_eq a.cols b.cols) refl).0 parts.1 in
    by (a.id) (b.id) ids a.region b.region regions a.cols b.cols cols
  where
    by : (id other : ℕ) → id ≡ other → (region regions : List ℕ) → region ≡ regions → (cols others : List ℤ) → cols ≡ others
        → ◌≡◌ {A = Fact} (record { id = id; region = region; cols = cols }) (record { id = other; region = regions; cols = others })
    by id other ids region regions are cols others these = rw (ids, are, these) refl

same-facts : (facts others : List Fact) → first_difference facts others ≡ None → facts ≡ others
same-facts [] [] none = refl
same-facts [] (other ∷ others) none = cc
same-facts (fact ∷ facts) [] none = cc
same-facts (fact ∷ facts) (other ∷ others) none = by_first (are_same fact other) refl (first_difference facts others) refl none (same-facts facts others)
  where
    by_first : (same : Bool) → are_same fact other ≡ same → (rest : Option ℕ) → first_difference facts others ≡ rest → (if same then option_map (λ place. place + 1) rest else Some 0) ≡ None
        → (first_difference facts others ≡ None → facts ≡ others) → fact ∷ facts ≡ other ∷ others
    by_first false is rest rest_is none later = cc
    by_first true is (Some place) rest_is none later = cc
    by_first true is None rest_is none later = ap (λ f. f ∷ facts) (same-fact fact other is) ∙ ap (λ fs. other ∷ fs) (later rest_is)

-- what is said commits one batch at most
one-batch : (weigh : CellStat → ℕ) (schema : SchemaValue) (state : State) (said : Line) (batch : Batch) (rest : List Batch) → batches_of weigh schema state said ≡ batch ∷ rest → rest ≡ []
one-batch weigh schema state (line.Edit edit) batch rest e = either (is_none (judge (schema_policy weigh schema) (shape_of schema) state.dims edit state.facts)) e
  where
    either : (b : Bool) → (if b then difference (schema_policy weigh schema) state.dims edit state.facts ∷ [] else []) ≡ batch ∷ rest → rest ≡ []
    either true e = cc
    either false e = cc
one-batch weigh schema state (line.Grow grow) batch rest e = either (is_none (judge_growth (schema_policy weigh schema) state.dims state.facts grow)) e
  where
    either : (b : Bool) → (if b then growth_difference (schema_policy weigh schema) (schema_at schema state) (dims_with grow state.dims) state.facts ∷ [] else []) ≡ batch ∷ rest → rest ≡ []
    either true e = cc
    either false e = cc
one-batch weigh schema state line.Nothing batch rest e = cc
one-batch weigh schema state (line.Ask asked) batch rest e = cc

-- What a follower begins with is what its store holds: nothing, or the one text of its schema and its facts.
pub record IsBaseOf (base : Base) (content : Stored) : Type 0 where
  pub schema : SchemaValue
  pub read : schema_alone content.schema ≡ Ok schema
  pub sound : IsSoundOver schema content
  pub text : base.text ≡ schema_text schema
  pub facts : base.facts ≡ facts_told content

abbrev pub BeginsWith : Option Base → Stored → Type 0
BeginsWith None content = content ≡ empty_content
BeginsWith (Some base) content = IsBaseOf base content

-- the store holds what the base has
over-base : (base : Base) (content : Stored) (is : IsBaseOf base content) (schema : SchemaValue) (facts : List Fact) → IsSchema schema → bytes_eq base.text (schema_text schema) ≡ true → first_difference base.facts facts ≡ None
    → IsKeptAt schema (record { dims = schema.dims; facts = facts }) content
over-base base content is schema facts known equal none =
    let texts : schema_text is.schema ≡ schema_text schema = sym is.text ∙ (bytes_eq-Decides base.text (schema_text schema)).0 equal in
    let read : Ok is.schema ≡ Ok schema = sym (text-alone is.schema (alone-schema content.schema is.schema is.read)) ∙ ap schema_alone texts ∙ text-alone schema known in
    let same : is.schema ≡ schema = cc in
    let told : facts_told content ≡ facts = sym is.facts ∙ same-facts base.facts facts none in
    subst (λ (fs : List Fact). IsKeptAt schema (record { dims = schema.dims; facts = fs }) content) told
    (subst (λ (s : SchemaValue). IsKeptAt s (record { dims = s.dims; facts = facts_told content }) content) same (first-kept is.schema content is.read is.sound))

module _ (base : Option Base) (content : Stored) (P : Stored → Type 0) (here : P content) (sounds : (other : Stored) → IsSoundContent other → P other) (begins : BeginsWith base content) where
  -- How the store stands at a place of a feed. Up to `based` it is as it was; then it is the one of the state, and within a batch it will be.
  abbrev Stands : Place → Stored → Type 0
  Stands AtStart now = now ≡ content
  Stands (InSchema before) now = now ≡ content
  Stands (InBase schema facts) now = (now ≡ content) × IsSchema schema × AreValid (shape_of schema) schema.dims facts
  Stands (Between work) now = IsKeptAt work.schema work.state now
  Stands (Within work batch left) now = IsSoundContent now × IsKeptAt work.schema work.state (apply_batch batch now)

  stands-holds : (place : Place) (now : Stored) → Stands place now → P now
  stands-holds AtStart now at = subst P (sym at) here
  stands-holds (InSchema before) now at = subst P (sym at) here
  stands-holds (InBase schema facts) now at = subst P (sym at.0) here
  stands-holds (Between work) now kept = sounds now (last-sound work.schema work.state now kept)
  stands-holds (Within work batch left) now at = sounds now at.0

  -- a line leads there, and commits these batches, of which there is one at most
  abbrev Leads : List Batch → Place → Stored → Type 0
  Leads [] place now = Stands place now
  Leads (batch ∷ []) place now = P now × Stands place (apply_batch batch now)
  Leads (batch ∷ other ∷ batches) place now = ⊥

  abbrev Keeps : Place → Moved → Type 0
  Keeps place moved = (now : Stored) → Stands place now → Leads moved.batches moved.place now

  -- the store is begun by the base
  begun : (over : Option Base) → BeginsWith over content → over ≡ None → (schema : SchemaValue) (facts : List Fact) (now : Stored) → Stands (InBase schema facts) now → row_count (extended (policy_of schema) schema.dims facts) ≤ MAX_ROWS
      → IsKeptAt schema (record { dims = schema.dims; facts = facts }) (apply_batch (base_batch schema facts) now)
  begun (Some over) is none schema facts now at few = cc
  begun None empty none schema facts now at few = record {
    known = at.1;
    read = text-alone schema at.1;
    holds = subst (λ (c : Stored). HoldsState (policy_of schema) (shape_of schema) schema.dims facts (apply_batch (base_batch schema facts) c)) (sym (at.0 ∙ empty)) (based-holds schema facts at.2 few);
  }

  -- or it is what the base has
  met : (over : Option Base) → BeginsWith over content → (held : Base) → over ≡ Some held → IsBaseOf held content
  met None empty held is = cc
  met (Some over) is held same = let equal : over ≡ held = cc in
      subst (λ b. IsBaseOf b content) equal is

  batch-kept : (work : Work) (bytes : List ℕ) (number : ℕ) (said : Line) (batch : Batch) (rest : List Batch) (now : Stored) → IsKeptAt work.schema work.state now → feed_line_of (schema_at work.schema work.state) bytes ≡ Ok (feed.Batch number (Ok said))
      → batches_of (weigh_of work.schema.policy) work.schema work.state said ≡ batch ∷ rest → IsKeptAt work.schema (work_after work said).state (apply_batch batch now)
  batch-kept work bytes number said batch rest now kept is are =
      let read : IsSaid (schema_at work.schema work.state) said = feed_line-read (schema_at work.schema work.state) kept.known bytes (feed.Batch number (Ok said)) is in
      let one : batches_of (weigh_of work.schema.policy) work.schema work.state said ≡ batch ∷ [] =
      are ∙ ap (λ bs. batch ∷ bs) (one-batch (weigh_of work.schema.policy) work.schema work.state said batch rest are) in
      subst (λ bs. IsKeptAt work.schema (work_after work said).state (apply_all bs now)) one (fields-kept work.schema work.state now read.fields read.spelled said kept read.is)

  each_keeps : HoldsOfSteps base Keeps
  each_keeps = record {
    started = λ now at. at;
    schema_line = λ before bytes now at. at;
    schema_read = λ before bytes read is now at.
        (at, schema_of-schema (feed_bytes (before ++ bytes ∷ [])) read is (schema_of-trees (feed_bytes (before ++ bytes ∷ [])) read is), valid-none (shape_of read.schema) read.schema.dims);
    fact = λ schema facts bytes fact is none now at. (at.0, at.1, valid-with (shape_of schema) schema.dims facts fact at.2 (feed_line-read schema at.1 bytes (feed.Fact fact) is) none);
    begun = λ schema facts none few now at. (subst P (sym at.0) here, begun base begins none schema facts now at (grind (arith, nat_tests, few)));
    met = λ held schema facts is texts differ now at.
        subst (IsKeptAt schema (record { dims = schema.dims; facts = facts })) (sym at.0) (over-base held content (met base begins held is) schema facts at.1 texts differ);
    said = λ work bytes number told batch rest is are now kept. (last-sound work.schema work.state now kept, batch-kept work bytes number told batch rest now kept is are);
    told = λ work batch bytes next left now at. at;
    done = λ work batch bytes now at. (sounds now at.0, at.1);
  }

  -- behind a line what holds does so behind any of the batches
  none-taken : (count : ℕ) (place : Place) (now : Stored) → Stands place now → P (apply_all (take count []) now)
  none-taken zero place now at = stands-holds place now at
  none-taken (suc count) place now at = stands-holds place now at

  abbrev HoldsOn : (Place → Followed) → Type 0
  HoldsOn later = (place : Place) (now : Stored) → Stands place now → (count : ℕ) → P (apply_all (take count (later place).batches) now)

  moved-holds : (later : Place → Followed) → HoldsOn later → (batches : List Batch) (place : Place) (now : Stored) → Leads batches place now → (count : ℕ) → P (apply_all (take count (batches ++ (later place).batches)) now)
  moved-holds later holds [] place now leads count = holds place now leads count
  moved-holds later holds (batch ∷ []) place now leads zero = leads.0
  moved-holds later holds (batch ∷ []) place now leads (suc count) = holds place (apply_batch batch now) leads.1 count
  moved-holds later holds (batch ∷ other ∷ batches) place now leads count = absurd leads

  step-holds : (later : Place → Followed) → HoldsOn later → (place : Place) (now : Stored) (result : Result Moved FeedStop) → Stands place now → ((moved : Moved) → result ≡ Ok moved → Keeps place moved) → (count : ℕ)
      → P (apply_all (take count (after_step place later result).batches) now)
  step-holds later holds place now (Err stop) at keeps count = none-taken count place now at
  step-holds later holds place now (Ok moved) at keeps count = moved-holds later holds moved.batches moved.place now (keeps moved refl now at) count

  follow-holds : (n : ℕ) (lines : List (List ℕ)) → HoldsOn (λ place. follow_from base n place lines)
  follow-holds n [] place now at count = none-taken count place now at
  follow-holds n (bytes ∷ lines) place now at count =
      step-holds (λ next. follow_from base (n + 1) next lines) (follow-holds (n + 1) lines) place now (step_at base n place bytes) at (λ moved is. step_at-holds base Keeps each_keeps n place bytes moved is) count

  pub batches-hold : (lines : List (List ℕ)) (count : ℕ) → P (apply_all (take count (followed base lines).batches) content)
  batches-hold lines count = follow-holds 1 lines AtStart content refl count

  pub all-hold : (lines : List (List ℕ)) → P (apply_all (followed base lines).batches content)
  all-hold lines = subst (λ bs. P (apply_all bs content)) (take_all (length (followed base lines).batches) (followed base lines).batches (omega arith)) (batches-hold lines (length (followed base lines).batches))

-- and so behind any number of parts
pub parts-hold : (base : Option Base) (content : Stored) (P : Stored → Type 0) → P content → ((other : Stored) → IsSoundContent other → P other) → BeginsWith base content → (lines : List (List ℕ)) (parts : ℕ)
    → P (apply_all (kept_parts base lines parts) content)
parts-hold None content P here sounds begins lines parts = batches-hold None content P here sounds begins lines parts
parts-hold (Some base) content P here sounds begins lines parts = batches-hold (Some base) content P here sounds begins lines (parts - 1)
