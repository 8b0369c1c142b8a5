-- The lines of a base lead a follower behind `based`.
use Rattle.std.proofs.Common.{◌≡◌, ℕ, ◌+◌, ◌<◌, ◌≤◌, true, false, List, [], ◌∷◌, ◌++◌, length, map, refl, sym, ap, ◌∙◌, subst, arith, append-nil, append_assoc, length-append, eq-eqb, Option, Some, None, Ok, ℤ}
use Rattle.std.specs.Prelude.{All, AllPairs, codes, nat_le, ◌==◌}
use Rattle.std.specs.List.{list_any}
use Rattle.std.specs.Cmp.Lexicographic.{pointwise}
use Rattle.std.specs.Ordering.{int_eq}
use Rattle.std.specs.Str.{is_utf8}
use Rattle.std.proofs.lemmas.Bool.{or_parts}
use Rattle.std.proofs.lemmas.Bool.Decides.{Decides-int_eq, nat_tests}
use Rattle.std.proofs.lemmas.List.Elements.{All-head, All-tail}
use Rattle.cube_model.specs.declared.edit.Fact.{Fact}
use Rattle.cube_model.specs.Accepted.{has_many_rows}
use Rattle.cube_model.specs.Allocation.{extended, row_count}
use Rattle.cube_model.specs.Limits.{MAX_FACTS, MAX_ROWS}
use Rattle.fact_fields.proofs.NodesAgain.{bytes_eq-same}
use Rattle.fact_groups.proofs.Ascending.{pairs-first, pairs-rest}
use Rattle.fact_keeper.specs.declared.content.Batch.{Batch}
use Rattle.fact_records.specs.Accepted.{region_refusal}
use Rattle.fact_records.specs.Valid.{AreValid, IsValid}
use Rattle.text_lines.proofs.Ascii.{ascii_is_utf8}
use Rattle.text_lines.specs.Text.{lines_of}
use Rattle.schema_text.specs.Schema.{IsSchema, SchemaValue, policy_of, shape_of}
use Rattle.schema_text.specs.SchemaText.{is_end, schema_of, schema_text}
use Rattle.schema_text.proofs.ReadsAgain.{reads_again}
use Rattle.row_feed.specs.declared.feed_line.FeedLine.TheVariants as feed
use Rattle.row_feed.specs.FeedLine.{feed_line_of}
use Rattle.row_feed.specs.FeedText.{base_lines, fact_line, feed_bytes, fields_line}
use Rattle.row_feed.proofs.FeedBytes.{feed_bytes-schema}
use Rattle.row_feed.proofs.ReadAgain.{fact-read}
use Rattle.feed_run.specs.Following.{AtStart, Base, Between, InBase, InSchema, base_batch, base_refusal, based_over, first_difference, last_id, moved_to, schema_judged, step_at, work_of}
use Rattle.feed_law.proofs.Leads.{Leads, leads-append, leads-cons, leads-one}
use Rattle.feed_law.proofs.SchemaLines.{schema-ends}
use Rattle.feed_law.proofs.Words.{fact-word}

-- what holds of all holds of one behind others
All-behind : {X : Type 0} (P : X → Type 0) (before : List X) (x : X) (rest : List X) → All P (before ++ x ∷ rest) → P x
All-behind P [] x rest all = All-head P x rest all
All-behind P (one ∷ before) x rest all = All-behind P before x rest (All-tail P one (before ++ x ∷ rest) all)

module _ (base : Option Base) where
  -- the first line
  abbrev first_line : List ℕ
  first_line = fields_line (codes "feed") (codes "1" ∷ [])

  started : (n : ℕ) → step_at base n AtStart first_line ≡ moved_to (InSchema [])
  unfolding step_at
  started n = let utf8 : is_utf8 first_line ≡ true = ascii_is_utf8 first_line refl in rw utf8 refl

  -- the lines of the schema but the last
  schema-step : (n : ℕ) (before : List (List ℕ)) (line : List ℕ) → is_end line ≡ false → step_at base n (InSchema before) line ≡ moved_to (InSchema (before ++ line ∷ []))
  unfolding step_at
  schema-step n before line other = rw other refl

  schema-leads : (before lines : List (List ℕ)) → list_any is_end lines ≡ false → Leads base (InSchema before) lines (InSchema (before ++ lines)) []
  schema-leads before [] others = (ap InSchema (sym (append-nil before)), refl)
  schema-leads before (line ∷ lines) others =
      let parts = or_parts (is_end line) (list_any is_end lines) others in
      leads-cons base (InSchema before) line (InSchema (before ++ line ∷ [])) [] lines (InSchema (before ++ line ∷ lines)) []
      (record { step = λ n. schema-step n before line parts.0 })
      (subst (λ (all : List (List ℕ)). Leads base (InSchema (before ++ line ∷ [])) lines (InSchema all) []) (append_assoc before (line ∷ []) lines) (schema-leads (before ++ line ∷ []) lines parts.1))

  -- and the last
  module _ (schema : SchemaValue) (is : IsSchema schema) where
    text : List ℕ
    text = schema_text schema

    schema-end : (n : ℕ) (front : List (List ℕ)) (last : List ℕ) → is_end last ≡ true → schema_of (feed_bytes (front ++ last ∷ [])) ≡ Ok (record { schema = schema; size = length text })
        → step_at base n (InSchema front) last ≡ moved_to (InBase schema [])
    unfolding step_at
    schema-end n front last ends read = rw ends (ap schema_judged read)

    text-again : feed_bytes (lines_of text) ≡ text
    unfolding text
    text-again = feed_bytes-schema schema

    text-read : schema_of text ≡ Ok (record { schema = schema; size = length text })
    unfolding text
    text-read = ap schema_of (sym (append-nil (schema_text schema))) ∙ reads_again schema is []

    schema-led : Leads base (InSchema []) (lines_of (schema_text schema)) (InBase schema []) []
    unfolding text
    schema-led =
        let all = schema-ends schema is in
        let read : schema_of (feed_bytes (all.front ++ all.last ∷ [])) ≡ Ok (record { schema = schema; size = length text }) = ap (λ lines. schema_of (feed_bytes lines)) (sym all.lines_are) ∙ ap schema_of text-again ∙ text-read in
        subst (λ (lines : List (List ℕ)). Leads base (InSchema []) lines (InBase schema []) []) (sym all.lines_are)
        (leads-append base (InSchema []) all.front (InSchema all.front) [] (all.last ∷ []) (InBase schema []) [] (schema-leads [] all.front all.others)
        (leads-one base (InSchema all.front) all.last (InBase schema []) [] (record { step = λ n. schema-end n all.front all.last all.ends read })))

    -- the facts
    last-below : (before : List Fact) (fact : Fact) (rest : List Fact) → AllPairs (λ f g. f.id < g.id) (before ++ fact ∷ rest) → 0 < fact.id → last_id before < fact.id
    last-below [] fact rest up some = some
    last-below (one ∷ []) fact rest up some = All-head (λ (g : Fact). one.id < g.id) fact rest (pairs-first (λ (f g : Fact). f.id < g.id) one (fact ∷ rest) up)
    last-below (one ∷ two ∷ before) fact rest up some = last-below (two ∷ before) fact rest (pairs-rest (λ (f g : Fact). f.id < g.id) one (two ∷ (before ++ fact ∷ rest)) up) some

    none-refused : (before : List Fact) (fact : Fact) → last_id before < fact.id → region_refusal schema.dims fact.region ≡ None → length before < MAX_FACTS → base_refusal schema.dims before fact ≡ None
    none-refused before fact above size room =
        let up : nat_le fact.id (last_id before) ≡ false = grind (arith, nat_tests) in
        let few : nat_le MAX_FACTS (length before) ≡ false = grind (arith, nat_tests) in
        rw (up, size, few) refl

    fact-step : (n : ℕ) (before : List Fact) (fact : Fact) (line : List ℕ) → feed_line_of schema line ≡ Ok (feed.Fact fact) → base_refusal schema.dims before fact ≡ None
        → step_at base n (InBase schema before) line ≡ moved_to (InBase schema (before ++ fact ∷ []))
    unfolding step_at
    fact-step n before fact line read none =
        let word = fact-word schema line fact read in
        rw (word.long, word.clean, word.named, read, none) refl

    -- of all facts some were read, and the rest is not
    facts-leads : (facts before rest : List Fact) → facts ≡ before ++ rest → AreValid (shape_of schema) schema.dims facts → Leads base (InBase schema before) (map (fact_line schema) rest) (InBase schema facts) []
    facts-leads facts before [] parts valid = (ap (InBase schema) (sym (append-nil before) ∙ sym parts), refl)
    facts-leads facts before (fact ∷ rest) parts valid =
        let one : IsValid (shape_of schema) schema.dims fact = All-behind (IsValid (shape_of schema) schema.dims) before fact rest (subst (All (IsValid (shape_of schema) schema.dims)) parts valid.each) in
        let up = last-below before fact rest (subst (λ (fs : List Fact). AllPairs (λ f g. f.id < g.id) fs) parts valid.ascending) (omega (arith, one.accepted.placed.id.least)) in
        let room : length before < MAX_FACTS = omega (arith, valid.few, ap length parts, length-append before (fact ∷ rest)) in
        let none = none-refused before fact up one.size room in
        let read = fact-read schema fact is one.accepted in
        leads-cons base (InBase schema before) (fact_line schema fact) (InBase schema (before ++ fact ∷ [])) [] (map (fact_line schema) rest) (InBase schema facts) []
        (record { step = λ n. fact-step n before fact (fact_line schema fact) read none })
        (facts-leads facts (before ++ fact ∷ []) rest (parts ∙ sym (append_assoc before (fact ∷ []) rest)) valid)

    -- `based`
    abbrev based_line : List ℕ
    based_line = codes "based"

    based-read : feed_line_of schema based_line ≡ Ok feed.Based
    unfolding feed_line_of
    based-read = let utf8 : is_utf8 based_line ≡ true = ascii_is_utf8 based_line refl in rw utf8 refl

    based-step : (n : ℕ) (facts : List Fact) (committed : List Batch) → row_count (extended (policy_of schema) schema.dims facts) ≤ MAX_ROWS
        → based_over base schema facts ≡ Ok (record { place = Between (work_of schema facts); batches = committed })
        → step_at base n (InBase schema facts) based_line ≡ Ok (record { place = Between (work_of schema facts); batches = committed })
    unfolding step_at
    based-step n facts committed few over =
        let utf8 : is_utf8 based_line ≡ true = ascii_is_utf8 based_line refl in
        let some : has_many_rows (extended (policy_of schema) schema.dims facts) ≡ false = grind (arith, nat_tests) in
        rw (utf8, based-read, some) over

    -- all of them
    pub base-leads : (facts : List Fact) (committed : List Batch) → AreValid (shape_of schema) schema.dims facts → row_count (extended (policy_of schema) schema.dims facts) ≤ MAX_ROWS
        → based_over base schema facts ≡ Ok (record { place = Between (work_of schema facts); batches = committed })
        → Leads base AtStart (base_lines schema facts) (Between (work_of schema facts)) committed
    base-leads facts committed valid few over =
        let end = Between (work_of schema facts) in
        let head = first_line ∷ lines_of (schema_text schema) in
        let fact_lines = map (fact_line schema) facts in
        let begun = leads-cons base AtStart first_line (InSchema []) [] (lines_of (schema_text schema)) (InBase schema []) [] (record { step = started }) schema-led in
        leads-append base AtStart (head ++ fact_lines) (InBase schema facts) [] (based_line ∷ []) end committed
        (leads-append base AtStart head (InBase schema []) [] fact_lines (InBase schema facts) [] begun (facts-leads facts [] facts refl valid))
        (leads-one base (InBase schema facts) based_line end committed (record { step = λ n. based-step n facts committed few over }))

-- over a store in which there is nothing the base is committed, and over one that holds it nothing is
pub same-facts : (facts : List Fact) → first_difference facts facts ≡ None
same-facts [] = refl
same-facts (fact ∷ facts) =
    let id = eq-eqb fact.id fact.id refl in
    let region = same-numbers fact.region in
    let cols = same-values fact.cols in
    rw (id, region, cols, same-facts facts) refl
  where
    same-numbers : (ns : List ℕ) → pointwise (λ m n. m == n) ns ns ≡ true
    same-numbers [] = refl
    same-numbers (n ∷ ns) = rw (eq-eqb n n refl) (same-numbers ns)

    same-values : (zs : List ℤ) → pointwise int_eq zs zs ≡ true
    same-values [] = refl
    same-values (z ∷ zs) = rw ((Decides-int_eq z z).1 refl) (same-values zs)

pub based-none : (schema : SchemaValue) (facts : List Fact) → based_over None schema facts ≡ Ok (record { place = Between (work_of schema facts); batches = base_batch schema facts ∷ [] })
based-none schema facts = refl

pub based-some : (schema : SchemaValue) (facts : List Fact) → based_over (Some (record { text = schema_text schema; facts = facts })) schema facts ≡ Ok (record { place = Between (work_of schema facts); batches = [] })
based-some schema facts = rw (bytes_eq-same (schema_text schema), same-facts facts) refl
