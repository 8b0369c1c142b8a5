-- The fields of a fact give it again.
use Rattle.std.proofs.Common.{◌≡◌, ℕ, ◌+◌, ◌-◌, ◌^◌, ◌<◌, ◌≤◌, Bool, true, false, List, [], ◌∷◌, ◌++◌, length, map, take, drop, Some, None, Ok, refl, sym, ap, subst, ◌∙◌, arith, eq-eqb, length-append, ℤ}
use Rattle.std.specs.Prelude.{All, ◌&&◌, ◌||◌, ◌==◌, nat_abs, nat_lt, not, unsigned_abs, unwrap_or}
use Rattle.std.specs.Fmt.{decimal, signed_decimal}
use Rattle.std.specs.List.{list_any, slice_split}
use Rattle.std.specs.Option.{option_map}
use Rattle.std.proofs.lemmas.Bool.{or_parts}
use Rattle.std.proofs.lemmas.Bool.Decides.{nat_tests}
use Rattle.std.proofs.lemmas.List.{append-nil, drop-drop, drop_all, drop_at, length-drop, length-map, length-take, take-append-drop, take_at}
use Rattle.std.proofs.lemmas.List.Elements.{All-append, All-cons, All-head, All-nil, All-tail, All-weaker}
use Rattle.cube_model.specs.declared.edit.Fact.{Fact}
use Rattle.cube_model.specs.Limits.{MAX_COLS, MAX_ID, MAX_VALUE, MIN_ID}
use Rattle.text_lines.proofs.Numbers.{number_in-decimal}
use Rattle.fact_records.specs.declared.shape.Kind.{Kind}
use Rattle.fact_records.specs.declared.shape.Kind.TheVariants.{Number, Parts}
use Rattle.fact_records.specs.declared.shape.Measure.{Measure}
use Rattle.fact_records.specs.Accepted.{cols_refusal, has_wrong_number, has_wrong_parts, is_large, is_no_distribution, is_wrong_number}
use Rattle.fact_records.specs.Fields.{cols_given, fact_given, fact_with, id_given, is_number_measure, is_parts_measure, region_given, result_then, some_wrong, values_given}
use Rattle.fact_records.specs.Shape.{AreInOrder, HasScale, IsShape, ShapeValue, is_weight, values_of, width_of, width_of_all}
use Rattle.fact_records.specs.Valid.{IsFactOf}
use Rattle.fact_records.specs.Values.{all_of, has_negative, part_in, signed_number_in, sums_to, values_for, values_in}
use Rattle.fact_records.proofs.SmallValues.{none_of, not_refused}
use Rattle.schema_text.specs.Schema.{IsSchema, SchemaValue, shape_of}
use Rattle.schema_text.proofs.WrittenLines.{IsField}
use Rattle.script_text.specs.Reply.{names_of}
use Rattle.fact_fields.specs.FactRow.{record_of, value_fields, value_text}
use Rattle.fact_fields.proofs.NodesAgain.{length-names_of, nodes-again, nodes-fields}
use Rattle.fact_fields.proofs.PrintedFields.{IsField-number, IsField-values}
use Rattle.fact_fields.proofs.ValuesAgain.{parts-again, parts-within, signed-again, split-again}
use Rattle.fact_fields.proofs.ValuesWritten.{length-values_of}

-- the values of one measure
record AreValues (shape : ShapeValue) (m : Measure) (values : List ℤ) : Type 0 where
  count : length values ≡ width_of m.kind
  some : 1 ≤ length values
  scale_is : HasScale m.kind
  number : is_wrong_number shape m values ≡ false
  whole : is_no_distribution m.kind values ≡ false

within-kind : (kind : Kind) (values : List ℤ) → HasScale kind → is_large kind values ≡ false → is_no_distribution kind values ≡ false → All (λ value. nat_abs value ≤ MAX_VALUE) values
within-kind Number values scale_is small whole = All-weaker (λ value. nat_lt MAX_VALUE (unsigned_abs value) ≡ false) (λ value. nat_abs value ≤ MAX_VALUE) (λ value test. grind (arith, nat_tests, test)) values (none_of _ values small)
within-kind (Parts scale outcomes) values scale_is small whole =
    let parts = or_parts (has_negative values) (not (sums_to scale values)) whole in
    let sums : sums_to scale values ≡ true = grind (arith, parts.1) in
    All-weaker (λ value. nat_abs value ≤ scale) (λ value. nat_abs value ≤ MAX_VALUE) (λ value le. omega (arith, le, scale_is.most)) values (parts-within scale values parts.0 sums)

below : (values : List ℤ) → All (λ value. nat_abs value ≤ MAX_VALUE) values → All (λ value. nat_abs value < 2 ^ 64) values
below values within = All-weaker (λ value. nat_abs value ≤ MAX_VALUE) (λ value. nat_abs value < 2 ^ 64) (λ value le. omega (arith, le)) values within

in-kind : (kind : Kind) (values : List ℤ) → length values ≡ width_of kind → 1 ≤ length values → HasScale kind → is_large kind values ≡ false → is_no_distribution kind values ≡ false → values_in kind (value_text values) ≡ Some values
in-kind Number [] count some scale_is small whole = absurd (omega arith)
in-kind Number (value ∷ []) count some scale_is small whole =
    let le = All-head (λ v. nat_abs v ≤ MAX_VALUE) value [] (within-kind Number (value ∷ []) scale_is small whole) in
    ap (option_map (λ v. v ∷ [])) (ap (signed_number_in MAX_VALUE) (append-nil (signed_decimal value)) ∙ signed-again MAX_VALUE value (omega arith) le)
in-kind Number (value ∷ next ∷ values) count some scale_is small whole = absurd (omega arith)
in-kind (Parts scale outcomes) values count some scale_is small whole =
    let parts = or_parts (has_negative values) (not (sums_to scale values)) whole in
    let sums : sums_to scale values ≡ true = grind (arith, parts.1) in
    let each = parts-within scale values parts.0 sums in
    let texts = split-again values some (below values (within-kind (Parts scale outcomes) values scale_is small whole)) in
    let all : all_of (map (part_in scale) (slice_split (λ b. b == 58) (value_text values))) ≡ Some values = ap (λ t. all_of (map (part_in scale) t)) texts ∙ parts-again scale values (omega (arith, scale_is.most)) parts.0 each in
    let many = eq-eqb (length values) (length outcomes) count in
    rw (all, many, sums) refl

value-again : (shape : ShapeValue) (m : Measure) (values : List ℤ) → AreValues shape m values → values_for shape m (value_text values) ≡ Some values
value-again shape m values are =
    let number = or_parts (is_large m.kind values) (is_weight shape m && has_negative values) are.number in
    rw (in-kind m.kind values are.count are.some are.scale_is number.0 are.whole, number.1) refl

value-field : (shape : ShapeValue) (m : Measure) (values : List ℤ) → AreValues shape m values → length values ≤ MAX_COLS → IsField (value_text values)
value-field shape m values are few =
    let number = or_parts (is_large m.kind values) (is_weight shape m && has_negative values) are.number in
    IsField-values values few (within-kind m.kind values are.scale_is number.0 are.whole)

-- the values of all measures from a column on
abbrev AreAll : ShapeValue → List ℤ → List Measure → Type 0
AreAll shape cols measures = All (λ m. AreValues shape m (values_of m cols)) measures

are-all : (shape : ShapeValue) (cols : List ℤ) (first : ℕ) (measures : List Measure) → AreInOrder first measures → 1 ≤ first → first + width_of_all measures ≤ length cols + 1 → All (λ m. 1 ≤ width_of m.kind) measures
    → All (λ m. HasScale m.kind) measures → list_any (λ m. is_wrong_number shape m (values_of m cols)) measures ≡ false → has_wrong_parts measures cols ≡ false → AreAll shape cols measures
are-all shape cols first [] order some end wide scales numbers parts = All-nil (λ m. AreValues shape m (values_of m cols))
are-all shape cols first (m ∷ measures) order some end wide scales numbers parts =
    let number = or_parts (is_wrong_number shape m (values_of m cols)) (list_any (λ n. is_wrong_number shape n (values_of n cols)) measures) numbers in
    let whole = or_parts (is_no_distribution m.kind (values_of m cols)) (has_wrong_parts measures cols) parts in
    let count = length-values_of m cols (record { first = omega (arith, order.0, some); last = omega (arith, order.0, end) }) in
    let width = All-head (λ (n : Measure). 1 ≤ width_of n.kind) m measures wide in
    All-cons (λ n. AreValues shape n (values_of n cols)) m measures
    (record { count = count; some = omega (arith, count, width); scale_is = All-head (λ (n : Measure). HasScale n.kind) m measures scales; number = number.0; whole = whole.0 })
    (are-all shape cols (first + width_of m.kind) measures order.1 (omega (arith, some)) (omega (arith, end)) (All-tail (λ (n : Measure). 1 ≤ width_of n.kind) m measures wide)
    (All-tail (λ (n : Measure). HasScale n.kind) m measures scales) number.1 whole.1)

-- no field is wrong
none_wrong : (of_kind : Kind → Bool) (shape : ShapeValue) (cols : List ℤ) (measures : List Measure) → AreAll shape cols measures → some_wrong of_kind shape measures (value_fields measures cols) ≡ false
none_wrong of_kind shape cols [] all = refl
none_wrong of_kind shape cols (m ∷ measures) all =
    let again = value-again shape m (values_of m cols) (All-head (λ n. AreValues shape n (values_of n cols)) m measures all) in
    let rest = none_wrong of_kind shape cols measures (All-tail (λ n. AreValues shape n (values_of n cols)) m measures all) in
    rw (again, rest) (no (of_kind m.kind))
  where
    no : (b : Bool) → ((b && false) || false) ≡ false
    no true = refl
    no false = refl

-- and the fields give the values, one measure after the other
given : (shape : ShapeValue) (cols : List ℤ) (k : ℕ) (measures : List Measure) → AreInOrder (k + 1) measures → k + width_of_all measures ≡ length cols → AreAll shape cols measures
    → values_given shape measures (value_fields measures cols) ≡ drop k cols
given shape cols k [] order end all = sym (drop_all k cols (omega (arith, end)))
given shape cols k (m ∷ measures) order end all =
    let again = value-again shape m (values_of m cols) (All-head (λ n. AreValues shape n (values_of n cols)) m measures all) in
    let column : k + 1 + width_of m.kind ≡ k + width_of m.kind + 1 = omega arith in
    let rest = given shape cols (k + width_of m.kind) measures (subst (λ n. AreInOrder n measures) column order.1) (omega (arith, end)) (All-tail (λ n. AreValues shape n (values_of n cols)) m measures all) in
    let place : m.first_col - 1 ≡ k = omega (arith, order.0) in
    ap (λ o. unwrap_or o [] ++ values_given shape measures (value_fields measures cols)) again
    ∙ ap (λ l. values_of m cols ++ l) (rest ∙ sym (drop-drop (width_of m.kind) k cols))
    ∙ ap (λ n. take (width_of m.kind) (drop n cols) ++ drop (width_of m.kind) (drop k cols)) place
    ∙ take-append-drop (width_of m.kind) (drop k cols)

all-fields : (shape : ShapeValue) (cols : List ℤ) (measures : List Measure) → length cols ≤ MAX_COLS → AreAll shape cols measures → All IsField (value_fields measures cols)
all-fields shape cols [] few all = All-nil IsField
all-fields shape cols (m ∷ measures) few all =
    let values = drop (m.first_col - 1) cols in
    let some : length (values_of m cols) ≤ MAX_COLS = omega (arith, length-take (width_of m.kind) values, length-drop (m.first_col - 1) cols) in
    let first = value-field shape m (values_of m cols) (All-head (λ n. AreValues shape n (values_of n cols)) m measures all) some in
    All-cons IsField (value_text (values_of m cols)) (value_fields measures cols) first (all-fields shape cols measures few (All-tail (λ n. AreValues shape n (values_of n cols)) m measures all))

record ColsAgain (shape : ShapeValue) (cols : List ℤ) : Type 0 where
  given_are : cols_given shape (value_fields shape.measures cols) ≡ Ok cols
  fields_are : All IsField (value_fields shape.measures cols)

cols-again : (shape : ShapeValue) (cols : List ℤ) → IsShape shape → cols_refusal shape cols ≡ None → ColsAgain shape cols
cols-again shape cols is accepted =
    let tests = not_refused (length cols == width_of_all shape.measures) (has_wrong_number shape cols) (has_wrong_parts shape.measures cols) accepted in
    let count : length cols ≡ width_of_all shape.measures = grind (arith, nat_tests, tests.0) in
    let all = are-all shape cols 1 shape.measures is.measures.order (omega arith) (omega (arith, count)) is.measures.some is.measures.scales tests.1 tests.2 in
    let values = given shape cols 0 shape.measures is.measures.order (omega (arith, count)) all in
    record {
      given_are = rw (none_wrong is_number_measure shape cols shape.measures all, none_wrong is_parts_measure shape cols shape.measures all, values) refl;
      fields_are = all-fields shape cols shape.measures (omega (arith, count, is.measures.most)) all;
    }

-- a fact
module _ (schema : SchemaValue) (fact : Fact) (is : IsSchema schema) (valid : IsFactOf (shape_of schema) schema.dims fact) where
  fields : List (List ℕ)
  fields = names_of schema.dims fact.region ++ value_fields schema.measures fact.cols

  cols : ColsAgain (shape_of schema) fact.cols
  cols = cols-again (shape_of schema) fact.cols is.shape valid.values

  many_names : length (names_of schema.dims fact.region) ≡ length schema.dims
  many_names = length-names_of schema.dims fact.region valid.placed.region

  id_small : fact.id < 2 ^ 64
  id_small = omega (arith, valid.placed.id.least, valid.placed.id.most)

  id_again : id_given (record_of schema fact) ≡ Ok fact.id
  id_again = rw (number_in-decimal MIN_ID MAX_ID fact.id id_small (omega (arith, valid.placed.id.least, valid.placed.id.most)) (omega (arith, valid.placed.id.least, valid.placed.id.most))) refl

  region_again : region_given schema.dims fields ≡ Ok fact.region
  unfolding fields
  region_again =
      let names = take_at (names_of schema.dims fact.region) (value_fields schema.measures fact.cols) (length schema.dims) many_names in
      rw (names, nodes-again schema.dims fact.region is.trees valid.placed.region) refl

  cols_again : cols_given (shape_of schema) (drop (length schema.dims) fields) ≡ Ok fact.cols
  unfolding fields
  cols_again = ap (cols_given (shape_of schema)) (drop_at (names_of schema.dims fact.region) (value_fields schema.measures fact.cols) (length schema.dims) many_names) ∙ cols.given_are

  pub fact-again : fact_given schema.dims (shape_of schema) (record_of schema fact) ≡ Ok fact
  unfolding fields
  fact-again =
      ap (result_then (λ id. result_then (λ region. result_then (λ values. Ok (fact_with id region values)) (cols_given (shape_of schema) (drop (length schema.dims) fields))) (region_given schema.dims fields))) id_again
      ∙ ap (result_then (λ region. result_then (λ values. Ok (fact_with fact.id region values)) (cols_given (shape_of schema) (drop (length schema.dims) fields)))) region_again
      ∙ ap (result_then (λ values. Ok (fact_with fact.id fact.region values))) cols_again

  pub length-record_of : length (record_of schema fact) ≡ 1 + length schema.names + length schema.measures
  length-record_of =
      let all = length-append (names_of schema.dims fact.region) (value_fields schema.measures fact.cols) in
      let values = length-map schema.measures (λ m. value_text (values_of m fact.cols)) in
      omega (arith, all, values, many_names, is.named)

  pub record-fields : All IsField (record_of schema fact)
  record-fields =
      let names = nodes-fields schema.dims fact.region is.trees valid.placed.region in
      All-cons IsField (decimal fact.id) (names_of schema.dims fact.region ++ value_fields schema.measures fact.cols) (IsField-number fact.id id_small)
      (All-append IsField (names_of schema.dims fact.region) (value_fields schema.measures fact.cols) names cols.fields_are)
