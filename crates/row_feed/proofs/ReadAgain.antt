-- Lines that were written are read again.
use Rattle.std.proofs.Common.{◌≡◌, ◌≢◌, ℕ, zero, suc, ◌+◌, ◌^◌, ◌<◌, ◌≤◌, Bool, true, false, if◌then◌else◌, List, [], ◌∷◌, length, get_or, refl, sym, ap, ◌∙◌, arith, lit≤, Some, None, Ok, Err}
use Rattle.std.specs.Prelude.{All, AllPairs, codes, insert, nat_le, nat_lt, position, slice_get, slice_set, ◌==◌}
use Rattle.std.specs.Fmt.{decimal}
use Rattle.std.specs.List.{find, position_or_len}
use Rattle.std.specs.Option.{option_and_then, option_map_or}
use Rattle.std.specs.Str.{bytes_eq}
use Rattle.std.proofs.lemmas.Bool.{false_from_ne_true}
use Rattle.std.proofs.lemmas.Bool.Decides.{nat_tests}
use Rattle.std.proofs.lemmas.List.Elements.{All-cons, All-get_or, All-nil}
use Rattle.std.proofs.lemmas.List.Sums.{position_or_len_is}
use Rattle.std.proofs.lemmas.Option.{slice_get-get_or}
use Rattle.std.proofs.lemmas.Slice.Eq.{bytes_eq-Decides}
use Rattle.cube_base.specs.Name.{is_name}
use Rattle.cube_base.specs.declared.code.Code.TheVariants as code
use Rattle.cube_model.specs.declared.edit.Edit.{Edit}
use Rattle.cube_model.specs.declared.edit.Edit.TheVariants.{Put, Change, Withdraw}
use Rattle.cube_model.specs.declared.edit.Fact.{Fact}
use Rattle.cube_model.specs.declared.tree.Grow.{Grow}
use Rattle.cube_model.specs.Growing.{grown, new_child, up_to_last}
use Rattle.cube_model.specs.Limits.{MAX_ID, MIN_ID}
use Rattle.cube_model.specs.Tree.{Dimension, Entry, IsTree, entry_of, is_under, node_named}
use Rattle.text_lines.specs.LineText.{field_at, is_blank}
use Rattle.text_lines.proofs.Numbers.{number_in-decimal}
use Rattle.region_algebra.proofs.Spaces.{accepted-few}
use Rattle.fact_records.specs.Fields.{result_then}
use Rattle.fact_records.specs.Valid.{IsEditOf, IsFactOf}
use Rattle.fact_records.proofs.Columns.{length-width_of_all}
use Rattle.schema_text.specs.Growth.{IsGrowOf, dims_with}
use Rattle.schema_text.specs.Schema.{IsSchema, SchemaValue, over_dims, shape_of}
use Rattle.schema_text.proofs.WrittenLines.{IsField, IsField-name, fields_of-joined}
use Rattle.script_text.specs.declared.line.Line.TheVariants as line
use Rattle.script_text.specs.Reply.{name_of}
use Rattle.script_text.specs.ScriptLine.{dim_given, new_name_given, parent_given}
use Rattle.fact_fields.specs.FactRow.{record_of}
use Rattle.fact_fields.proofs.FactsAgain.{fact-again, length-record_of, record-fields}
use Rattle.fact_fields.proofs.NodesAgain.{bytes_eq-same, node-again}
use Rattle.fact_fields.proofs.PrintedFields.{IsField-number, IsField-printed}
use Rattle.fact_fields.proofs.ValuesWritten.{All-at}
use Rattle.row_feed.specs.declared.feed_line.FeedLine.TheVariants.{Batch, Fact as FactLine}
use Rattle.row_feed.specs.FeedLine.{MAX_NUMBER, feed_fields_given, feed_line_of, rest_given}
use Rattle.row_feed.specs.FeedText.{edit_fields, fact_line, fields_line, growth_fields, node_name}
use Rattle.row_feed.specs.PlainText.{IsNamedLeaf, IsPlainText}
use Rattle.row_feed.proofs.FeedLines.{feed_line_of-clean}
use Rattle.row_feed.proofs.PlainTexts.{IsPlainText-fields}

-- a line of fields says what they say
line-read : (schema : SchemaValue) (word : List ℕ) (fields : List (List ℕ)) → IsField word → is_blank word ≡ false → All IsField fields → length fields ≤ 30 → feed_line_of schema (fields_line word fields) ≡ feed_fields_given schema (word ∷ fields)
line-read schema word fields is starts are few =
    let plain = IsPlainText-fields word fields is starts are few in
    sym (feed_line_of-clean schema (fields_line word fields) (fields_line word fields) plain.short (sym plain.clean) refl) ∙ ap (feed_fields_given schema) (fields_of-joined word fields is are)

-- the record of a fact has few fields
record-few : (schema : SchemaValue) (fact : Fact) → IsSchema schema → IsFactOf (shape_of schema) schema.dims fact → length (record_of schema fact) ≤ 14
record-few schema fact is valid =
    let count = length-record_of schema fact is valid in
    let dims = accepted-few schema.dims is.space in
    let measures = length-width_of_all schema.measures is.shape.measures.some in
    omega (arith, count, dims.1, measures, is.shape.measures.most, is.named)

-- the number of fields of an edit that has a fact
right-count : (schema : SchemaValue) (word : List ℕ) (fact : Fact) → IsSchema schema → IsFactOf (shape_of schema) schema.dims fact → (length (word ∷ record_of schema fact) == 2 + length schema.dims + length schema.measures) ≡ true
right-count schema word fact is valid = let count = length-record_of schema fact is valid in grind (arith, nat_tests, count, is.named)

fact_field : IsField (codes "fact")
fact_field = IsField-printed (codes "fact") refl (lit≤ tt)

-- a fact
pub fact-plain : (schema : SchemaValue) (fact : Fact) → IsSchema schema → IsFactOf (shape_of schema) schema.dims fact → IsPlainText (fact_line schema fact)
fact-plain schema fact is valid = IsPlainText-fields (codes "fact") (record_of schema fact) fact_field refl (record-fields schema fact is valid) (omega (arith, record-few schema fact is valid))

pub fact-read : (schema : SchemaValue) (fact : Fact) → IsSchema schema → IsFactOf (shape_of schema) schema.dims fact → feed_line_of schema (fact_line schema fact) ≡ Ok (FactLine fact)
fact-read schema fact is valid =
    let count = right-count schema (codes "fact") fact is valid in
    line-read schema (codes "fact") (record_of schema fact) fact_field refl (record-fields schema fact is valid) (omega (arith, record-few schema fact is valid)) ∙ rw (count, fact-again schema fact is valid) refl

-- what stands behind the number of a batch: one field at least, and few
pub record AreBehind (fields : List (List ℕ)) : Type 0 where
  pub are : All IsField fields
  pub some : 1 ≤ length fields
  pub few : length fields ≤ 20

batch_fields : (number : ℕ) (fields : List (List ℕ)) → number < 2 ^ 64 → AreBehind fields → All IsField (decimal number ∷ fields)
batch_fields number fields fits behind = All-cons IsField (decimal number) fields (IsField-number number fits) behind.are

pub batch-plain : (number : ℕ) (fields : List (List ℕ)) → number < 2 ^ 64 → AreBehind fields → IsPlainText (fields_line (codes "batch") (decimal number ∷ fields))
batch-plain number fields fits behind =
    IsPlainText-fields (codes "batch") (decimal number ∷ fields) (IsField-printed (codes "batch") refl (lit≤ tt)) refl (batch_fields number fields fits behind) (omega (arith, behind.few))

batch-read : (schema : SchemaValue) (number : ℕ) (fields : List (List ℕ)) → number < 2 ^ 64 → AreBehind fields → feed_line_of schema (fields_line (codes "batch") (decimal number ∷ fields)) ≡ Ok (Batch number (rest_given schema fields))
batch-read schema number fields fits behind =
    let three : nat_le 3 (length (codes "batch" ∷ decimal number ∷ fields)) ≡ true = let some = behind.some in grind (arith, nat_tests) in
    let read = number_in-decimal 0 MAX_NUMBER number fits (omega arith) (omega arith) in
    line-read schema (codes "batch") (decimal number ∷ fields) (IsField-printed (codes "batch") refl (lit≤ tt)) refl (batch_fields number fields fits behind) (omega (arith, behind.few)) ∙ rw (three, read) refl

-- an edit
edit-behind : (schema : SchemaValue) (change : Edit) → IsSchema schema → IsEditOf (shape_of schema) schema.dims change → AreBehind (edit_fields schema change)
edit-behind schema (Put fact) is valid = record {
  are = All-cons IsField (codes "insert") (record_of schema fact) (IsField-printed (codes "insert") refl (lit≤ tt)) (record-fields schema fact is valid);
  some = omega arith;
  few = omega (arith, record-few schema fact is valid);
}
edit-behind schema (Change fact) is valid = record {
  are = All-cons IsField (codes "change") (record_of schema fact) (IsField-printed (codes "change") refl (lit≤ tt)) (record-fields schema fact is valid);
  some = omega arith;
  few = omega (arith, record-few schema fact is valid);
}
edit-behind schema (Withdraw id) is valid = record {
  are = All-cons IsField (codes "withdraw") (decimal id ∷ []) (IsField-printed (codes "withdraw") refl (lit≤ tt)) (All-cons IsField (decimal id) [] (IsField-number id (omega (arith, valid.most))) (All-nil IsField));
  some = lit≤ tt;
  few = lit≤ tt;
}

edit-given : (schema : SchemaValue) (change : Edit) → IsSchema schema → IsEditOf (shape_of schema) schema.dims change → rest_given schema (edit_fields schema change) ≡ Ok (line.Edit change)
edit-given schema (Put fact) is valid = rw (right-count schema (codes "insert") fact is valid, fact-again schema fact is valid) refl
edit-given schema (Change fact) is valid = rw (right-count schema (codes "change") fact is valid, fact-again schema fact is valid) refl
edit-given schema (Withdraw id) is valid = rw (number_in-decimal MIN_ID MAX_ID id (omega (arith, valid.most)) valid.least valid.most) refl

pub edit-plain : (schema : SchemaValue) (number : ℕ) (change : Edit) → IsSchema schema → number < 2 ^ 64 → IsEditOf (shape_of schema) schema.dims change → IsPlainText (fields_line (codes "batch") (decimal number ∷ edit_fields schema change))
edit-plain schema number change is fits valid = batch-plain number (edit_fields schema change) fits (edit-behind schema change is valid)

pub edit-read : (schema : SchemaValue) (number : ℕ) (change : Edit) → IsSchema schema → number < 2 ^ 64 → IsEditOf (shape_of schema) schema.dims change
    → feed_line_of schema (fields_line (codes "batch") (decimal number ∷ edit_fields schema change)) ≡ Ok (Batch number (Ok (line.Edit change)))
edit-read schema number change is fits valid =
    batch-read schema number (edit_fields schema change) fits (edit-behind schema change is valid) ∙ ap (λ said. Ok (Batch number said)) (edit-given schema change is valid)

-- the place of a name among names that are distinct
differ : (a b : List ℕ) → a ≢ b → bytes_eq a b ≡ false
differ a b other = false_from_ne_true (bytes_eq a b) (λ e. other ((bytes_eq-Decides a b).0 e))

place-named : (names : List (List ℕ)) (d : ℕ) → AllPairs (λ a b. a ≢ b) names → d < length names → position (λ other. bytes_eq other (field_at names d)) names ≡ Some d
place-named names d distinct within =
    let test = λ (other : List ℕ). bytes_eq other (field_at names d) in
    let first : position_or_len test names ≡ d =
    position_or_len_is test names d [] (omega arith) (λ k before. differ (get_or names k []) (field_at names d) (distinct k d [] before within)) (λ inside. bytes_eq-same (field_at names d)) in
    let there : nat_lt d (length names) ≡ true = grind (arith, nat_tests) in
    rw (first, there) refl

-- a node keeps its name in a dimension that has grown
find-insert : (p : Entry → Bool) (xs : Dimension) (m : ℕ) (x : Entry) → p x ≡ false → find p (insert xs m x) ≡ find p xs
find-insert p [] zero x other = rw other refl
find-insert p [] (suc m) x other = rw other refl
find-insert p (y ∷ xs) zero x other = rw other refl
find-insert p (y ∷ xs) (suc m) x other = ap (λ found. if p y then Some y else found) (find-insert p xs m x other)

entry_of-grown : (dim : Dimension) (parent number : ℕ) (name : List ℕ) → number < length dim → entry_of (grown dim parent name) number ≡ entry_of dim number
unfolding grown
entry_of-grown dim parent number name within =
    let other : (length dim == number) ≡ false = grind (arith, nat_tests) in
    find-insert (λ e. e.number == number) dim (up_to_last (λ e. is_under dim e.number parent) dim) (new_child dim parent name) other

get-put : (dims : List Dimension) (d : ℕ) (dim other : Dimension) → slice_get dims d ≡ Some dim → slice_get (slice_set dims d other) d ≡ Some other
get-put [] d dim other at = cc at
get-put (first ∷ dims) zero dim other at = refl
get-put (first ∷ dims) (suc d) dim other at = get-put dims d dim other at

-- the dimension and the parent of a growth, by their names over the schema after it
module _ (schema : SchemaValue) (leaf : Grow) (dim : Dimension) (is : IsSchema schema) (at : slice_get schema.dims leaf.dim ≡ Some dim) (inside : leaf.dim < length schema.dims) (below : leaf.parent < length dim)
    (free : node_named dim leaf.name ≡ None) (named : is_name leaf.name ≡ true) where
  after : SchemaValue
  after = over_dims schema (dims_with leaf schema.dims)

  tree : IsTree dim
  tree = All-at IsTree schema.dims leaf.dim dim is.trees at

  parent_name : List ℕ
  parent_name = (node-again dim leaf.parent tree below).name

  printed : node_name after.dims leaf.dim leaf.parent ≡ parent_name
  unfolding after parent_name
  printed =
      let grows : dims_with leaf schema.dims ≡ slice_set schema.dims leaf.dim (grown dim leaf.parent leaf.name) = ap (λ found. option_map_or (λ d. slice_set schema.dims leaf.dim (grown d leaf.parent leaf.name)) found schema.dims) at in
      ap (λ dims. node_name dims leaf.dim leaf.parent) grows
      ∙ ap (λ found. option_map_or (λ t. name_of t leaf.parent) found []) (get-put schema.dims leaf.dim dim (grown dim leaf.parent leaf.name) at)
      ∙ ap (λ found. option_map_or (λ e. e.name) found []) (entry_of-grown dim leaf.parent leaf.parent leaf.name below)
      ∙ (node-again dim leaf.parent tree below).written

  fields : List (List ℕ)
  fields = codes "grow" ∷ field_at schema.names leaf.dim ∷ parent_name ∷ leaf.name ∷ []

  fields-are : growth_fields after leaf ≡ fields
  unfolding after fields
  fields-are = ap (λ name. codes "grow" ∷ field_at schema.names leaf.dim ∷ name ∷ leaf.name ∷ []) printed

  there : leaf.dim < length schema.names
  there = omega (arith, is.named, inside)

  behind : AreBehind (growth_fields after leaf)
  unfolding fields parent_name
  behind =
      let of_dim = IsField-name (field_at schema.names leaf.dim) (All-get_or (λ (name : List ℕ). is_name name ≡ true) schema.names leaf.dim [] there is.dim_names.each) in
      let of_parent = (node-again dim leaf.parent tree below).field in
      rw fields-are (record {
        are = All-cons IsField (codes "grow") (field_at schema.names leaf.dim ∷ parent_name ∷ leaf.name ∷ []) (IsField-printed (codes "grow") refl (lit≤ tt))
            (All-cons IsField (field_at schema.names leaf.dim) (parent_name ∷ leaf.name ∷ []) of_dim
            (All-cons IsField parent_name (leaf.name ∷ []) of_parent (All-cons IsField leaf.name [] (IsField-name leaf.name named) (All-nil IsField))));
        some = lit≤ tt;
        few = lit≤ tt;
      })

  dim-given : dim_given schema (field_at schema.names leaf.dim) ≡ Ok leaf.dim
  dim-given = ap (λ found. option_map_or (λ d. Ok d) found (Err code.Node)) (place-named schema.names leaf.dim is.dim_names.distinct there)

  parent-given : parent_given schema.dims leaf.dim parent_name ≡ Ok leaf.parent
  unfolding parent_name
  parent-given =
      ap (λ found. option_map_or (λ node. Ok node) (option_and_then (λ t. node_named t parent_name) found) (Err code.Node)) at
      ∙ ap (λ found. option_map_or (λ node. Ok node) found (Err code.Node)) (node-again dim leaf.parent tree below).again

  name-given : new_name_given schema.dims leaf.dim leaf.name ≡ Ok leaf.name
  name-given = rw (named, at, free) refl

  growth-given : rest_given schema (growth_fields after leaf) ≡ Ok (line.Grow leaf)
  unfolding fields
  growth-given =
      ap (rest_given schema) fields-are
      ∙ ap (result_then (λ d. result_then (λ p. result_then (λ n. Ok (line.Grow (record { dim = d; parent = p; name = n }))) (new_name_given schema.dims d leaf.name)) (parent_given schema.dims d parent_name))) dim-given
      ∙ ap (result_then (λ p. result_then (λ n. Ok (line.Grow (record { dim = leaf.dim; parent = p; name = n }))) (new_name_given schema.dims leaf.dim leaf.name))) parent-given
      ∙ ap (result_then (λ n. Ok (line.Grow (record { dim = leaf.dim; parent = leaf.parent; name = n })))) name-given

-- a growth, over the schema after it, and read over the one before
pub growth-read : (schema : SchemaValue) (number : ℕ) (leaf : Grow) → IsSchema schema → number < 2 ^ 64 → IsGrowOf schema.dims leaf → is_name leaf.name ≡ true
    → feed_line_of schema (fields_line (codes "batch") (decimal number ∷ growth_fields (over_dims schema (dims_with leaf schema.dims)) leaf)) ≡ Ok (Batch number (Ok (line.Grow leaf)))
unfolding after
growth-read schema number leaf is fits grows named =
    let dim = get_or schema.dims leaf.dim [] in
    let at = slice_get-get_or schema.dims leaf.dim [] grows.dim in
    let below : leaf.parent < length dim = rw at at grows.parent in
    let free : node_named dim leaf.name ≡ None = rw at at grows.free in
    batch-read schema number (growth_fields (over_dims schema (dims_with leaf schema.dims)) leaf) fits (behind schema leaf dim is at grows.dim below free named)
    ∙ ap (λ said. Ok (Batch number said)) (growth-given schema leaf dim is at grows.dim below free named)

-- and its line, over any schema that has its parent
pub leaf-plain : (schema : SchemaValue) (number : ℕ) (leaf : Grow) → IsSchema schema → number < 2 ^ 64 → IsNamedLeaf schema.dims leaf → IsPlainText (fields_line (codes "batch") (decimal number ∷ growth_fields schema leaf))
leaf-plain schema number leaf is fits written =
    let dim = get_or schema.dims leaf.dim [] in
    let at = slice_get-get_or schema.dims leaf.dim [] written.there.dim in
    let below : leaf.parent < length dim = rw at at written.there.parent in
    let node = node-again dim leaf.parent (All-at IsTree schema.dims leaf.dim dim is.trees at) below in
    let printed : node_name schema.dims leaf.dim leaf.parent ≡ node.name = ap (λ found. option_map_or (λ t. name_of t leaf.parent) found []) at ∙ node.written in
    let name = field_at schema.names leaf.dim in
    let of_dim = IsField-name name (All-get_or (λ (n : List ℕ). is_name n ≡ true) schema.names leaf.dim [] (omega (arith, is.named, written.there.dim)) is.dim_names.each) in
    let all = All-cons IsField (codes "grow") (name ∷ node.name ∷ leaf.name ∷ []) (IsField-printed (codes "grow") refl (lit≤ tt))
    (All-cons IsField name (node.name ∷ leaf.name ∷ []) of_dim (All-cons IsField node.name (leaf.name ∷ []) node.field (All-cons IsField leaf.name [] (IsField-name leaf.name written.named) (All-nil IsField)))) in
    batch-plain number (growth_fields schema leaf) fits (rw printed (record { are = all; some = lit≤ tt; few = lit≤ tt }))
