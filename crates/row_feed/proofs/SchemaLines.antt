-- The lines of a schema's text.
use Rattle.std.proofs.Common.{◌≡◌, ℕ, ◌≤◌, true, List, [], ◌∷◌, ◌++◌, length, map, refl, arith, lit≤, Option, Some, None}
use Rattle.std.specs.Prelude.{All, codes, slice_get}
use Rattle.std.specs.Fmt.{decimal}
use Rattle.std.specs.List.{flat_map}
use Rattle.std.specs.Option.{option_map_or}
use Rattle.std.proofs.lemmas.List.{length-map}
use Rattle.std.proofs.lemmas.List.Elements.{All-cons, All-head, All-map, All-nil, All-tail, All-weaker}
use Rattle.cube_base.specs.Name.{is_name}
use Rattle.cube_model.specs.Limits.{MAX_COLS, MAX_DEPTH, MAX_DIMS}
use Rattle.cube_model.specs.Tree.{Dimension, Entry, IsTree}
use Rattle.text_lines.specs.Text.{line_text, lines_of}
use Rattle.region_algebra.specs.declared.view_def.ViewDef.{ViewDef}
use Rattle.region_algebra.proofs.Spaces.{accepted-few}
use Rattle.fact_records.specs.declared.shape.Kind.{Kind}
use Rattle.fact_records.specs.declared.shape.Kind.TheVariants as kind
use Rattle.fact_records.specs.declared.shape.Measure.{Measure}
use Rattle.fact_records.specs.Shape.{HasScale, IsWithin, width_of, width_of_all}
use Rattle.fact_records.proofs.Columns.{AreMeasures-within}
use Rattle.schema_text.specs.declared.word.PolicyWord.{PolicyWord}
use Rattle.schema_text.specs.declared.word.PolicyWord.TheVariants as policy_word
use Rattle.schema_text.specs.declared.word.Version.{Version}
use Rattle.schema_text.specs.declared.word.Version.TheVariants.{One, Two}
use Rattle.schema_text.specs.Schema.{IsKind, IsSchema, SchemaValue}
use Rattle.schema_text.specs.SchemaText.{dims_text, kind_line, measure_line, measure_name, node_line, number_fields, policy_fields, policy_line, schema_text, version_of, version_text, view_line}
use Rattle.schema_text.proofs.NodesAgain.{AreNodesNext, AreNodesNext-tree, IsNodeNext}
use Rattle.schema_text.proofs.Drafts.{is_name-right}
use Rattle.schema_text.proofs.WrittenLines.{IsField, IsField-name}
use Rattle.fact_fields.proofs.PrintedFields.{IsField-number, IsField-printed}
use Rattle.fact_fields.proofs.ValuesWritten.{All-at}
use Rattle.row_feed.specs.PlainText.{IsPlainText}
use Rattle.row_feed.proofs.PlainTexts.{HasLines, HasLines-append, HasLines-each, HasLines-line, HasLines-none, lines_of-plain}

-- names are fields
AreFields-names : (names : List (List ℕ)) → All (λ name. is_name name ≡ true) names → All IsField names
AreFields-names names each = All-weaker (λ (name : List ℕ). is_name name ≡ true) IsField (λ name named. IsField-name name named) names each

one-field : (field : List ℕ) → IsField field → All IsField (field ∷ [])
one-field field is = All-cons IsField field [] is (All-nil IsField)

-- the line of the version, and that of the policy
version-lines : (version : Version) → HasLines (line_text (codes "cube") (version_text version ∷ []))
version-lines version = HasLines-line (codes "cube") (version_text version ∷ []) (IsField-printed (codes "cube") refl (lit≤ tt)) refl (one-field (version_text version) (field version)) (lit≤ tt)
  where
    field : (version : Version) → IsField (version_text version)
    field One = IsField-printed (codes "1") refl (lit≤ tt)
    field Two = IsField-printed (codes "2") refl (lit≤ tt)

name-field : (measures : List Measure) (i : ℕ) → All (λ m. is_name m.name ≡ true) measures → IsField (measure_name measures i)
name-field measures i named = by_measure (slice_get measures i) refl
  where
    by_measure : (found : Option Measure) → slice_get measures i ≡ found → IsField (option_map_or (λ m. m.name) found [])
    by_measure None at = IsField-printed [] refl (lit≤ tt)
    by_measure (Some m) at = IsField-name m.name (All-at (λ (n : Measure). is_name n.name ≡ true) measures i m named at)

policy-lines : (measures : List Measure) (policy : PolicyWord) → All (λ m. is_name m.name ≡ true) measures → HasLines (policy_line measures policy)
policy-lines measures policy named = HasLines-line (codes "policy") (policy_fields measures policy) (IsField-printed (codes "policy") refl (lit≤ tt)) refl (fields policy) (few policy)
  where
    fields : (policy : PolicyWord) → All IsField (policy_fields measures policy)
    fields policy_word.Uniform = one-field (codes "uniform") (IsField-printed (codes "uniform") refl (lit≤ tt))
    fields policy_word.Count = one-field (codes "count") (IsField-printed (codes "count") refl (lit≤ tt))
    fields (policy_word.Weight i) =
        All-cons IsField (codes "weight") (measure_name measures i ∷ []) (IsField-printed (codes "weight") refl (lit≤ tt)) (one-field (measure_name measures i) (name-field measures i named))

    few : (policy : PolicyWord) → length (policy_fields measures policy) ≤ 30
    few policy_word.Uniform = lit≤ tt
    few policy_word.Count = lit≤ tt
    few (policy_word.Weight i) = lit≤ tt

-- those of measures
record IsMeasureText (m : Measure) : Type 0 where
  named : is_name m.name ≡ true
  kind_is : IsKind m.kind
  scale_is : HasScale m.kind
  few : width_of m.kind ≤ MAX_COLS

kind-lines : (name : List ℕ) (of_kind : Kind) → is_name name ≡ true → IsKind of_kind → HasScale of_kind → width_of of_kind ≤ MAX_COLS → HasLines (kind_line name of_kind)
kind-lines name kind.Number named is scaled few =
    HasLines-line (codes "number") (name ∷ []) (IsField-printed (codes "number") refl (lit≤ tt)) refl (one-field name (IsField-name name named)) (lit≤ tt)
kind-lines name (kind.Parts scale outcomes) named is scaled few =
    let fields = All-cons IsField name (decimal scale ∷ outcomes) (IsField-name name named) (All-cons IsField (decimal scale) outcomes (IsField-number scale (omega (arith, scaled.most))) (AreFields-names outcomes is.names.each)) in
    HasLines-line (codes "parts") (name ∷ decimal scale ∷ outcomes) (IsField-printed (codes "parts") refl (lit≤ tt)) refl fields (omega (arith, few))

are-measures : (measures : List Measure) → All (λ m. is_name m.name ≡ true) measures → All (λ m. IsKind m.kind) measures → All (λ m. HasScale m.kind) measures → All (IsWithin MAX_COLS) measures → All IsMeasureText measures
are-measures [] named kinds scales within = All-nil IsMeasureText
are-measures (m ∷ measures) named kinds scales within =
    let columns = All-head (IsWithin MAX_COLS) m measures within in
    All-cons IsMeasureText m measures
    (record {
      named = All-head (λ (n : Measure). is_name n.name ≡ true) m measures named;
      kind_is = All-head (λ (n : Measure). IsKind n.kind) m measures kinds;
      scale_is = All-head (λ (n : Measure). HasScale n.kind) m measures scales;
      few = omega (arith, columns.first, columns.last);
    })
    (are-measures measures (All-tail (λ (n : Measure). is_name n.name ≡ true) m measures named) (All-tail (λ (n : Measure). IsKind n.kind) m measures kinds)
    (All-tail (λ (n : Measure). HasScale n.kind) m measures scales) (All-tail (IsWithin MAX_COLS) m measures within))

-- those of dimensions and their nodes
node-lines : (version : Version) (before : Dimension) (node : Entry) → IsNodeNext Two before node → HasLines (node_line version node)
node-lines version before node next =
    HasLines-line (codes "node") (decimal node.depth ∷ node.name ∷ number_fields version node.number) (IsField-printed (codes "node") refl (lit≤ tt)) refl
    (All-cons IsField (decimal node.depth) (node.name ∷ number_fields version node.number) (IsField-number node.depth (omega (arith, next.fits.shallow)))
    (All-cons IsField node.name (number_fields version node.number) (IsField-name node.name (is_name-right node.name (map (λ (n : Entry). n.name) before) next.fits.name)) (number version)))
    (few version)
  where
    number : (version : Version) → All IsField (number_fields version node.number)
    number One = All-nil IsField
    number Two = one-field (decimal node.number) (IsField-number node.number (omega (arith, next.small)))

    few : (version : Version) → length (decimal node.depth ∷ node.name ∷ number_fields version node.number) ≤ 30
    few One = lit≤ tt
    few Two = lit≤ tt

nodes-lines : (version : Version) (before nodes : Dimension) → AreNodesNext Two before nodes → HasLines (flat_map (node_line version) nodes)
nodes-lines version before [] are = HasLines-none
nodes-lines version before (node ∷ nodes) are = HasLines-append (node_line version node) (flat_map (node_line version) nodes) (node-lines version before node are.0) (nodes-lines version (before ++ node ∷ []) nodes are.1)

dims-lines : (version : Version) (names : List (List ℕ)) (dims : List Dimension) → All (λ name. is_name name ≡ true) names → All IsTree dims → HasLines (dims_text version names dims)
dims-lines version [] dims named trees = HasLines-none
dims-lines version (name ∷ names) [] named trees = HasLines-none
dims-lines version (name ∷ names) (dim ∷ dims) named trees =
    let first = line_text (codes "dimension") (name ∷ []) in
    let nodes = flat_map (node_line version) dim in
    let of_name = IsField-name name (All-head (λ (n : List ℕ). is_name n ≡ true) name names named) in
    let head = HasLines-line (codes "dimension") (name ∷ []) (IsField-printed (codes "dimension") refl (lit≤ tt)) refl (one-field name of_name) (lit≤ tt) in
    let of_nodes = nodes-lines version [] dim (AreNodesNext-tree Two dim (All-head IsTree dim dims trees) tt) in
    let rest = dims-lines version names dims (All-tail (λ (n : List ℕ). is_name n ≡ true) name names named) (All-tail IsTree dim dims trees) in
    HasLines-append (first ++ nodes) (dims_text version names dims) (HasLines-append first nodes head of_nodes) rest

-- and those of views
record IsViewText (v : ViewDef) : Type 0 where
  named : is_name v.name ≡ true
  few : length v.depths ≤ MAX_DIMS
  shallow : All (λ depth. depth ≤ MAX_DEPTH) v.depths

view-lines : (v : ViewDef) → IsViewText v → HasLines (view_line v)
view-lines v is =
    HasLines-line (codes "view") (v.name ∷ map decimal v.depths) (IsField-printed (codes "view") refl (lit≤ tt)) refl
    (All-cons IsField v.name (map decimal v.depths) (IsField-name v.name is.named)
    (All-map IsField decimal v.depths (All-weaker (λ (depth : ℕ). depth ≤ MAX_DEPTH) (λ depth. IsField (decimal depth)) (λ depth le. IsField-number depth (omega (arith, le))) v.depths is.shallow)))
    (omega (arith, is.few, length-map v.depths decimal))

are-views : (count : ℕ) (views : List ViewDef) → count ≤ MAX_DIMS → All (λ name. is_name name ≡ true) (map (λ v. v.name) views) → All (λ v. length v.depths ≡ count) views → All (λ v. All (λ depth. depth ≤ MAX_DEPTH) v.depths) views
    → All IsViewText views
are-views count [] most named depths shallow = All-nil IsViewText
are-views count (v ∷ views) most named depths shallow =
    let many = All-head (λ (w : ViewDef). length w.depths ≡ count) v views depths in
    All-cons IsViewText v views
    (record {
      named = All-head (λ (name : List ℕ). is_name name ≡ true) v.name (map (λ (w : ViewDef). w.name) views) named;
      few = omega (arith, many, most);
      shallow = All-head (λ (w : ViewDef). All (λ depth. depth ≤ MAX_DEPTH) w.depths) v views shallow;
    })
    (are-views count views most (All-tail (λ (name : List ℕ). is_name name ≡ true) v.name (map (λ (w : ViewDef). w.name) views) named) (All-tail (λ (w : ViewDef). length w.depths ≡ count) v views depths)
    (All-tail (λ (w : ViewDef). All (λ depth. depth ≤ MAX_DEPTH) w.depths) v views shallow))

-- all lines of a schema's text
has-lines : (schema : SchemaValue) → IsSchema schema → HasLines (schema_text schema)
unfolding schema_text
has-lines schema is =
    let version = version_of schema.dims in
    let first = line_text (codes "cube") (version_text version ∷ []) in
    let policy = policy_line schema.measures schema.policy in
    let measures = flat_map measure_line schema.measures in
    let dims = dims_text version schema.names schema.dims in
    let views = flat_map view_line schema.views in
    let end = line_text (codes "end") [] in
    let columns = AreMeasures-within (width_of_all schema.measures) schema.measures is.shape.measures refl in
    let within = All-weaker (IsWithin (width_of_all schema.measures)) (IsWithin MAX_COLS) (λ m of. record { first = of.first; last = omega (arith, of.last, is.shape.measures.most) }) schema.measures columns in
    let of_measures = are-measures schema.measures is.measure_names is.kinds is.shape.measures.scales within in
    let of_views = are-views (length schema.dims) schema.views (accepted-few schema.dims is.space).1 is.views.names.each is.views.depths is.views.shallow in
    let last = HasLines-line (codes "end") [] (IsField-printed (codes "end") refl (lit≤ tt)) refl (All-nil IsField) (lit≤ tt) in
    let to_policy = HasLines-append first policy (version-lines version) (policy-lines schema.measures schema.policy is.measure_names) in
    let to_measures = HasLines-append (first ++ policy) measures to_policy (HasLines-each IsMeasureText measure_line schema.measures (λ m text. kind-lines m.name m.kind text.named text.kind_is text.scale_is text.few) of_measures) in
    let to_dims = HasLines-append (first ++ policy ++ measures) dims to_measures (dims-lines version schema.names schema.dims is.dim_names.each is.trees) in
    let to_views = HasLines-append (first ++ policy ++ measures ++ dims) views to_dims (HasLines-each IsViewText view_line schema.views view-lines of_views) in
    HasLines-append (first ++ policy ++ measures ++ dims ++ views) end to_views last

pub schema-lines : (schema : SchemaValue) → IsSchema schema → All IsPlainText (lines_of (schema_text schema))
schema-lines schema is = lines_of-plain (schema_text schema) (has-lines schema is)
