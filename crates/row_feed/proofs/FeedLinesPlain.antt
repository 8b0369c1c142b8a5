-- No reader refuses a line of a feed for its bytes.
use Rattle.std.proofs.Common.{◌≡◌, ℕ, ◌^◌, ◌<◌, ◌≤◌, true, List, [], ◌∷◌, ◌++◌, length, map, get_or, refl, sym, ap, ◌∙◌, arith, length-append, lit≤}
use Rattle.std.specs.Prelude.{All, codes, nat_lt}
use Rattle.std.specs.Fmt.{decimal}
use Rattle.std.specs.List.{flat_map, list_all}
use Rattle.std.specs.Option.{option_map_or}
use Rattle.std.proofs.lemmas.Bool.{and_parts}
use Rattle.std.proofs.lemmas.Bool.Decides.{nat_tests}
use Rattle.std.proofs.lemmas.List.Elements.{All-append, All-cons, All-filter, All-get_or, All-head, All-map, All-nil, All-tail, All-weaker}
use Rattle.std.proofs.lemmas.Option.{slice_get-get_or}
use Rattle.cube_model.specs.declared.edit.Fact.{Fact}
use Rattle.cube_model.specs.Cells.{AreRows, all_cells}
use Rattle.cube_model.specs.Limits.{MAX_DIMS}
use Rattle.cube_model.specs.Tree.{Dimension, IsTree, is_leaf, leaves, numbers}
use Rattle.dim_tree.proofs.Climbing.{together}
use Rattle.dim_tree.proofs.Renumbering.{AreNumbers_of, length-numbers}
use Rattle.region_algebra.proofs.Spaces.{accepted-few}
use Rattle.region_algebra.specs.Space.{is_region}
use Rattle.text_lines.specs.Text.{lines_of}
use Rattle.fact_keeper.specs.declared.content.Batch.{Batch}
use Rattle.fact_keeper.specs.declared.content.KeptRows.{KeptRows}
use Rattle.fact_records.specs.Valid.{IsFactOf}
use Rattle.schema_text.specs.Schema.{IsSchema, SchemaValue, shape_of}
use Rattle.schema_text.specs.SchemaText.{schema_text}
use Rattle.schema_text.proofs.WrittenLines.{IsField}
use Rattle.script_text.specs.declared.line.Line.{Line}
use Rattle.script_text.specs.declared.line.Line.TheVariants as line
use Rattle.script_text.specs.Reply.{cell_fields, names_of, row_fields}
use Rattle.fact_fields.proofs.NodesAgain.{length-names_of, nodes-fields}
use Rattle.fact_fields.proofs.PrintedFields.{IsField-number, IsField-printed}
use Rattle.row_feed.specs.FeedText.{base_lines, batch_lines, behind_lines, fact_line, feed_bytes, fields_line, row_line, rows_head, rows_lines, said_fields}
use Rattle.row_feed.specs.PlainText.{ArePrinted, IsPlainText, IsWritten}
use Rattle.row_feed.proofs.FeedBytes.{HasNoLf, lines_of-feed_bytes}
use Rattle.row_feed.proofs.PlainTexts.{IsPlainText-fields}
use Rattle.row_feed.proofs.ReadAgain.{edit-plain, fact-plain, leaf-plain}
use Rattle.row_feed.proofs.SchemaLines.{schema-lines}

-- plain lines are cut where they end
pub plain-cut : (lines : List (List ℕ)) (rest : List ℕ) → All IsPlainText lines → lines_of (feed_bytes lines ++ rest) ≡ lines ++ lines_of rest
plain-cut lines rest plain = lines_of-feed_bytes lines rest (All-weaker IsPlainText HasNoLf (λ line is. is.lf) lines plain)

-- a cell is a region: each leaf is a node
leaves-within : (dim : Dimension) → IsTree dim → All (λ leaf. leaf < length dim) (leaves dim)
unfolding leaves
leaves-within dim tree =
    let below : list_all (λ n. nat_lt n (length dim)) (numbers dim) ≡ true = ap (λ b. list_all (λ n. nat_lt n b) (numbers dim)) (sym (length-numbers dim)) ∙ (AreNumbers_of dim tree).below in
    All-filter (is_leaf dim) (λ leaf. leaf < length dim) (numbers dim) (each (numbers dim) below)
  where
    each : (ns : List ℕ) → list_all (λ n. nat_lt n (length dim)) ns ≡ true → All (λ n. n < length dim) ns
    each [] below = All-nil (λ n. n < length dim)
    each (n ∷ ns) below =
        let parts = and_parts (nat_lt n (length dim)) (list_all (λ m. nat_lt m (length dim)) ns) below in
        All-cons (λ m. m < length dim) n ns (grind (arith, nat_tests, parts.0)) (each ns parts.1)

with_leaves : (dim : Dimension) (dims : List Dimension) (cells : List (List ℕ)) (ns : List ℕ) → All (λ cell. is_region dims cell ≡ true) cells → All (λ leaf. leaf < length dim) ns
    → All (λ cell. is_region (dim ∷ dims) cell ≡ true) (flat_map (λ leaf. map (λ cell. leaf ∷ cell) cells) ns)
with_leaves dim dims cells [] regions within = All-nil (λ (cell : List ℕ). is_region (dim ∷ dims) cell ≡ true)
with_leaves dim dims cells (leaf ∷ ns) regions within =
    let below = All-head (λ n. n < length dim) leaf ns within in
    let first : nat_lt leaf (length dim) ≡ true = grind (arith, nat_tests) in
    let here = All-map (λ (cell : List ℕ). is_region (dim ∷ dims) cell ≡ true) (λ (cell : List ℕ). leaf ∷ cell) cells
    (All-weaker (λ (cell : List ℕ). is_region dims cell ≡ true) (λ (cell : List ℕ). is_region (dim ∷ dims) (leaf ∷ cell) ≡ true) (λ cell inside. together first inside) cells regions) in
    All-append (λ (cell : List ℕ). is_region (dim ∷ dims) cell ≡ true) (map (λ cell. leaf ∷ cell) cells) (flat_map (λ leaf. map (λ cell. leaf ∷ cell) cells) ns) here
    (with_leaves dim dims cells ns regions (All-tail (λ n. n < length dim) leaf ns within))

cells-regions : (dims : List Dimension) → All IsTree dims → All (λ cell. is_region dims cell ≡ true) (all_cells dims)
unfolding all_cells
cells-regions [] trees = All-cons (λ (cell : List ℕ). is_region [] cell ≡ true) [] [] refl (All-nil (λ (cell : List ℕ). is_region [] cell ≡ true))
cells-regions (dim ∷ dims) trees = with_leaves dim dims (all_cells dims) (leaves dim) (cells-regions dims (All-tail IsTree dim dims trees)) (leaves-within dim (All-head IsTree dim dims trees))

-- so the names of its leaves are fields, one for each dimension
record AreCellFields (dims : List Dimension) (cell : ℕ) : Type 0 where
  are : All IsField (cell_fields dims cell)
  count : length (cell_fields dims cell) ≡ length dims

cell-fields : (dims : List Dimension) (cell : ℕ) → All IsTree dims → cell < length (all_cells dims) → AreCellFields dims cell
cell-fields dims cell trees within =
    let found = get_or (all_cells dims) cell [] in
    let same : cell_fields dims cell ≡ names_of dims found = ap (λ o. option_map_or (names_of dims) o []) (slice_get-get_or (all_cells dims) cell [] within) in
    let region = All-get_or (λ (c : List ℕ). is_region dims c ≡ true) (all_cells dims) cell [] within (cells-regions dims trees) in
    record { are = rw same (nodes-fields dims found trees region); count = ap length same ∙ length-names_of dims found region }

row-plain : (dims : List Dimension) (row : ℕ × ℕ) → All IsTree dims → length dims ≤ MAX_DIMS → row.0 < length (all_cells dims) → row.1 < 2 ^ 64 → IsPlainText (row_line dims row)
row-plain dims row trees few within fits =
    let cell = cell-fields dims row.0 trees within in
    let names = cell_fields dims row.0 in
    let all = All-append IsField names (decimal row.1 ∷ []) cell.are (All-cons IsField (decimal row.1) [] (IsField-number row.1 fits) (All-nil IsField)) in
    IsPlainText-fields (codes "row") (row_fields dims row) (IsField-printed (codes "row") refl (lit≤ tt)) refl all (omega (arith, length-append names (decimal row.1 ∷ []), cell.count, few))

each-row : (dims : List Dimension) (rows : List (ℕ × ℕ)) → All IsTree dims → length dims ≤ MAX_DIMS → AreRows dims rows → All (λ row. row.1 < 2 ^ 64) rows → All IsPlainText (map (row_line dims) rows)
each-row dims [] trees few cells weights = All-nil IsPlainText
each-row dims (row ∷ rows) trees few cells weights =
    let first = row-plain dims row trees few (All-head (λ (r : ℕ × ℕ). r.0 < length (all_cells dims)) row rows cells) (All-head (λ (r : ℕ × ℕ). r.1 < 2 ^ 64) row rows weights) in
    All-cons IsPlainText (row_line dims row) (map (row_line dims) rows) first
    (each-row dims rows trees few (All-tail (λ (r : ℕ × ℕ). r.0 < length (all_cells dims)) row rows cells) (All-tail (λ (r : ℕ × ℕ). r.1 < 2 ^ 64) row rows weights))

rows-plain : (dims : List Dimension) (kept : KeptRows) → All IsTree dims → length dims ≤ MAX_DIMS → ArePrinted dims kept → All IsPlainText (rows_lines dims kept)
rows-plain dims kept trees few printed =
    let fields = All-cons IsField (decimal kept.id) (decimal kept.den ∷ decimal (length kept.rows) ∷ []) (IsField-number kept.id printed.id)
    (All-cons IsField (decimal kept.den) (decimal (length kept.rows) ∷ []) (IsField-number kept.den printed.den) (All-cons IsField (decimal (length kept.rows)) [] (IsField-number (length kept.rows) printed.count) (All-nil IsField))) in
    let head = IsPlainText-fields (codes "rows") (decimal kept.id ∷ decimal kept.den ∷ decimal (length kept.rows) ∷ []) (IsField-printed (codes "rows") refl (lit≤ tt)) refl fields (lit≤ tt) in
    All-cons IsPlainText (rows_head kept) (map (row_line dims) kept.rows) head (each-row dims kept.rows trees few printed.cells printed.weights)

each-entry : (dims : List Dimension) (entries : List KeptRows) → All IsTree dims → length dims ≤ MAX_DIMS → All (ArePrinted dims) entries → All IsPlainText (flat_map (rows_lines dims) entries)
each-entry dims [] trees few printed = All-nil IsPlainText
each-entry dims (kept ∷ entries) trees few printed =
    All-append IsPlainText (rows_lines dims kept) (flat_map (rows_lines dims) entries) (rows-plain dims kept trees few (All-head (ArePrinted dims) kept entries printed))
    (each-entry dims entries trees few (All-tail (ArePrinted dims) kept entries printed))

-- the lines behind that of a batch
pub behind-plain : (schema : SchemaValue) (batch : Batch) → IsSchema schema → All (ArePrinted schema.dims) batch.rows → All IsPlainText (behind_lines schema.dims batch)
behind-plain schema batch is printed =
    let few = (accepted-few schema.dims is.space).1 in
    let done : IsPlainText (codes "done") = IsPlainText-fields (codes "done") [] (IsField-printed (codes "done") refl (lit≤ tt)) refl (All-nil IsField) (lit≤ tt) in
    All-append IsPlainText (flat_map (rows_lines schema.dims) batch.rows) (codes "done" ∷ []) (each-entry schema.dims batch.rows is.trees few printed) (All-cons IsPlainText (codes "done") [] done (All-nil IsPlainText))

-- and its own
said-plain : (schema : SchemaValue) (number : ℕ) (said : Line) → IsSchema schema → number < 2 ^ 64 → IsWritten schema said → IsPlainText (fields_line (codes "batch") (decimal number ∷ said_fields schema said))
said-plain schema number line.Nothing is fits written = absurd written
said-plain schema number (line.Edit change) is fits written = edit-plain schema number change is fits written
said-plain schema number (line.Grow leaf) is fits written = leaf-plain schema number leaf is fits written
said-plain schema number (line.Ask asked) is fits written = absurd written

pub batch_lines-plain : (schema : SchemaValue) (number : ℕ) (said : Line) (batch : Batch) → IsSchema schema → number < 2 ^ 64 → IsWritten schema said → All (ArePrinted schema.dims) batch.rows
    → All IsPlainText (batch_lines schema number said batch)
batch_lines-plain schema number said batch is fits written printed =
    All-cons IsPlainText (fields_line (codes "batch") (decimal number ∷ said_fields schema said)) (behind_lines schema.dims batch) (said-plain schema number said is fits written) (behind-plain schema batch is printed)

-- those of a base
pub base_lines-plain : (schema : SchemaValue) (facts : List Fact) → IsSchema schema → All (IsFactOf (shape_of schema) schema.dims) facts → All IsPlainText (base_lines schema facts)
base_lines-plain schema facts is valid =
    let head = IsPlainText-fields (codes "feed") (codes "1" ∷ []) (IsField-printed (codes "feed") refl (lit≤ tt)) refl (All-cons IsField (codes "1") [] (IsField-printed (codes "1") refl (lit≤ tt)) (All-nil IsField)) (lit≤ tt) in
    let of_schema = lines_of (schema_text schema) in
    let of_facts = map (fact_line schema) facts in
    let each = All-map IsPlainText (fact_line schema) facts (All-weaker (IsFactOf (shape_of schema) schema.dims) (λ fact. IsPlainText (fact_line schema fact)) (λ fact is_fact. fact-plain schema fact is is_fact) facts valid) in
    let based : IsPlainText (codes "based") = IsPlainText-fields (codes "based") [] (IsField-printed (codes "based") refl (lit≤ tt)) refl (All-nil IsField) (lit≤ tt) in
    let front = All-append IsPlainText of_schema of_facts (schema-lines schema is) each in
    All-cons IsPlainText (fields_line (codes "feed") (codes "1" ∷ [])) ((of_schema ++ of_facts) ++ codes "based" ∷ []) head
    (All-append IsPlainText (of_schema ++ of_facts) (codes "based" ∷ []) front (All-cons IsPlainText (codes "based") [] based (All-nil IsPlainText)))
