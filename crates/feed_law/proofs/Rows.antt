-- The lines behind that of a batch are plain, whatever numbers they print.
use Rattle.std.proofs.Common.{◌≡◌, ℕ, zero, suc, ◌+◌, ◌<◌, ◌≤◌, Bool, true, false, List, [], ◌∷◌, length, map, refl, arith, length-append, lit≤, Option, Some, None}
use Rattle.std.specs.Prelude.{All, codes, if◌then◌else◌, nat_lt, slice_get, ◌/◌, ◌%◌, ◌==◌}
use Rattle.std.specs.Fmt.{decimal, digit_glyph, digits, digits_onto}
use Rattle.std.specs.List.{find, flat_map, list_all}
use Rattle.std.specs.Option.{option_map_or}
use Rattle.std.proofs.lemmas.Bool.{and_parts}
use Rattle.std.proofs.lemmas.Bool.Decides.{nat_tests}
use Rattle.std.proofs.lemmas.List.Elements.{All-append, All-cons, All-head, All-nil, All-tail}
use Rattle.cube_base.specs.Name.{is_name}
use Rattle.cube_model.specs.Cells.{all_cells}
use Rattle.cube_model.specs.Limits.{MAX_DIMS}
use Rattle.cube_model.specs.Tree.{Dimension, Entry, IsTree}
use Rattle.fact_keeper.specs.declared.content.Batch.{Batch}
use Rattle.fact_keeper.specs.declared.content.KeptRows.{KeptRows}
use Rattle.region_algebra.proofs.Spaces.{accepted-few}
use Rattle.schema_text.specs.Schema.{IsSchema, SchemaValue}
use Rattle.schema_text.proofs.WrittenLines.{IsField, IsField-name}
use Rattle.script_text.specs.Reply.{cell_fields, names_of, row_fields}
use Rattle.fact_fields.proofs.PrintedFields.{IsField-printed, is_printed}
use Rattle.row_feed.specs.FeedText.{behind_lines, row_line, rows_head, rows_lines}
use Rattle.row_feed.specs.PlainText.{IsPlainText}
use Rattle.row_feed.proofs.PlainTexts.{IsPlainText-fields}

-- a number is printed with 64 digits at most
printed-glyph : (n : ℕ) → n < 10 → is_printed (digit_glyph false n) ≡ true
printed-glyph n small = let low : nat_lt n 10 ≡ true = grind (arith, nat_tests) in rw low (grind (arith, nat_tests))

printed-onto : (k n : ℕ) (behind : List ℕ) → list_all is_printed behind ≡ true → list_all is_printed (digits_onto k 10 false n behind) ≡ true
printed-onto zero n behind printed = printed
printed-onto (suc k) n behind printed = either (n / 10 == 0) (printed-onto k (n / 10) (digit_glyph false (n % 10) ∷ behind) more)
  where
    small : n % 10 < 10
    small = omega arith

    more : list_all is_printed (digit_glyph false (n % 10) ∷ behind) ≡ true
    more = let first = printed-glyph (n % 10) small in rw first printed

    either : (last : Bool) → list_all is_printed (digits_onto k 10 false (n / 10) (digit_glyph false (n % 10) ∷ behind)) ≡ true
        → list_all is_printed (if last then digit_glyph false (n % 10) ∷ behind else digits_onto k 10 false (n / 10) (digit_glyph false (n % 10) ∷ behind)) ≡ true
    either true later = more
    either false later = later

short-onto : (k n : ℕ) (behind : List ℕ) → length (digits_onto k 10 false n behind) ≤ k + length behind
short-onto zero n behind = omega arith
short-onto (suc k) n behind = either (n / 10 == 0) (short-onto k (n / 10) (digit_glyph false (n % 10) ∷ behind))
  where
    either : (last : Bool) → length (digits_onto k 10 false (n / 10) (digit_glyph false (n % 10) ∷ behind)) ≤ k + suc (length behind)
        → length (if last then digit_glyph false (n % 10) ∷ behind else digits_onto k 10 false (n / 10) (digit_glyph false (n % 10) ∷ behind)) ≤ suc k + length behind
    either true later = omega arith
    either false later = omega (arith, later)

field-number : (n : ℕ) → IsField (decimal n)
unfolding digits
field-number n = IsField-printed (digits_onto 64 10 false n []) (printed-onto 64 n [] refl) (omega (arith, short-onto 64 n []))

-- the name of a node, if it is there
field-found : (p : Entry → Bool) (dim : Dimension) → list_all (λ e. is_name e.name) dim ≡ true → IsField (option_map_or (λ e. e.name) (find p dim) [])
field-found p [] named = IsField-printed [] refl (lit≤ tt)
field-found p (e ∷ dim) named =
    let parts = and_parts (is_name e.name) (list_all (λ e. is_name e.name) dim) named in
    either (p e) (IsField-name e.name parts.0) (field-found p dim parts.1)
  where
    either : (here : Bool) → IsField e.name → IsField (option_map_or (λ e. e.name) (find p dim) []) → IsField (option_map_or (λ e. e.name) (if here then Some e else find p dim) [])
    either true is rest = is
    either false is rest = rest

-- fields of which there are not more than dimensions
record AreNames (dims : List Dimension) (fields : List (List ℕ)) : Type 0 where
  are : All IsField fields
  few : length fields ≤ length dims

no-names : (dims : List Dimension) → AreNames dims []
no-names dims = record { are = All-nil IsField; few = omega arith }

names-are : (dims : List Dimension) (nodes : List ℕ) → All IsTree dims → AreNames dims (names_of dims nodes)
names-are [] nodes trees = no-names []
names-are (dim ∷ dims) [] trees = no-names (dim ∷ dims)
names-are (dim ∷ dims) (node ∷ nodes) trees =
    let rest = names-are dims nodes (All-tail IsTree dim dims trees) in
    record {
      are = All-cons IsField (option_map_or (λ e. e.name) (find (λ e. e.number == node) dim) []) (names_of dims nodes) (field-found (λ e. e.number == node) dim (All-head IsTree dim dims trees).names) rest.are;
      few = omega (arith, rest.few);
    }

module _ (schema : SchemaValue) (known : IsSchema schema) where
  abbrev dims : List Dimension
  dims = schema.dims

  few-dims : length dims ≤ MAX_DIMS
  few-dims = (accepted-few dims known.space).1

  cell-names : (cell : ℕ) → AreNames dims (cell_fields dims cell)
  cell-names cell = either (slice_get (all_cells dims) cell)
    where
      either : (nodes : Option (List ℕ)) → AreNames dims (option_map_or (names_of dims) nodes [])
      either None = no-names dims
      either (Some nodes) = names-are dims nodes known.trees

  row-plain : (row : ℕ × ℕ) → IsPlainText (row_line dims row)
  row-plain row =
      let names = cell-names row.0 in
      let weight = All-cons IsField (decimal row.1) [] (field-number row.1) (All-nil IsField) in
      let few : length (row_fields dims row) ≤ 30 = omega (arith, length-append (cell_fields dims row.0) (decimal row.1 ∷ []), names.few, few-dims) in
      IsPlainText-fields (codes "row") (row_fields dims row) (IsField-printed (codes "row") refl (lit≤ tt)) refl (All-append IsField (cell_fields dims row.0) (decimal row.1 ∷ []) names.are weight) few

  each-row : (rows : List (ℕ × ℕ)) → All IsPlainText (map (row_line dims) rows)
  each-row [] = All-nil IsPlainText
  each-row (row ∷ rows) = All-cons IsPlainText (row_line dims row) (map (row_line dims) rows) (row-plain row) (each-row rows)

  entry-plain : (kept : KeptRows) → All IsPlainText (rows_lines dims kept)
  entry-plain kept =
      let count = All-cons IsField (decimal (length kept.rows)) [] (field-number (length kept.rows)) (All-nil IsField) in
      let den = All-cons IsField (decimal kept.den) (decimal (length kept.rows) ∷ []) (field-number kept.den) count in
      let fields = All-cons IsField (decimal kept.id) (decimal kept.den ∷ decimal (length kept.rows) ∷ []) (field-number kept.id) den in
      let head = IsPlainText-fields (codes "rows") (decimal kept.id ∷ decimal kept.den ∷ decimal (length kept.rows) ∷ []) (IsField-printed (codes "rows") refl (lit≤ tt)) refl fields (lit≤ tt) in
      All-cons IsPlainText (rows_head kept) (map (row_line dims) kept.rows) head (each-row kept.rows)

  each-entry : (entries : List KeptRows) → All IsPlainText (flat_map (rows_lines dims) entries)
  each-entry [] = All-nil IsPlainText
  each-entry (kept ∷ entries) = All-append IsPlainText (rows_lines dims kept) (flat_map (rows_lines dims) entries) (entry-plain kept) (each-entry entries)

  pub behind-plain : (batch : Batch) → All IsPlainText (behind_lines dims batch)
  behind-plain batch =
      let done = IsPlainText-fields (codes "done") [] (IsField-printed (codes "done") refl (lit≤ tt)) refl (All-nil IsField) (lit≤ tt) in
      All-append IsPlainText (flat_map (rows_lines dims) batch.rows) (codes "done" ∷ []) (each-entry batch.rows) (All-cons IsPlainText (codes "done") [] done (All-nil IsPlainText))
