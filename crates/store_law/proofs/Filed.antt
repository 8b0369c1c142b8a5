-- The facts that a file gives have ids that facts may have, and regions of the dimensions.
use Rattle.std.proofs.Common.{◌≡◌, ℕ, ◌+◌, ◌<◌, Bool, true, false, List, [], ◌∷◌, length, refl, ap, sym, ◌∙◌, Option, Some, None, Result, Ok, Err, ℤ, arith}
use Rattle.std.specs.Prelude.{◌==◌, All, drop, if◌then◌else◌, nat_lt, not, ok_or, take}
use Rattle.std.specs.List.{list_all, position_or_len}
use Rattle.std.specs.Option.{option_and_then, option_map}
use Rattle.std.specs.Str.{bytes_eq, is_utf8}
use Rattle.std.proofs.lemmas.Bool.Decides.{nat_tests}
use Rattle.std.proofs.lemmas.List.Elements.{All-cons, All-head, All-nil, All-tail}
use Rattle.std.proofs.lemmas.List.Folds.{find_at}
use Rattle.std.proofs.lemmas.Option.{slice_get-map}
use Rattle.cube_base.specs.declared.code.Code.{Code}
use Rattle.cube_base.specs.declared.code.Code.TheVariants as code
use Rattle.cube_model.specs.declared.edit.Fact.{Fact}
use Rattle.cube_model.specs.Tree.{Dimension, Entry, IsTree, node_named}
use Rattle.dim_tree.proofs.Climbing.{together}
use Rattle.region_algebra.specs.Space.{IsRegion, is_region}
use Rattle.region_algebra.proofs.Numbers.{number-within}
use Rattle.fact_records.specs.Fields.{cols_given, fact_given, fact_with, id_given, nodes_named, result_then}
use Rattle.fact_records.specs.Shape.{ShapeValue}
use Rattle.fact_records.specs.Valid.{IsPlaced}
use Rattle.schema_text.specs.Schema.{SchemaValue, shape_of}
use Rattle.csv_facts.specs.FactFile.{facts_from, facts_in, header_of, is_header, record_given, seq_with}
use Rattle.store_law.proofs.ReadIds.{fact_given-id}

-- a node of a name is one of the dimension, and nodes of names are a region
named-within : (dim : Dimension) (name : List ℕ) (node : ℕ) → IsTree dim → node_named dim name ≡ Some node → node < length dim
named-within dim name node tree found =
    let place = position_or_len (λ (e : Entry). bytes_eq e.name name) dim in
    number-within dim place node tree
    (slice_get-map (λ (e : Entry). e.number) dim place ∙ ap (option_map (λ (e : Entry). e.number)) (sym (find_at (λ (e : Entry). bytes_eq e.name name) dim)) ∙ found)

first-named : (dim : Dimension) (dims : List Dimension) (found : Option ℕ) (others : Option (List ℕ)) (region : List ℕ) → ((node : ℕ) → found ≡ Some node → node < length dim)
    → ((nodes : List ℕ) → others ≡ Some nodes → is_region dims nodes ≡ true) → option_and_then (λ node. option_map (λ nodes. node ∷ nodes) others) found ≡ Some region → is_region (dim ∷ dims) region ≡ true
first-named dim dims None others region here rest e = cc
first-named dim dims (Some node) None region here rest e = cc
first-named dim dims (Some node) (Some nodes) region here rest e =
    let same : region ≡ node ∷ nodes = cc in
    let within : nat_lt node (length dim) ≡ true = grind (arith, nat_tests, here node refl) in
    rw same (together within (rest nodes refl))

named-region : (dims : List Dimension) (names : List (List ℕ)) (region : List ℕ) → All IsTree dims → nodes_named dims names ≡ Some region → is_region dims region ≡ true
named-region [] [] region trees e =
    let same : region ≡ [] = cc in
    rw same refl
named-region [] (name ∷ names) region trees e = cc
named-region (dim ∷ dims) [] region trees e = cc
named-region (dim ∷ dims) (name ∷ names) region trees e =
    first-named dim dims (node_named dim name) (nodes_named dims names) region (λ node is. named-within dim name node (All-head IsTree dim dims trees) is)
    (λ nodes is. named-region dims names nodes (All-tail IsTree dim dims trees) is) e

-- so the fact that fields give is placed
given-region : (dims : List Dimension) (id : Result ℕ Code) (nodes : Option (List ℕ)) (cols : Result (List ℤ) Code) (fact : Fact) → ((region : List ℕ) → nodes ≡ Some region → is_region dims region ≡ true)
    → result_then (λ id. result_then (λ region. result_then (λ cols. Ok (fact_with id region cols)) cols) (ok_or nodes code.Node)) id ≡ Ok fact → IsRegion dims fact.region
given-region dims (Err why) nodes cols fact named e = cc
given-region dims (Ok id) None cols fact named e = cc
given-region dims (Ok id) (Some region) (Err why) fact named e = cc
given-region dims (Ok id) (Some region) (Ok cols) fact named e =
    let same : fact.region ≡ region = cc in
    rw same (named region refl)

pub given-placed : (dims : List Dimension) (shape : ShapeValue) (fields : List (List ℕ)) (fact : Fact) → All IsTree dims → fact_given dims shape fields ≡ Ok fact → IsPlaced dims fact
given-placed dims shape fields fact trees e =
    let names = take (length dims) (drop 1 fields) in
    record {
      id = fact_given-id dims shape fields fact e;
      region = given-region dims (id_given fields) (nodes_named dims names) (cols_given shape (drop (length dims) (drop 1 fields))) fact (λ region is. named-region dims names region trees is) e;
    }

module _ (schema : SchemaValue) (trees : All IsTree schema.dims) where
  -- a record's
  record-placed : (row : List (List ℕ)) (fact : Fact) → record_given schema row ≡ Ok fact → IsPlaced schema.dims fact
  record-placed row fact e = either (length row == length (header_of schema)) (list_all is_utf8 row) e
    where
      either : (many text : Bool) → (if not many then Err code.Fields else (if not text then Err code.Text else fact_given schema.dims (shape_of schema) row)) ≡ Ok fact → IsPlaced schema.dims fact
      either false text e = cc
      either true false e = cc
      either true true e = given-placed schema.dims (shape_of schema) row fact trees e

  records-placed : (index : ℕ) (rows : List (List (List ℕ))) → All (IsPlaced schema.dims) (facts_from schema index rows).facts
  records-placed index [] = All-nil (IsPlaced schema.dims)
  records-placed index (row ∷ rows) = by_record (record_given schema row) refl (records-placed (index + 1) rows)
    where
      by_record : (given : Result Fact Code) → record_given schema row ≡ given → All (IsPlaced schema.dims) (facts_from schema (index + 1) rows).facts
          → All (IsPlaced schema.dims) (seq_with index given (facts_from schema (index + 1) rows)).facts
      by_record (Err why) is rest = All-nil (IsPlaced schema.dims)
      by_record (Ok fact) is rest = All-cons (IsPlaced schema.dims) fact (facts_from schema (index + 1) rows).facts (record-placed row fact is) rest

  -- and all of a file's
  pub facts-placed : (rows : List (List (List ℕ))) → All (IsPlaced schema.dims) (facts_in schema rows).facts
  facts-placed [] = All-nil (IsPlaced schema.dims)
  facts-placed (first ∷ rows) = either (is_header schema first)
    where
      either : (b : Bool) → All (IsPlaced schema.dims) (if b then facts_from schema 1 rows else record { facts = []; bad = Some (record { index = 0; code = code.Header }) }).facts
      either true = records-placed 1 rows
      either false = All-nil (IsPlaced schema.dims)
