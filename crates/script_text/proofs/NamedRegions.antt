-- The fact of an accepted line lies at a region of the dimensions.
use Rattle.std.proofs.Common.{◌≡◌, ℕ, ◌<◌, Bool, true, false, List, [], ◌∷◌, length, refl, ap, sym, ◌∙◌, arith, Option, Some, None, Result, Ok, Err}
use Rattle.std.specs.Prelude.{All, drop, if◌then◌else◌, nat_lt, ok_or, take, ℤ, ⊤}
use Rattle.std.specs.List.{find, list_all}
use Rattle.std.specs.Option.{option_and_then, option_map}
use Rattle.std.specs.Str.{bytes_eq}
use Rattle.std.proofs.lemmas.Bool.Decides.{nat_tests}
use Rattle.std.proofs.lemmas.List.Elements.{All-head, All-tail}
use Rattle.cube_base.specs.declared.code.Code.{Code}
use Rattle.cube_base.specs.declared.code.Code.TheVariants as code
use Rattle.cube_model.specs.declared.edit.Edit.TheVariants as edit
use Rattle.cube_model.specs.declared.edit.Fact.{Fact}
use Rattle.cube_model.specs.Tree.{Dimension, Entry, IsTree, node_named, numbers}
use Rattle.dim_tree.proofs.Climbing.{both, together}
use Rattle.dim_tree.proofs.Renumbering.{AreNumbers_of, length-numbers}
use Rattle.region_algebra.specs.Space.{IsRegion, is_region}
use Rattle.fact_records.specs.Fields.{cols_given, fact_given, fact_with, id_given, nodes_named, result_then}
use Rattle.fact_records.specs.Shape.{ShapeValue}
use Rattle.schema_text.specs.Schema.{SchemaValue, shape_of}
use Rattle.script_text.specs.declared.line.Line.{Line}
use Rattle.script_text.specs.declared.line.Line.TheVariants as line
use Rattle.script_text.specs.declared.word.FactWord.{FactWord}
use Rattle.script_text.specs.declared.word.FactWord.TheVariants.{Insert, Change}
use Rattle.script_text.specs.declared.word.ScriptWord.{ScriptWord}
use Rattle.script_text.specs.ScriptLine.{command_line, line_of}
use Rattle.script_text.specs.ScriptWord.{line_of_fact}
use Rattle.script_text.proofs.LineCases.{HoldsOfEach, command_line-holds, line_of-holds}

-- a node that is found among some has a number below each bound of theirs
first-below : (bound : ℕ) (first : Entry) (found : Option Entry) (node : ℕ) (b : Bool) → nat_lt first.number bound ≡ true → (option_map (λ e. e.number) found ≡ Some node → node < bound)
    → option_map (λ e. e.number) (if b then Some first else found) ≡ Some node → node < bound
first-below bound first found node true here later e =
    let same : first.number ≡ node = cc in
    grind (arith, nat_tests)
first-below bound first found node false here later e = later e

found-below : (p : Entry → Bool) (bound : ℕ) (nodes : Dimension) (node : ℕ) → list_all (λ n. nat_lt n bound) (numbers nodes) ≡ true → option_map (λ e. e.number) (find p nodes) ≡ Some node → node < bound
found-below p bound [] node below e = cc
found-below p bound (first ∷ nodes) node below e =
    let parts = both (nat_lt first.number bound) (list_all (λ n. nat_lt n bound) (numbers nodes)) below in
    first-below bound first (find p nodes) node (p first) parts.0 (λ e. found-below p bound nodes node parts.1 e) e

node_named-below : (dim : Dimension) (name : List ℕ) (node : ℕ) → IsTree dim → node_named dim name ≡ Some node → node < length dim
node_named-below dim name node tree e =
    let below : list_all (λ n. nat_lt n (length dim)) (numbers dim) ≡ true = ap (λ b. list_all (λ n. nat_lt n b) (numbers dim)) (sym (length-numbers dim)) ∙ (AreNumbers_of dim tree).below in
    found-below (λ e. bytes_eq e.name name) (length dim) dim node below e

-- nodes of these names are a region
first_named : (dim : Dimension) (dims : List Dimension) (found : Option ℕ) (others : Option (List ℕ)) (region : List ℕ) → ((node : ℕ) → found ≡ Some node → node < length dim)
    → ((nodes : List ℕ) → others ≡ Some nodes → is_region dims nodes ≡ true) → option_and_then (λ node. option_map (λ nodes. node ∷ nodes) others) found ≡ Some region → is_region (dim ∷ dims) region ≡ true
first_named dim dims None others region here rest e = cc
first_named dim dims (Some node) None region here rest e = cc
first_named dim dims (Some node) (Some nodes) region here rest e =
    let same : region ≡ node ∷ nodes = cc in
    let within : nat_lt node (length dim) ≡ true = grind (arith, nat_tests, here node refl) in
    rw same (together within (rest nodes refl))

nodes_named-region : (dims : List Dimension) (names : List (List ℕ)) (region : List ℕ) → All IsTree dims → nodes_named dims names ≡ Some region → is_region dims region ≡ true
nodes_named-region [] [] region trees e =
    let same : region ≡ [] = cc in
    rw same refl
nodes_named-region [] (name ∷ names) region trees e = cc
nodes_named-region (dim ∷ dims) [] region trees e = cc
nodes_named-region (dim ∷ dims) (name ∷ names) region trees e =
    first_named dim dims (node_named dim name) (nodes_named dims names) region (λ node is. node_named-below dim name node (All-head IsTree dim dims trees) is)
    (λ nodes is. nodes_named-region dims names nodes (All-tail IsTree dim dims trees) is) e

-- the fact that fields give lies at one
given : (dims : List Dimension) (id : Result ℕ Code) (nodes : Option (List ℕ)) (cols : Result (List ℤ) Code) (fact : Fact) → ((region : List ℕ) → nodes ≡ Some region → is_region dims region ≡ true)
    → result_then (λ id. result_then (λ region. result_then (λ cols. Ok (fact_with id region cols)) cols) (ok_or nodes code.Node)) id ≡ Ok fact → IsRegion dims fact.region
given dims (Err why) nodes cols fact named e = cc
given dims (Ok id) None cols fact named e = cc
given dims (Ok id) (Some region) (Err why) fact named e = cc
given dims (Ok id) (Some region) (Ok cols) fact named e =
    let same : fact.region ≡ region = cc in
    rw same (named region refl)

fact_given-region : (dims : List Dimension) (shape : ShapeValue) (fields : List (List ℕ)) (fact : Fact) → All IsTree dims → fact_given dims shape fields ≡ Ok fact → IsRegion dims fact.region
fact_given-region dims shape fields fact trees e =
    let names = take (length dims) (drop 1 fields) in
    given dims (id_given fields) (nodes_named dims names) (cols_given shape (drop (length dims) (drop 1 fields))) fact (λ region is. nodes_named-region dims names region trees is) e

-- what holds of the fact of a line, if it edits one
abbrev pub OnFact : (Fact → Type 0) → Line → Type 0
OnFact P (line.Edit (edit.Put fact)) = P fact
OnFact P (line.Edit (edit.Change fact)) = P fact
OnFact P (line.Edit (edit.Withdraw id)) = ⊤
OnFact P (line.Grow grow) = ⊤
OnFact P line.Nothing = ⊤
OnFact P (line.Ask asked) = ⊤

module _ (schema : SchemaValue) (trees : All IsTree schema.dims) where
  abbrev Lies : Line → Type 0
  Lies said = OnFact (λ fact. IsRegion schema.dims fact.region) said

  of_fact : (word : FactWord) (fact : Fact) → IsRegion schema.dims fact.region → Lies (line_of_fact word fact)
  of_fact Insert fact here = here
  of_fact Change fact here = here

  each_lies : HoldsOfEach schema Lies
  each_lies = record {
    nothing = tt;
    fact = λ word fields fact is. of_fact word fact (fact_given-region schema.dims (shape_of schema) fields fact trees is);
    withdrawal = λ fields id is. tt;
    growth = λ fields grow is. tt;
    question = λ asked. tt;
  }

  -- the fact of an accepted line lies at a region of the dimensions, and so does that which fields say
  pub line_of-lies : (bytes : List ℕ) (said : Line) → line_of schema bytes ≡ Ok said → OnFact (λ fact. IsRegion schema.dims fact.region) said
  line_of-lies bytes said e = line_of-holds schema Lies each_lies bytes said e

  pub command_line-lies : (fields : List (List ℕ)) (spelled : Option ScriptWord) (said : Line) → command_line schema fields spelled ≡ Ok said → OnFact (λ fact. IsRegion schema.dims fact.region) said
  command_line-lies fields spelled said e = command_line-holds schema Lies each_lies fields spelled said e
