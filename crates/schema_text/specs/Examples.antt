-- Texts of schemas that were worked out by hand.
use Rattle.std.specs.Prelude.{◌≡◌, ℕ, List, [], ◌∷◌, ◌++◌, codes, length, Ok, Err}
use Rattle.cube_base.specs.declared.code.Code.{Code}
use Rattle.cube_model.specs.Tree.{Dimension}
use Rattle.fact_records.specs.declared.shape.Kind.TheVariants as kind
use Rattle.fact_records.specs.declared.shape.Measure.{Measure}
use Rattle.text_lines.specs.Text.{line_text}
use Rattle.region_algebra.specs.declared.view_def.ViewDef.{ViewDef}
use Rattle.schema_text.specs.declared.word.PolicyWord.{PolicyWord}
use Rattle.schema_text.specs.Schema.{SchemaValue}
use Rattle.schema_text.specs.SchemaText.{schema_of}

-- a line by its fields, and a text by its lines
abbrev pub Line : Type 0
Line = List (List ℕ)

abbrev pub text_of_fields : List Line → List ℕ
text_of_fields [] = []
text_of_fields ([] ∷ lines) = text_of_fields lines
text_of_fields ((word ∷ fields) ∷ lines) = line_text word fields ++ text_of_fields lines

-- the text is refused at a line for a reason, or says a schema
abbrev pub IsRefused : List Line → ℕ → Code → Type 0
IsRefused lines line reason = schema_of (text_of_fields lines) ≡ Err (record { line = line; reason = reason })

abbrev pub SaysSchema : List Line → SchemaValue → Type 0
SaysSchema lines schema = schema_of (text_of_fields lines) ≡ Ok (record { schema = schema; size = length (text_of_fields lines) })

-- the lines of a version, of a policy and of a measure of numbers, and those of dimensions
abbrev pub version : List ℕ → Line
version number = codes "cube" ∷ number ∷ []

abbrev pub policy : List ℕ → Line
policy word = codes "policy" ∷ word ∷ []

abbrev pub weight : List ℕ → Line
weight name = codes "policy" ∷ codes "weight" ∷ name ∷ []

abbrev pub number : List ℕ → Line
number name = codes "number" ∷ name ∷ []

abbrev pub parts_line : List ℕ → List ℕ → Line → Line
parts_line name scale outcomes = codes "parts" ∷ name ∷ scale ∷ outcomes

abbrev pub dimension : Line
dimension = codes "dimension" ∷ codes "D" ∷ []

abbrev pub node : List ℕ → List ℕ → Line
node depth name = codes "node" ∷ depth ∷ name ∷ []

abbrev pub numbered_node : List ℕ → List ℕ → List ℕ → Line
numbered_node depth name number = codes "node" ∷ depth ∷ name ∷ number ∷ []

abbrev pub view : List ℕ → Line → Line
view name depths = codes "view" ∷ name ∷ depths

abbrev pub end : Line
end = codes "end" ∷ []

-- a dimension of one node, in version 1
abbrev pub small : List Line
small = dimension ∷ node (codes "0") (codes "a") ∷ end ∷ []

-- measures after a policy, with a small dimension
abbrev pub measured : Line → List Line → List Line
measured of_policy measures = version (codes "1") ∷ of_policy ∷ measures ++ small

-- views of one node, in version 1
abbrev pub viewed : List Line → List Line
viewed views = version (codes "1") ∷ policy (codes "count") ∷ dimension ∷ node (codes "0") (codes "a") ∷ views ++ end ∷ []

-- nodes of version 2 in one dimension
abbrev pub with_nodes : List Line → List Line
with_nodes nodes = version (codes "2") ∷ policy (codes "count") ∷ dimension ∷ nodes ++ end ∷ []

-- their dimensions
abbrev pub one_node : Dimension
one_node = record { depth = 0; name = codes "a"; number = 0 } ∷ []

abbrev pub three_nodes : Dimension
three_nodes = record { depth = 0; name = codes "a"; number = 0 } ∷ record { depth = 1; name = codes "b"; number = 2 } ∷ record { depth = 1; name = codes "c"; number = 1 } ∷ []

-- a view of one dimension
abbrev pub one_dim_view : List ℕ → ℕ → ViewDef
one_dim_view name depth = record { name = name; depths = depth ∷ [] }

-- a schema of one dimension
abbrev pub of_dimension : PolicyWord → List Measure → Dimension → SchemaValue
of_dimension of_policy measures dim = record { policy = of_policy; measures = measures; names = codes "D" ∷ []; dims = dim ∷ []; views = [] }

abbrev pub number_measure : List ℕ → ℕ → Measure
number_measure name column = record { name = name; kind = kind.Number; first_col = column }

abbrev pub parts_measure : List ℕ → ℕ → List (List ℕ) → ℕ → Measure
parts_measure name scale outcomes column = record { name = name; kind = kind.Parts scale outcomes; first_col = column }
