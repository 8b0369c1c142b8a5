-- The text of a reply over the dimensions whose cells it names.
use Rattle.std.specs.Prelude.{ℕ, ◌<◌, List, [], ◌∷◌, ◌++◌, All, length, map, codes, slice_get, ⊤, ℤ}
use Rattle.std.specs.Option.{option_map_or}
use Rattle.std.specs.List.{flat_map}
use Rattle.std.specs.Fmt.{decimal, signed_decimal}
use Rattle.cube_base.specs.Code.{word_of}
use Rattle.cube_model.specs.declared.term.Term.{Term}
use Rattle.cube_model.specs.Cells.{AreRows, all_cells}
use Rattle.exact_fraction.specs.declared.quotients.Quotient.{Quotient as Ratio}
use Rattle.text_lines.specs.Text.{line_text}
use Rattle.group_sum.specs.Terms.{TermList}
use Rattle.region_algebra.specs.Space.{IsRegion}
use Rattle.cube_model.specs.Tree.{Dimension, entry_of}
use Rattle.script_text.specs.declared.reply.Answer.{Answer}
use Rattle.script_text.specs.declared.reply.Answer.TheVariants.{Value, Quotient, Quotients, Terms, Rows, View, Numbers, Picks, Table}
use Rattle.script_text.specs.declared.reply.Reply.{Reply}
use Rattle.script_text.specs.declared.reply.Reply.TheVariants.{Done, Refused, Told}
use Rattle.script_text.specs.declared.word.ScriptWord.TheVariants.{Asks}
use Rattle.script_text.specs.Decimals.{bounds_fields, pool_fields, quotient_fields}
use Rattle.script_text.specs.ScriptWord.{spelling_of}

-- the denominator of a term and all its numerators, that of the count first
abbrev pub term_fields : Term → List (List ℕ)
term_fields term = decimal term.den ∷ decimal term.count ∷ map signed_decimal term.sums

-- the number of the terms, and the terms
abbrev pub terms_fields : List Term → List (List ℕ)
terms_fields terms = decimal (length terms) ∷ flat_map term_fields terms

-- the name of the node of a number
abbrev pub name_of : Dimension → ℕ → List ℕ
name_of dim number = option_map_or (λ e. e.name) (entry_of dim number) []

-- the names of one node of each dimension
abbrev pub names_of : List Dimension → List ℕ → List (List ℕ)
names_of (dim ∷ dims) (node ∷ nodes) = name_of dim node ∷ names_of dims nodes
names_of dims nodes = []

-- the names of a cell's leaves
abbrev pub cell_fields : List Dimension → ℕ → List (List ℕ)
cell_fields dims cell = option_map_or (names_of dims) (slice_get (all_cells dims) cell) []

-- and then the weight
abbrev pub row_fields : List Dimension → ℕ × ℕ → List (List ℕ)
row_fields dims row = cell_fields dims row.0 ++ decimal row.1 ∷ []

-- the denominator, the number of the rows, and the rows
abbrev pub rows_fields : List Dimension → ℕ → List (ℕ × ℕ) → List (List ℕ)
rows_fields dims den rows = decimal den ∷ decimal (length rows) ∷ flat_map (row_fields dims) rows

-- the names of the nodes of an entry of a view, then its terms
abbrev pub entry_fields : List Dimension → List ℕ × TermList → List (List ℕ)
entry_fields dims entry = names_of dims entry.0 ++ terms_fields entry.1.terms

-- the number of the entries, and the entries
abbrev pub view_fields : List Dimension → List (List ℕ × TermList) → List (List ℕ)
view_fields dims entries = decimal (length entries) ∷ flat_map (entry_fields dims) entries

-- whole numbers, each with its sign
abbrev pub numbers_fields : List ℤ → List (List ℕ)
numbers_fields numbers = map signed_decimal numbers

-- the id of a fact, and the names of the leaves of its cell
abbrev pub pick_fields : List Dimension → ℕ × ℕ → List (List ℕ)
pick_fields dims pick = decimal pick.0 ∷ cell_fields dims pick.1

-- the sum, the number of the picks, and the picks
abbrev pub picks_fields : List Dimension → ℤ → List (ℕ × ℕ) → List (List ℕ)
picks_fields dims sum picks = signed_decimal sum ∷ decimal (length picks) ∷ flat_map (pick_fields dims) picks

-- the names of the nodes of a region of a table, then its quotients
abbrev pub told_fields : List Dimension → List ℕ × List Ratio → List (List ℕ)
told_fields dims entry = names_of dims entry.0 ++ pool_fields entry.1

-- the number of the regions, and the regions
abbrev pub table_fields : List Dimension → List (List ℕ × List Ratio) → List (List ℕ)
table_fields dims entries = decimal (length entries) ∷ flat_map (told_fields dims) entries

-- the fields of an answer
abbrev pub fields_of_answer : List Dimension → Answer → List (List ℕ)
fields_of_answer dims (Value value) = bounds_fields value
fields_of_answer dims (Quotient quotient) = quotient_fields quotient
fields_of_answer dims (Quotients quotients) = pool_fields quotients
fields_of_answer dims (Terms list) = terms_fields list.terms
fields_of_answer dims (Rows den rows) = rows_fields dims den rows
fields_of_answer dims (View entries) = view_fields dims entries
fields_of_answer dims (Numbers numbers) = numbers_fields numbers
fields_of_answer dims (Picks sum picks) = picks_fields dims sum picks
fields_of_answer dims (Table entries) = table_fields dims entries

-- the first field of a reply
abbrev pub word_of_reply : Reply → List ℕ
word_of_reply (Done _) = codes "ok"
word_of_reply (Refused _) = codes "error"
word_of_reply (Told word _) = spelling_of (Asks word)

-- its further fields
abbrev pub fields_of_reply : List Dimension → Reply → List (List ℕ)
fields_of_reply dims (Done refreshed) = decimal refreshed ∷ []
fields_of_reply dims (Refused code) = word_of code ∷ []
fields_of_reply dims (Told _ fields) = fields_of_answer dims fields

abbrev pub reply_text : List Dimension → Reply → List ℕ
reply_text dims reply = line_text (word_of_reply reply) (fields_of_reply dims reply)

-- the cells and the regions that an answer names are there
abbrev pub NamesPlaces : List Dimension → Answer → Type 0
NamesPlaces dims (Rows _ rows) = AreRows dims rows
NamesPlaces dims (View entries) = All (λ entry. IsRegion dims entry.0) entries
NamesPlaces dims (Picks _ picks) = All (λ pick. pick.1 < length (all_cells dims)) picks
NamesPlaces dims (Table entries) = All (λ entry. IsRegion dims entry.0) entries
NamesPlaces dims fields = ⊤

-- and those that a reply names
abbrev pub NamesCells : List Dimension → Reply → Type 0
NamesCells dims (Done _) = ⊤
NamesCells dims (Refused _) = ⊤
NamesCells dims (Told _ fields) = NamesPlaces dims fields
