-- What questions are answered, where dimensions and facts stand so.
use Rattle.std.specs.Prelude.{◌≡◌, ℕ, ◌+◌, List, [], ◌∷◌, length, map, nat_lt, if◌then◌else◌, Option, Some, None, Result, Ok, Err, slice_get, pos, ⊤}
use Rattle.std.specs.List.{range_with_len}
use Rattle.std.specs.Option.{option_and_then, option_map_or}
use Rattle.cube_base.specs.declared.code.Code.{Code}
use Rattle.cube_base.specs.declared.code.Code.TheVariants.{Many, Missing, Undefined, Wide}
use Rattle.cube_model.specs.declared.edit.Fact.{Fact}
use Rattle.cube_model.specs.declared.statistic.CellStat.{CellStat}
use Rattle.cube_model.specs.declared.term.Term.{Term}
use Rattle.cube_model.specs.Allocation.{Allocation, ExtendedFact, allocation_of}
use Rattle.cube_model.specs.Answer.{answer}
use Rattle.cube_model.specs.Cells.{cells_of}
use Rattle.cube_model.specs.Facts.{has_id}
use Rattle.cube_model.specs.Tree.{Dimension}
use Rattle.exact_fraction.specs.declared.quotients.Quotient.{Quotient}
use Rattle.exact_fraction.specs.declared.quotients.Quotient.TheVariants as quotient
use Rattle.exact_fraction.specs.Moderate.{IsModerate}
use Rattle.exact_fraction.specs.One.{one_of}
use Rattle.exact_fraction.specs.Ratio.{ratio_of}
use Rattle.fact_records.specs.declared.measure_reader.MeasureKind.TheVariants as kind
use Rattle.fact_records.specs.MeasureFields.{IsMeasureOf}
use Rattle.fact_records.specs.Shape.{width_of_all}
use Rattle.group_sum.specs.Terms.{TermList}
use Rattle.iter_alloc.specs.Components.{component_of}
use Rattle.iter_alloc.specs.Counting.{MOST_CELLS, cells_in_all}
use Rattle.iter_alloc.specs.Iterated.{iterated_all}
use Rattle.linear_pool.specs.Pool.{pool_of}
use Rattle.schema_text.specs.Schema.{SchemaValue, over_dims, shape_of}
use Rattle.script_text.specs.declared.line.Question.{Question}
use Rattle.script_text.specs.declared.line.Question.TheVariants.{OfRegion, OfMeasure, OfId, OfView, OfRounds, OfTable, OfMeasureTable}
use Rattle.script_text.specs.declared.reply.Answer.{Answer}
use Rattle.script_text.specs.declared.reply.Answer.TheVariants as told
use Rattle.script_text.specs.declared.reply.Reply.{Reply}
use Rattle.script_text.specs.declared.reply.Reply.TheVariants.{Refused, Told}
use Rattle.script_text.specs.declared.word.AskWord.{AskWord}
use Rattle.script_text.specs.declared.word.IdWord.{IdWord}
use Rattle.script_text.specs.declared.word.IdWord.TheVariants.{Rows, Component}
use Rattle.script_text.specs.declared.word.MeasureTableWord.{MeasureTableWord}
use Rattle.script_text.specs.declared.word.MeasureTableWord.TheVariants.{Sums, Avgs, Pools}
use Rattle.script_text.specs.declared.word.MeasureWord.{MeasureWord}
use Rattle.script_text.specs.declared.word.MeasureWord.TheVariants.{Sum, Avg, Pool, Range, Least, Greatest}
use Rattle.script_text.specs.declared.word.RegionWord.{RegionWord}
use Rattle.script_text.specs.declared.word.RegionWord.TheVariants.{Count, Terms, Worlds, RangeCount}
use Rattle.script_text.specs.declared.word.RoundsWord.TheVariants.{Iterate}
use Rattle.script_text.specs.declared.word.TableWord.TheVariants.{Counts}
use Rattle.script_text.specs.declared.word.ViewWord.TheVariants.{View}
use Rattle.script_text.specs.Decimals.{quotient_of}
use Rattle.script_text.specs.ScriptWord.{word_asked}
use Rattle.script_answers.specs.declared.figures.Figure.{Figure}
use Rattle.script_answers.specs.declared.figures.Figure.TheVariants as figure
use Rattle.cube_core.specs.Cube.{CubeValue, rows_over}
use Rattle.cube_core.specs.Ranging.{picks_over}
use Rattle.cube_core.specs.View.{table_over, view_over}
use Rattle.world_law.specs.declared.sum.WorldFault.{WorldFault}
use Rattle.world_law.specs.declared.sum.WorldFault.TheVariants as world_fault
use Rattle.world_law.specs.Placed.{fault_of, placed_of}
use Rattle.world_law.specs.Worlds.{mass, total, world_count}
use Rattle.world_range.specs.declared.extreme.Extreme.{Extreme}
use Rattle.world_range.specs.declared.extreme.Extreme.TheVariants as extreme
use Rattle.world_range.specs.Picks.{end_of}

-- the dimensions and the facts as they stand between two lines
pub record State : Type 0 where
  pub dims : List Dimension
  pub facts : List Fact

-- what a cube stands at
abbrev pub state_of : {P : Type 0} → CubeValue P → State
state_of cube = record { dims = cube.schema.dims; facts = cube.facts }

-- a schema over the dimensions of a state
abbrev pub schema_at : SchemaValue → State → SchemaValue
schema_at schema state = over_dims schema state.dims

-- a cube put at a state
abbrev pub cube_at : {P : Type 0} → CubeValue P → State → CubeValue P
cube_at cube state = record cube { schema = schema_at cube.schema state; facts = state.facts }

-- the rows of a state's facts
abbrev pub rows_at : (CellStat → ℕ) → SchemaValue → State → List ExtendedFact
rows_at weigh schema state = rows_over weigh (schema_at schema state) state.facts

-- what the facts add up to inside a region
abbrev pub terms_at : (CellStat → ℕ) → SchemaValue → State → List ℕ → List Term
terms_at weigh schema state region = answer (width_of_all schema.measures) state.dims (rows_at weigh schema state) region

-- the first column of the measure at a place
abbrev pub first_col_at : SchemaValue → ℕ → ℕ
first_col_at schema measure = option_map_or (λ m. m.first_col) (slice_get schema.measures measure) 0

-- terms over the measures of a schema, as facts give them
pub record AreTermsOver (schema : SchemaValue) (list : TermList) : Type 0 where
  pub columns : list.columns ≡ width_of_all schema.measures + 1
  pub moderate : IsModerate list.terms

-- a figure of a measure that is of its kind
abbrev pub IsFigureOf : SchemaValue → Figure → Type 0
IsFigureOf schema figure.Count = ⊤
IsFigureOf schema (figure.Sum measure) = IsMeasureOf (shape_of schema) kind.Number measure
IsFigureOf schema (figure.Average measure) = IsMeasureOf (shape_of schema) kind.Number measure
IsFigureOf schema (figure.Pool measure) = IsMeasureOf (shape_of schema) kind.Parts measure

-- there is nothing to divide where there is no term
abbrev pub quotient_answer : Quotient → Result Answer Code
quotient_answer quotient.Undefined = Err Undefined
quotient_answer (quotient.Is lo hi exact) = Ok (told.Quotient (quotient.Is lo hi exact))

abbrev pub pool_answer : SchemaValue → ℕ → List Term → Result Answer Code
pool_answer schema measure [] = Err Undefined
pool_answer schema measure (term ∷ terms) = Ok (told.Quotients (pool_of (slice_get schema.measures measure) (term ∷ terms)))

-- The figures that are given for terms: how much they count; of a number measure the sum, and that divided by the
-- count; of a parts measure the distribution.
abbrev pub figure_of : SchemaValue → Figure → List Term → Result Answer Code
figure_of schema figure.Count terms = Ok (told.Value (one_of 0 terms))
figure_of schema (figure.Sum measure) terms = Ok (told.Value (one_of (first_col_at schema measure) terms))
figure_of schema (figure.Average measure) terms = quotient_answer (ratio_of (first_col_at schema measure) 1 terms)
figure_of schema (figure.Pool measure) terms = pool_answer schema measure terms

-- that of the terms of a region
abbrev pub figure_answer : Figure → (CellStat → ℕ) → SchemaValue → State → List ℕ → Result Answer Code
figure_answer asked weigh schema state region = figure_of schema asked (terms_at weigh schema state region)

-- the least and the greatest that a column may add up to in a possible world
abbrev pub range_answer : (CellStat → ℕ) → SchemaValue → State → List ℕ → ℕ → Result Answer Code
range_answer weigh schema state region column =
    let cells = cells_of state.dims region in
    let rows = rows_at weigh schema state in
    Ok (told.Numbers (end_of extreme.Least cells column rows ∷ end_of extreme.Greatest cells column rows ∷ []))

-- one of these, and where imprecise facts stand in a world that has it
abbrev pub picks_answer : Extreme → (CellStat → ℕ) → SchemaValue → State → List ℕ → ℕ → Result Answer Code
picks_answer which weigh schema state region column =
    Ok (told.Picks (end_of which (cells_of state.dims region) column (rows_at weigh schema state)) (picks_over weigh schema state.facts which region column))

-- The answers about a measure over a region: a figure, or of a number measure the ends of what the sum may be in a possible world, both
-- or one of them.
abbrev pub measure_answer : MeasureWord → (CellStat → ℕ) → SchemaValue → State → ℕ → List ℕ → Result Answer Code
measure_answer Sum weigh schema state measure region = figure_answer (figure.Sum measure) weigh schema state region
measure_answer Avg weigh schema state measure region = figure_answer (figure.Average measure) weigh schema state region
measure_answer Pool weigh schema state measure region = figure_answer (figure.Pool measure) weigh schema state region
measure_answer Range weigh schema state measure region = range_answer weigh schema state region (first_col_at schema measure)
measure_answer Least weigh schema state measure region = picks_answer extreme.Least weigh schema state region (first_col_at schema measure)
measure_answer Greatest weigh schema state measure region = picks_answer extreme.Greatest weigh schema state region (first_col_at schema measure)

-- the code where worlds are not listed; out of memory has none
abbrev pub worlds_code : WorldFault → Option Code
worlds_code (world_fault.Many product) = Some Many
worlds_code world_fault.Wide = Some Wide
worlds_code world_fault.Memory = None

-- What all possible worlds of facts add up to in a region: their number, the sum of their weights, and the total of
-- each column, the count first. Or else it says why they are not listed.
abbrev pub worlds_answer : ℕ → List Dimension → List ℕ → List ExtendedFact → Result Answer Code
worlds_answer columns dims region facts =
    option_map_or (λ refusal. Err refusal)
    (option_and_then worlds_code (fault_of (map placed_of facts)))
    (Ok (told.Numbers (pos (world_count facts) ∷ pos (mass facts) ∷ map (λ column. total dims region column facts) (range_with_len 0 columns))))

-- The answers about a region: how much its facts count, what they add up to, what their worlds add up to, and the ends
-- of what they may count in one of these.
abbrev pub region_answer : RegionWord → (CellStat → ℕ) → SchemaValue → State → List ℕ → Result Answer Code
region_answer Count weigh schema state region = figure_answer figure.Count weigh schema state region
region_answer Terms weigh schema state region = Ok (told.Terms (record { columns = width_of_all schema.measures + 1; terms = terms_at weigh schema state region }))
region_answer Worlds weigh schema state region = worlds_answer (width_of_all schema.measures + 1) state.dims region (rows_at weigh schema state)
region_answer RangeCount weigh schema state region = range_answer weigh schema state region 0

-- how a fact is spread
abbrev pub rows_answer : Option Allocation → Result Answer Code
rows_answer None = Err Missing
rows_answer (Some a) = Ok (told.Rows a.den a.rows)

-- nothing is answered where imprecise facts may lie in too many cells, those of each fact counted
abbrev pub unless_many : State → Answer → Result Answer Code
unless_many state fields = if nat_lt MOST_CELLS (cells_in_all state.dims state.facts) then Err Many else Ok fields

-- what is in a region after rounds, column by column
abbrev pub rounds_answer : SchemaValue → State → ℕ → List ℕ → Result Answer Code
rounds_answer schema state rounds region = unless_many state (told.Numbers (iterated_all state.dims state.facts rounds region (width_of_all schema.measures + 1)))

-- how many facts are in the component of that of an id, and their ids
abbrev pub component_answer : State → ℕ → Result Answer Code
component_answer state id =
    let ids = component_of state.dims state.facts id in
    if has_id id state.facts then unless_many state (told.Numbers (pos (length ids) ∷ map (λ n. pos n) ids)) else Err Missing

-- the answers about a fact
abbrev pub id_answer : IdWord → (CellStat → ℕ) → SchemaValue → State → ℕ → Result Answer Code
id_answer Rows weigh schema state id = rows_answer (allocation_of id (rows_at weigh schema state))
id_answer Component weigh schema state id = component_answer state id

-- the quotients that an answer over terms tells, where there is a term
abbrev pub quotients_in : Result Answer Code → List Quotient
quotients_in (Ok (told.Value value)) = quotient_of value ∷ []
quotients_in (Ok (told.Quotient ratio)) = ratio ∷ []
quotients_in (Ok (told.Quotients ratios)) = ratios
quotients_in other = []

-- a region of a table with the figure that is given for its terms
abbrev pub table_entry : SchemaValue → Figure → List ℕ × TermList → List ℕ × List Quotient
table_entry schema asked entry = (entry.0, quotients_in (figure_of schema asked entry.1.terms))

-- the regions of a table in which there are facts, each with a figure
abbrev pub table_answer : Figure → (CellStat → ℕ) → SchemaValue → State → List ℕ → List ℕ → Result Answer Code
table_answer asked weigh schema state depths region = Ok (told.Table (map (table_entry schema asked) (table_over weigh schema state.facts depths region)))

-- the figure of a measure that the word of a table asks for
abbrev pub each_figure : MeasureTableWord → ℕ → Figure
each_figure Sums measure = figure.Sum measure
each_figure Avgs measure = figure.Average measure
each_figure Pools measure = figure.Pool measure

-- what a question is answered over a schema with the dimensions of the state, or why it is refused
abbrev pub answer_over : (CellStat → ℕ) → SchemaValue → State → Question → Result Answer Code
answer_over weigh schema state (OfRegion word region) = region_answer word weigh schema state region
answer_over weigh schema state (OfMeasure word measure region) = measure_answer word weigh schema state measure region
answer_over weigh schema state (OfId word id) = id_answer word weigh schema state id
answer_over weigh schema state (OfView View view) = Ok (told.View (view_over weigh schema state.facts view))
answer_over weigh schema state (OfRounds Iterate rounds region) = rounds_answer schema state rounds region
answer_over weigh schema state (OfTable Counts depths region) = table_answer figure.Count weigh schema state depths region
answer_over weigh schema state (OfMeasureTable word measure depths region) = table_answer (each_figure word measure) weigh schema state depths region

-- that over any schema, of which the dimensions are taken from the state
abbrev pub answer_to : (CellStat → ℕ) → SchemaValue → State → Question → Result Answer Code
answer_to weigh schema state asked = answer_over weigh (schema_at schema state) state asked

-- the reply under a word, or with the refusal
abbrev pub reply_of : AskWord → Result Answer Code → Reply
reply_of word (Ok fields) = Told word fields
reply_of word (Err refusal) = Refused refusal

abbrev pub reply_to : (CellStat → ℕ) → SchemaValue → State → Question → Reply
reply_to weigh schema state asked = reply_of (word_asked asked) (answer_to weigh schema state asked)
