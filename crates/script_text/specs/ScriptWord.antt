-- The words of a script: how each is spelled, and what it takes.
use Rattle.std.specs.Prelude.{ℕ, List, [], ◌∷◌, if◌then◌else◌, Option, Some, None, codes}
use Rattle.std.specs.Str.{bytes_eq}
use Rattle.cube_model.specs.declared.edit.Edit.TheVariants as edit
use Rattle.cube_model.specs.declared.edit.Fact.{Fact}
use Rattle.fact_records.specs.declared.measure_reader.MeasureKind.{MeasureKind}
use Rattle.fact_records.specs.declared.measure_reader.MeasureKind.TheVariants as kind
use Rattle.script_text.specs.declared.line.Line.{Line}
use Rattle.script_text.specs.declared.line.Line.TheVariants as line
use Rattle.script_text.specs.declared.line.Question.{Question}
use Rattle.script_text.specs.declared.line.Question.TheVariants as question
use Rattle.script_text.specs.declared.word.ScriptWord.{ScriptWord}
use Rattle.script_text.specs.declared.word.ScriptWord.TheVariants.{OfFact, Withdraw, Grow, Asks}
use Rattle.script_text.specs.declared.word.FactWord.{FactWord}
use Rattle.script_text.specs.declared.word.FactWord.TheVariants.{Insert, Change}
use Rattle.script_text.specs.declared.word.AskWord.{AskWord}
use Rattle.script_text.specs.declared.word.AskWord.TheVariants.{OfRegion, OfMeasure, OfId, OfView, OfRounds, OfTable, OfMeasureTable}
use Rattle.script_text.specs.declared.word.IdWord.TheVariants.{Rows, Component}
use Rattle.script_text.specs.declared.word.RegionWord.TheVariants.{Count, Terms, Worlds, RangeCount}
use Rattle.script_text.specs.declared.word.MeasureWord.{MeasureWord}
use Rattle.script_text.specs.declared.word.MeasureWord.TheVariants.{Sum, Avg, Pool, Range, Least, Greatest}
use Rattle.script_text.specs.declared.word.MeasureTableWord.{MeasureTableWord}
use Rattle.script_text.specs.declared.word.MeasureTableWord.TheVariants.{Sums, Avgs, Pools}
use Rattle.script_text.specs.declared.word.RoundsWord.TheVariants.{Iterate}
use Rattle.script_text.specs.declared.word.TableWord.TheVariants.{Counts}
use Rattle.script_text.specs.declared.word.ViewWord.TheVariants.{View}

-- how each word is spelled
abbrev pub spelling_of : ScriptWord → List ℕ
spelling_of (OfFact Insert) = codes "insert"
spelling_of (OfFact Change) = codes "change"
spelling_of Withdraw = codes "withdraw"
spelling_of Grow = codes "grow"
spelling_of (Asks (OfRegion Count)) = codes "count"
spelling_of (Asks (OfMeasure Sum)) = codes "sum"
spelling_of (Asks (OfMeasure Avg)) = codes "avg"
spelling_of (Asks (OfMeasure Pool)) = codes "pool"
spelling_of (Asks (OfRegion Terms)) = codes "terms"
spelling_of (Asks (OfId Rows)) = codes "rows"
spelling_of (Asks (OfView View)) = codes "view"
spelling_of (Asks (OfRegion Worlds)) = codes "worlds"
spelling_of (Asks (OfTable Counts)) = codes "counts"
spelling_of (Asks (OfMeasureTable Sums)) = codes "sums"
spelling_of (Asks (OfMeasureTable Avgs)) = codes "avgs"
spelling_of (Asks (OfMeasureTable Pools)) = codes "pools"
spelling_of (Asks (OfMeasure Range)) = codes "range"
spelling_of (Asks (OfRegion RangeCount)) = codes "rangecount"
spelling_of (Asks (OfMeasure Least)) = codes "least"
spelling_of (Asks (OfMeasure Greatest)) = codes "greatest"
spelling_of (Asks (OfRounds Iterate)) = codes "iterate"
spelling_of (Asks (OfId Component)) = codes "component"

-- all words
abbrev pub ALL_WORDS : List ScriptWord
ALL_WORDS =
    OfFact Insert
    ∷ OfFact Change
    ∷ Withdraw
    ∷ Grow
    ∷ Asks (OfRegion Count)
    ∷ Asks (OfMeasure Sum)
    ∷ Asks (OfMeasure Avg)
    ∷ Asks (OfMeasure Pool)
    ∷ Asks (OfRegion Terms)
    ∷ Asks (OfId Rows)
    ∷ Asks (OfView View)
    ∷ Asks (OfRegion Worlds)
    ∷ Asks (OfTable Counts)
    ∷ Asks (OfMeasureTable Sums)
    ∷ Asks (OfMeasureTable Avgs)
    ∷ Asks (OfMeasureTable Pools)
    ∷ Asks (OfMeasure Range)
    ∷ Asks (OfRegion RangeCount)
    ∷ Asks (OfMeasure Least)
    ∷ Asks (OfMeasure Greatest)
    ∷ Asks (OfRounds Iterate)
    ∷ Asks (OfId Component)
    ∷ []

-- the first of these words that bytes spell
abbrev pub word_among : List ScriptWord → List ℕ → Option ScriptWord
word_among [] bytes = None
word_among (word ∷ words) bytes = if bytes_eq bytes (spelling_of word) then Some word else word_among words bytes

abbrev pub word_spelled : List ℕ → Option ScriptWord
word_spelled bytes = word_among ALL_WORDS bytes

-- the kind of the measure that a word takes
abbrev pub kind_of : MeasureWord → MeasureKind
kind_of Sum = kind.Number
kind_of Avg = kind.Number
kind_of Pool = kind.Parts
kind_of Range = kind.Number
kind_of Least = kind.Number
kind_of Greatest = kind.Number

-- the word of what is given for each region of a table
abbrev pub each_of : MeasureTableWord → MeasureWord
each_of Sums = Sum
each_of Avgs = Avg
each_of Pools = Pool

-- the line of a word and a fact
abbrev pub line_of_fact : FactWord → Fact → Line
line_of_fact Insert fact = line.Edit (edit.Put fact)
line_of_fact Change fact = line.Edit (edit.Change fact)

-- the word of a question
abbrev pub word_asked : Question → AskWord
word_asked (question.OfRegion word region) = OfRegion word
word_asked (question.OfMeasure word measure region) = OfMeasure word
word_asked (question.OfId word id) = OfId word
word_asked (question.OfView word view) = OfView word
word_asked (question.OfRounds word rounds region) = OfRounds word
word_asked (question.OfTable word depths region) = OfTable word
word_asked (question.OfMeasureTable word measure depths region) = OfMeasureTable word
