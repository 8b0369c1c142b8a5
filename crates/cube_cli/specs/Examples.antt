-- Small inputs, and what they give, worked out by hand.
use Rattle.std.specs.Prelude.{◌≡◌, ℕ, List, [], ◌∷◌, ◌++◌, codes, IsSomeAnd}
use Rattle.std.specs.List.{concat}
use Rattle.text_lines.specs.Text.{line_text}
use Rattle.cube_cli.specs.Trying.{outcome_of}

-- a state of two cities, with a policy, and lines of measures
abbrev pub two_cities : List (List ℕ) → List ℕ → List ℕ
two_cities policy measures =
    line_text (codes "cube") (codes "1" ∷ [])
    ++ line_text (codes "policy") policy
    ++ measures
    ++ line_text (codes "dimension") (codes "Place" ∷ [])
    ++ line_text (codes "node") (codes "0" ∷ codes "TX" ∷ [])
    ++ line_text (codes "node") (codes "1" ∷ codes "Austin" ∷ [])
    ++ line_text (codes "node") (codes "1" ∷ codes "Dallas" ∷ [])
    ++ line_text (codes "end") []

-- without a measure; with a distribution; and with a number by whose sum the cities weigh
abbrev pub texas : List ℕ
texas = two_cities (codes "uniform" ∷ []) []

abbrev pub graded_text : List ℕ
graded_text = two_cities (codes "uniform" ∷ []) (line_text (codes "parts") (codes "Quality" ∷ codes "100" ∷ codes "good" ∷ codes "bad" ∷ []))

abbrev pub weighed_text : List ℕ
weighed_text = two_cities (codes "weight" ∷ codes "Hours" ∷ []) (line_text (codes "number") (codes "Hours" ∷ []))

-- a fact in a city, one somewhere in the state, and the count at the city
abbrev pub city_and_state : List ℕ
city_and_state =
    texas
    ++ line_text (codes "insert") (codes "1" ∷ codes "Austin" ∷ [])
    ++ line_text (codes "insert") (codes "2" ∷ codes "TX" ∷ [])
    ++ line_text (codes "terms") (codes "Austin" ∷ [])

-- the city's fact is one over 1, the state's one half
abbrev pub city_and_state_replies : List ℕ
city_and_state_replies =
    line_text (codes "ok") (codes "1" ∷ [])
    ++ line_text (codes "ok") (codes "1" ∷ [])
    ++ line_text (codes "terms") (codes "2" ∷ codes "1" ∷ codes "1" ∷ codes "2" ∷ codes "1" ∷ [])

-- a fact somewhere in the state, a remark, the fact's repeat, an unknown line, the count in the state, and the rows of a
-- fact that is not there
abbrev pub refused_and_skipped : List ℕ
refused_and_skipped =
    texas
    ++ line_text (codes "insert") (codes "1" ∷ codes "TX" ∷ [])
    ++ line_text (codes "#again") []
    ++ line_text (codes "insert") (codes "1" ∷ codes "TX" ∷ [])
    ++ line_text (codes "total") (codes "TX" ∷ [])
    ++ line_text (codes "terms") (codes "TX" ∷ [])
    ++ line_text (codes "rows") (codes "2" ∷ [])

-- the remark has no reply, and the fact counts two halves in its state
abbrev pub refused_and_skipped_replies : List ℕ
refused_and_skipped_replies =
    line_text (codes "ok") (codes "1" ∷ [])
    ++ line_text (codes "error") (codes "exists" ∷ [])
    ++ line_text (codes "error") (codes "command" ∷ [])
    ++ line_text (codes "terms") (codes "1" ∷ codes "2" ∷ codes "2" ∷ [])
    ++ line_text (codes "error") (codes "missing" ∷ [])

-- a fact in a city with its parts, one somewhere in the state, parts that do not add up to 100, and the parts at the city
abbrev pub parts_of_outcomes : List ℕ
parts_of_outcomes =
    graded_text
    ++ line_text (codes "insert") (codes "1" ∷ codes "Austin" ∷ codes "80:20" ∷ [])
    ++ line_text (codes "insert") (codes "2" ∷ codes "TX" ∷ codes "50:50" ∷ [])
    ++ line_text (codes "insert") (codes "3" ∷ codes "TX" ∷ codes "80:21" ∷ [])
    ++ line_text (codes "terms") (codes "Austin" ∷ [])

-- one half of the state's parts is the city's
abbrev pub parts_of_outcomes_replies : List ℕ
parts_of_outcomes_replies =
    line_text (codes "ok") (codes "1" ∷ [])
    ++ line_text (codes "ok") (codes "1" ∷ [])
    ++ line_text (codes "error") (codes "parts" ∷ [])
    ++ line_text (codes "terms") (codes "2" ∷ codes "1" ∷ codes "1" ∷ codes "80" ∷ codes "20" ∷ codes "2" ∷ codes "1" ∷ codes "50" ∷ codes "50" ∷ [])

-- three hours in a city, one in the other, some in the state, hours below 0, and how the state's fact is spread
abbrev pub hours : List ℕ
hours =
    weighed_text
    ++ line_text (codes "insert") (codes "1" ∷ codes "Austin" ∷ codes "3" ∷ [])
    ++ line_text (codes "insert") (codes "2" ∷ codes "Dallas" ∷ codes "1" ∷ [])
    ++ line_text (codes "insert") (codes "3" ∷ codes "TX" ∷ codes "5" ∷ [])
    ++ line_text (codes "insert") (codes "4" ∷ codes "TX" ∷ codes "-1" ∷ [])
    ++ line_text (codes "rows") (codes "3" ∷ [])

-- three quarters of it are the first city's
abbrev pub hours_replies : List ℕ
hours_replies =
    line_text (codes "ok") (codes "1" ∷ [])
    ++ line_text (codes "ok") (codes "1" ∷ [])
    ++ line_text (codes "ok") (codes "1" ∷ [])
    ++ line_text (codes "error") (codes "value" ∷ [])
    ++ line_text (codes "rows") (codes "4" ∷ codes "2" ∷ codes "Austin" ∷ codes "3" ∷ codes "Dallas" ∷ codes "1" ∷ [])

-- with a number and a distribution
abbrev pub timed : List ℕ
timed = two_cities (codes "uniform" ∷ []) (line_text (codes "number") (codes "Hours" ∷ []) ++ line_text (codes "parts") (codes "Quality" ∷ codes "100" ∷ codes "good" ∷ codes "bad" ∷ []))

-- questions where there is no fact
abbrev pub nothing_to_divide : List ℕ
nothing_to_divide =
    timed
    ++ line_text (codes "count") (codes "TX" ∷ [])
    ++ line_text (codes "sum") (codes "Hours" ∷ codes "TX" ∷ [])
    ++ line_text (codes "avg") (codes "Hours" ∷ codes "TX" ∷ [])
    ++ line_text (codes "pool") (codes "Quality" ∷ codes "TX" ∷ [])

-- the count and the sum are 0, and there is nothing to divide by
abbrev pub nothing_to_divide_replies : List ℕ
nothing_to_divide_replies =
    line_text (codes "count") (codes "0.000000000" ∷ codes "0.000000000" ∷ codes "0" ∷ [])
    ++ line_text (codes "sum") (codes "0.000000000" ∷ codes "0.000000000" ∷ codes "0" ∷ [])
    ++ line_text (codes "error") (codes "undefined" ∷ [])
    ++ line_text (codes "error") (codes "undefined" ∷ [])

-- six hours in a city and some more in the state, with their parts, and what there is in the city
abbrev pub told_in_fractions : List ℕ
told_in_fractions =
    timed
    ++ line_text (codes "insert") (codes "1" ∷ codes "Austin" ∷ codes "6" ∷ codes "80:20" ∷ [])
    ++ line_text (codes "insert") (codes "2" ∷ codes "TX" ∷ codes "-7" ∷ codes "50:50" ∷ [])
    ++ line_text (codes "count") (codes "Austin" ∷ [])
    ++ line_text (codes "sum") (codes "Hours" ∷ codes "Austin" ∷ [])
    ++ line_text (codes "avg") (codes "Hours" ∷ codes "Austin" ∷ [])
    ++ line_text (codes "pool") (codes "Quality" ∷ codes "Austin" ∷ [])
    ++ line_text (codes "sum") (codes "Quality" ∷ codes "Austin" ∷ [])

-- one half of the state's fact is the city's
abbrev pub told_in_fractions_replies : List ℕ
told_in_fractions_replies =
    line_text (codes "ok") (codes "1" ∷ [])
    ++ line_text (codes "ok") (codes "1" ∷ [])
    ++ line_text (codes "count") (codes "1.500000000" ∷ codes "1.500000000" ∷ codes "3/2" ∷ [])
    ++ line_text (codes "sum") (codes "2.500000000" ∷ codes "2.500000000" ∷ codes "5/2" ∷ [])
    ++ line_text (codes "avg") (codes "1.666666666" ∷ codes "1.666666667" ∷ codes "5/3" ∷ [])
    ++ line_text (codes "pool") (codes "0.700000000" ∷ codes "0.700000000" ∷ codes "7/10" ∷ codes "0.300000000" ∷ codes "0.300000000" ∷ codes "3/10" ∷ [])
    ++ line_text (codes "error") (codes "measure" ∷ [])

-- with a number, where cities weigh as much as they have facts
abbrev pub counted_text : List ℕ
counted_text = two_cities (codes "count" ∷ []) (line_text (codes "number") (codes "Hours" ∷ []))

-- two facts in a city, one in the other, and one somewhere in the state: all worlds of these at the first city
abbrev pub listed_worlds : List ℕ
listed_worlds =
    counted_text
    ++ line_text (codes "insert") (codes "1" ∷ codes "Austin" ∷ codes "100" ∷ [])
    ++ line_text (codes "insert") (codes "2" ∷ codes "Austin" ∷ codes "300" ∷ [])
    ++ line_text (codes "insert") (codes "3" ∷ codes "Dallas" ∷ codes "50" ∷ [])
    ++ line_text (codes "insert") (codes "4" ∷ codes "TX" ∷ codes "600" ∷ [])
    ++ line_text (codes "worlds") (codes "Austin" ∷ [])

-- in the world of weight 2 three facts stand there with 1000 hours, in that of weight 1 two with 400
abbrev pub listed_worlds_replies : List ℕ
listed_worlds_replies =
    line_text (codes "ok") (codes "1" ∷ [])
    ++ line_text (codes "ok") (codes "1" ∷ [])
    ++ line_text (codes "ok") (codes "1" ∷ [])
    ++ line_text (codes "ok") (codes "1" ∷ [])
    ++ line_text (codes "worlds") (codes "2" ∷ codes "3" ∷ codes "8" ∷ codes "2400" ∷ [])

-- a fact somewhere in the state, and how it is spread when a city got a part, and when one more city came; a dimension that is not there, a
-- name that a city has, and the count at the first city
abbrev pub grown_state : List ℕ
grown_state =
    texas
    ++ line_text (codes "insert") (codes "1" ∷ codes "TX" ∷ [])
    ++ line_text (codes "grow") (codes "Place" ∷ codes "Austin" ∷ codes "Zilker" ∷ [])
    ++ line_text (codes "rows") (codes "1" ∷ [])
    ++ line_text (codes "grow") (codes "Place" ∷ codes "TX" ∷ codes "Waco" ∷ [])
    ++ line_text (codes "rows") (codes "1" ∷ [])
    ++ line_text (codes "grow") (codes "City" ∷ codes "TX" ∷ codes "Waco" ∷ [])
    ++ line_text (codes "grow") (codes "Place" ∷ codes "TX" ∷ codes "Dallas" ∷ [])
    ++ line_text (codes "terms") (codes "Austin" ∷ [])

-- the part takes the place of its city, and the new city one third
abbrev pub grown_state_replies : List ℕ
grown_state_replies =
    line_text (codes "ok") (codes "1" ∷ [])
    ++ line_text (codes "ok") (codes "0" ∷ [])
    ++ line_text (codes "rows") (codes "2" ∷ codes "2" ∷ codes "Zilker" ∷ codes "1" ∷ codes "Dallas" ∷ codes "1" ∷ [])
    ++ line_text (codes "ok") (codes "1" ∷ [])
    ++ line_text (codes "rows") (codes "3" ∷ codes "3" ∷ codes "Zilker" ∷ codes "1" ∷ codes "Dallas" ∷ codes "1" ∷ codes "Waco" ∷ codes "1" ∷ [])
    ++ line_text (codes "error") (codes "node" ∷ [])
    ++ line_text (codes "error") (codes "name" ∷ [])
    ++ line_text (codes "terms") (codes "1" ∷ codes "3" ∷ codes "1" ∷ [])

-- an input gives these replies, and this many of its lines are refused
abbrev pub Gives : List ℕ → List ℕ → ℕ → Type 0
Gives input replies refused = IsSomeAnd (outcome_of input) (λ outcome. (concat outcome.replies ≡ replies) × (outcome.refused ≡ refused))
