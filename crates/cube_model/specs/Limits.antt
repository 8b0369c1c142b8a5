-- The limits on what a cube holds.
use Rattle.std.specs.Prelude.{ℕ, ◌^◌}

-- the most dimensions of a space
abbrev pub MAX_DIMS : ℕ
MAX_DIMS = 6

-- the most nodes of a dimension, and how deep they may lie
abbrev pub MAX_NODES : ℕ
MAX_NODES = 65536

abbrev pub MAX_DEPTH : ℕ
MAX_DEPTH = 8

-- the cells of a space, and its regions, are fewer
abbrev pub SPACE_LIMIT : ℕ
SPACE_LIMIT = 2 ^ 62

-- the most columns of a fact, which are those beside the count
abbrev pub MAX_COLS : ℕ
MAX_COLS = 7

-- the greatest absolute value of a number measure
abbrev pub MAX_VALUE : ℕ
MAX_VALUE = 1000000000000

-- the least and the greatest scale of a distribution
abbrev pub MIN_SCALE : ℕ
MIN_SCALE = 1

abbrev pub MAX_SCALE : ℕ
MAX_SCALE = 1000000

-- the least and the greatest id of a fact
abbrev pub MIN_ID : ℕ
MIN_ID = 1

abbrev pub MAX_ID : ℕ
MAX_ID = 9223372036854775807

-- the most cells of a fact's region
abbrev pub MAX_CELLS : ℕ
MAX_CELLS = 1048576

-- the most facts
abbrev pub MAX_FACTS : ℕ
MAX_FACTS = 1048576

-- the most rows of the extended database
abbrev pub MAX_ROWS : ℕ
MAX_ROWS = 2097152

-- the denominator of an allocation is below it
abbrev pub DEN_LIMIT : ℕ
DEN_LIMIT = 2 ^ 60

-- the greatest absolute value of a numerator that sums over facts may have
abbrev pub WIDE : ℕ
WIDE = 2 ^ 120
