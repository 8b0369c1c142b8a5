-- A walk through the lines after that of a batch.
use Rattle.std.specs.Prelude.{◌≡◌, ℕ, ◌≤◌, Bool, true, false, List, [], ◌∷◌, ◌++◌, codes, drop, length, take, if◌then◌else◌, ⊤}
use Rattle.std.specs.List.{flat_map}
use Rattle.cube_model.specs.Tree.{Dimension}
use Rattle.fact_keeper.specs.declared.content.KeptRows.{KeptRows}
use Rattle.text_lines.specs.LineText.{field_at}
use Rattle.row_feed.specs.FeedText.{AreRowsOf, rows_lines}

-- the lines that are left of entries, of whose first so many lines were handed out; and none once the last was
abbrev pub lines_left : List Dimension → List KeptRows → ℕ → Bool → List (List ℕ)
lines_left dims entries place ended = if ended then [] else drop place (flat_map (rows_lines dims) entries ++ codes "done" ∷ [])

-- the first of them, where the last was not handed out
abbrev pub first_line : List Dimension → List KeptRows → ℕ → List ℕ
first_line dims [] place = codes "done"
first_line dims (kept ∷ entries) place = field_at (rows_lines dims kept) place

-- so many lines of the first entry were handed out: not all of them
abbrev pub IsPlaceIn : ℕ → List KeptRows → Type 0
IsPlaceIn place [] = place ≡ 0
IsPlaceIn place (kept ∷ entries) = place ≤ length kept.rows

-- no entry is left once the last line was handed out
abbrev pub IsThrough : Bool → List KeptRows → Type 0
IsThrough false entries = ⊤
IsThrough true entries = entries ≡ []

pub record IsBatchWalk (dims : List Dimension) (entries : List KeptRows) (place : ℕ) (ended : Bool) : Type 0 where
  pub rows : AreRowsOf dims entries
  pub place_in : IsPlaceIn place entries
  pub through : IsThrough ended entries

-- no line was left, and none was handed out
pub record IsEnd (before : List (List ℕ)) (line : List ℕ) (after : List (List ℕ)) : Type 0 where
  pub none : before ≡ []
  pub still_none : after ≡ []
  pub no_line : line ≡ []

-- of the lines before, the first is this one, or there is none
abbrev pub IsNextLine : Bool → List (List ℕ) → List ℕ → List (List ℕ) → Type 0
IsNextLine true before line after = before ≡ line ∷ after
IsNextLine false before line after = IsEnd before line after

-- a text goes on with the first of the lines before
pub record GoesOnWith (found : Bool) (before : List (List ℕ)) (old new : List ℕ) (after : List (List ℕ)) : Type 0 where
  pub keeps : take (length old) new ≡ old
  pub next : IsNextLine found before (drop (length old) new) after
