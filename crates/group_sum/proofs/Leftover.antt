-- What is left of a term without a part of it, told of their rows.
use Rattle.std.proofs.Common.{◌≡◌, ℕ, List, ℤ, Option, Some, None, refl}
use Rattle.std.specs.Option.{option_map}
use Rattle.cube_model.specs.declared.term.Term.{Term}
use Rattle.group_sum.specs.Heads.{HasNoRemainder, HasRemainder}
use Rattle.group_sum.specs.Rows.{IsRow, row_of, row_term}

-- the row of a term is read as the term
pub row_read : (term : Term) (den : ℕ) (row : List ℤ) → row ≡ row_of term → term.den ≡ den → row_term den row ≡ term
row_read term den row is same = rw (is, ← same) refl

pub row_whole : (term : Term) (row : List ℤ) → row ≡ row_of term → IsRow row
row_whole term row is = rw is refl

-- the denominator with which a row is told as a term makes no difference to what is left
pub none_left_at : (values den : ℕ) (x y : Option (List ℤ)) → HasNoRemainder values (option_map (row_term 0) x) (option_map (row_term 0) y) → HasNoRemainder values (option_map (row_term den) x) (option_map (row_term den) y)
none_left_at values den None None left = left
none_left_at values den None (Some y) left = left
none_left_at values den (Some x) None left = left
none_left_at values den (Some x) (Some y) left = left

pub some_left_at : (values den : ℕ) (x y : Option (List ℤ)) → HasRemainder values (option_map (row_term 0) x) (option_map (row_term 0) y) → HasRemainder values (option_map (row_term den) x) (option_map (row_term den) y)
some_left_at values den None None left = record { less = left.less; same = left.same }
some_left_at values den None (Some y) left = record { less = left.less; same = left.same }
some_left_at values den (Some x) None left = record { less = left.less; same = left.same }
some_left_at values den (Some x) (Some y) left = record { less = left.less; same = left.same }
