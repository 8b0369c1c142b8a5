-- Kept facts have the levels and the portions of all.
use Rattle.iter_alloc.proofs.laws.rounds_of_components_suffice.Goals as goal
use Rattle.iter_alloc.proofs.Bounded.{level-bound}
use Rattle.iter_alloc.proofs.Kept.{same-levels, same-portion, portion-apart}

pub returns : goal.returns
returns c = record {
  levels = λ dims keep facts closed n cell f among kept has. same-levels dims keep facts closed n cell f (record { among = among; kept = kept }) has;
  portions = λ dims keep facts closed rounds region f among kept. same-portion dims keep facts closed rounds region f (record { among = among; kept = kept });
  apart = λ dims facts rounds region f none. portion-apart dims facts facts rounds region f none;
  bounds = level-bound;
}
