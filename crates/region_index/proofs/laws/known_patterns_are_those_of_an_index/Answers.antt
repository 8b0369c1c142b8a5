use Rattle.region_index.proofs.HeldCodes.{HasPatterns-known}
use Rattle.region_index.proofs.laws.known_patterns_are_those_of_an_index.Goals as goal

pub returns : goal.returns
returns c = λ dims facts content patterns trees named indexes knows. HasPatterns-known dims facts content patterns trees named indexes knows
