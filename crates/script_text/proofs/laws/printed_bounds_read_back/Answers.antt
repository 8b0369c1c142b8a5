use Rattle.script_text.proofs.ReadBack.{units_in-text}
use Rattle.script_text.proofs.laws.printed_bounds_read_back.Goals as goal

pub returns : goal.returns
returns c = λ units. units_in-text units
