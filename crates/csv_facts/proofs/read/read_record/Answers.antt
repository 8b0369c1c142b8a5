-- A record that is no text is refused, and the fields of one that is are the fact's.
use Rattle.std.proofs.Common.{◌≡◌, ◌+◌, ◌∙◌, ap, length, rules}
use Rattle.csv.specs.Records.{Row, fields_of}
use Rattle.csv_facts.proofs.FactsRead.{given-no_text, given-text}
use Rattle.csv_facts.proofs.read.read_record.Goals as goal

pub returns-in_default-clause-fact : goal.returns-in_default-clause-fact
returns-in_default-clause-fact c =
    let many : length (fields_of c.args.row.now) ≡ 1 + length c.args.s.now.names + length c.args.s.now.measures = search rules in
    let taken = ap (λ (row : Row). fields_of row) c.replace-taken.ensures.value in
    given-no_text c.args.s.now (fields_of c.args.row.now) (fields_of c.replace-taken.result) many taken (λ text. cc (c.in_default.ensures.refused text))

pub returns-clause-fact : goal.returns-clause-fact
returns-clause-fact c =
    let many : length (fields_of c.args.row.now) ≡ 1 + length c.args.s.now.names + length c.args.s.now.measures = search rules in
    let taken = ap (λ (row : Row). fields_of row) c.replace-taken.ensures.value in
    c.read_fact-given.ensures.fact
    ∙ given-text c.args.s.now (fields_of c.args.row.now) (fields_of c.replace-taken.result) (fields_of c.in-Ok.text) _ _ _ many taken c.in-Ok.ensures.same c.in-Ok.ensures.text c.space.ensures.dims c.shape-2.ensures.shape c.new-2.ensures
