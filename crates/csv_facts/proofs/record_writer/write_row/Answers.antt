use Rattle.std.proofs.Common.{◌≡◌, rules, true}
use Rattle.std.specs.Result.{is_ok}
use Rattle.csv.specs.Records.{fields_of}
use Rattle.csv_facts.proofs.RowsWritten.{Writes-row, was-ok}
use Rattle.csv_facts.proofs.record_writer.write_row.Goals as goal

pub returns : goal.returns
returns c =
    let good : is_ok c.write_byte_record.result ≡ true = search rules in
    let e = c.write_byte_record.ensures in
    Writes-row c.args.out.now c.write_byte_record.new.self (fields_of c.args.row.now) c.requires (was-ok _ _ good e.setup) (was-ok _ _ good e.ended) (was-ok _ _ good e.clean) (was-ok _ _ good e.bytes)
