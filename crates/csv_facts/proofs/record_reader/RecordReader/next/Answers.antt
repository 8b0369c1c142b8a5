use Rattle.std.proofs.Common.{◌∙◌, sym, subst}
use Rattle.csv.specs.Records.{fields_of}
use Rattle.csv_facts.specs.RecordList.{IsNext, records_before}
use Rattle.csv_facts.proofs.RecordsLeft.{IsNext-taken, IsFileReader-read, IsWant-read}
use Rattle.csv_facts.proofs.record_reader.RecordReader.next.Goals as goal

pub invariant_of-self : goal.invariant_of-self
invariant_of-self c =
    let e = c.read_byte_record.ensures in
    IsFileReader-read c.self.inside.reader c.read_byte_record.new.self _ c.read_byte_record.result c.self.invariant e.ready e.reads e.flexible e.goes e.fails e.failed e.goes_on

pub want_of_memory-requires : goal.want_of_memory-requires
want_of_memory-requires c =
    IsWant-read c.self.inside.reader c.read_byte_record.new.self c.in-Err.error c.read_byte_record.result c.self.invariant c.in-Err.is c.read_byte_record.ensures.failed c.in-Err.ensures.why

pub returns : goal.returns
returns c =
    let taken = IsNext-taken c.self.inside.reader c.read_byte_record.new.self (fields_of c.read_byte_record.new.row) c.in-Ok.found c.self.invariant c.in-Ok.ensures.reads (λ stopped. sym c.in-Ok.is ∙ c.read_byte_record.ensures.failed stopped) in
    subst (λ before. IsNext c.in-Ok.found before (fields_of c.read_byte_record.new.row) (records_before c.read_byte_record.new.self)) c.self.view_is taken
