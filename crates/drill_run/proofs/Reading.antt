-- What a text is read as is one thing.
use Rattle.std.proofs.Common.{◌≡◌, ℕ, Ok, Err, Result, ap, sym, ◌∙◌}
use Rattle.schema_text.specs.Schema.{SchemaValue}
use Rattle.schema_text.specs.SchemaText.{BadLine, ReadSchema}

schema_or : SchemaValue → Result ReadSchema BadLine → SchemaValue
schema_or other (Ok read) = read.schema
schema_or other (Err bad) = other

pub read-once : (a b : SchemaValue) (i j : ℕ) (read : Result ReadSchema BadLine) → read ≡ Ok (record { schema = a; size = i }) → read ≡ Ok (record { schema = b; size = j }) → a ≡ b
unfolding schema_or
read-once a b i j read one other = ap (schema_or a) (sym one ∙ other)

pub read-or_refused : (bad : BadLine) (good : ReadSchema) (read : Result ReadSchema BadLine) → read ≡ Err bad → read ≡ Ok good → ⊥
read-or_refused bad good read one other = cc
