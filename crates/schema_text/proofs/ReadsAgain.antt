-- A schema that is written is read again.
use Rattle.std.proofs.Common.{◌≡◌, ◌≢◌, ℕ, ◌+◌, ◌-◌, ◌<◌, ◌≤◌, Bool, true, false, List, [], ◌∷◌, ◌++◌, length, refl, sym, ap, ◌∙◌, arith, Option, Some, None, Ok, eqb, ltb, append_assoc, length-append, lit≤}
use Rattle.std.specs.Prelude.{All, AllPairs, if◌then◌else◌, codes, is_none, ◌||◌, nat_le, nat_lt, unwrap_or}
use Rattle.std.proofs.lemmas.Bool.{and_parts}
use Rattle.std.proofs.lemmas.Option.{get_or_from_slice_get, slice_get_within}
use Rattle.std.specs.List.{flat_map, list_all}
use Rattle.std.proofs.lemmas.Bool.Decides.{nat_tests}
use Rattle.std.proofs.lemmas.List.Elements.{All-cons, All-nil}
use Rattle.cube_base.specs.Name.{is_name, is_name_byte}
use Rattle.text_lines.specs.Text.{line_text}
use Rattle.cube_model.specs.Tree.{Dimension, is_numbered}
use Rattle.text_lines.proofs.Ascii.{ascii_is_utf8}
use Rattle.cube_model.specs.Limits.{MAX_DIMS, SPACE_LIMIT}
use Rattle.region_algebra.specs.declared.view_def.ViewDef.{ViewDef}
use Rattle.region_algebra.specs.Fault.{space_fault}
use Rattle.region_algebra.specs.Space.{cell_total, region_total}
use Rattle.region_algebra.specs.declared.space.SpaceFault.TheVariants.{Dims, Cells, Nodes}
use Rattle.cube_base.specs.declared.code.Code.TheVariants as code
use Rattle.fact_records.specs.declared.shape.Kind.{Kind}
use Rattle.fact_records.specs.declared.shape.Kind.TheVariants as kind
use Rattle.fact_records.specs.declared.shape.Measure.{Measure}
use Rattle.fact_records.specs.Shape.{IsWeighable}
use Rattle.schema_text.specs.declared.word.PolicyWord.{PolicyWord}
use Rattle.schema_text.specs.declared.word.PolicyWord.TheVariants as policy_word
use Rattle.schema_text.specs.declared.policy.NamedPolicy.{NamedPolicy}
use Rattle.schema_text.specs.declared.policy.NamedPolicy.TheVariants as named_policy
use Rattle.schema_text.specs.declared.word.Version.{Version}
use Rattle.schema_text.specs.declared.word.Version.TheVariants.{One, Two}
use Rattle.schema_text.specs.declared.word.SchemaWord.{SchemaWord}
use Rattle.schema_text.specs.declared.word.SchemaWord.TheVariants.{Cube, Policy, Dimension as DimensionWord, Node, View, End}
use Rattle.schema_text.specs.Draft.{end_fault}
use Rattle.schema_text.specs.Schema.{AreViews, IsSchema, SchemaValue, weighing_measure}
use Rattle.schema_text.specs.SchemaText.{Draft, are_places_from, blank_draft, dims_of, dims_text, ended, fields_fault, may_follow, measure_line, measure_name, policy_among, policy_fields, policy_line, schema_of, schema_of_draft, schema_text, version_named, version_of, version_text, view_line, with_word}
use Rattle.text_lines.proofs.Cuts.{after_line-cut, lines_of-cut}
use Rattle.schema_text.proofs.Reading.{IsCut, IsRead, IsRead-none, schema_of-accepted, schema_of-end}
use Rattle.schema_text.proofs.WrittenLines.{IsField, IsField-name, IsNext, IsPlain, IsPlain-fields, IsRead-next}
use Rattle.schema_text.proofs.MeasuresAgain.{AreNames-measures, last_measure, measured, read_measures, word_of}
use Rattle.schema_text.proofs.NodesAgain.{IsWritable}
use Rattle.schema_text.proofs.Policies.{IsWeighable-measure, number_measure-found}
use Rattle.schema_text.proofs.DimsAgain.{last_dims, last_dims-some, read_dims}
use Rattle.schema_text.proofs.ViewsAgain.{read_views}

is_field : (bytes : List ℕ) → list_all is_name_byte bytes ≡ true → list_all (λ b. nat_lt b 128) bytes ≡ true → length bytes ≤ 128 → IsField bytes
is_field bytes bytes_are ascii short = record { bytes_are = bytes_are; utf8 = ascii_is_utf8 bytes ascii; short = short }

field-version : (version : Version) → IsField (version_text version)
field-version One = is_field (codes "1") refl refl (lit≤ tt)
field-version Two = is_field (codes "2") refl refl (lit≤ tt)

next-version : (version : Version) → IsNext blank_draft (codes "cube") (version_text version ∷ []) Cube
next-version version = record {
  plain = IsPlain-fields (codes "cube") (version_text version ∷ []) (is_field (codes "cube") refl refl (lit≤ tt)) (All-cons IsField (version_text version) [] (field-version version) (All-nil IsField)) (lit≤ tt);
  word_is = refl;
  stays = refl;
  goes_on = refl;
  accepted = known version;
}
  where
    known : (version : Version) → fields_fault blank_draft (codes "cube" ∷ version_text version ∷ []) (Some Cube) ≡ None
    known One = refl
    known Two = refl

version-read : (version : Version) → unwrap_or (version_named (version_text version)) One ≡ version
version-read One = refl
version-read Two = refl

-- a policy by the name of its measure
abbrev pub by_name : List Measure → PolicyWord → NamedPolicy
by_name measures policy_word.Uniform = named_policy.Uniform
by_name measures policy_word.Count = named_policy.Count
by_name measures (policy_word.Weight i) = named_policy.Weight (measure_name measures i)

-- its measure has a name
abbrev pub HasName : List Measure → PolicyWord → Type 0
HasName measures policy_word.Uniform = Unit {0}
HasName measures policy_word.Count = Unit {0}
HasName measures (policy_word.Weight i) = is_name (measure_name measures i) ≡ true

-- a draft behind the line of the version
abbrev pub versioned : Version → Draft
versioned version = record { last = Some Cube; version = version; policy = named_policy.Uniform; measures = []; names = []; dims = []; nodes = []; views = [] }

policy_plain : (fields : List (List ℕ)) → All IsField fields → length fields ≤ 9 → IsPlain (codes "policy") fields
policy_plain fields are few = IsPlain-fields (codes "policy") fields (is_field (codes "policy") refl refl (lit≤ tt)) are few

next-policy : (version : Version) (measures : List Measure) (policy : PolicyWord) → HasName measures policy → IsNext (versioned version) (codes "policy") (policy_fields measures policy) Policy
next-policy version measures policy_word.Uniform has = record {
  plain = policy_plain (codes "uniform" ∷ []) (All-cons IsField (codes "uniform") [] (is_field (codes "uniform") refl refl (lit≤ tt)) (All-nil IsField)) (lit≤ tt);
  word_is = refl;
  stays = refl;
  goes_on = refl;
  accepted = refl;
}
next-policy version measures policy_word.Count has = record {
  plain = policy_plain (codes "count" ∷ []) (All-cons IsField (codes "count") [] (is_field (codes "count") refl refl (lit≤ tt)) (All-nil IsField)) (lit≤ tt);
  word_is = refl;
  stays = refl;
  goes_on = refl;
  accepted = refl;
}
next-policy version measures (policy_word.Weight i) has =
    let name = measure_name measures i in
    record {
      plain = policy_plain (codes "weight" ∷ name ∷ []) (All-cons IsField (codes "weight") (name ∷ []) (is_field (codes "weight") refl refl (lit≤ tt)) (All-cons IsField name [] (IsField-name name has) (All-nil IsField))) (lit≤ tt);
      word_is = refl;
      stays = refl;
      goes_on = refl;
      accepted = rw has refl;
    }

policy-read : (version : Version) (measures : List Measure) (policy : PolicyWord) → with_word (versioned version) (codes "policy" ∷ policy_fields measures policy) Policy ≡ measured version (by_name measures policy) Policy []
policy-read version measures policy_word.Uniform = refl
policy-read version measures policy_word.Count = refl
policy-read version measures (policy_word.Weight i) = refl

read_head : (text : List ℕ) (version : Version) (measures : List Measure) (policy : PolicyWord) (behind : List ℕ) → HasName measures policy
    → text ≡ line_text (codes "cube") (version_text version ∷ []) ++ (policy_line measures policy ++ behind) → IsRead text (measured version (by_name measures policy) Policy []) 2 behind
read_head text version measures policy behind has parts =
    let first = IsRead-next text blank_draft 0 text (policy_line measures policy ++ behind) (codes "cube") (version_text version ∷ []) Cube (IsRead-none text) parts (next-version version) in
    let one : IsRead text (versioned version) 1 (policy_line measures policy ++ behind) = rw (version-read version) at first in
    let both_lines = IsRead-next text (versioned version) 1 (policy_line measures policy ++ behind) behind (codes "policy") (policy_fields measures policy) Policy one refl (next-policy version measures policy has) in
    rw (policy-read version measures policy) at both_lines

-- the policy is found again by the name of its measure

policy-found : (measures : List Measure) (policy : PolicyWord) → IsWeighable measures (weighing_measure policy) → AllPairs (λ a b. a.name ≢ b.name) measures → policy_among measures (by_name measures policy) ≡ Some policy
policy-found measures policy_word.Uniform weighable distinct = refl
policy-found measures policy_word.Count weighable distinct = refl
policy-found measures (policy_word.Weight i) weighable distinct =
    let found = IsWeighable-measure measures i weighable in
    rw (found.1, number_measure-found measures i found.0 found.1 found.2 distinct) refl

HasName-measures : (measures : List Measure) (policy : PolicyWord) → IsWeighable measures (weighing_measure policy) → All (λ m. is_name m.name ≡ true) measures → HasName measures policy
HasName-measures measures policy_word.Uniform weighable named = tt
HasName-measures measures policy_word.Count weighable named = tt
HasName-measures measures (policy_word.Weight i) weighable named =
    let found = IsWeighable-measure measures i weighable in
    let name : is_name found.0.name ≡ true = rw (get_or_from_slice_get measures i found.0 found.0 found.1) at (named i found.0 (slice_get_within measures i found.0 found.1)) in
    rw found.1 name

may_follow-dims : (measures : List Measure) → may_follow (Some (last_measure Policy measures)) DimensionWord ≡ true
may_follow-dims [] = refl
may_follow-dims (m ∷ measures) = behind m.kind measures
  where
    behind : (of_kind : Kind) (measures : List Measure) → may_follow (Some (last_measure (word_of of_kind) measures)) DimensionWord ≡ true
    behind kind.Number [] = refl
    behind (kind.Parts scale outcomes) [] = refl
    behind of_kind (m ∷ measures) = behind m.kind measures

end_accepted : (draft : Draft) → may_follow draft.last End ≡ true → list_all is_numbered (ended draft.nodes) ≡ true → is_none (policy_among draft.measures draft.policy) ≡ false → space_fault (dims_of draft) ≡ None → end_fault draft ≡ None
end_accepted draft follows numbered placed accepted =
    rw (follows, numbered, placed) (totals (eqb (length (dims_of draft)) 0 || ltb MAX_DIMS (length (dims_of draft))) (nat_le SPACE_LIMIT (cell_total (dims_of draft))) (nat_le SPACE_LIMIT (region_total (dims_of draft))) (length (dims_of draft)) accepted)
  where
    totals : (wrong cells regions : Bool) (n : ℕ) → (if wrong then Some (Dims n) else (if cells then Some Cells else (if regions then Some Nodes else None))) ≡ None
        → (if cells then Some code.Cells else (if regions then Some code.Nodes else None)) ≡ None
    totals true cells regions n e = cc
    totals false true regions n e = cc
    totals false false true n e = cc
    totals false false false n e = refl

some_dims : (dims : List Dimension) → space_fault dims ≡ None → (0 < length dims) × (length dims ≤ MAX_DIMS)
some_dims dims accepted = counted (length dims) (nat_le SPACE_LIMIT (cell_total dims)) (nat_le SPACE_LIMIT (region_total dims)) accepted
  where
    counted : (n : ℕ) (cells regions : Bool) → (if eqb n 0 || ltb MAX_DIMS n then Some (Dims n) else (if cells then Some Cells else (if regions then Some Nodes else None))) ≡ None → (0 < n) × (n ≤ MAX_DIMS)
    counted n cells regions e = grind (arith, nat_tests)

node_last : (last : Option SchemaWord) (dims : List Dimension) → 0 < length dims → last_dims last dims ≡ Some Node
node_last last [] none = absurd (omega arith)
node_last last (dim ∷ dims) some = last_dims-some dims

read_end : (text : List ℕ) (draft : Draft) (lines : ℕ) (rest behind : List ℕ) → IsRead text draft lines rest → rest ≡ line_text (codes "end") [] ++ behind → end_fault draft ≡ None
    → schema_of text ≡ Ok (record { schema = schema_of_draft draft; size = length text - length behind })
read_end text draft lines rest behind is parts accepted =
    let plain = IsPlain-fields (codes "end") [] (is_field (codes "end") refl refl (lit≤ tt)) (All-nil IsField) (lit≤ tt) in
    let cut : IsCut rest (codes "end") behind =
    record {
      cut = lines_of-cut rest (codes "end") behind parts plain.lf;
      after = sym (after_line-cut rest (codes "end") behind parts plain.lf);
      shorter = omega (arith, ap length parts, length-append (codes "end") (10 ∷ behind));
    } in
    schema_of-accepted text draft (lines + 1) (length text - length behind) (schema_of-end text draft lines rest (codes "end") behind is cut refl refl) accepted

-- The text of a schema, with anything behind it, is read as that schema and takes its length.

six : (a b c d e f g : List ℕ) → (((((a ++ b) ++ c) ++ d) ++ e) ++ f) ++ g ≡ a ++ (b ++ (c ++ (d ++ (e ++ (f ++ g)))))
six a b c d e f g = simp append_assoc

text_parts : (s : SchemaValue) (behind : List ℕ) → schema_text s ++ behind ≡ line_text (codes "cube") (version_text (version_of s.dims) ∷ []) ++ (policy_line s.measures s.policy
    ++ (flat_map measure_line s.measures ++ (dims_text (version_of s.dims) s.names s.dims ++ (flat_map view_line s.views ++ (line_text (codes "end") [] ++ behind)))))
unfolding schema_text
text_parts s behind =
    six (line_text (codes "cube") (version_text (version_of s.dims) ∷ [])) (policy_line s.measures s.policy) (flat_map measure_line s.measures) (dims_text (version_of s.dims) s.names s.dims) (flat_map view_line s.views) (line_text (codes "end") []) behind

schema-same : (s : SchemaValue) (draft : Draft) → policy_among draft.measures draft.policy ≡ Some s.policy → draft.measures ≡ s.measures → draft.names ≡ s.names → dims_of draft ≡ s.dims → draft.views ≡ s.views → schema_of_draft draft ≡ s
schema-same s draft policy measures names dims views =
    ap (λ (p : Option PolicyWord). record { policy = unwrap_or p policy_word.Uniform; measures = draft.measures; names = draft.names; dims = dims_of draft; views = draft.views }) policy
    ∙ ap (λ (m : List Measure). record { policy = s.policy; measures = m; names = draft.names; dims = dims_of draft; views = draft.views }) measures
    ∙ ap (λ (n : List (List ℕ)). record { policy = s.policy; measures = s.measures; names = n; dims = dims_of draft; views = draft.views }) names
    ∙ ap (λ (d : List Dimension). record { policy = s.policy; measures = s.measures; names = s.names; dims = d; views = draft.views }) dims
    ∙ ap (λ (v : List ViewDef). record { policy = s.policy; measures = s.measures; names = s.names; dims = s.dims; views = v }) views

-- each dimension may be written in the version of the text
AreWritable : (dims : List Dimension) → All (IsWritable (version_of dims)) dims
AreWritable dims = either (list_all (are_places_from 0) dims) refl
  where
    places : (ds : List Dimension) → list_all (are_places_from 0) ds ≡ true → All (IsWritable One) ds
    places [] all = All-nil (IsWritable One)
    places (d ∷ ds) all =
        let parts = and_parts (are_places_from 0 d) (list_all (are_places_from 0) ds) all in
        All-cons (IsWritable One) d ds parts.0 (places ds parts.1)

    any : (ds : List Dimension) → All (IsWritable Two) ds
    any [] = All-nil (IsWritable Two)
    any (d ∷ ds) = All-cons (IsWritable Two) d ds tt (any ds)

    either : (all : Bool) → list_all (are_places_from 0) dims ≡ all → All (IsWritable (version_of dims)) dims
    either true e = rw e (places dims e)
    either false e = rw e (any dims)

pub reads_again : (s : SchemaValue) → IsSchema s → (behind : List ℕ) → schema_of (schema_text s ++ behind) ≡ Ok (record { schema = s; size = length (schema_text s) })
reads_again s is behind =
    let text = schema_text s ++ behind in
    let version = version_of s.dims in
    let policy = by_name s.measures s.policy in
    let views_behind = line_text (codes "end") [] ++ behind in
    let dims_behind = flat_map view_line s.views ++ views_behind in
    let measures_behind = dims_text version s.names s.dims ++ dims_behind in
    let dims = some_dims s.dims is.space in
    let head = read_head text version s.measures s.policy (flat_map measure_line s.measures ++ measures_behind) (HasName-measures s.measures s.policy is.shape.weight is.measure_names) (text_parts s behind) in
    let measures = read_measures text version policy Policy [] s.measures 2 (flat_map measure_line s.measures ++ measures_behind) measures_behind head refl refl
    (record { names = AreNames-measures s.measures is.measure_names is.shape.measures.distinct; kinds = is.kinds; scales = is.shape.measures.scales; order = is.shape.measures.order; room = omega (arith, is.shape.measures.most) }) in
    let draft = measured version policy (last_measure Policy s.measures) s.measures in
    let ended_at = read_dims text draft s.names s.dims (2 + length s.measures) measures_behind dims_behind measures refl is.named (may_follow-dims s.measures) refl is.dim_names (omega (arith, is.named, dims.1)) is.trees (AreWritable s.dims) in
    let found = policy-found s.measures s.policy is.shape.weight is.shape.measures.distinct in
    let last = ended_at.last ∙ node_last (Some (last_measure Policy s.measures)) s.dims dims.0 in
    let count : length ended_at.next.names ≡ length s.dims = ap length ended_at.names_are ∙ is.named in
    let views : AreViews (length ended_at.next.names) (ended_at.next.views ++ s.views) = rw (count, ended_at.views) is.views in
    let viewed = read_views text ended_at.next s.views ended_at.lines dims_behind views_behind ended_at.read refl (ap (λ l. may_follow l View) last) ended_at.numbered (omega (arith, count, dims.1)) views in
    let measures_are = viewed.measures ∙ ended_at.measures in
    let dims_are = viewed.dims_are ∙ ended_at.dims_are in
    let placed : policy_among viewed.next.measures viewed.next.policy ≡ Some s.policy = rw (measures_are, viewed.policy, ended_at.policy) found in
    let some : is_none (policy_among viewed.next.measures viewed.next.policy) ≡ false = ap is_none placed in
    let same = schema-same s viewed.next placed measures_are (viewed.names_are ∙ ended_at.names_are) dims_are (viewed.views_are ∙ ap (λ l. l ++ s.views) ended_at.views) in
    let accepted = end_accepted viewed.next viewed.follows viewed.numbered some (ap space_fault dims_are ∙ is.space) in
    let size : length text - length behind ≡ length (schema_text s) = omega (arith, length-append (schema_text s) behind) in
    read_end text viewed.next viewed.lines views_behind behind viewed.read refl accepted
    ∙ ap (λ (v : SchemaValue). Ok (record { schema = v; size = length text - length behind })) same
    ∙ ap (λ (n : ℕ). Ok (record { schema = s; size = n })) size
