-- The bytes of lines are cut into these lines again.
use Rattle.std.proofs.Common.{◌≡◌, ◌≢◌, ℕ, Bool, true, false, if◌then◌else◌, List, [], ◌∷◌, ◌++◌, length, refl, sym, ap, ◌∙◌, arith, append_assoc, length-append}
use Rattle.std.specs.Prelude.{All, ◌==◌, codes}
use Rattle.std.specs.List.{flat_map, onto_first}
use Rattle.std.proofs.lemmas.Bool.{eqb-true}
use Rattle.std.proofs.lemmas.Bool.Decides.{nat_tests}
use Rattle.std.proofs.lemmas.Grind.{flat_map-append}
use Rattle.std.proofs.lemmas.List.Elements.{All-cons, All-head, All-nil, All-tail}
use Rattle.text_lines.specs.Text.{line_text, lines_of}
use Rattle.text_lines.proofs.Cuts.{lines_of-cut}
use Rattle.schema_text.specs.Schema.{SchemaValue}
use Rattle.schema_text.specs.SchemaText.{dims_text, measure_line, policy_line, schema_text, version_of, version_text, view_line}
use Rattle.row_feed.specs.FeedText.{feed_bytes}

-- bytes behind bytes
pub feed_bytes-append : (a b : List (List ℕ)) → feed_bytes (a ++ b) ≡ feed_bytes a ++ feed_bytes b
feed_bytes-append a b = flat_map-append (λ (line : List ℕ). line ++ 10 ∷ []) a b

-- no byte is LF
abbrev pub HasNoLf : List ℕ → Type 0
HasNoLf line = All (λ b. b ≢ 10) line

-- lines without LF are cut where they end
pub lines_of-feed_bytes : (lines : List (List ℕ)) (rest : List ℕ) → All HasNoLf lines → lines_of (feed_bytes lines ++ rest) ≡ lines ++ lines_of rest
lines_of-feed_bytes [] rest none = refl
lines_of-feed_bytes (line ∷ lines) rest none =
    let behind = feed_bytes lines ++ rest in
    let cuts : feed_bytes (line ∷ lines) ++ rest ≡ line ++ 10 ∷ behind = append_assoc (line ++ 10 ∷ []) (feed_bytes lines) rest ∙ append_assoc line (10 ∷ []) behind in
    lines_of-cut (feed_bytes (line ∷ lines) ++ rest) line behind cuts (All-head HasNoLf line lines none)
    ∙ ap (λ ls. line ∷ ls) (lines_of-feed_bytes lines rest (All-tail HasNoLf line lines none))

-- the lines of any text have none
no_lf-onto : (b : ℕ) (lines : List (List ℕ)) → b ≢ 10 → All HasNoLf lines → All HasNoLf (onto_first b lines)
no_lf-onto b [] other none = All-cons HasNoLf (b ∷ []) [] (All-cons (λ c. c ≢ 10) b [] other (All-nil (λ c. c ≢ 10))) (All-nil HasNoLf)
no_lf-onto b (line ∷ lines) other none =
    All-cons HasNoLf (b ∷ line) lines (All-cons (λ c. c ≢ 10) b line other (All-head HasNoLf line lines none)) (All-tail HasNoLf line lines none)

pub lines_of-no_lf : (text : List ℕ) → All HasNoLf (lines_of text)
lines_of-no_lf [] = All-nil HasNoLf
lines_of-no_lf (b ∷ text) = either (b == 10) refl (lines_of-no_lf text)
  where
    either : (lf : Bool) → (b == 10) ≡ lf → All HasNoLf (lines_of text) → All HasNoLf (if lf then [] ∷ lines_of text else onto_first b (lines_of text))
    either true is rest = All-cons HasNoLf [] (lines_of text) (All-nil (λ c. c ≢ 10)) rest
    either false is rest = let other : b ≢ 10 = grind (arith, nat_tests) in no_lf-onto b (lines_of text) other rest

-- the lines of a text that ends with LF have its bytes
feed_bytes-onto : (b : ℕ) (lines : List (List ℕ)) (text : List ℕ) → feed_bytes lines ≡ text ++ 10 ∷ [] → feed_bytes (onto_first b lines) ≡ b ∷ (text ++ 10 ∷ [])
feed_bytes-onto b [] text e = absurd (omega (arith, ap length e, length-append text (10 ∷ [])))
feed_bytes-onto b (line ∷ lines) text e = ap (λ t. b ∷ t) e

feed_bytes-lines_of : (text : List ℕ) → feed_bytes (lines_of (text ++ 10 ∷ [])) ≡ text ++ 10 ∷ []
feed_bytes-lines_of [] = refl
feed_bytes-lines_of (b ∷ text) = either (b == 10) refl (feed_bytes-lines_of text)
  where
    either : (lf : Bool) → (b == 10) ≡ lf → feed_bytes (lines_of (text ++ 10 ∷ [])) ≡ text ++ 10 ∷ []
        → feed_bytes (if lf then [] ∷ lines_of (text ++ 10 ∷ []) else onto_first b (lines_of (text ++ 10 ∷ []))) ≡ b ∷ (text ++ 10 ∷ [])
    either true is rest = ap (λ t. 10 ∷ t) rest ∙ ap (λ c. c ∷ (text ++ 10 ∷ [])) (sym (eqb-true b 10 is))
    either false is rest = feed_bytes-onto b (lines_of (text ++ 10 ∷ [])) text rest

-- so the lines of a schema's text have those of the text
pub feed_bytes-schema : (schema : SchemaValue) → feed_bytes (lines_of (schema_text schema)) ≡ schema_text schema
unfolding schema_text
feed_bytes-schema schema =
    let version = version_of schema.dims in
    let front =
    line_text (codes "cube") (version_text version ∷ []) ++ policy_line schema.measures schema.policy ++ flat_map measure_line schema.measures ++ dims_text version schema.names schema.dims ++ flat_map view_line schema.views in
    let ends : front ++ line_text (codes "end") [] ≡ (front ++ codes "end") ++ 10 ∷ [] = sym (append_assoc front (codes "end") (10 ∷ [])) in
    ap (λ t. feed_bytes (lines_of t)) ends ∙ feed_bytes-lines_of (front ++ codes "end") ∙ sym ends
