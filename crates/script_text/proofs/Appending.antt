-- Appending the numerators of a term one after another, and what an error keeps.
use Rattle.std.proofs.Common.{◌≡◌, ℕ, ◌+◌, ◌<◌, ◌≤◌, List, [], ◌∷◌, ◌++◌, length, take, drop, map, get_or, sym, ap, ◌∙◌, Result, Ok, Err, OnErr, append_assoc, ℤ, pos}
use Rattle.std.specs.Fmt.{decimal, signed_decimal}
use Rattle.std.proofs.Math.Seq.{take-append_seam}
use Rattle.std.proofs.lemmas.List.{append-nil, map-append, take-append-drop, take_all, take_more}
use Rattle.std.proofs.lemmas.List.Concat.{flat_map-append}
use Rattle.cube_model.specs.declared.term.Term.{Term}
use Rattle.script_text.specs.Reply.{term_fields}
use Rattle.script_text.specs.ReplySteps.{Keeps, fields_text, numerators_of}

-- what holds anyway holds at an error
pub always : {T E P : Type 0} (r : Result T E) → P → OnErr r P
always (Ok x) p = tt
always (Err e) p = p

-- three parts behind a text, one behind the other
pub appended-three : (old a b c first second new : List ℕ) → first ≡ old ++ a → second ≡ first ++ b → new ≡ second ++ c → new ≡ old ++ (a ++ (b ++ c))
appended-three old a b c first second new here there last = rw (last, there, here) (simp append_assoc)

-- and three fields
pub fields_text-three : (a b c old first second new : List ℕ) → first ≡ old ++ 9 ∷ a → second ≡ first ++ 9 ∷ b → new ≡ second ++ 9 ∷ c → new ≡ old ++ fields_text (a ∷ b ∷ c ∷ [])
fields_text-three a b c old first second new here there last = rw (last, there, here) (simp (append_assoc, append-nil))

-- what keeps a longer text keeps its front
pub Keeps-front : (old known between new : List ℕ) → between ≡ old ++ known → Keeps between new → Keeps old new
Keeps-front old known between new parts keeps =
    let rest = drop (length between) new in
    let whole : new ≡ old ++ (known ++ rest) =
    sym (take-append-drop (length between) new) ∙ ap (λ l. l ++ rest) (keeps ∙ parts) ∙ append_assoc old known rest in
    ap (take (length old)) whole ∙ take-append_seam old (known ++ rest)

-- fields behind fields
pub appended : (fields more all : List (List ℕ)) (old between new : List ℕ) → between ≡ old ++ fields_text fields → new ≡ between ++ fields_text more → all ≡ fields ++ more → new ≡ old ++ fields_text all
appended fields more all old between new parts added joined =
    added ∙ ap (λ l. l ++ fields_text more) parts ∙ append_assoc old (fields_text fields) (fields_text more)
    ∙ ap (λ l. old ++ l) (sym (flat_map-append (λ (field : List ℕ). 9 ∷ field) fields more)) ∙ ap (λ l. old ++ fields_text l) (sym joined)

-- a numerator more
pub numerators-more : (den k : ℕ) (numbers : List ℤ) (old between new : List ℕ) → k < length numbers
    → between ≡ old ++ fields_text (decimal den ∷ map signed_decimal (take k numbers))
    → new ≡ between ++ 9 ∷ signed_decimal (get_or numbers k (pos 0))
    → new ≡ old ++ fields_text (decimal den ∷ map signed_decimal (take (k + 1) numbers))
numerators-more den k numbers old between new within parts more =
    let number = signed_decimal (get_or numbers k (pos 0)) in
    let front = decimal den ∷ map signed_decimal (take k numbers) in
    let joined : decimal den ∷ map signed_decimal (take (k + 1) numbers) ≡ front ++ number ∷ [] =
    ap (λ l. decimal den ∷ map signed_decimal l) (take_more numbers k (pos 0) within) ∙ ap (λ l. decimal den ∷ l) (map-append signed_decimal (take k numbers) (get_or numbers k (pos 0) ∷ [])) in
    appended front (number ∷ []) _ old between new parts (more ∙ ap (λ l. between ++ l) (sym (append-nil (9 ∷ number)))) joined

-- all numerators
pub numerators-all : (term : Term) (den k : ℕ) (old new : List ℕ) → term.den ≡ den → length (numerators_of term) ≤ k
    → new ≡ old ++ fields_text (decimal den ∷ map signed_decimal (take k (numerators_of term)))
    → new ≡ old ++ fields_text (term_fields term)
numerators-all term den k old new same end parts =
    parts ∙ ap (λ n. old ++ fields_text (decimal n ∷ map signed_decimal (take k (numerators_of term)))) (sym same)
    ∙ ap (λ l. old ++ fields_text (decimal term.den ∷ map signed_decimal l)) (take_all k (numerators_of term) end)
