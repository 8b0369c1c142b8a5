-- Fields appended one after the other.
use Rattle.std.proofs.Common.{◌≡◌, ℕ, List, [], ◌∷◌, ◌++◌, ap, sym, ◌∙◌, append_assoc, append-nil}
use Rattle.std.specs.List.{flat_map}
use Rattle.std.proofs.lemmas.Grind.{flat_map-append}
use Rattle.std.proofs.lemmas.List.{flat_map_more}
use Rattle.text_lines.specs.Text.{line_text}

-- one field more
pub field-more : (start : List ℕ) (fields : List (List ℕ)) (field text more : List ℕ) → text ≡ start ++ flat_map (λ f. 9 ∷ f) fields → more ≡ text ++ 9 ∷ field → more ≡ start ++ flat_map (λ f. 9 ∷ f) (fields ++ field ∷ [])
field-more start fields field text more is appended = appended ∙ ap (λ t. t ++ 9 ∷ field) is ∙ flat_map_more (λ f. 9 ∷ f) start fields field

pub field-first : (start field more : List ℕ) → more ≡ start ++ 9 ∷ field → more ≡ start ++ flat_map (λ f. 9 ∷ f) (field ∷ [])
field-first start field more appended = field-more start [] field start more (sym (append-nil start)) appended

-- fields behind a word, others behind these, and the end
pub line-appended : (word : List ℕ) (first then : List (List ℕ)) (t0 t1 t2 all : List ℕ) → t0 ≡ word → t1 ≡ t0 ++ flat_map (λ f. 9 ∷ f) first → t2 ≡ t1 ++ flat_map (λ f. 9 ∷ f) then → all ≡ t2 ++ 10 ∷ []
    → all ≡ line_text word (first ++ then)
line-appended word first then t0 t1 t2 all e0 e1 e2 end =
    let fields : t2 ≡ word ++ flat_map (λ f. 9 ∷ f) (first ++ then) =
    e2 ∙ ap (λ t. t ++ flat_map (λ f. 9 ∷ f) then) (e1 ∙ ap (λ t. t ++ flat_map (λ f. 9 ∷ f) first) e0)
    ∙ append_assoc word (flat_map (λ f. 9 ∷ f) first) (flat_map (λ f. 9 ∷ f) then)
    ∙ ap (λ fs. word ++ fs) (sym (flat_map-append (λ f. 9 ∷ f) first then)) in
    end ∙ ap (λ t. t ++ 10 ∷ []) fields
