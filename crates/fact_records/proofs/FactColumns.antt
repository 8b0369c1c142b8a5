-- Facts in columns: what an edit of the columns does to the facts.
use Rattle.std.proofs.Common.{◌≡◌, ℕ, ℤ, zero, suc, ◌<◌, ◌≤◌, List, [], ◌∷◌, ◌++◌, length, map, take, drop, get_or, set, Some, refl, sym, ap, ◌∙◌, arith}
use Rattle.std.specs.List.{insert, remove, slice_get}
use Rattle.std.proofs.lemmas.List.{length-take-le}
use Rattle.cube_model.specs.declared.edit.Fact.{Fact}
use Rattle.fact_records.specs.Cut.{id_at}
use Rattle.fact_records.specs.FactColumns.{AreColumns, facts_of}

-- as many facts as ids
pub length-facts_of : (ids : List ℕ) (regions : List (List ℕ)) (values : List (List ℤ)) → length regions ≡ length ids → length values ≡ length ids → length (facts_of ids regions values) ≡ length ids
length-facts_of [] regions values e f = refl
length-facts_of (id ∷ ids) [] values e f = absurd (omega arith)
length-facts_of (id ∷ ids) (region ∷ regions) [] e f = absurd (omega arith)
length-facts_of (id ∷ ids) (region ∷ regions) (cols ∷ values) e f = ap suc (length-facts_of ids regions values (omega arith) (omega arith))

-- the ids are those of the facts
pub ids-facts_of : (ids : List ℕ) (regions : List (List ℕ)) (values : List (List ℤ)) → length regions ≡ length ids → length values ≡ length ids → map (λ f. f.id) (facts_of ids regions values) ≡ ids
ids-facts_of [] regions values e f = refl
ids-facts_of (id ∷ ids) [] values e f = absurd (omega arith)
ids-facts_of (id ∷ ids) (region ∷ regions) [] e f = absurd (omega arith)
ids-facts_of (id ∷ ids) (region ∷ regions) (cols ∷ values) e f = ap (λ l. id ∷ l) (ids-facts_of ids regions values (omega arith) (omega arith))

-- an id is read at its place
pub get_or-ids : (facts : List Fact) (k : ℕ) → get_or (map (λ f. f.id) facts) k 0 ≡ id_at facts k
get_or-ids [] k = refl
get_or-ids (fact ∷ facts) zero = refl
get_or-ids (fact ∷ facts) (suc k) = get_or-ids facts k

pub facts-take : (k : ℕ) (ids : List ℕ) (regions : List (List ℕ)) (values : List (List ℤ)) → facts_of (take k ids) (take k regions) (take k values) ≡ take k (facts_of ids regions values)
facts-take zero ids regions values = refl
facts-take (suc k) [] regions values = refl
facts-take (suc k) (id ∷ ids) [] values = refl
facts-take (suc k) (id ∷ ids) (region ∷ regions) [] = refl
facts-take (suc k) (id ∷ ids) (region ∷ regions) (cols ∷ values) = ap (λ l. record { id = id; region = region; cols = cols } ∷ l) (facts-take k ids regions values)

pub facts-drop : (k : ℕ) (ids : List ℕ) (regions : List (List ℕ)) (values : List (List ℤ)) → length regions ≡ length ids → length values ≡ length ids → facts_of (drop k ids) (drop k regions) (drop k values) ≡ drop k (facts_of ids regions values)
facts-drop zero ids regions values e f = refl
facts-drop (suc k) [] regions values e f = refl
facts-drop (suc k) (id ∷ ids) [] values e f = absurd (omega arith)
facts-drop (suc k) (id ∷ ids) (region ∷ regions) [] e f = absurd (omega arith)
facts-drop (suc k) (id ∷ ids) (region ∷ regions) (cols ∷ values) e f = facts-drop k ids regions values (omega arith) (omega arith)

pub facts-append : (ids others : List ℕ) (regions more : List (List ℕ)) (values rest : List (List ℤ)) → length regions ≡ length ids → length values ≡ length ids → facts_of (ids ++ others) (regions ++ more) (values ++ rest) ≡ facts_of ids regions values ++ facts_of others more rest
facts-append [] others [] more [] rest e f = refl
facts-append [] others [] more (cols ∷ values) rest e f = absurd (omega arith)
facts-append [] others (region ∷ regions) more values rest e f = absurd (omega arith)
facts-append (id ∷ ids) others [] more values rest e f = absurd (omega arith)
facts-append (id ∷ ids) others (region ∷ regions) more [] rest e f = absurd (omega arith)
facts-append (id ∷ ids) others (region ∷ regions) more (cols ∷ values) rest e f = ap (λ l. record { id = id; region = region; cols = cols } ∷ l) (facts-append ids others regions more values rest (omega arith) (omega arith))

pub facts-get : (ids : List ℕ) (regions : List (List ℕ)) (values : List (List ℤ)) (k id : ℕ) (region : List ℕ) (cols : List ℤ) → slice_get ids k ≡ Some id → slice_get regions k ≡ Some region → slice_get values k ≡ Some cols → slice_get (facts_of ids regions values) k ≡ Some (record { id = id; region = region; cols = cols })
facts-get [] regions values k id region cols at_id at_region at_cols = cc
facts-get (x ∷ ids) [] values k id region cols at_id at_region at_cols = cc
facts-get (x ∷ ids) (y ∷ regions) [] k id region cols at_id at_region at_cols = cc
facts-get (x ∷ ids) (y ∷ regions) (z ∷ values) zero id region cols at_id at_region at_cols =
    let one : x ≡ id = cc in
    let two : y ≡ region = cc in
    let three : z ≡ cols = cc in
    ap (λ a. Some (record { id = a; region = y; cols = z })) one ∙ ap (λ a. Some (record { id = id; region = a; cols = z })) two ∙ ap (λ a. Some (record { id = id; region = region; cols = a })) three
facts-get (x ∷ ids) (y ∷ regions) (z ∷ values) (suc k) id region cols at_id at_region at_cols = facts-get ids regions values k id region cols at_id at_region at_cols

pub facts-set : (ids : List ℕ) (regions : List (List ℕ)) (values : List (List ℤ)) (k id : ℕ) (region : List ℕ) (cols : List ℤ) → facts_of (set ids k id) (set regions k region) (set values k cols) ≡ set (facts_of ids regions values) k (record { id = id; region = region; cols = cols })
facts-set [] regions values k id region cols = refl
facts-set (x ∷ ids) [] values zero id region cols = refl
facts-set (x ∷ ids) [] values (suc k) id region cols = refl
facts-set (x ∷ ids) (y ∷ regions) [] zero id region cols = refl
facts-set (x ∷ ids) (y ∷ regions) [] (suc k) id region cols = refl
facts-set (x ∷ ids) (y ∷ regions) (z ∷ values) zero id region cols = refl
facts-set (x ∷ ids) (y ∷ regions) (z ∷ values) (suc k) id region cols = ap (λ l. record { id = x; region = y; cols = z } ∷ l) (facts-set ids regions values k id region cols)

pub facts-insert : (ids : List ℕ) (regions : List (List ℕ)) (values : List (List ℤ)) (k id : ℕ) (region : List ℕ) (cols : List ℤ) → length regions ≡ length ids → length values ≡ length ids → k ≤ length ids → facts_of (insert ids k id) (insert regions k region) (insert values k cols) ≡ insert (facts_of ids regions values) k (record { id = id; region = region; cols = cols })
facts-insert ids regions values k id region cols e f le =
    let front = length-take-le k ids le in
    let fact : Fact = record { id = id; region = region; cols = cols } in
    facts-append (take k ids) (id ∷ drop k ids) (take k regions) (region ∷ drop k regions) (take k values) (cols ∷ drop k values) (omega (arith, front, length-take-le k regions (omega arith))) (omega (arith, front, length-take-le k values (omega arith))) ∙ ap (λ l. l ++ fact ∷ facts_of (drop k ids) (drop k regions) (drop k values)) (facts-take k ids regions values) ∙ ap (λ l. take k (facts_of ids regions values) ++ fact ∷ l) (facts-drop k ids regions values e f)

pub facts-remove : (ids : List ℕ) (regions : List (List ℕ)) (values : List (List ℤ)) (k : ℕ) → length regions ≡ length ids → length values ≡ length ids → k < length ids → facts_of (remove ids k) (remove regions k) (remove values k) ≡ remove (facts_of ids regions values) k
facts-remove ids regions values k e f lt =
    let front = length-take-le k ids (omega arith) in
    facts-append (take k ids) (drop (suc k) ids) (take k regions) (drop (suc k) regions) (take k values) (drop (suc k) values) (omega (arith, front, length-take-le k regions (omega arith))) (omega (arith, front, length-take-le k values (omega arith))) ∙ ap (λ l. l ++ facts_of (drop (suc k) ids) (drop (suc k) regions) (drop (suc k) values)) (facts-take k ids regions values) ∙ ap (λ l. take k (facts_of ids regions values) ++ l) (facts-drop (suc k) ids regions values e f)

-- as many facts are seen as there are ids
pub length-columns : (ids : List ℕ) (places : ℕ) (regions : List (List ℕ)) (values : List (List ℤ)) (seen : List Fact) → AreColumns ids places regions values → facts_of ids regions values ≡ seen → length seen ≡ length ids
length-columns ids places regions values seen columns e = sym (ap length e) ∙ length-facts_of ids regions values columns.with_regions columns.with_values
