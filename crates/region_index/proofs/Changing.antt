-- What changes make of the ids at a code: which are there then, that they ascend, and where nothing changes.
use Rattle.std.proofs.Common.{◌≡◌, ℕ, ◌+◌, ◌<◌, ◌≤◌, Bool, true, false, List, [], ◌∷◌, ◌++◌, length, map, filter, not, take, get_or, eqb, cond, inl, inr, ◌⊎◌, refl, sym, ap, subst, ◌∙◌, true≢false, arith}
use Rattle.std.specs.Prelude.{◌&&◌, ◌||◌, ◌==◌, if◌then◌else◌, nat_lt, IfSome, Option, Some, None, is_some, unwrap_or}
use Rattle.std.specs.Cmp.{nat_eq_equiv}
use Rattle.std.specs.List.{IsDistinct, list_any}
use Rattle.std.specs.Option.{option_flatten, option_map_or}
use Rattle.std.proofs.lemmas.Bool.Decides.{nat_tests}
use Rattle.std.proofs.lemmas.List.{map-append}
use Rattle.std.proofs.lemmas.List.Elements.{filter_more}
use Rattle.std.proofs.lemmas.List.Folds.{list_any-append}
use Rattle.std.proofs.lemmas.Map.Keys.{IsDistinct-from_apart}
use Rattle.std.proofs.lemmas.Map.Views.{any-filter_same}
use Rattle.cube_model.specs.Ascending.{ascends_from}
use Rattle.cube_model.specs.Cells.{is_among}
use Rattle.cube_model.proofs.Ascending.{AscendsFrom, ascends_cons, ascends_filter, ascends_first, ascends_later, same_members}
use Rattle.staged_map.specs.Staged.{Entries, Places, PutsAll, Reserves, ReservesSome, has_place, staged_entry, value_at}
use Rattle.staged_map.proofs.Entries.{have_places-reserved, keys_of-made, staged_entry-made}
use Rattle.region_index.specs.Changes.{Applies, AreByCode, HavePlacesForIds, IsStagedFor, IsStaging, IsUnchanged, Pair, Staging, changed_entry, entry_ids, ids_after, is_named, names, some_ids, staging, with_id, with_puts, without}
use Rattle.region_index.specs.Content.{AreAscending, Content, IsContent, ids_at}
use Rattle.region_index.proofs.Ascent.{filters-above}

-- a number is among those that pass where it was there and passes
pub among-filter : (p : ℕ → Bool) (ids : List ℕ) (id : ℕ) → is_among (filter p ids) id ≡ (p id && is_among ids id)
among-filter p ids id = any-filter_same (λ m. m == id) p (p id) (λ m same. let it : m ≡ id = grind (arith, nat_tests, same) in ap p it) ids

pub among-append : (xs ys : List ℕ) (id : ℕ) → is_among (xs ++ ys) id ≡ (is_among xs id || is_among ys id)
among-append xs ys id = list_any-append (λ m. m == id) xs ys

pub among-with_id : (new : ℕ) (ids : List ℕ) (id : ℕ) → is_among (with_id new ids) id ≡ ((new == id) || is_among ids id)
among-with_id new ids id =
    among-append (filter (λ i. nat_lt i new) ids) (new ∷ filter (λ i. nat_lt new i) ids) id
    ∙ rw (among-filter (λ i. nat_lt i new) ids id, among-filter (λ i. nat_lt new i) ids id) (grind (arith, nat_tests))

-- what is there once ids are put
pub among-with_puts : (puts : List Pair) (code : ℕ) (ids : List ℕ) (id : ℕ) → is_among (with_puts puts code ids) id ≡ (is_named puts code id || is_among ids id)
among-with_puts [] code ids id = refl
among-with_puts (put ∷ puts) code ids id = among-with_puts puts code (if put.0 == code then with_id put.1 ids else ids) id ∙ either (put.0 == code)
  where
    either : (b : Bool) → (is_named puts code id || is_among (if b then with_id put.1 ids else ids) id) ≡ (((b && put.1 == id) || is_named puts code id) || is_among ids id)
    either true = grind (arith, among-with_id put.1 ids id)
    either false = refl

pub among-after : (puts drops : List Pair) (code : ℕ) (ids : List ℕ) (id : ℕ) → is_among (ids_after puts drops code ids) id ≡ (is_named puts code id || (is_among ids id && not (is_named drops code id)))
among-after puts drops code ids id =
    among-with_puts puts code (without drops code ids) id
    ∙ rw (among-filter (λ i. not (is_named drops code i)) ids id) (grind arith)

cases_lt : (i j : ℕ) → (i < j) ⊎ (j ≤ i)
cases_lt i j = either (nat_lt i j) refl
  where
    either : (b : Bool) → nat_lt i j ≡ b → (i < j) ⊎ (j ≤ i)
    either true is = inl (grind (arith, nat_tests, is))
    either false is = inr (grind (arith, nat_tests, is))

-- the smaller numbers, then the new one, then the greater ones
pub ascends-parts : (least new : ℕ) (ids : List ℕ) → ascends_from (λ i. i) least ids ≡ true → least ≤ new → ascends_from (λ i. i) least (with_id new ids) ≡ true
ascends-parts least new [] ascends from = ascends_cons (λ i. i) least new [] (record { from = from; others = refl })
ascends-parts least new (i ∷ ids) ascends from = either (cases_lt i new) (ascends-parts (i + 1) new ids first.others)
  where
    first : AscendsFrom (λ i. i) least i ids
    first = ascends_first (λ i. i) least i ids ascends

    others : (b : Bool) → nat_lt new i ≡ b → new ≤ i → ascends_from (λ i. i) (new + 1) (if b then i ∷ filter (λ j. nat_lt new j) ids else filter (λ j. nat_lt new j) ids) ≡ true
    others true less upper = rw ((filters-above (i + 1) new ids (omega (arith, upper)) first.others).1) (ascends_cons (λ i. i) (new + 1) i ids (record { from = grind (arith, nat_tests, less); others = first.others }))
    others false less upper =
        let same : i ≡ new = grind (arith, nat_tests, less, upper) in
        rw ((filters-above (i + 1) new ids (omega (arith, upper)) first.others).1) (rw same at first.others)

    either : (i < new) ⊎ (new ≤ i) → (i + 1 ≤ new → ascends_from (λ i. i) (i + 1) (with_id new ids) ≡ true) → ascends_from (λ i. i) least (with_id new (i ∷ ids)) ≡ true
    either (inl lower) rest =
        let less : nat_lt i new ≡ true = grind (arith, nat_tests, lower) in
        let not_greater : nat_lt new i ≡ false = grind (arith, nat_tests, lower) in
        rw (less, not_greater) (ascends_cons (λ i. i) least i (with_id new ids) (record { from = first.from; others = rest (omega (arith, lower)) }))
    either (inr upper) rest =
        let not_less : nat_lt i new ≡ false = grind (arith, nat_tests, upper) in
        rw (not_less, (filters-above (i + 1) new ids (omega (arith, upper)) first.others).0)
        (ascends_cons (λ i. i) least new (filter (λ j. nat_lt new j) (i ∷ ids)) (record { from = from; others = others (nat_lt new i) refl upper }))

ascends-with_puts : (puts : List Pair) (code : ℕ) (ids : List ℕ) → AreAscending ids → AreAscending (with_puts puts code ids)
ascends-with_puts [] code ids ascends = ascends
ascends-with_puts (put ∷ puts) code ids ascends = ascends-with_puts puts code (if put.0 == code then with_id put.1 ids else ids) (either (put.0 == code))
  where
    either : (b : Bool) → AreAscending (if b then with_id put.1 ids else ids)
    either true = ascends-parts 0 put.1 ids ascends (omega arith)
    either false = ascends

pub ascends-after : (puts drops : List Pair) (code : ℕ) (ids : List ℕ) → AreAscending ids → AreAscending (ids_after puts drops code ids)
ascends-after puts drops code ids ascends = ascends-with_puts puts code (without drops code ids) (ascends_filter (λ i. i) (λ i. not (is_named drops code i)) 0 ids ascends)

-- the ids of the pairs at a code are those that the pairs name there
pub among-named : (pairs : List Pair) (code id : ℕ) → is_among (map (λ pair. pair.1) (filter (λ pair. pair.0 == code) pairs)) id ≡ is_named pairs code id
among-named [] code id = refl
among-named (pair ∷ pairs) code id = either (pair.0 == code) (among-named pairs code id)
  where
    either : (b : Bool) → is_among (map (λ pair. pair.1) (filter (λ pair. pair.0 == code) pairs)) id ≡ is_named pairs code id
        → is_among (map (λ (pair : Pair). pair.1) (if b then pair ∷ filter (λ pair. pair.0 == code) pairs else filter (λ pair. pair.0 == code) pairs)) id ≡ ((b && pair.1 == id) || is_named pairs code id)
    either true rest = ap (λ b. (pair.1 == id) || b) rest
    either false rest = rest

-- so ids that ascend, of which the same are there, are what the changes make
pub changed-is : (puts drops : List Pair) (code : ℕ) (before put dropped ids : List ℕ) → AreAscending before → AreAscending ids
    → put ≡ map (λ pair. pair.1) (filter (λ pair. pair.0 == code) puts) → dropped ≡ map (λ pair. pair.1) (filter (λ pair. pair.0 == code) drops)
    → ((id : ℕ) → is_among ids id ≡ (is_among put id || (is_among before id && not (is_among dropped id)))) → ids ≡ ids_after puts drops code before
changed-is puts drops code before put dropped ids ascends ascending put_is dropped_is members =
    same_members 0 0 ids (ids_after puts drops code before) ascending (ascends-after puts drops code before ascends) (λ id.
    members id
    ∙ rw (put_is, dropped_is, among-named puts code id, among-named drops code id) refl
    ∙ sym (among-after puts drops code before id))

-- one pair more at its code
pub by_code-next : (pairs : List Pair) (i : ℕ) (d : Pair) (before now : List ℕ) (code : ℕ) → i < length pairs → before ≡ map (λ pair. pair.1) (filter (λ pair. pair.0 == code) (take i pairs))
    → now ≡ before ++ (if (get_or pairs i d).0 == code then (get_or pairs i d).1 ∷ [] else []) → now ≡ map (λ pair. pair.1) (filter (λ pair. pair.0 == code) (take (i + 1) pairs))
by_code-next pairs i d before now code within so_far is =
    is ∙ rw (filter_more (λ (pair : Pair). pair.0 == code) pairs i d within, so_far)
    (sym (map-append (λ (pair : Pair). pair.1) (filter (λ pair. pair.0 == code) (take i pairs)) (cond ((get_or pairs i d).0 == code) (get_or pairs i d ∷ []) []) ∙ ap (λ last. map (λ pair. pair.1) (filter (λ pair. pair.0 == code) (take i pairs)) ++ last) (single ((get_or pairs i d).0 == code))))
  where
    single : (b : Bool) → map (λ (pair : Pair). pair.1) (cond b (get_or pairs i d ∷ []) []) ≡ (if b then (get_or pairs i d).1 ∷ [] else [])
    single true = refl
    single false = refl

-- where no pair names the code, its ids stay
with_puts-none : (puts : List Pair) (code : ℕ) (ids : List ℕ) → list_any (λ pair. pair.0 == code) puts ≡ false → with_puts puts code ids ≡ ids
with_puts-none [] code ids none = refl
with_puts-none (put ∷ puts) code ids none =
    let other : (put.0 == code) ≡ false = grind (arith, none) in
    rw other (with_puts-none puts code ids (grind (arith, none)))

named-none : (drops : List Pair) (code id : ℕ) → list_any (λ pair. pair.0 == code) drops ≡ false → is_named drops code id ≡ false
named-none [] code id none = refl
named-none (drop ∷ drops) code id none = grind (arith, none, named-none drops code id)

filter-all : (p : ℕ → Bool) (ids : List ℕ) → ((id : ℕ) → p id ≡ true) → filter p ids ≡ ids
filter-all p [] each = refl
filter-all p (id ∷ ids) each = rw (each id, filter-all p ids each) refl

pub after-none : (puts drops : List Pair) (code : ℕ) (ids : List ℕ) → list_any (λ pair. pair.0 == code) (puts ++ drops) ≡ false → ids_after puts drops code ids ≡ ids
after-none puts drops code ids none =
    let parts : (list_any (λ pair. pair.0 == code) puts || list_any (λ pair. pair.0 == code) drops) ≡ false = sym (list_any-append (λ (pair : Pair). pair.0 == code) puts drops) ∙ none in
    let no_drop : list_any (λ (pair : Pair). pair.0 == code) drops ≡ false = grind (arith, parts) in
    let no_put : list_any (λ (pair : Pair). pair.0 == code) puts ≡ false = grind (arith, parts) in
    with_puts-none puts code (without drops code ids) no_put
    ∙ filter-all (λ id. not (is_named drops code id)) ids (λ id. rw (named-none drops code id no_drop) refl)

-- what ids are held as gives them back
entry_ids-held : (ids : List ℕ) → entry_ids (some_ids ids) ≡ ids
entry_ids-held [] = refl
entry_ids-held (id ∷ ids) = refl

-- numbers that ascend are distinct
pub distinct-ascending : (least : ℕ) (xs : List ℕ) → ascends_from (λ x. x) least xs ≡ true → IsDistinct eqb xs
distinct-ascending least xs ascends = IsDistinct-from_apart eqb xs (λ i j d before within.
    let less = ascends_later (λ x. x) least xs ascends i j d d before within in
    grind (arith, nat_tests, less))

pub any-flip : (codes : List ℕ) (code : ℕ) → list_any (eqb code) codes ≡ is_among codes code
any-flip [] code = refl
any-flip (c ∷ codes) code = rw (nat_eq_equiv.symm code c, any-flip codes code) refl

-- the content is as before where places were made alone
pub IsUnchanged-reserved : {V : Type 0} (old new : Places V) (codes : List ℕ) → Reserves old new codes → IsUnchanged old new
IsUnchanged-reserved old new codes reserves = record {
  values = reserves.values;
  places = λ code there. grind (arith, reserves.places code, there);
}

pub IsUnchanged-some : {V : Type 0} (old new : Places V) (codes : List ℕ) → ReservesSome old new codes → IsUnchanged old new
IsUnchanged-some old new codes reserves = record { values = reserves.values; places = reserves.kept }

pub IsUnchanged-same : {V : Type 0} (places : Places V) → IsUnchanged places places
IsUnchanged-same places = record { values = λ code. refl; places = λ code there. there }

pub IsContent-unchanged : (old new : Content) → IsUnchanged old new → IsContent old → IsContent new
IsContent-unchanged old new same is = record {
  ascending = λ code. rw (same.values code) (is.ascending code);
  some = λ code. rw (same.values code) (is.some code);
}

-- ids that are held as some are so
some_ids-some : (ids : List ℕ) → IfSome (some_ids ids) (λ some. 0 < length some)
some_ids-some [] = tt
some_ids-some (id ∷ ids) = omega arith

-- what is staged for a code that is among these
staged_entry-staging : (content : Content) (codes : List ℕ) (puts drops : List Pair) (code : ℕ)
    → staged_entry (staging content codes puts drops).entries code ≡ cond (is_among codes code) (Some (some_ids (ids_after puts drops code (ids_at content code)))) None
staged_entry-staging content codes puts drops code =
    staged_entry-made (λ code. some_ids (ids_after puts drops code (ids_at content code))) codes code
    ∙ ap (λ b. cond b (Some (some_ids (ids_after puts drops code (ids_at content code)))) None) (any-flip codes code)

-- entries for all codes that the changes name leave none of these out, and set no list without ids
pub IsStaging-made : (content : Content) (codes : List ℕ) (puts drops : List Pair) (stage : Staging) → stage ≡ staging content codes puts drops
    → ((code : ℕ) → is_among codes code ≡ names (puts ++ drops) code) → IsStaging stage
IsStaging-made content codes puts drops stage is names_are = rw is (record {
  named = λ code named. named_at code (names_are code ∙ named);
  some = λ code. some_at code (is_among codes code) (staged_entry-staging content codes puts drops code);
})
  where
    set : ℕ → Option (List ℕ)
    set code = some_ids (ids_after puts drops code (ids_at content code))

    named_at : (code : ℕ) → is_among codes code ≡ true → is_some (staged_entry (staging content codes puts drops).entries code) ≡ true
    named_at code among = ap is_some (staged_entry-staging content codes puts drops code ∙ ap (λ b. cond b (Some (set code)) None) among)

    some_at : (code : ℕ) (b : Bool) → staged_entry (staging content codes puts drops).entries code ≡ cond b (Some (set code)) None
        → IfSome (option_flatten (staged_entry (staging content codes puts drops).entries code)) (λ ids. 0 < length ids)
    some_at code true entry = subst (λ e. IfSome (option_flatten e) (λ ids. 0 < length ids)) (sym entry) (some_ids-some (ids_after puts drops code (ids_at content code)))
    some_at code false entry = subst (λ e. IfSome (option_flatten e) (λ ids. 0 < length ids)) (sym entry) tt

-- what was staged for all codes that the changes name is staged for the content
pub IsStagedFor-reserved : (old new : Content) (codes : List ℕ) (puts drops : List Pair) → AreAscending codes
    → ((code : ℕ) → is_among codes code ≡ list_any (λ pair. pair.0 == code) (puts ++ drops)) → Reserves old new codes → IsStagedFor new (staging old codes puts drops)
IsStagedFor-reserved old new codes puts drops ascends named reserves = record {
  different = rw (keys_of-made value codes) (distinct-ascending 0 codes ascends);
  makes = λ code. rw (ids_same code) (makes code (is_among codes code) refl);
  placed = have_places-reserved new old (staging old codes puts drops).entries (rw (keys_of-made value codes) reserves);
}
  where
    value : ℕ → Option (List ℕ)
    value code = some_ids (ids_after puts drops code (ids_at old code))

    ids_same : (code : ℕ) → ids_at new code ≡ ids_at old code
    ids_same code = ap (λ ids. unwrap_or ids []) (reserves.values code)

    entry : (code : ℕ) → staged_entry (staging old codes puts drops).entries code ≡ cond (is_among codes code) (Some (value code)) None
    entry code = staged_entry-staging old codes puts drops code

    makes : (code : ℕ) (b : Bool) → is_among codes code ≡ b → option_map_or entry_ids (staged_entry (staging old codes puts drops).entries code) (ids_at old code) ≡ ids_after puts drops code (ids_at old code)
    makes code true is = ap (λ e. option_map_or entry_ids e (ids_at old code)) (entry code ∙ ap (λ b. cond b (Some (value code)) None) is) ∙ entry_ids-held (ids_after puts drops code (ids_at old code))
    makes code false is =
        ap (λ e. option_map_or entry_ids e (ids_at old code)) (entry code ∙ ap (λ b. cond b (Some (value code)) None) is)
        ∙ sym (after-none puts drops code (ids_at old code) (sym (named code) ∙ is))

-- what is put leaves at each code the entry's ids, or those that were there
ids_at-put : (entry : Option (Option (List ℕ))) (was : Option (List ℕ)) → unwrap_or (unwrap_or entry was) [] ≡ option_map_or entry_ids entry (unwrap_or was [])
ids_at-put None was = refl
ids_at-put (Some ids) was = refl

pub Applies-put : (old new : Content) (stage : Staging) → IsStagedFor old stage → PutsAll old new stage.entries → Applies old new stage.puts stage.drops
Applies-put old new stage staged puts = record {
  ids = λ code. ap (λ ids. unwrap_or ids []) (puts.values code) ∙ ids_at-put (staged_entry stage.entries code) (value_at old code) ∙ staged.makes code;
}

-- an entry that sets no list without ids leaves none where none was
some-put : (entry : Option (Option (List ℕ))) (was : Option (List ℕ)) → IfSome (option_flatten entry) (λ ids. 0 < length ids) → IfSome was (λ ids. 0 < length ids) → IfSome (unwrap_or entry was) (λ ids. 0 < length ids)
some-put None was sets held = held
some-put (Some ids) was sets held = sets

-- so the ids ascend after as before, and no list without ids is kept
IsContent-put : (old new : Content) (stage : Staging) → IsContent old → IsStaging stage → IsStagedFor old stage → PutsAll old new stage.entries → IsContent new
IsContent-put old new stage is made staged puts = record {
  ascending = λ code. rw ((Applies-put old new stage staged puts).ids code) (ascends-after stage.puts stage.drops code (ids_at old code) (is.ascending code));
  some = λ code. rw (puts.values code) (some-put (staged_entry stage.entries code) (value_at old code) (made.some code) (is.some code));
}

pub IsContent-installed : (inside old new : Content) (entries : Entries (List ℕ)) (stage : Staging) → inside ≡ old → entries ≡ stage.entries → IsContent inside → IsStaging stage → IsStagedFor old stage
    → PutsAll inside new entries → IsContent new
IsContent-installed inside old new entries stage same entries_are is made staged puts =
    let put : PutsAll old new stage.entries = rw (same, entries_are) at puts in
    let was : IsContent old = rw same at is in
    IsContent-put old new stage was made staged put

-- where an entry was put, there is a place exactly where ids are held
placed-put : (entry : Option (Option (List ℕ))) (was : Option (List ℕ)) (place : Bool) → is_some entry ≡ true → IfSome (option_flatten entry) (λ ids. 0 < length ids)
    → option_map_or is_some entry place ≡ nat_lt 0 (length (unwrap_or (unwrap_or entry was) []))
placed-put None was place named sets = absurd (true≢false (sym named))
placed-put (Some None) was place named sets = refl
placed-put (Some (Some ids)) was place named sets = grind (arith, nat_tests, sets)

pub HavePlacesForIds-installed : (inside new : Content) (entries : Entries (List ℕ)) (stage : Staging) → entries ≡ stage.entries → IsStaging stage → PutsAll inside new entries → HavePlacesForIds new (stage.puts ++ stage.drops)
HavePlacesForIds-installed inside new entries stage entries_are made puts code named =
    let put : PutsAll inside new stage.entries = rw entries_are at puts in
    put.places code
    ∙ placed-put (staged_entry stage.entries code) (value_at inside code) (has_place inside code) (made.named code named) (made.some code)
    ∙ sym (ap (λ ids. nat_lt 0 (length (unwrap_or ids []))) (put.values code))

-- the members of a list that is kept in part, with more behind it
pub among-kept : (ids kept put all changed : List ℕ) (dropped : List ℕ) → kept ≡ filter (λ id. not (is_among dropped id)) ids → all ≡ kept ++ put → ((id : ℕ) → is_among changed id ≡ is_among all id)
    → (id : ℕ) → is_among changed id ≡ (is_among put id || (is_among ids id && not (is_among dropped id)))
among-kept ids kept put all changed dropped kept_is all_is same id =
    same id ∙ rw (all_is, kept_is, among-append (filter (λ id. not (is_among dropped id)) ids) put id, among-filter (λ id. not (is_among dropped id)) ids id) (grind arith)

-- ids that ascend, of which those are there that the changes leave, are a code's entry
pub entry-of : (content : Content) (code : ℕ) (ids put_ids dropped_ids : List ℕ) (made : Option (List ℕ)) (puts drops : List Pair)
    → put_ids ≡ map (λ pair. pair.1) (filter (λ pair. pair.0 == code) puts) → dropped_ids ≡ map (λ pair. pair.1) (filter (λ pair. pair.0 == code) drops) → AreAscending (ids_at content code) → AreAscending ids
    → ((id : ℕ) → is_among ids id ≡ (is_among put_ids id || (is_among (ids_at content code) id && not (is_among dropped_ids id)))) → made ≡ some_ids ids → (code, made) ≡ changed_entry content puts drops code
entry-of content code ids put_ids dropped_ids made puts drops put_is dropped_is was ascending members is =
    ap (λ entry. (code, entry)) (is ∙ ap some_ids (changed-is puts drops code (ids_at content code) put_ids dropped_ids ids was ascending put_is dropped_is members))

-- so where the changes stand by code
pub entry-made : (content put dropped : Content) (code : ℕ) (ids put_ids dropped_ids : List ℕ) (made : Option (List ℕ)) → put_ids ≡ ids_at put code → dropped_ids ≡ ids_at dropped code
    → AreAscending (ids_at content code) → AreAscending ids
    → ((id : ℕ) → is_among ids id ≡ (is_among put_ids id || (is_among (ids_at content code) id && not (is_among dropped_ids id)))) → made ≡ some_ids ids
    → (puts drops : List Pair) → AreByCode put puts → AreByCode dropped drops → (code, made) ≡ changed_entry content puts drops code
entry-made content put dropped code ids put_ids dropped_ids made put_is dropped_is was ascending members is puts drops puts_are drops_are =
    entry-of content code ids put_ids dropped_ids made puts drops (put_is ∙ puts_are.ids code) (dropped_is ∙ drops_are.ids code) was ascending members is

-- where nothing is dropped, all stay
pub kept-all : (dropped ids : List ℕ) → (length dropped == 0) ≡ true → ids ≡ filter (λ id. not (is_among dropped id)) ids
kept-all [] [] none = refl
kept-all [] (id ∷ ids) none = ap (λ rest. id ∷ rest) (kept-all [] ids none)
kept-all (id ∷ dropped) ids none = absurd (grind (arith, nat_tests, none))

-- what was staged before places were made
pub IsStagedFor-made : (inside old new : Content) (codes given reserved : List ℕ) (puts drops : List Pair) (stage : Staging) → inside ≡ old → given ≡ codes → reserved ≡ codes → stage ≡ staging old given puts drops
    → AreAscending codes → ((code : ℕ) → is_among codes code ≡ list_any (λ pair. pair.0 == code) (puts ++ drops)) → Reserves inside new reserved → IsStagedFor new stage
IsStagedFor-made inside old new codes given reserved puts drops stage same given_is reserved_is stage_is ascends named reserves =
    let room : Reserves old new codes = rw (same, reserved_is) at reserves in
    rw (stage_is, given_is) (IsStagedFor-reserved old new codes puts drops ascends named room)

-- nothing is staged for no changes
pub IsStagedFor-nothing : (content : Content) (stage : Staging) → stage ≡ record { puts = []; drops = []; entries = [] } → IsStagedFor content stage
unfolding IsDistinct
IsStagedFor-nothing content stage is = rw is (record { different = tt; makes = λ code. stay code (ids_at content code); placed = refl })
  where
    stay : (code : ℕ) (ids : List ℕ) → ids ≡ ids_after [] [] code ids
    stay code [] = refl
    stay code (id ∷ ids) = ap (λ others. id ∷ others) (stay code ids)
