-- Facts of a list that are put one after another, in order of their ids.
use Rattle.std.proofs.Common.{◌≡◌, ℕ, zero, suc, ◌+◌, ◌<◌, ◌≤◌, true, false, List, [], ◌∷◌, ◌++◌, length, refl, ap, sym, ◌∙◌, subst, arith}
use Rattle.std.specs.Prelude.{All, AllPairs, filter, nat_lt}
use Rattle.std.proofs.lemmas.Bool.Decides.{nat_tests}
use Rattle.std.proofs.lemmas.List.Elements.{All-head, All-tail}
use Rattle.cube_model.specs.declared.edit.Fact.{Fact}
use Rattle.cube_model.specs.Facts.{put}

-- each fact has a smaller id than every later one, so the first has a smaller one than all others, and these are in order too
pairs-first : (fact : Fact) (facts : List Fact) → AllPairs (λ f g. f.id < g.id) (fact ∷ facts) → All (λ f. fact.id < f.id) facts
pairs-first fact facts pairs k d within = pairs 0 (suc k) d (omega arith) (omega arith)

pairs-rest : (fact : Fact) (facts : List Fact) → AllPairs (λ f g. f.id < g.id) (fact ∷ facts) → AllPairs (λ f g. f.id < g.id) facts
pairs-rest fact facts pairs i j d before within = pairs (suc i) (suc j) d (omega arith) (omega arith)

-- facts of smaller ids stay before the one that is put
below-stay : (id : ℕ) (facts : List Fact) → All (λ f. f.id < id) facts → filter (λ f. nat_lt f.id id) facts ≡ facts
below-stay id [] below = refl
below-stay id (fact ∷ facts) below =
    let here : fact.id < id = All-head (λ f. f.id < id) fact facts below in
    let so : nat_lt fact.id id ≡ true = grind (arith, nat_tests) in
    rw so (ap (λ fs. fact ∷ fs) (below-stay id facts (All-tail (λ f. f.id < id) fact facts below)))

none-above : (id : ℕ) (facts : List Fact) → All (λ f. f.id < id) facts → filter (λ f. nat_lt id f.id) facts ≡ []
none-above id [] below = refl
none-above id (fact ∷ facts) below =
    let here : fact.id < id = All-head (λ f. f.id < id) fact facts below in
    let so : nat_lt id fact.id ≡ false = grind (arith, nat_tests) in
    rw so (none-above id facts (All-tail (λ f. f.id < id) fact facts below))

put-last : (fact : Fact) (facts : List Fact) → All (λ f. f.id < fact.id) facts → put fact facts ≡ facts ++ fact ∷ []
put-last fact facts below = ap (λ fs. fs ++ fact ∷ filter (λ f. nat_lt fact.id f.id) facts) (below-stay fact.id facts below) ∙ ap (λ fs. facts ++ fact ∷ fs) (none-above fact.id facts below)

-- of facts in order, those before one have smaller ids
before-below : (some : List Fact) (fact : Fact) (left : List Fact) → AllPairs (λ f g. f.id < g.id) (some ++ fact ∷ left) → All (λ f. f.id < fact.id) some
before-below [] fact left up k d within = absurd (omega arith)
before-below (first ∷ some) fact left up zero d within = among some (pairs-first first (some ++ fact ∷ left) up)
  where
    among : (xs : List Fact) → All (λ f. first.id < f.id) (xs ++ fact ∷ left) → first.id < fact.id
    among [] all = All-head (λ f. first.id < f.id) fact left all
    among (x ∷ xs) all = among xs (All-tail (λ f. first.id < f.id) x (xs ++ fact ∷ left) all)
before-below (first ∷ some) fact left up (suc k) d within = before-below some fact left (pairs-rest first (some ++ fact ∷ left) up) k d (omega (arith, within))

append-one : (some : List Fact) (fact : Fact) (left : List Fact) → (some ++ fact ∷ []) ++ left ≡ some ++ fact ∷ left
append-one [] fact left = refl
append-one (first ∷ some) fact left = ap (λ fs. first ∷ fs) (append-one some fact left)

-- Some facts of a list were put, in order; the others are left, and there is room for them.
pub record ArePut (all : List Fact) (room spare : ℕ) (done left : List Fact) : Type 0 where
  pub order : AllPairs (λ f g. f.id < g.id) all
  pub parts : done ++ left ≡ all
  pub rest : room + length left ≤ spare + length all
  pub enough : length all ≤ room

pub put-next : {all : List Fact} {room spare : ℕ} {done left : List Fact} → ArePut all room spare done left → (fact : Fact) (rest done' : List Fact) (spare' : ℕ) → left ≡ fact ∷ rest → done' ≡ put fact done → spare ≤ spare' + 1
    → ArePut all room spare' done' rest
put-next {all} {room} {spare} {done} {left} are fact rest done' spare' is put_is less =
    let parts : done ++ fact ∷ rest ≡ all = sym (ap (λ fs. done ++ fs) is) ∙ are.parts in
    let below = before-below done fact rest (subst (AllPairs (λ f g. f.id < g.id)) (sym parts) are.order) in
    record {
      order = are.order;
      parts = ap (λ fs. fs ++ rest) (put_is ∙ put-last fact done below) ∙ append-one done fact rest ∙ parts;
      rest = omega (arith, are.rest, ap length is, less);
      enough = are.enough;
    }
