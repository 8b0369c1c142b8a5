-- A feed whose first lines are followed: what they do is the first of what all do, and what is told of its parts.
use Rattle.std.proofs.Common.{◌≡◌, ℕ, zero, suc, ◌+◌, ◌-◌, ◌≤◌, List, [], ◌∷◌, ◌++◌, length, map, take, refl, sym, ap, ◌∙◌, subst, append_assoc, append-nil, arith, length-append, Option, Some, None, Result, Ok, Err}
use Rattle.std.specs.List.{concat, range_with_len}
use Rattle.std.proofs.lemmas.List.{length-map, take_all, take_at}
use Rattle.fact_keeper.specs.declared.content.Batch.{Batch}
use Rattle.feed_run.specs.declared.feed_stop.FeedStop.{FeedStop}
use Rattle.feed_run.specs.Following.{AtStart, Base, Between, Followed, InBase, InSchema, Moved, Place, Within, after_step, applied_at, applied_text, applied_texts, follow_from, followed, kept_parts, parts_at, step_at}
use Rattle.cube_cli.proofs.FeedSteps.{HoldsOfSteps, step_at-holds}

-- what some lines do, and then others
abbrev pub joined_with : Followed → Followed → Followed
joined_with front behind = record { place = behind.place; batches = front.batches ++ behind.batches; stop = behind.stop; lines = front.lines + behind.lines }

module _ (base : Option Base) where
  -- lines that stop do so whatever follows
  stopped-step : (place : Place) (result : Result Moved FeedStop) (later more : Place → Followed) (stop : FeedStop) → ((next : Place) → (later next).stop ≡ Some stop → more next ≡ later next)
      → (after_step place later result).stop ≡ Some stop → after_step place more result ≡ after_step place later result
  stopped-step place (Err why) later more stop same stops = refl
  stopped-step place (Ok moved) later more stop same stops =
      ap (λ (behind : Followed). record { place = behind.place; batches = moved.batches ++ behind.batches; stop = behind.stop; lines = behind.lines + 1 }) (same moved.place stops)

  pub stopped-more : (n : ℕ) (place : Place) (lines more : List (List ℕ)) (stop : FeedStop) → (follow_from base n place lines).stop ≡ Some stop → follow_from base n place (lines ++ more) ≡ follow_from base n place lines
  stopped-more n place [] more stop stops = cc
  stopped-more n place (line ∷ lines) more stop stops =
      stopped-step place (step_at base n place line) (λ next. follow_from base (n + 1) next lines) (λ next. follow_from base (n + 1) next (lines ++ more)) stop
      (λ next stops. stopped-more (n + 1) next lines more stop stops) stops

  -- lines that do not are followed by the others
  going-step : (place : Place) (result : Result Moved FeedStop) (later more : Place → Followed) (behind : Place → Followed) → ((next : Place) → (later next).stop ≡ None → more next ≡ joined_with (later next) (behind (later next).place))
      → (after_step place later result).stop ≡ None → after_step place more result ≡ joined_with (after_step place later result) (behind (after_step place later result).place)
  going-step place (Err why) later more behind same goes = cc
  going-step place (Ok moved) later more behind same goes =
      let here = later moved.place in
      let there = behind here.place in
      ap (λ (rest : Followed). record { place = rest.place; batches = moved.batches ++ rest.batches; stop = rest.stop; lines = rest.lines + 1 }) (same moved.place goes)
      ∙ both (sym (append_assoc moved.batches here.batches there.batches)) (omega arith)
    where
      both : {place : Place} {stop : Option FeedStop} {batches others : List Batch} {lines numbers : ℕ} → batches ≡ others → lines ≡ numbers
          → ◌≡◌ {A = Followed} (record { place = place; batches = batches; stop = stop; lines = lines }) (record { place = place; batches = others; stop = stop; lines = numbers })
      both batches lines = rw (batches, lines) refl

  pub going-more : (n : ℕ) (place : Place) (lines more : List (List ℕ)) → (follow_from base n place lines).stop ≡ None
      → follow_from base n place (lines ++ more) ≡ joined_with (follow_from base n place lines) (follow_from base (n + length lines) (follow_from base n place lines).place more)
  going-more n place [] more goes =
      let start : Followed = record { place = place; batches = []; stop = None; lines = 0 } in
      let later = follow_from base n place more in
      let number : n + 0 ≡ n = omega arith in
      let count : 0 + later.lines ≡ later.lines = omega arith in
      sym (ap (λ m. joined_with start (follow_from base m place more)) number ∙ ap (λ k. record { place = later.place; batches = later.batches; stop = later.stop; lines = k }) count)
  going-more n place (line ∷ lines) more goes =
      let number : n + 1 + length lines ≡ n + length (line ∷ lines) = omega arith in
      subst (λ m. follow_from base n place ((line ∷ lines) ++ more) ≡ joined_with (follow_from base n place (line ∷ lines)) (follow_from base m (follow_from base n place (line ∷ lines)).place more)) number
      (going-step place (step_at base n place line) (λ next. follow_from base (n + 1) next lines) (λ next. follow_from base (n + 1) next (lines ++ more)) (λ next. follow_from base (n + 1 + length lines) next more)
      (λ next goes. going-more (n + 1) next lines more goes) goes)

  -- all of them are looked at
  going-step-lines : (place : Place) (result : Result Moved FeedStop) (later : Place → Followed) (count : ℕ) → ((next : Place) → (later next).stop ≡ None → (later next).lines ≡ count) → (after_step place later result).stop ≡ None
      → (after_step place later result).lines ≡ count + 1
  going-step-lines place (Err why) later count same goes = cc
  going-step-lines place (Ok moved) later count same goes = ap (λ n. n + 1) (same moved.place goes)

  pub going-lines : (n : ℕ) (place : Place) (lines : List (List ℕ)) → (follow_from base n place lines).stop ≡ None → (follow_from base n place lines).lines ≡ length lines
  going-lines n place [] goes = refl
  going-lines n place (line ∷ lines) goes =
      going-step-lines place (step_at base n place line) (λ next. follow_from base (n + 1) next lines) (length lines) (λ next goes. going-lines (n + 1) next lines goes) goes
      ∙ omega arith

  -- and where they stop, one at least
  pub stopped-lines : (n : ℕ) (place : Place) (lines : List (List ℕ)) (stop : FeedStop) → (follow_from base n place lines).stop ≡ Some stop → 1 ≤ (follow_from base n place lines).lines
  stopped-lines n place [] stop stops = cc
  stopped-lines n place (line ∷ lines) stop stops = by (step_at base n place line)
    where
      by : (result : Result Moved FeedStop) → 1 ≤ (after_step place (λ next. follow_from base (n + 1) next lines) result).lines
      by (Err why) = omega arith
      by (Ok moved) = omega arith

-- how many batches the parts commit, of which the first is the base
abbrev pub committed_by : Option Base → ℕ → ℕ
committed_by None parts = parts
committed_by (Some base) parts = parts - 1

module _ (base : Option Base) where
  -- the batches of a line are those of its parts, and no part is lost
  pub record Counts (place : Place) (moved : Moved) : Type 0 where
    pub batches : committed_by base (parts_at place) + length moved.batches ≡ committed_by base (parts_at moved.place)
    pub more : parts_at place ≤ parts_at moved.place

  stays : (place next : Place) → parts_at next ≡ parts_at place → Counts place (record { place = next; batches = [] })
  stays place next same = record { batches = omega (arith, ap (committed_by base) same); more = omega (arith, same) }

  none_commits_one : base ≡ None → committed_by base 0 + 1 ≡ committed_by base 1
  none_commits_one none = rw none refl

  over_commits_none : (held : Base) → base ≡ Some held → committed_by base 0 + 0 ≡ committed_by base 1
  over_commits_none held is = rw is refl

  batch_commits_one : (over : Option Base) (applied : ℕ) → committed_by over (applied + 1) + 1 ≡ committed_by over (applied + 1 + 1)
  batch_commits_one None applied = refl
  batch_commits_one (Some held) applied = omega arith

  each_counts : HoldsOfSteps base Counts
  each_counts = record {
    started = stays AtStart (InSchema []) refl;
    schema_line = λ before bytes. stays (InSchema before) (InSchema (before ++ bytes ∷ [])) refl;
    schema_read = λ before bytes read is. stays (InSchema before) (InBase read.schema []) refl;
    fact = λ schema facts bytes fact is none. stays (InBase schema facts) (InBase schema (facts ++ fact ∷ [])) refl;
    begun = λ schema facts none few. record { batches = none_commits_one none; more = omega arith };
    met = λ held schema facts is texts differ. record { batches = over_commits_none held is; more = omega arith };
    said = λ work bytes number said batch rest is are. stays (Between work) (Within _ batch _) refl;
    told = λ work batch bytes next left. stays (Within work batch (bytes ∷ next ∷ left)) (Within work batch (next ∷ left)) refl;
    done = λ work batch bytes. record { batches = batch_commits_one base work.applied; more = omega arith };
  }

  -- so it is of lines
  pub record CountsAll (place : Place) (later : Followed) : Type 0 where
    pub batches : committed_by base (parts_at place) + length later.batches ≡ committed_by base (parts_at later.place)
    pub more : parts_at place ≤ parts_at later.place

  step-counts : (place : Place) (result : Result Moved FeedStop) (later : Place → Followed) → ((moved : Moved) → result ≡ Ok moved → Counts place moved) → ((next : Place) → CountsAll next (later next)) → CountsAll place (after_step place later result)
  step-counts place (Err why) later counts each = record { batches = omega arith; more = omega arith }
  step-counts place (Ok moved) later counts each =
      let here = counts moved refl in
      let there = each moved.place in
      record { batches = omega (arith, here.batches, there.batches, length-append moved.batches (later moved.place).batches); more = omega (arith, here.more, there.more) }

  pub lines-count : (n : ℕ) (place : Place) (lines : List (List ℕ)) → CountsAll place (follow_from base n place lines)
  lines-count n place [] = record { batches = omega arith; more = omega arith }
  lines-count n place (line ∷ lines) =
      step-counts place (step_at base n place line) (λ next. follow_from base (n + 1) next lines) (λ moved is. step_at-holds base Counts each_counts n place line moved is) (λ next. lines-count (n + 1) next lines)

-- the parts of a whole feed commit the first so many batches
pub parts-kept : (base : Option Base) (lines : List (List ℕ)) (parts : ℕ) → kept_parts base lines parts ≡ take (committed_by base parts) (followed base lines).batches
parts-kept None lines parts = refl
parts-kept (Some base) lines parts = refl

start-none : (base : Option Base) → committed_by base 0 ≡ 0
start-none None = refl
start-none (Some base) = refl

-- how many parts are done beside the base, where it is
pub applied-parts : (place : Place) → applied_at place ≡ parts_at place - 1
applied-parts AtStart = refl
applied-parts (InSchema before) = refl
applied-parts (InBase schema facts) = refl
applied-parts (Between work) = omega arith
applied-parts (Within work batch left) = omega arith

-- The first lines of a feed do not stop.
module _ (base : Option Base) (front more : List (List ℕ)) (goes : (followed base front).stop ≡ None) where
  whole_is : followed base (front ++ more) ≡ joined_with (followed base front) (follow_from base (1 + length front) (followed base front).place more)
  whole_is = going-more base 1 AtStart front more goes

  -- what they commit is what their parts do of all
  pub front-kept : kept_parts base (front ++ more) (parts_at (followed base front).place) ≡ (followed base front).batches
  front-kept =
      let count = (lines-count base 1 AtStart front).batches in
      parts-kept base (front ++ more) (parts_at (followed base front).place)
      ∙ ap (λ (whole : Followed). take (committed_by base (parts_at (followed base front).place)) whole.batches) whole_is
      ∙ take_at (followed base front).batches _ (committed_by base (parts_at (followed base front).place)) (omega (arith, count, start-none base))

  -- no more parts are done of them than of all
  pub front-parts : parts_at (followed base front).place ≤ parts_at (followed base (front ++ more)).place
  front-parts = subst (λ (whole : Followed). parts_at (followed base front).place ≤ parts_at whole.place) (sym whole_is) (lines-count base (1 + length front) (followed base front).place more).more

  -- and where all stop, it is behind them
  pub front-lines : (stop : FeedStop) → (followed base (front ++ more)).stop ≡ Some stop → length front + 1 ≤ (followed base (front ++ more)).lines
  front-lines stop stops =
      let later = follow_from base (1 + length front) (followed base front).place more in
      let behind : later.stop ≡ Some stop = sym (ap (λ (whole : Followed). whole.stop) whole_is) ∙ stops in
      let some = stopped-lines base (1 + length front) (followed base front).place more stop behind in
      omega (arith, ap (λ (whole : Followed). whole.lines) whole_is, going-lines base 1 AtStart front goes, some)

-- what is written of the first parts is the first of what is written of all
range-more : (start n k : ℕ) → range_with_len start (n + k) ≡ range_with_len start n ++ range_with_len (start + n) k
range-more start zero k =
    let count : 0 + k ≡ k = omega arith in
    let at : start ≡ start + 0 = omega arith in
    ap (range_with_len start) count ∙ ap (λ from. range_with_len from k) at
range-more start (suc n) k =
    let count : suc n + k ≡ suc (n + k) = omega arith in
    let at : start + 1 + n ≡ start + suc n = omega arith in
    ap (range_with_len start) count
    ∙ ap (λ rest. start ∷ rest) (range-more (start + 1) n k ∙ ap (λ from. range_with_len (start + 1) n ++ range_with_len from k) at)

map-append : {X Y : Type 0} (f : X → Y) (xs ys : List X) → map f (xs ++ ys) ≡ map f xs ++ map f ys
map-append f [] ys = refl
map-append f (x ∷ xs) ys = ap (λ rest. f x ∷ rest) (map-append f xs ys)

-- these are the first of those
pub record AreFrontOf (texts all : List (List ℕ)) : Type 0 where
  pub more : List (List ℕ)
  pub are : all ≡ texts ++ more

pub texts-front : (some all : ℕ) → some ≤ all → AreFrontOf (applied_texts some) (applied_texts all)
texts-front some all few = record {
  more = map applied_text (range_with_len (1 + some) (all - some));
  are = let count : some + (all - some) ≡ all = omega (arith, few) in
      ap applied_texts (sym count) ∙ ap (λ rest. [] ∷ rest) (ap (map applied_text) (range-more 1 some (all - some)) ∙ map-append applied_text (range_with_len 1 some) (range_with_len (1 + some) (all - some)));
}

length-range : (start n : ℕ) → length (range_with_len start n) ≡ n
length-range start zero = refl
length-range start (suc n) = omega (arith, length-range (start + 1) n)

pub length-texts : (applied : ℕ) → length (applied_texts applied) ≡ applied + 1
length-texts applied = omega (arith, length-map (range_with_len 1 applied) applied_text, length-range 1 applied)

-- the texts of so many parts, joined
pub texts-joined : (place : Place) → concat (take (parts_at place) (applied_texts (applied_at place))) ≡ concat (applied_texts (applied_at place))
texts-joined AtStart = refl
texts-joined (InSchema before) = refl
texts-joined (InBase schema facts) = refl
texts-joined (Between work) = ap concat (take_all (work.applied + 1) (applied_texts work.applied) (omega (arith, length-texts work.applied)))
texts-joined (Within work batch left) = ap concat (take_all (work.applied + 1) (applied_texts work.applied) (omega (arith, length-texts work.applied)))

pub parts-among : (place : Place) → parts_at place ≤ length (applied_texts (applied_at place))
parts-among AtStart = omega arith
parts-among (InSchema before) = omega arith
parts-among (InBase schema facts) = omega arith
parts-among (Between work) = omega (arith, length-texts work.applied)
parts-among (Within work batch left) = omega (arith, length-texts work.applied)
