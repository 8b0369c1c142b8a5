-- What is kept of lists one after another, as they are edited.
use Rattle.std.proofs.Common.{◌≡◌, ℕ, zero, suc, ◌+◌, ◌*◌, ◌<◌, ◌≤◌, List, [], ◌∷◌, ◌++◌, length, take, drop, Some, sym, subst, ap, ◌∙◌, arith, length-append, length-drop}
use Rattle.std.specs.Prelude.{IfSome, Option}
use Rattle.std.specs.List.{All, sum, insert, remove, slice_get}
use Rattle.std.proofs.lemmas.List.{length-take-le}
use Rattle.std.proofs.lemmas.List.Edits.{length-insert, length-remove}
use Rattle.std.proofs.lemmas.List.Elements.{All-append, All-cons, All-same, All-take, All-drop}
use Rattle.std.proofs.lemmas.List.Sums.{sum_by-cons, sum_by-append, sum_by-take-drop, sum_by-take-le}
use Rattle.std.proofs.lemmas.Option.{slice_get_within}
use Rattle.fact_records.specs.ShortLists.{IsLaidOut, lists_of}
use Rattle.fact_records.specs.declared.block.TheConstants.{BLOCK}
use Rattle.fact_records.proofs.ShortLists.{lists-get, length-before, length-lists_of, sum-next, sum-short}

-- no length is above the most
abbrev pub AllShort : ℕ → List ℕ → Type 0
AllShort most lengths = All (λ n. n ≤ most) lengths

-- one list more has room
pub room-more : (most : ℕ) (lengths : List ℕ) (count places n : ℕ) → IsLaidOut most lengths count places → length lengths < BLOCK → n ≤ most → count + n ≤ places
room-more most lengths count places n laid few le =
    let all : AllShort most (n ∷ lengths) = All-cons (λ k. k ≤ most) n lengths le laid.short in
    omega (arith, sum-short most (n ∷ lengths) BLOCK all (omega arith), sum_by-cons (λ x. x) n lengths, laid.whole, laid.room)

-- lists and more of them have room where they are few enough
pub room-both : (most : ℕ) (ns ms : List ℕ) (count more places : ℕ) → AllShort most ns → AllShort most ms → sum ns ≡ count → sum ms ≡ more → length ns + length ms ≤ BLOCK → BLOCK * most ≤ places → count + more ≤ places
room-both most ns ms count more places short_ns short_ms whole_ns whole_ms few room =
    let all : AllShort most (ns ++ ms) = All-append (λ k. k ≤ most) ns ms short_ns short_ms in
    omega (arith, sum-short most (ns ++ ms) BLOCK all (omega (arith, length-append ns ms)), sum_by-append (λ x. x) ns ms)

-- the length at a place is not above the most
short-at : (most : ℕ) (lengths : List ℕ) (k n : ℕ) → AllShort most lengths → slice_get lengths k ≡ Some n → n ≤ most
short-at most [] k n short at = cc
short-at most (m ∷ lengths) zero n short at = let same : m ≡ n = cc in omega (arith, short 0 0 (omega arith))
short-at most (m ∷ lengths) (suc k) n short at = short-at most lengths k n (λ i d lt. short (suc i) d (omega arith)) at

-- a list is no longer than the most
pub length-get : (most : ℕ) (lengths : List ℕ) (count places k n : ℕ) → IsLaidOut most lengths count places → slice_get lengths k ≡ Some n → n ≤ most
length-get most lengths count places k n laid at = short-at most lengths k n laid.short at

module _ {X : Type 0} where
  -- as many lists are seen as there are lengths
  pub length-seen : (lengths : List ℕ) (items : List X) (seen : List (List X)) → lists_of lengths items ≡ seen → length seen ≡ length lengths
  length-seen lengths items seen e = sym (ap length e) ∙ length-lists_of lengths items

  -- a list ends within the items
  pub end-within : (most : ℕ) (lengths : List ℕ) (items : List X) (places k b n : ℕ) → IsLaidOut most lengths (length items) places → b ≡ sum (take k lengths) → slice_get lengths k ≡ Some n → b + n ≤ length items
  end-within most lengths items places k b n laid e at = omega (arith, laid.whole, sum-next lengths k n at, sum_by-take-le (λ x. x) lengths (suc k))

  -- a list put in
  pub laid-insert : (most : ℕ) (lengths new : List ℕ) (items xs news : List X) (places now k b : ℕ) → IsLaidOut most lengths (length items) places → k ≤ length lengths → length lengths < BLOCK → length xs ≤ most → b ≡ sum (take k lengths) → new ≡ insert lengths k (length xs) → news ≡ take b items ++ (xs ++ drop b items) → places ≤ now → IsLaidOut most new (length news) now
  laid-insert most lengths new items xs news places now k b laid le few short e is_new is_news grown =
      let before : b ≤ length items = length-before k b lengths items laid.whole e in
      record {
        whole = omega (arith, laid.whole, before, ap sum is_new, sum_by-append (λ x. x) (take k lengths) (length xs ∷ drop k lengths), sum_by-cons (λ x. x) (length xs) (drop k lengths), sum_by-take-drop (λ x. x) lengths k, ap length is_news, length-append (take b items) (xs ++ drop b items), length-append xs (drop b items), length-take-le b items before, length-drop b items);
        short = All-same (λ n. n ≤ most) new (insert lengths k (length xs)) is_new (All-append (λ n. n ≤ most) (take k lengths) (length xs ∷ drop k lengths) (All-take (λ n. n ≤ most) k lengths laid.short) (All-cons (λ n. n ≤ most) (length xs) (drop k lengths) short (All-drop (λ n. n ≤ most) k lengths laid.short)));
        few = omega (arith, ap length is_new, length-insert lengths k (length xs) le);
        room = omega (arith, laid.room);
        small = laid.small;
      }

  -- a list put over one of as many items
  pub laid-over : (most : ℕ) (lengths : List ℕ) (items xs news : List X) (places now b n : ℕ) → IsLaidOut most lengths (length items) places → b + n ≤ length items → n ≡ length xs → news ≡ take b items ++ (xs ++ drop (b + n) items) → places ≤ now → IsLaidOut most lengths (length news) now
  laid-over most lengths items xs news places now b n laid within same is_news grown =
      record {
        whole = omega (arith, laid.whole, ap length is_news, length-append (take b items) (xs ++ drop (b + n) items), length-append xs (drop (b + n) items), length-take-le b items (omega arith), length-drop (b + n) items);
        short = laid.short;
        few = laid.few;
        room = omega (arith, laid.room);
        small = laid.small;
      }

  -- a list taken out
  pub laid-remove : (most : ℕ) (lengths new : List ℕ) (items news : List X) (places now k b n : ℕ) → IsLaidOut most lengths (length items) places → slice_get lengths k ≡ Some n → b ≡ sum (take k lengths) → new ≡ remove lengths k → news ≡ take b items ++ drop (b + n) items → places ≤ now → IsLaidOut most new (length news) now
  laid-remove most lengths new items news places now k b n laid at e is_new is_news grown =
      let before : b ≤ length items = length-before k b lengths items laid.whole e in
      let next = sum-next lengths k n at in
      record {
        whole = omega (arith, laid.whole, before, next, ap sum is_new, sum_by-append (λ x. x) (take k lengths) (drop (suc k) lengths), sum_by-take-drop (λ x. x) lengths (suc k), ap length is_news, length-append (take b items) (drop (b + n) items), length-take-le b items before, length-drop (b + n) items);
        short = All-same (λ n. n ≤ most) new (remove lengths k) is_new (All-append (λ n. n ≤ most) (take k lengths) (drop (suc k) lengths) (All-take (λ n. n ≤ most) k lengths laid.short) (All-drop (λ n. n ≤ most) (suc k) lengths laid.short));
        few = omega (arith, laid.few, ap length is_new, length-remove lengths k (slice_get_within lengths k n at));
        room = omega (arith, laid.room);
        small = laid.small;
      }

  -- the end of the lists taken off
  pub laid-take : (most : ℕ) (lengths new : List ℕ) (items news : List X) (places now k b : ℕ) → IsLaidOut most lengths (length items) places → k ≤ length lengths → b ≡ sum (take k lengths) → new ≡ take k lengths → news ≡ take b items → places ≤ now → IsLaidOut most new (length news) now
  laid-take most lengths new items news places now k b laid le e is_new is_news grown =
      record {
        whole = ap sum is_new ∙ sym e ∙ sym (length-take-le b items (length-before k b lengths items laid.whole e)) ∙ sym (ap length is_news);
        short = All-same (λ n. n ≤ most) new (take k lengths) is_new (All-take (λ n. n ≤ most) k lengths laid.short);
        few = omega (arith, laid.few, ap length is_new, length-take-le k lengths le);
        room = omega (arith, laid.room);
        small = laid.small;
      }

  -- the front of the lists taken off
  pub laid-drop : (most : ℕ) (lengths new : List ℕ) (items news : List X) (places now k b : ℕ) → IsLaidOut most lengths (length items) places → b ≡ sum (take k lengths) → new ≡ drop k lengths → news ≡ drop b items → places ≤ now → IsLaidOut most new (length news) now
  laid-drop most lengths new items news places now k b laid e is_new is_news grown =
      record {
        whole = omega (arith, laid.whole, ap sum is_new, sum_by-take-drop (λ x. x) lengths k, ap length is_news, length-drop b items);
        short = All-same (λ n. n ≤ most) new (drop k lengths) is_new (All-drop (λ n. n ≤ most) k lengths laid.short);
        few = omega (arith, laid.few, ap length is_new, length-drop k lengths);
        room = omega (arith, laid.room);
        small = laid.small;
      }

  -- lists, and more of them
  pub laid-append : (most : ℕ) (ns ms new : List ℕ) (xs ys news : List X) (places others now : ℕ) → IsLaidOut most ns (length xs) places → IsLaidOut most ms (length ys) others → length ns + length ms ≤ BLOCK → new ≡ ns ++ ms → news ≡ xs ++ ys → BLOCK * most ≤ now → IsLaidOut most new (length news) now
  laid-append most ns ms new xs ys news places others now laid more few is_new is_news room =
      record {
        whole = omega (arith, laid.whole, more.whole, ap sum is_new, sum_by-append (λ x. x) ns ms, ap length is_news, length-append xs ys);
        short = All-same (λ n. n ≤ most) new (ns ++ ms) is_new (All-append (λ n. n ≤ most) ns ms laid.short more.short);
        few = omega (arith, ap length is_new, length-append ns ms);
        room = room;
        small = laid.small;
      }

  -- the list at a place has as many items as its length says
  pub length-alike : (most : ℕ) (lengths : List ℕ) (items : List X) (places k b n count : ℕ) (now : List (List X)) → IsLaidOut most lengths (length items) places → lists_of lengths items ≡ now → b ≡ sum (take k lengths) → slice_get lengths k ≡ Some n
      → IfSome (slice_get now k) (λ old. length old ≡ count) → n ≡ count
  length-alike most lengths items places k b n count now laid seen e at alike =
      let there = ap (λ l. slice_get l k) (sym seen) ∙ lists-get lengths items k b n e at in
      let same : length (take n (drop b items)) ≡ count = subst (λ (o : Option (List X)). IfSome o (λ old. length old ≡ count)) there alike in
      omega (arith, same, length-take-le n (drop b items) (omega (arith, length-drop b items, end-within most lengths items places k b n laid e at)), length-drop b items)
