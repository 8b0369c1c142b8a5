-- Lists of texts: a part of them, and what was written of them.
use Rattle.std.proofs.Common.{◌≡◌, ℕ, zero, suc, ◌+◌, ◌-◌, ◌<◌, ◌≤◌, List, [], ◌∷◌, ◌++◌, length, take, drop, refl, sym, ap, ◌∙◌, append_assoc, append-nil, inl, inr, arith, length-append, add-one}
use Rattle.std.specs.List.{concat}
use Rattle.std.specs.Io.{StartsWith}
use Rattle.std.proofs.lemmas.List.{take_all, take-append-drop, take-append-le, length-take-le}
use Rattle.std.proofs.Math.Seq.{take-append-add}
use Rattle.script_run.specs.Written.{Broken, Gathered, Stopped}
use Rattle.script_run.specs.ReplyEnds.{reply_ends_from, whole_within}
use Rattle.script_run.proofs.ReplyEnds.{cut_at, starts_with_front, starts_with_both}

-- joined lists
pub concat-append : (xs ys : List (List ℕ)) → concat (xs ++ ys) ≡ concat xs ++ concat ys
concat-append [] ys = refl
concat-append (x ∷ xs) ys = ap (λ l. x ++ l) (concat-append xs ys) ∙ sym (append_assoc x (concat xs) (concat ys))

pub concat-take-drop : (k : ℕ) (texts : List (List ℕ)) → concat (take k texts) ++ concat (drop k texts) ≡ concat texts
concat-take-drop k texts = sym (concat-append (take k texts) (drop k texts)) ∙ ap concat (take-append-drop k texts)

-- a part of the first texts
take-of_take : (n m : ℕ) (texts : List (List ℕ)) → m ≤ n → take m (take n texts) ≡ take m texts
take-of_take n zero texts le = refl
take-of_take zero (suc m) texts le = absurd (omega arith)
take-of_take (suc n) (suc m) [] le = refl
take-of_take (suc n) (suc m) (text ∷ texts) le = ap (λ l. text ∷ l) (take-of_take n m texts (omega arith))

-- the first texts, joined, begin with fewer of them
starts_with_fewer : (n m : ℕ) (texts : List (List ℕ)) → m ≤ n → StartsWith (concat (take n texts)) (concat (take m texts))
starts_with_fewer n m texts le =
    let split : concat (take n texts) ≡ concat (take m texts) ++ concat (drop m (take n texts)) =
    sym (concat-take-drop m (take n texts)) ∙ ap (λ l. concat l ++ concat (drop m (take n texts))) (take-of_take n m texts le) in
    rw split (starts_with_front (concat (take m texts)) (concat (drop m (take n texts))))

-- Where p bytes of some replies were taken, the reply in which the cut lies is broken, and those before it are whole.
pub broken_at : (texts : List (List ℕ)) (p : ℕ) → p < length (concat texts) → Broken texts (whole_within p (reply_ends_from 0 texts) + 1) (take p (concat texts))
broken_at texts p part =
    let whole = whole_within p (reply_ends_from 0 texts) in
    let cut = cut_at texts 0 p p (omega arith) part in
    let before : whole + 1 - 1 ≡ whole = omega arith in
    record {
      stopped = record {
        among = omega (arith, cut.more);
        prefix = rw add-one cut.prefix;
        holds = rw before cut.holds;
      };
      part = rw (add-one, length-take-le p (concat texts) (omega (arith, part))) cut.part;
    }

-- the same behind other replies, which are whole
pub broken_behind : (front texts : List (List ℕ)) (n : ℕ) (written : List ℕ) → 0 < n → Broken texts n written → Broken (front ++ texts) (length front + n) (concat front ++ written)
broken_behind front texts n written some broken =
    let upto : (j : ℕ) → concat (take (length front + j) (front ++ texts)) ≡ concat front ++ concat (take j texts) =
    λ j. ap concat (take-append-add front texts j) ∙ concat-append front (take j texts) in
    let before : length front + n - 1 ≡ length front + (n - 1) = omega arith in
    record {
      stopped = record {
        among = omega (arith, length-append front texts, broken.stopped.among);
        prefix = rw (upto n) (starts_with_both (concat front) (concat (take n texts)) written broken.stopped.prefix);
        holds = rw (before, upto (n - 1)) (starts_with_both (concat front) written (concat (take (n - 1) texts)) broken.stopped.holds);
      };
      part = rw (upto n, length-append, length-append) (omega (arith, broken.part));
    }

-- these replies were taken, and of the later ones, of which there is at most one, nothing
pub gathered_before : (texts later : List (List ℕ)) (done : ℕ) → length later ≤ 1 → done ≡ length texts + length later → Gathered (texts ++ later) done (concat texts)
gathered_before texts [] done few count = record {
  among = omega (arith, length-append texts []);
  whole = inl (ap concat (sym (take_all done (texts ++ []) (omega (arith, length-append texts [])) ∙ append-nil texts)));
}
gathered_before texts (text ∷ []) done few count = record {
  among = omega (arith, length-append texts (text ∷ []));
  whole = inr (ap concat (sym (take-append-le (done - 1) texts (text ∷ []) (omega arith) ∙ take_all (done - 1) texts (omega arith))));
}
gathered_before texts (text ∷ other ∷ later) done few count = absurd (omega arith)

-- what was gathered and is written is a part of the replies that ends with one
pub stopped_gathered : (texts : List (List ℕ)) (done : ℕ) (written : List ℕ) → Gathered texts done written → Stopped texts done written
stopped_gathered texts done written gathered =
    let fewer = starts_with_fewer done (done - 1) texts (omega arith) in
    elim gathered.whole [
      | inl all ↦ record { among = gathered.among; prefix = rw all (starts_with_fewer done done texts (omega arith)); holds = rw all fewer }
      | inr but_last ↦ record { among = gathered.among; prefix = rw but_last fewer; holds = rw but_last (starts_with_fewer (done - 1) (done - 1) texts (omega arith)) }
    ]

-- among more replies it stops at the same one
pub gathered-more : (texts more : List (List ℕ)) (done : ℕ) (written : List ℕ) → Gathered texts done written → Gathered (texts ++ more) done written
gathered-more texts more done written gathered =
    let first = take-append-le done texts more gathered.among in
    let before = take-append-le (done - 1) texts more (omega (arith, gathered.among)) in
    record {
      among = omega (arith, length-append texts more, gathered.among);
      whole = rw (first, before) gathered.whole;
    }

pub broken-more : (texts more : List (List ℕ)) (done : ℕ) (written : List ℕ) → Broken texts done written → Broken (texts ++ more) done written
broken-more texts more done written broken =
    let stopped = broken.stopped in
    let first = take-append-le done texts more stopped.among in
    let before = take-append-le (done - 1) texts more (omega (arith, stopped.among)) in
    record {
      stopped = record {
        among = omega (arith, length-append texts more, stopped.among);
        prefix = rw first stopped.prefix;
        holds = rw before stopped.holds;
      };
      part = rw first broken.part;
    }
