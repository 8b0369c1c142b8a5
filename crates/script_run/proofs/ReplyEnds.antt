-- Where a text of replies is cut, their ends tell how many of them are whole.
use Rattle.std.proofs.Common.{◌≡◌, ℕ, suc, ◌+◌, ◌-◌, ◌<◌, ◌≤◌, true, false, List, [], ◌∷◌, ◌++◌, length, take, refl, sym, ap, ◌∙◌, append-nil, append_assoc, inl, inr, arith, length-append}
use Rattle.std.specs.Prelude.{if◌then◌else◌, nat_le}
use Rattle.std.specs.List.{concat}
use Rattle.std.specs.Io.{StartsWith}
use Rattle.std.proofs.lemmas.Bool.{cases_lt}
use Rattle.std.proofs.lemmas.Bool.Decides.{nat_tests}
use Rattle.std.proofs.lemmas.List.{take-append-le, length-take-le}
use Rattle.std.proofs.lemmas.List.Sums.{sum_by-cons}
use Rattle.std.proofs.Math.Seq.{take-append-add, take-append_seam, drop-append_seam}
use Rattle.script_run.specs.ReplyEnds.{IsCutAtEnds, cut_at_ends, reply_ends_from, whole_within}

pub length-ends_from : (start : ℕ) (texts : List (List ℕ)) → length (reply_ends_from start texts) ≡ length texts
length-ends_from start [] = refl
length-ends_from start (text ∷ texts) = ap suc (length-ends_from (start + length text) texts)

-- the ends of some replies cut their text into them
cut_ends : (start : ℕ) (texts : List (List ℕ)) → cut_at_ends start (reply_ends_from start texts) (concat texts) ≡ texts
cut_ends start [] = refl
cut_ends start (text ∷ texts) =
    let end = start + length text in
    let len : end - start ≡ length text = omega arith in
    rw (len, take-append_seam text (concat texts), drop-append_seam text (concat texts)) (ap (λ ts. text ∷ ts) (cut_ends end texts))

-- ends and a text that are those of some replies
pub cut_of : (texts : List (List ℕ)) (ends text : List ℕ) → text ≡ concat texts → ends ≡ reply_ends_from 0 texts → cut_at_ends 0 ends text ≡ texts
cut_of texts ends text is_text are_ends = rw (is_text, are_ends) (cut_ends 0 texts)

pub is_cut_of : (texts : List (List ℕ)) (ends text : List ℕ) → text ≡ concat texts → ends ≡ reply_ends_from 0 texts → IsCutAtEnds ends text
is_cut_of texts ends text is_text are_ends =
    let same = cut_of texts ends text is_text are_ends in
    record {
      text_is = is_text ∙ ap concat (sym same);
      ends_are = are_ends ∙ ap (reply_ends_from 0) (sym same);
    }

-- there are as many replies as ends
pub length_cut : (ends text : List ℕ) → IsCutAtEnds ends text → length ends ≡ length (cut_at_ends 0 ends text)
length_cut ends text cut = ap length cut.ends_are ∙ length-ends_from 0 (cut_at_ends 0 ends text)

-- one reply more ends where all of them end
pub reply_ends_from-push : (start : ℕ) (texts : List (List ℕ)) (text : List ℕ) (end : ℕ) → end ≡ start + length (concat texts) + length text
    → reply_ends_from start (texts ++ text ∷ []) ≡ reply_ends_from start texts ++ end ∷ []
reply_ends_from-push start [] text end last = ap (λ n. n ∷ []) (omega arith)
reply_ends_from-push start (first ∷ texts) text end last =
    ap (λ ends. (start + length first) ∷ ends) (reply_ends_from-push (start + length first) texts text end (omega (arith, length-append first (concat texts))))

-- one reply more makes up one text more
concat-push : (texts : List (List ℕ)) (more : List ℕ) → concat (texts ++ more ∷ []) ≡ concat texts ++ more
concat-push [] more = append-nil more
concat-push (text ∷ texts) more = ap (λ l. text ++ l) (concat-push texts more) ∙ sym (append_assoc text (concat texts) more)

text-push : (texts : List (List ℕ)) (text more text_after : List ℕ) → text ≡ concat texts → text_after ≡ text ++ more → text_after ≡ concat (texts ++ more ∷ [])
text-push texts text more text_after is_text more_text = more_text ∙ ap (λ l. l ++ more) is_text ∙ sym (concat-push texts more)

ends-push : (texts : List (List ℕ)) (text ends more text_after ends_after : List ℕ) → text ≡ concat texts → ends ≡ reply_ends_from 0 texts → text_after ≡ text ++ more → ends_after ≡ ends ++ length text_after ∷ []
    → ends_after ≡ reply_ends_from 0 (texts ++ more ∷ [])
ends-push texts text ends more text_after ends_after is_text are_ends more_text more_ends =
    let last : length text_after ≡ 0 + length (concat texts) + length more = omega (arith, ap length more_text, length-append text more, ap length is_text) in
    more_ends ∙ ap (λ l. l ++ length text_after ∷ []) are_ends ∙ sym (reply_ends_from-push 0 texts more (length text_after) last)

-- the text of one reply more and its end, behind those of others
pub is_cut-push : (ends text ends_after text_after more : List ℕ) → IsCutAtEnds ends text → text_after ≡ text ++ more → ends_after ≡ ends ++ length text_after ∷ [] → IsCutAtEnds ends_after text_after
is_cut-push ends text ends_after text_after more cut more_text more_ends =
    let texts = cut_at_ends 0 ends text in
    is_cut_of (texts ++ more ∷ []) ends_after text_after (text-push texts text more text_after cut.text_is more_text) (ends-push texts text ends more text_after ends_after cut.text_is cut.ends_are more_text more_ends)

pub cut-push : (ends text ends_after text_after more : List ℕ) → IsCutAtEnds ends text → text_after ≡ text ++ more → ends_after ≡ ends ++ length text_after ∷ [] → cut_at_ends 0 ends_after text_after ≡ cut_at_ends 0 ends text ++ more ∷ []
cut-push ends text ends_after text_after more cut more_text more_ends =
    let texts = cut_at_ends 0 ends text in
    cut_of (texts ++ more ∷ []) ends_after text_after (text-push texts text more text_after cut.text_is more_text) (ends-push texts text ends more text_after ends_after cut.text_is cut.ends_are more_text more_ends)

-- a reply that ends within the bytes counts
whole_within-whole : (bytes end : ℕ) (ends : List ℕ) → end ≤ bytes → whole_within bytes (end ∷ ends) ≡ suc (whole_within bytes ends)
whole_within-whole bytes end ends le =
    let inside : nat_le end bytes ≡ true = grind (arith, nat_tests) in
    sum_by-cons (λ e. if nat_le e bytes then 1 else 0) end ends ∙ rw inside (omega arith)

-- one that ends behind them does not
whole_within-part : (bytes end : ℕ) (ends : List ℕ) → bytes < end → whole_within bytes (end ∷ ends) ≡ whole_within bytes ends
whole_within-part bytes end ends lt =
    let outside : nat_le end bytes ≡ false = grind (arith, nat_tests) in
    sum_by-cons (λ e. if nat_le e bytes then 1 else 0) end ends ∙ rw outside (omega arith)

-- no reply ends within fewer bytes than stand before it
none_whole : (start bytes : ℕ) (texts : List (List ℕ)) → bytes < start → whole_within bytes (reply_ends_from start texts) ≡ 0
none_whole start bytes [] lt = refl
none_whole start bytes (text ∷ texts) lt =
    whole_within-part bytes (start + length text) (reply_ends_from (start + length text) texts) (omega arith) ∙ none_whole (start + length text) bytes texts (omega arith)

-- a text begins with its front
pub starts_with_front : (front back : List ℕ) → StartsWith (front ++ back) front
starts_with_front front back = take-append_seam front back

-- so do two texts with one front, where the rests do
pub starts_with_both : (front xs ys : List ℕ) → StartsWith xs ys → StartsWith (front ++ xs) (front ++ ys)
starts_with_both front xs ys starts = rw length-append (take-append-add front xs (length ys) ∙ ap (λ l. front ++ l) starts)

-- a text cut within its first part
take_first : (front back : List ℕ) (p : ℕ) → p < length front → take p (front ++ back) ≡ take p front
take_first front back p part = take-append-le p front back (omega arith)

-- What p bytes of replies hold: so many of them whole, and a part of the next.
pub record CutAt (texts : List (List ℕ)) (p : ℕ) (whole : ℕ) : Type 0 where
  pub more : whole < length texts
  pub holds : StartsWith (take p (concat texts)) (concat (take whole texts))
  pub prefix : StartsWith (concat (take (suc whole) texts)) (take p (concat texts))
  pub part : p < length (concat (take (suc whole) texts))

cut_first : (text : List ℕ) (texts : List (List ℕ)) (p : ℕ) → p < length text → CutAt (text ∷ texts) p 0
cut_first text texts p part = record {
  more = omega arith;
  holds = refl;
  prefix = rw (append-nil text, take_first text (concat texts) p part, length-take-le p text (omega arith)) refl;
  part = rw append-nil part;
}

cut_later : (text : List ℕ) (texts : List (List ℕ)) (p q whole : ℕ) → p ≡ length text + q → CutAt texts q whole → CutAt (text ∷ texts) p (suc whole)
cut_later text texts p q whole split cut =
    let taken : take p (text ++ concat texts) ≡ text ++ take q (concat texts) = rw split (take-append-add text (concat texts) q) in
    record {
      more = omega (arith, cut.more);
      holds = rw taken (starts_with_both text (take q (concat texts)) (concat (take whole texts)) cut.holds);
      prefix = rw taken (starts_with_both text (concat (take (suc whole) texts)) (take q (concat texts)) cut.prefix);
      part = omega (arith, length-append text (concat (take (suc whole) texts)), cut.part);
    }

-- the ends within the first p bytes count the whole replies, also where some are empty
pub cut_at : (texts : List (List ℕ)) (start p bytes : ℕ) → bytes ≡ start + p → p < length (concat texts) → CutAt texts p (whole_within bytes (reply_ends_from start texts))
cut_at [] start p bytes sum part = absurd (omega arith)
cut_at (text ∷ texts) start p bytes sum part =
    let end = start + length text in
    let later = reply_ends_from end texts in
    elim (cases_lt p (length text)) [
      | inl within ↦
          let none : whole_within bytes (end ∷ later) ≡ 0 = whole_within-part bytes end later (omega arith) ∙ none_whole end bytes texts (omega arith) in
          rw none (cut_first text texts p within)
      | inr behind ↦
          let q = p - length text in
          let split : p ≡ length text + q = omega arith in
          let ends : whole_within bytes (end ∷ later) ≡ suc (whole_within bytes later) = whole_within-whole bytes end later (omega arith) in
          rw ends (cut_later text texts p q _ split (cut_at texts end q bytes (omega arith) (omega (arith, length-append text (concat texts)))))
    ]

-- fewer replies are whole than there are, where the text is cut
pub whole-lt : (texts : List (List ℕ)) (p whole : ℕ) → p < length (concat texts) → whole ≡ whole_within p (reply_ends_from 0 texts) → whole < length texts
whole-lt texts p whole part is_whole = rw is_whole (cut_at texts 0 p p (omega arith) part).more
