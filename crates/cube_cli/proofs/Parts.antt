-- A text that is written in parts.
use Rattle.std.proofs.Common.{◌≡◌, ℕ, ◌+◌, ◌≤◌, ◌<◌, List, [], ◌++◌, length, take, refl, sym, ap, subst, ◌∙◌, arith, append_assoc, inl, inr, Option, Some, None, Result, Ok, Err}
use Rattle.std.specs.Prelude.{◌⊎◌, IfErr, OnErr, OnOk}
use Rattle.std.specs.Io.KnownBytes.{Appends, Keeps}
use Rattle.std.proofs.KnownBytes.{Appends-nil, Appends-trans}
use Rattle.std.proofs.lemmas.List.{append-nil, length-append, take-append-le}
use Rattle.std.proofs.Math.Seq.{take-append-add, take-append_seam}
use Rattle.cube_base.specs.Outside.{CountsSinkFault, Rose, SinkTold, TakesPart}
use Rattle.cube_base.specs.declared.fault.SinkError.{SinkError}
use Rattle.cube_base.specs.declared.fault.SinkError.TheVariants.{Failed, Memory}
use Rattle.script_run.specs.Seen.{NoWriteFault, SinkSeen, WroteNothing}
use Rattle.cube_cli.specs.Rows.{Gathers, OnItsWay, since}
use Rattle.cube_cli.specs.Steps.{WritesText}

-- a part of a text is one of a longer text, of one behind what was written, and what was written is a part where more was to come
part_longer : (old new : Option (List ℕ)) (text rest : List ℕ) → TakesPart old new text → TakesPart old new (text ++ rest)
part_longer old new text rest part = record {
  count = part.count;
  part = omega (arith, part.part, length-append text rest);
  bytes = subst (Appends old new) (sym (take-append-le part.count text rest (omega (arith, part.part)))) part.bytes;
}

part_behind : (old mid new : Option (List ℕ)) (sent text : List ℕ) → Appends old mid sent → TakesPart mid new text → TakesPart old new (sent ++ text)
part_behind old mid new sent text first part = record {
  count = length sent + part.count;
  part = omega (arith, part.part, length-append sent text);
  bytes = subst (Appends old new) (sym (take-append-add sent text part.count)) (Appends-trans old mid new sent (take part.count text) first part.bytes);
}

part_sent : (old new : Option (List ℕ)) (sent rest : List ℕ) → Appends old new sent → 1 ≤ length rest → TakesPart old new (sent ++ rest)
part_sent old new sent rest wrote some = record {
  count = length sent;
  part = omega (arith, some, length-append sent rest);
  bytes = subst (Appends old new) (sym (take-append_seam sent rest)) wrote;
}

kept_after : (old mid new : Option (List ℕ)) (sent : List ℕ) → Appends old mid sent → Keeps mid new → Appends old new sent
kept_after None mid new sent wrote kept = tt
kept_after (Some xs) None new sent wrote kept = absurd wrote
kept_after (Some xs) (Some ys) None sent wrote kept = absurd kept
kept_after (Some xs) (Some ys) (Some zs) sent wrote kept = kept ∙ wrote

-- what is not written whole is no whole of a longer text
pub longer : (T : Type 0) (text rest : List ℕ) (sink : SinkSeen) (error : SinkError) → WritesText {T = T} text sink (Err error) → WritesText {T = T} (text ++ rest) sink (Err error)
longer T text rest sink Failed part = (part.0, part_longer sink.taken sink.taken_after text rest part.1)
longer T text rest sink Memory part = (part.0, by part.1)
  where
    by : WroteNothing sink ⊎ TakesPart sink.taken sink.taken_after text → WroteNothing sink ⊎ TakesPart sink.taken sink.taken_after (text ++ rest)
    by (inl none) = inl none
    by (inr some) = inr (part_longer sink.taken sink.taken_after text rest some)

-- nothing is made yet
pub starts : (sink : SinkTold) → OnItsWay [] [] (since sink sink)
starts sink = record { sent = []; made_is = refl; count = refl; wrote = Appends-nil sink.taken }

-- more waits
pub waits : (made waiting next : List ℕ) (sink : SinkSeen) → OnItsWay made waiting sink → OnItsWay (made ++ next) (waiting ++ next) sink
waits made waiting next sink on = record { sent = on.sent; made_is = ap (λ l. l ++ next) on.made_is ∙ append_assoc on.sent waiting next; count = on.count; wrote = on.wrote }

-- it ran out of memory where more was to come
pub stops : (T : Type 0) (start now : SinkTold) (made waiting next : List ℕ) → OnItsWay made waiting (since start now) → 1 ≤ length next → WritesText {T = T} (made ++ next) (since start now) (Err Memory)
stops T start now made waiting next on some = (
  on.count,
  inr (subst (TakesPart start.taken now.taken) (sym (append_assoc on.sent waiting next) ∙ ap (λ l. l ++ next) (sym on.made_is))
      (part_sent start.taken now.taken on.sent (waiting ++ next) on.wrote (omega (arith, some, length-append waiting next)))),
)

-- what waited was to be written
module _ (start before after : SinkTold) (made waiting : List ℕ) (on : OnItsWay made waiting (since start before)) where
  pub sent_all : NoWriteFault (since before after) → Appends before.taken after.taken waiting → OnItsWay made [] (since start after)
  sent_all count wrote = record {
    sent = on.sent ++ waiting;
    made_is = on.made_is ∙ sym (append-nil (on.sent ++ waiting));
    count = count ∙ on.count;
    wrote = Appends-trans start.taken before.taken after.taken on.sent waiting on.wrote wrote;
  }

  part_of_made : TakesPart before.taken after.taken waiting → (next : List ℕ) → TakesPart start.taken after.taken (made ++ next)
  part_of_made part next = subst (λ m. TakesPart start.taken after.taken (m ++ next)) (sym on.made_is)
      (part_longer start.taken after.taken (on.sent ++ waiting) next (part_behind start.taken before.taken after.taken on.sent waiting on.wrote part))

  pub not_sent : (T : Type 0) (next : List ℕ) (error : SinkError) → 1 ≤ length next → WritesText {T = T} waiting (since before after) (Err error) → WritesText {T = T} (made ++ next) (since start after) (Err error)
  not_sent T next Failed some part = (subst (λ n. Rose n after.faults) on.count part.0, part_of_made part.1 next)
  not_sent T next Memory some part = (part.0 ∙ on.count, by part.1)
    where
      by : WroteNothing (since before after) ⊎ TakesPart before.taken after.taken waiting → WroteNothing (since start after) ⊎ TakesPart start.taken after.taken (made ++ next)
      by (inr taken) = inr (part_of_made taken next)
      by (inl none) = (stops T start after made waiting next (record { sent = on.sent; made_is = on.made_is; count = part.0 ∙ on.count; wrote = kept_after start.taken before.taken after.taken on.sent on.wrote none }) some).1

-- a part was added to what waits, or there was no memory for it
pub pushed : {T : Type 0} (start now : SinkTold) (made waiting after part next : List ℕ) (result : Result T SinkError) → OnItsWay made waiting (since start now) → part ≡ next → 1 ≤ length next → OnOk result (after ≡ waiting ++ part)
    → IfErr result (λ error. error ≡ Memory) → Gathers (made ++ next) after (since start now) result
pushed start now made waiting after part next (Ok ok) on is some whole wants =
    subst (λ l. OnItsWay (made ++ next) l (since start now)) (sym (whole ∙ ap (λ l. waiting ++ l) is)) (waits made waiting next (since start now) on)
pushed {T = T} start now made waiting after part next (Err error) on is some whole wants =
    subst (λ e. WritesText {T = T} (made ++ next) (since start now) (Err e)) (sym wants) (stops T start now made waiting next on some)

-- the rest was to be written
pub ends : {T : Type 0} (start before after : SinkTold) (made waiting : List ℕ) (result : Result T SinkError) → OnItsWay made waiting (since start before) → OnOk result (Appends before.taken after.taken waiting)
    → OnErr result (TakesPart before.taken after.taken waiting) → CountsSinkFault before.faults after.faults result → WritesText made (since start after) result
ends start before after made waiting (Ok done) on whole part count =
    (count ∙ on.count, subst (Appends start.taken after.taken) (sym on.made_is) (Appends-trans start.taken before.taken after.taken on.sent waiting on.wrote whole))
ends start before after made waiting (Err Failed) on whole part count =
    (subst (λ n. Rose n after.faults) on.count count, subst (TakesPart start.taken after.taken) (sym on.made_is) (part_behind start.taken before.taken after.taken on.sent waiting on.wrote part))
ends start before after made waiting (Err Memory) on whole part count =
    (count ∙ on.count, inr (subst (TakesPart start.taken after.taken) (sym on.made_is) (part_behind start.taken before.taken after.taken on.sent waiting on.wrote part)))
