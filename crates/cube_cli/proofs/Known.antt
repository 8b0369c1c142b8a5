-- What is known of an input and of a content, where the source and the keeper tell them.
use Rattle.std.proofs.Common.{◌≡◌, ℕ, Bool, true, false, List, [], refl, sym, ◌∙◌, subst, arith, Option, Some, None}
use Rattle.std.specs.Prelude.{◌≢◌, IfSome}
use Rattle.std.specs.Io.KnownBytes.{Keeps}
use Rattle.std.proofs.KnownBytes.{Consumes-whole}
use Rattle.fact_keeper.specs.Batch.{empty_content}
use Rattle.fact_keeper.specs.declared.content.Stored.{Stored}
use Rattle.text_lines.specs.Input.{INPUT_LIMIT, Taken, TakesAtMost}
use Rattle.script_run.specs.Seen.{KeeperSeen, SourceSeen}
use Rattle.cube_cli.specs.Seen.{Holds, OfContent, OfInput, ReadNothing, ReadWhole}

-- of what is told this holds, since it holds of any, of the one that was given, or since something stronger does
pub of_any : {X : Type 0} (told : Option X) (P : X → Type 0) → ((x : X) → P x) → IfSome told P
of_any None P each = tt
of_any (Some x) P each = each x

pub of_given : (told : Option Stored) (content : Stored) (P : Stored → Type 0) → IfSome told (λ kept. content ≡ kept) → P content → IfSome told P
of_given None content P given here = tt
of_given (Some kept) content P given here = subst P given here

pub told-weaker : {X : Type 0} (told : Option X) (P Q : X → Type 0) → ((x : X) → P x → Q x) → IfSome told P → IfSome told Q
told-weaker None P Q weaker here = tt
told-weaker (Some x) P Q weaker here = weaker x here

-- the content on which it rests what is done, or none where it rests on none
abbrev pub IsGiven : Bool → KeeperSeen → Stored → Type 0
IsGiven true keeper content = Holds keeper (λ kept. content ≡ kept)
IsGiven false keeper content = content ≡ empty_content

pub of_content : (over : Bool) (keeper : KeeperSeen) (content : Stored) (P : Stored → Type 0) → IsGiven over keeper content → P content → OfContent over keeper P
of_content true keeper content P given here = of_given keeper.told.content content P given here
of_content false keeper content P given here = subst P given here

pub each_content : (over : Bool) (keeper : KeeperSeen) (P : Stored → Type 0) → ((content : Stored) → P content) → OfContent over keeper P
each_content true keeper P each = of_any keeper.told.content P each
each_content false keeper P each = each empty_content

-- the whole input, or none where none is taken
abbrev pub IsInput : Bool → SourceSeen → List ℕ → Type 0
IsInput true source input = Taken INPUT_LIMIT source.left source.left_after input
IsInput false source input = input ≡ []

pub of_input : (reads : Bool) (source : SourceSeen) (input : List ℕ) (P : List ℕ → Type 0) → IsInput reads source input → P input → OfInput reads source P
of_input true source input P taken here = Consumes-whole source.left source.left_after input P taken.bytes taken.end here
of_input false source input P none here = subst P none here

pub each_input : (reads : Bool) (source : SourceSeen) (P : List ℕ → Type 0) → ((input : List ℕ) → P input) → OfInput reads source P
each_input true source P each = of_any source.left P each
each_input false source P each = each []

-- it was read whole
pub whole : (reads : Bool) (source : SourceSeen) (input : List ℕ) → IsInput reads source input → reads ≡ true → ReadWhole source input
whole true source input taken is = record { within = taken.within; end = taken.end }
whole false source input none is = absurd (cc is)

-- and is not too long
pub took_nothing : (most : ℕ) (left after : Option (List ℕ)) → Keeps left after → TakesAtMost most left after
took_nothing most None after kept = record { input = []; bytes = tt; few = omega arith }
took_nothing most (Some xs) None kept = absurd kept
took_nothing most (Some xs) (Some ys) kept = record { input = []; bytes = sym kept; few = omega arith }

pub took_few : (reads : Bool) (source : SourceSeen) (input : List ℕ) → IsInput reads source input → (reads ≡ false → ReadNothing source) → TakesAtMost INPUT_LIMIT source.left source.left_after
took_few true source input taken unread = record { input = input; bytes = taken.bytes; few = taken.within }
took_few false source input none unread = took_nothing INPUT_LIMIT source.left source.left_after (unread refl)

-- a store in which there is nothing was given, or one in which there is something
pub given_empty : (told loaded : Option Stored) (content : Stored) → loaded ≡ told → IfSome told (λ kept. content ≡ kept) → content ≡ empty_content → IfSome loaded (λ kept. kept ≡ empty_content)
given_empty told loaded content same given none =
    subst (λ (o : Option Stored). IfSome o (λ kept. kept ≡ empty_content)) (sym same) (told-weaker told (λ kept. content ≡ kept) (λ kept. kept ≡ empty_content) (λ kept is. sym is ∙ none) given)

pub given_some : (told : Option Stored) (content : Stored) → IfSome told (λ kept. content ≡ kept) → content ≢ empty_content → IfSome told (λ kept. kept ≢ empty_content)
given_some told content given some = of_given told content (λ kept. kept ≢ empty_content) given some
