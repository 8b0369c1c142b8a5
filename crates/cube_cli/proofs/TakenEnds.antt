-- How often a source answered that it had ended.
use Rattle.std.proofs.Common.{◌≡◌, ℕ, Bool, true, false, sym, ◌∙◌, subst, inl, inr}
use Rattle.text_lines.specs.Input.{EndsOnce, ends_if}
use Rattle.script_run.specs.Stream.{EndsFrom}

-- never where the input had not ended
pub not_ended : (is_ended : Bool) (before after : ℕ) → is_ended ≡ false → after ≡ ends_if is_ended before → after ≡ before
not_ended true before after is ends = absurd (cc is)
not_ended false before after is ends = ends

-- at most once
pub ends_once : (is_ended : Bool) (before after : ℕ) → after ≡ ends_if is_ended before → EndsOnce before after
ends_once true before after ends = inr ends
ends_once false before after ends = inl ends

-- and also where a script follows that goes on from there
pub ends_both : (is_ended : Bool) (before between after : ℕ) → between ≡ ends_if is_ended before → EndsFrom is_ended between after → EndsOnce before after
ends_both true before between after ends same = inr (same ∙ ends)
ends_both false before between after ends once = subst (λ n. EndsOnce n after) ends once
