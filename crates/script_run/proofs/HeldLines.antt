-- Of the lines that are held whole, those that are done and those that are left.
use Rattle.std.proofs.Common.{◌≡◌, ℕ, ◌+◌, ◌-◌, ◌≤◌, Ok, Err, List, [], ◌∷◌, ◌++◌, length, refl, sym, ap, ◌∙◌, append-nil, append_assoc, arith}
use Rattle.std.specs.Prelude.{⊤}
use Rattle.cube_base.specs.Outside.{SinkTold}
use Rattle.cube_model.specs.declared.statistic.CellStat.{CellStat}
use Rattle.fact_keeper.specs.Keeper.{KeeperTold}
use Rattle.text_lines.specs.Pieces.{behind_line, last_line, rest_of, whole_lines}
use Rattle.script_run.specs.declared.break_off.BreakOff.{BreakOff}
use Rattle.script_run.specs.Progress.{Working}
use Rattle.script_run.specs.Seen.{KeeperSeen, SinkSeen, keeper_seen, sink_seen}
use Rattle.script_run.specs.Stream.{DoesLines}
use Rattle.script_run.proofs.Streams.{does_lines-append, does_lines-cut, does_lines-ok}

-- a line that is handed out is the first of those that are whole
whole_next : (left : List (List ℕ)) (line : List ℕ) → left ≡ line ∷ behind_line left → (length left ≡ 1 → ⊥) → whole_lines left ≡ line ∷ whole_lines (behind_line left)
whole_next [] line first more = cc
whole_next (rest ∷ []) line first more = absurd (more refl)
whole_next (other ∷ next ∷ left) line first more = cc

rest_next : (left : List (List ℕ)) → rest_of (behind_line left) ≡ rest_of left
rest_next [] = refl
rest_next (rest ∷ []) = refl
rest_next (line ∷ next ∷ left) = refl

length_next : (left : List (List ℕ)) (line : List ℕ) → left ≡ line ∷ behind_line left → (length left ≡ 1 → ⊥) → length (behind_line left) + 1 ≡ length left
length_next [] line first more = cc
length_next (rest ∷ []) line first more = absurd (more refl)
length_next (other ∷ next ∷ left) line first more = omega arith

-- where one is held, it is the rest
whole_last : (left : List (List ℕ)) → length left ≡ 1 → whole_lines left ≡ []
whole_last [] one = absurd (omega (arith, one))
whole_last (rest ∷ []) one = refl
whole_last (line ∷ next ∷ left) one = absurd (omega (arith, one))

pub length-whole_lines : (lines : List (List ℕ)) → length (whole_lines lines) ≡ length lines - 1
length-whole_lines [] = refl
length-whole_lines (rest ∷ []) = omega arith
length-whole_lines (line ∷ next ∷ lines) = omega (arith, length-whole_lines (next ∷ lines))

-- the rest is handed out as the last line, unless it is empty
pub last_line-some : (rest line : List ℕ) (held : List (List ℕ)) → held ≡ rest ∷ [] → held ≡ line ∷ [] → (held ≡ [] ∷ [] → ⊥) → last_line rest ≡ line ∷ []
last_line-some [] line held is first some = absurd (some is)
last_line-some (b ∷ rest) line held is first some = sym is ∙ first

pub last_line-none : (rest : List ℕ) (held : List (List ℕ)) → held ≡ rest ∷ [] → held ≡ [] ∷ [] → last_line rest ≡ []
last_line-none [] held is none = refl
last_line-none (b ∷ rest) held is none = cc

-- Of the lines that were held whole some are done, and the others are left.
pub record SomeDone {P : Type 0} (weigh : P → CellStat → ℕ) (held left : List (List ℕ)) (old now : Working P) (sink : SinkSeen) (keeper : KeeperSeen) : Type 0 where
  pub some : List (List ℕ)
  pub does : DoesLines {T = ⊤} weigh some old now sink keeper (Ok tt)
  pub whole : whole_lines held ≡ some ++ whole_lines left
  pub rest : rest_of left ≡ rest_of held
  pub few : now.done + length left ≤ old.done + length held

module _ {P K Q : Type 0} (weigh : P → CellStat → ℕ) (tells : K → SinkTold) (keeps_told : Q → KeeperTold) where
  -- the next is done
  pub some_done-next : {T : Type 0} (held left : List (List ℕ)) (line : List ℕ) (old between new : Working P) (out out_between out_after : K) (keeper keeper_between keeper_after : Q) (value : T)
      → SomeDone weigh held left old between (sink_seen tells out out_between) (keeper_seen keeps_told keeper keeper_between)
      → left ≡ line ∷ behind_line left → (length left ≡ 1 → ⊥)
      → DoesLines weigh (line ∷ []) between new (sink_seen tells out_between out_after) (keeper_seen keeps_told keeper_between keeper_after) (Ok value)
      → SomeDone weigh held (behind_line left) old new (sink_seen tells out out_after) (keeper_seen keeps_told keeper keeper_after)
  some_done-next held left line old between new out out_between out_after keeper keeper_between keeper_after value so_far first more next =
      let size = length_next left line first more in
      record {
        some = so_far.some ++ line ∷ [];
        does = does_lines-ok weigh (so_far.some ++ line ∷ []) old new (sink_seen tells out out_after) (keeper_seen keeps_told keeper keeper_after) value tt
            (does_lines-append weigh tells keeps_told tt so_far.some (line ∷ []) old between new out out_between out_after keeper keeper_between keeper_after (Ok value) so_far.does next);
        whole = so_far.whole ∙ ap (λ l. so_far.some ++ l) (whole_next left line first more) ∙ sym (append_assoc so_far.some (line ∷ []) (whole_lines (behind_line left)));
        rest = rest_next left ∙ so_far.rest;
        few = omega (arith, so_far.few, next.count);
      }

  -- it breaks off at the next
  pub some_done-broken : {T : Type 0} (held left : List (List ℕ)) (line : List ℕ) (old between new : Working P) (out out_between out_after : K) (keeper keeper_between keeper_after : Q) (off : BreakOff)
      → SomeDone weigh held left old between (sink_seen tells out out_between) (keeper_seen keeps_told keeper keeper_between)
      → left ≡ line ∷ behind_line left → (length left ≡ 1 → ⊥)
      → DoesLines {T = T} weigh (line ∷ []) between new (sink_seen tells out_between out_after) (keeper_seen keeps_told keeper_between keeper_after) (Err off)
      → DoesLines {T = T} weigh (whole_lines held) old new (sink_seen tells out out_after) (keeper_seen keeps_told keeper keeper_after) (Err off)
  some_done-broken held left line old between new out out_between out_after keeper keeper_between keeper_after off so_far first more next =
      let sink = sink_seen tells out out_after in
      let seen = keeper_seen keeps_told keeper keeper_after in
      let later = whole_lines (behind_line left) in
      let all : whole_lines held ≡ (so_far.some ++ line ∷ []) ++ later =
      so_far.whole ∙ ap (λ l. so_far.some ++ l) (whole_next left line first more) ∙ sym (append_assoc so_far.some (line ∷ []) later) in
      let here = does_lines-append weigh tells keeps_told tt so_far.some (line ∷ []) old between new out out_between out_after keeper keeper_between keeper_after (Err off) so_far.does next in
      rw all (does_lines-cut weigh (so_far.some ++ line ∷ []) later old new sink seen off here)

  -- all are done
  pub some_done-all : {T : Type 0} (held left : List (List ℕ)) (old new : Working P) (out out_after : K) (keeper keeper_after : Q) (value : T)
      → SomeDone weigh held left old new (sink_seen tells out out_after) (keeper_seen keeps_told keeper keeper_after) → length left ≡ 1
      → DoesLines weigh (whole_lines held) old new (sink_seen tells out out_after) (keeper_seen keeps_told keeper keeper_after) (Ok value)
  some_done-all held left old new out out_after keeper keeper_after value so_far one =
      let all : whole_lines held ≡ so_far.some = so_far.whole ∙ ap (λ l. so_far.some ++ l) (whole_last left one) ∙ append-nil so_far.some in
      let sink = sink_seen tells out out_after in
      let seen = keeper_seen keeps_told keeper keeper_after in
      rw all (does_lines-ok weigh so_far.some old new sink seen tt value so_far.does)
