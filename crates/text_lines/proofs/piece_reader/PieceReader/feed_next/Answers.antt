use Rattle.std.proofs.Common.{◌≡◌, ℕ, ◌+◌, ◌-◌, ◌<◌, ◌≤◌, ◌++◌, false, List, length, take, Option, Result, Ok, Err, eqb, refl, sym, subst, ap, ◌∙◌, arith, rules}
use Rattle.std.specs.Prelude.{OnOk}
use Rattle.std.specs.Io.KnownBytes.{Consumes, IsAtEnd}
use Rattle.std.specs.Result.{is_err}
use Rattle.std.proofs.lemmas.Bool.Decides.{nat_tests}
use Rattle.std.proofs.lemmas.List.{length-take-le, take-append-le, take-take}
use Rattle.text_lines.specs.Pieces.{pieces_of, rest_of}
use Rattle.text_lines.specs.Reading.{PIECE_LIMIT, Feeds, Reading}
use Rattle.text_lines.proofs.piece_reader.PieceReader.feed_next.Goals as goal

-- what holds on success holds where there is no error
on_ok : {X E : Type 0} (P : Type 0) (result : Result X E) → is_err result ≡ false → OnOk result P → P
on_ok P (Ok x) ok is = is
on_ok P (Err e) ok is = absurd (cc)

-- what was read stands in front of the buffer
piece_is : (len size : ℕ) (into post left seen : List ℕ) → seen ≡ take size ((into ++ post) ++ left) → len ≤ length into → len ≤ length (into ++ post) → len ≤ size → take len seen ≡ take len into
piece_is len size into post left seen is within within_all within_size = ap (take len) is ∙ take-take len size ((into ++ post) ++ left) within_size ∙ rw (take-append-le, take-append-le) refl

-- a piece that was read and held
feeds : (left left_after : Option (List ℕ)) (room len : ℕ) (into : List ℕ) (before : Reading) (held held_after : List (List ℕ)) → len ≤ length into → length into ≤ PIECE_LIMIT → 0 < length into → len ≤ room → room ≡ before.room
    → Consumes left left_after (take len into) × (len ≡ 0 → 0 < length into → IsAtEnd left_after) → held_after ≡ pieces_of (rest_of held ++ take len into)
    → ((text : List ℕ) → held ≡ pieces_of text → held_after ≡ pieces_of (text ++ take len into)) → length held_after ≤ length (take len into) + 1
    → Feeds left left_after before (record { room = room - len; is_ended = eqb len 0 }) held held_after
feeds left left_after room len into before held held_after within most some fits room_is read rest text few =
    let count : length (take len into) ≡ len = length-take-le len into within in
    record {
      piece = take len into;
      bytes = read.0;
      rest = rest;
      text = text;
      few = omega (arith, count);
      few_lines = few;
      room = omega (arith, count);
      more = λ e. grind (arith, nat_tests, count);
      end = λ e. let none : len ≡ 0 = grind (arith, nat_tests) in (ap (λ n. take n into) none, read.1 none some);
    }

pub returns-clause-fed : goal.returns-clause-fed
returns-clause-fed g c =
    let into = c.read.new.into in
    let size : length c.read.new.into ≡ c.clamp-most.result = search rules in
    let held : c.self.inside.buffer.len ≡ PIECE_LIMIT = search rules in
    let piece : take c.in-Ok.len c.deref.result.now ≡ take c.in-Ok.len c.read.new.into = piece_is _ _ _ _ _ _ c.deref.ensures.value c.in-Ok.ensures.within (search rules) (omega (arith, size, held, c.in-Ok.ensures.within)) in
    let ok : is_err c.feed.result ≡ false = sym c.is_err.ensures.value ∙ c.if-is_err.false in
    feeds _ _ c.self.inside.room c.in-Ok.len into _ _ _ c.in-Ok.ensures.within (omega (arith, size)) (omega (arith, size)) c.if-len-self.false (ap (λ (r : Reading). r.room) c.self.view_is) c.in-Ok.ensures.bytes
    (on_ok _ _ ok (subst (λ piece. OnOk c.feed.result (c.feed.new.self.lines ≡ pieces_of (rest_of c.args.cutter.now.lines ++ piece))) piece c.feed.ensures.rest))
    (λ text is. on_ok _ _ ok (subst (λ piece. OnOk c.feed.result (c.feed.new.self.lines ≡ pieces_of (text ++ piece))) piece (c.feed.ensures.text text is)))
    (subst (λ piece. length c.feed.new.self.lines ≤ length piece + 1) piece (on_ok _ _ ok c.feed.ensures.few))
