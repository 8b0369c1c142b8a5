-- The place's key is noted, and those before it stay so.
use Rattle.std.proofs.Common.{◌≡◌, ◌+◌, suc, take, subst, arith, rules}
use Rattle.staged_map.specs.Hints.{AreNoted}
use Rattle.staged_map.proofs.Noting.{AreNoted-more}
use Rattle.staged_map.proofs.staged.note_all.Goals as goal

pub loop-i-preserved : goal.loop-i-preserved
loop-i-preserved g c =
    let next : suc c.loop-i.i ≡ c.loop-i.i + 1 = omega arith in
    subst (λ n. AreNoted c.note.new.self (take n c.args.places.now.entries)) next
    (AreNoted-more c.loop-i.hints c.note.new.self c.args.places.now.entries c.loop-i.i c.unwrap.result.0.now c.unwrap.result.1.now (search rules) c.note.ensures.keeps c.note.ensures.noted c.loop-i.invariant)
