use Rattle.std.proofs.Common.{◌≡◌, drop}
use Rattle.script_text.specs.ScriptWord.{word_among}
use Rattle.script_text.proofs.word.word_among.Given as goal

-- none of the words before this one is spelled
abbrev pub invariant-loop-word : goal.invariant-loop-word
invariant-loop-word l = word_among l.words l.field ≡ word_among (drop l.word-index l.words) l.field
