use Rattle.std.proofs.Common.{◌≡◌, ◌++◌, string_bytes, take}
use Rattle.reg_responses.specs.Pieces.{listed_more}
use Rattle.reg_responses.proofs.joined.push_more.Given as goal

-- what stands up to there is added
abbrev pub invariant-loop-number : goal.invariant-loop-number
invariant-loop-number l = string_bytes l.text ≡ string_bytes l.initial.text ++ listed_more (take l.number-index l.numbers)
