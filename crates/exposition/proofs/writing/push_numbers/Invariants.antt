use Rattle.std.proofs.Common.{◌≡◌, ◌++◌, take, map}
use Rattle.std.specs.List.{AllWithin}
use Rattle.exposition.specs.Lawful.{IsSample}
use Rattle.exposition.specs.Lines.{lines_text}
use Rattle.exposition.specs.Page.{sample_line}
use Rattle.exposition.proofs.writing.push_numbers.Given as goal

-- the samples up to there are appended
abbrev pub invariant-loop-sample : goal.invariant-loop-sample
invariant-loop-sample l =
    (l.out.items ≡ l.initial.out.items ++ lines_text (map (λ s. sample_line l.name s) (take l.sample-index l.samples)))
    × AllWithin IsSample l.samples 0 l.sample-index
