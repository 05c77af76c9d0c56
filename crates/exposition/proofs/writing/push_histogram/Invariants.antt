use Rattle.std.proofs.Common.{◌≡◌, ◌++◌, take, flat_map}
use Rattle.std.specs.List.{AllWithin}
use Rattle.exposition.specs.Lawful.{IsSeries}
use Rattle.exposition.specs.Lines.{lines_text}
use Rattle.exposition.specs.Page.{series_lines}
use Rattle.exposition.proofs.writing.push_histogram.Given as goal

-- the series up to there are appended
abbrev pub invariant-loop-one : goal.invariant-loop-one
invariant-loop-one l =
    (l.out.items ≡ l.initial.out.items ++ lines_text (flat_map (λ s. series_lines l.name s) (take l.one-index l.series)))
    × AllWithin IsSeries l.series 0 l.one-index
