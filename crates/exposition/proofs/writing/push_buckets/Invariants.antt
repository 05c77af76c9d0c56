use Rattle.std.proofs.Common.{◌≡◌, ◌≤◌, ◌*◌, ◌++◌, drop}
use Rattle.std.specs.List.{AllWithin}
use Rattle.exposition.specs.Lawful.{IsShort}
use Rattle.exposition.specs.Lines.{lines_text}
use Rattle.exposition.specs.Page.{bucket_lines}
use Rattle.exposition.proofs.writing.push_buckets.Given as goal

-- what is still to be written makes the text whole
abbrev pub invariant-loop-i : goal.invariant-loop-i
invariant-loop-i l = (l.below ≤ l.i * 18446744073709551615)
    × (l.out.items ++ lines_text (bucket_lines l.name l.labels l.below (drop l.i l.bounds) (drop l.i l.counts))
    ≡ l.initial.out.items ++ lines_text (bucket_lines l.name l.labels 0 l.bounds l.counts))
    × AllWithin IsShort l.bounds 0 l.i
