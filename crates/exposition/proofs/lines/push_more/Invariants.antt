use Rattle.std.proofs.Common.{◌≡◌, ◌++◌, ◌∷◌, take, flat_map}
use Rattle.std.specs.Prelude.{IsTrue}
use Rattle.exposition.specs.Lawful.{have_names}
use Rattle.exposition.specs.Lines.{label_text}
use Rattle.exposition.proofs.lines.push_more.Given as goal

-- what stands up to there is appended
abbrev pub invariant-loop-label : goal.invariant-loop-label
invariant-loop-label l = (l.out.items ≡ l.initial.out.items ++ flat_map (λ label. 44 ∷ label_text label) (take l.label-index l.labels))
    × IsTrue (have_names (take l.label-index l.labels))
