use Rattle.std.proofs.Common.{◌≡◌, ◌++◌, ◌∷◌, [], take, flat_map}
use Rattle.exposition.specs.Lines.{label_text}
use Rattle.exposition.proofs.lines.push_before_commas.Given as goal

-- what stands up to there is appended
abbrev pub invariant-loop-label : goal.invariant-loop-label
invariant-loop-label l =
    l.out.items ≡ l.initial.out.items ++ flat_map (λ label. label_text label ++ (44 ∷ [])) (take l.label-index l.labels)
