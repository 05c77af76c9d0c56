-- What a chain tells with its answers.
use Rattle.std.specs.Prelude.{List, [], ◌∷◌, ◌++◌}
use Rattle.reg_records.specs.declared.record.Record.{Record}
use Rattle.reg_chain.specs.declared.chain.ChainAnswer.{ChainAnswer}
use Rattle.reg_chain.specs.declared.chain.ChainAnswer.TheVariants.{Kept, Behind, Declined, Unknown}

-- what was told grows by the batch that is kept, unless it is a check's, and else not at all
abbrev pub told_after : List (List Record) → List Record → ChainAnswer → List (List Record)
told_after told [] answer = told
told_after told (r ∷ rs) Kept = told ++ (r ∷ rs) ∷ []
told_after told (r ∷ rs) Behind = told
told_after told (r ∷ rs) Declined = told
told_after told (r ∷ rs) Unknown = told
