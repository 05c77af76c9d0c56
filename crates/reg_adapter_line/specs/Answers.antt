-- What a command is answered.
use Rattle.std.specs.Prelude.{⊤, List, [], ◌∷◌, Option, Some, None}
use Rattle.reg_records.specs.declared.record.Record.{Record}
use Rattle.reg_chain.specs.declared.chain.ChainAnswer.{ChainAnswer}
use Rattle.reg_chain.specs.declared.chain.ChainAnswer.TheVariants.{Kept, Behind, Declined, Unknown}

-- what is answered to a batch that wasn't asked for: it doesn't stand in the chain, and never will
abbrev pub IsRefusal : ChainAnswer → Type 0
IsRefusal Kept = ⊥
IsRefusal Behind = ⊤
IsRefusal Declined = ⊤
IsRefusal Unknown = ⊥

-- the later one, if there is one
abbrev pub later : Option ChainAnswer → Option ChainAnswer → Option ChainAnswer
later before None = before
later before (Some answer) = Some answer

-- what a command is told that waits no more: its answer; and if none came, that it can't be known whether its records stand, and a check is
-- declined
abbrev pub settled : Option ChainAnswer → List Record → ChainAnswer
settled (Some answer) batch = answer
settled None [] = Declined
settled None (r ∷ rs) = Unknown
