-- Requests, and what answers to them mean.
use Rattle.std.specs.Prelude.{List, [], ◌∷◌, Bool, true, false, not, Option, Some, None, if◌then◌else◌}
use Rattle.reg_records.specs.declared.record.Record.{Record}
use Rattle.reg_adapter.specs.declared.told.AdapterAnswer.{AdapterAnswer as Said}
use Rattle.reg_adapter.specs.declared.told.AdapterAnswer.TheVariants as said
use Rattle.reg_chain.specs.declared.chain.ChainAnswer.{ChainAnswer}
use Rattle.reg_chain.specs.declared.chain.ChainAnswer.TheVariants.{Kept, Behind, Declined, Unknown}
use Rattle.reg_adapter_chain.specs.declared.request.AppendRequest.{AppendRequest}

-- the answer says that records stand in the chain; a check has none
abbrev pub is_kept : Said → List Record → Bool
is_kept said.Kept [] = false
is_kept said.Kept (r ∷ rs) = true
is_kept said.Behind batch = false
is_kept said.Declined batch = false
is_kept said.Lost batch = false

-- a batch came since this was asked
abbrev pub crossing : Option AppendRequest → Option AppendRequest
crossing None = None
crossing (Some r) = Some (record r { crossed = true })

-- what the answer means: that a check is kept says nothing of what came meanwhile
abbrev pub meaning : Said → Bool → ChainAnswer
meaning said.Kept crossed = if crossed then Behind else Kept
meaning said.Behind crossed = Behind
meaning said.Declined crossed = Declined
meaning said.Lost crossed = Unknown

-- a command waits for the answer, and nothing came since it asked
abbrev pub is_next : Option AppendRequest → Bool → Bool
is_next None waits = false
is_next (Some r) waits = if waits then not r.crossed else false
