-- What conversations come to, call by call.
use Rattle.std.specs.Prelude.{◌≡◌, ℕ, List, [], ◌∷◌, ◌++◌, Option, Some, option_to_list}
use Rattle.reg_records.specs.declared.record.Record.{Record}
use Rattle.reg_adapter.specs.declared.told.AdapterMessage.{AdapterMessage}
use Rattle.reg_chain.specs.declared.chain.ChainAnswer.{ChainAnswer}
use Rattle.reg_adapter_chain.specs.Course.{Asks, Event, Tells, chain_of}
use Rattle.reg_adapter_chain.specs.Standing.{HasComeTo, IsAsked, IsHanded, IsTold, Standing, handed_by}
use Rattle.reg_adapter_chain.specs.declared.asking.Asking.TheVariants.{Asked}

-- what was handed out is the beginning of the chain that the conversation comes to, and what is due is the rest: each batch once, in order
abbrev pub HandedBeginsChain : Type 0
HandedBeginsChain = (first : ℕ) (events : List Event) (handed : List (List Record)) (s : Standing) → HasComeTo first events handed s
    → chain_of first events ≡ Some (handed ++ s.due)

-- a message that is told is the next event
abbrev pub TellsGoOn : Type 0
TellsGoOn = (first : ℕ) (events : List Event) (handed : List (List Record)) (old new : Standing) (told : AdapterMessage) (answer : Option ChainAnswer)
    → HasComeTo first events handed old → IsTold old told answer new
    → HasComeTo first (events ++ Tells told ∷ []) (handed_by handed old.request answer) new

-- so is a request that is asked
abbrev pub AsksGoOn : Type 0
AsksGoOn = (first : ℕ) (events : List Event) (handed : List (List Record)) (old new : Standing) (batch : List Record)
    → HasComeTo first events handed old → IsAsked old batch Asked new
    → HasComeTo first (events ++ Asks batch ∷ []) handed new

-- and a batch that is handed out is no event
abbrev pub HandsGoOn : Type 0
HandsGoOn = (first : ℕ) (events : List Event) (handed : List (List Record)) (old new : Standing) (batch : Option (List Record))
    → HasComeTo first events handed old → IsHanded old batch new
    → HasComeTo first events (handed ++ option_to_list batch) new
