-- What answers mean of a chain in memory.
use Rattle.std.specs.Prelude.{◌≡◌, ◌≢◌, List, []}
use Rattle.reg_records.specs.declared.record.Record.{Record}
use Rattle.reg_chain.specs.MemoryState.{MemoryState}
use Rattle.reg_chain.specs.declared.chain.ChainAnswer.{ChainAnswer}
use Rattle.reg_chain.specs.declared.chain.ChainAnswer.TheVariants.{Kept, Behind, Declined, Unknown}

-- a batch is kept, or declined for want of memory, where nothing stands behind what was told, and else it is behind; nothing is unknown
abbrev pub Means : MemoryState → List Record → ChainAnswer → MemoryState → Type 0
Means old batch Kept new = (old.ahead ≡ []) × (new.ahead ≡ [])
Means old batch Behind new = (old.ahead ≢ []) × (new ≡ old)
Means old batch Declined new = (old.ahead ≡ []) × (new ≡ old)
Means old batch Unknown new = ⊥
