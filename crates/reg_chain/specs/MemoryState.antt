-- What contracts see of a chain in memory.
use Rattle.std.specs.Prelude.{List}
use Rattle.reg_records.specs.declared.record.Record.{Record}

-- the batches that were told, and those behind them
pub record MemoryState : Type 0 where
  pub told : List (List Record)
  pub ahead : List (List Record)
