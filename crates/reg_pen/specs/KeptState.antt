-- What contracts see of a log and the keep that stands at its end.
use Rattle.reg_records.specs.declared.log.Log.{Log}

pub record KeptState (K : Type 0) : Type 0 where
  pub log : Log
  pub keep : K
