-- What compacting makes of a log.
use Rattle.std.specs.Prelude.{◌≡◌, ◌≤◌, ℕ, List, [], length, Ok}
use Rattle.std.specs.FinSet.{from_list}
use Rattle.reg_journal.specs.Lines.{SayLog, text_of}
use Rattle.reg_records.specs.Log.{LogText, log_of, next_of, records_in}
use Rattle.reg_records.specs.declared.limits.TheConstants.{LOG_LINES}
use Rattle.reg_records.specs.declared.record.Read.{Read}
use Rattle.reg_set.specs.LastRecords.{last_records}

-- the output is a log whose records are the last records of the input's, whose floor and next offset are the same, in no more bytes
pub record IsCompacted (input output : List ℕ) : Type 0 where
  pub log : LogText
  pub read : log_of input ≡ Ok log
  pub out : LogText
  pub read_back : log_of output ≡ Ok out
  pub whole : out.rest ≡ []
  pub floor : out.floor ≡ log.floor
  pub lasts : from_list (records_in out.reads) ≡ last_records (from_list (records_in log.reads))
  pub next : next_of out.floor out.reads ≡ next_of log.floor log.reads
  pub small : length output ≤ length input

-- the text is lines which say something, no more than a log may have, and no empty line stands behind them
pub record IsLines (text : List ℕ) : Type 0 where
  pub lines : List (List ℕ)
  pub floor : ℕ
  pub read : List Read
  pub parts : text ≡ text_of lines
  pub say : SayLog lines floor read
  pub few : length lines ≤ LOG_LINES
