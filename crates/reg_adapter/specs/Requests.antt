-- What a process asks its adapter for.
use Rattle.std.specs.Prelude.{ℕ, List, [], ◌∷◌, ◌++◌}
use Rattle.reg_records.specs.declared.record.Record.{Record}
use Rattle.reg_journal.specs.Lines.{batch_lines, text_of}

-- the lines of the records, each with its LF, and an LF; without records that is a check
abbrev pub request_text : List Record → List ℕ
request_text batch = text_of (batch_lines batch) ++ 10 ∷ []
