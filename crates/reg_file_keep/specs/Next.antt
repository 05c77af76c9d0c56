-- Next offsets.
use Rattle.std.specs.Prelude.{ℕ, ◌+◌, ◌-◌, ◌^◌, max, min, List, fold}
use Rattle.reg_records.specs.declared.record.Record.{Record}

-- the next offset behind a batch
abbrev pub next_behind : ℕ → List Record → ℕ
next_behind next batch = fold (λ n r. max n (min (r.offset + 1) (2 ^ 64 - 1))) next batch
