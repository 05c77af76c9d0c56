-- Which sets of last records give the same.
use Rattle.std.specs.Prelude.{◌≡◌}
use Rattle.reg_leader.specs.reg_set.LastRecords.{last_records}
use Rattle.reg_leader.specs.reg_set.Records.{Records}
use Rattle.reg_floored.specs.Compaction.{IsCompactionOf, standing}
use Rattle.reg_floored.specs.Floored.{Floored}
use Rattle.reg_leader.specs.reg_fold.GiveAlike.{GiveAlike}

-- last records without a value give nothing
abbrev pub NullsGiveNothing : Type 0
NullsGiveNothing = (whole : Records) → GiveAlike (last_records whole) (standing whole)

-- so where the same last records have a value, the same is given
abbrev pub SameStandingGivesAlike : Type 0
SameStandingGivesAlike = (R S : Records) → standing R ≡ standing S → GiveAlike (last_records R) (last_records S)

-- and so does each compaction, though it may lack last records without a value
abbrev pub CompactionsGiveAlike : Type 0
CompactionsGiveAlike = (part whole : Floored) → IsCompactionOf part whole
    → GiveAlike (last_records part.records) (last_records whole.records)
