-- The text of an inspection, a line a fact.
use Rattle.std.specs.Prelude.{ℕ, List, [], ◌++◌, codes, decimal, Option, Some, None}
use Rattle.std.specs.List.{flat_map}
use Rattle.json.specs.Print.{quoted}
use Rattle.reg_inspection.specs.Cause.{cause_text}
use Rattle.reg_inspection.specs.Obstacles.{obstacle_text}
use Rattle.reg_inspection.specs.declared.counts.Counts.{Counts}
use Rattle.reg_inspection.specs.declared.obstacle.Obstacle.{Obstacle}
use Rattle.reg_inspection.specs.declared.obstacle.Obstacle.TheVariants as kinds

-- what the lines of a log are
abbrev pub lines_text : ℕ → ℕ → ℕ → ℕ → List ℕ
lines_text records foreign floor next =
    codes "records: " ++ decimal records ++ codes "\nforeign lines: " ++ decimal foreign ++ codes "\nfloor: " ++ decimal floor
    ++ codes "\nnext offset: " ++ decimal next ++ codes "\n"

-- what its versions are
abbrev pub versions_text : ℕ → ℕ → ℕ → ℕ → List ℕ
versions_text subjects live deleted ids =
    codes "subjects: " ++ decimal subjects ++ codes "\nlive versions: " ++ decimal live
    ++ codes "\nsoft-deleted versions: " ++ decimal deleted
    ++ codes "\nids: " ++ decimal ids ++ codes "\n"

abbrev pub counts_text : Counts → List ℕ
counts_text c = lines_text c.records c.foreign c.floor c.next ++ versions_text c.subjects c.live c.deleted c.ids

-- the mark of ids that is due, if one is
abbrev pub due_line : Option ℕ → List ℕ
due_line None = []
due_line (Some id) = codes "mark of ids due: " ++ decimal id ++ codes "\n"

-- what stands behind an obstacle's text: its cause, where it has one
abbrev pub cause_part : Obstacle → List ℕ
cause_part (kinds.Opaque offset subject version cause) = codes ": " ++ cause_text cause ++ codes "\n"
cause_part (kinds.TwoSchemas id) = codes "\n"
cause_part kinds.NumbersUsedUp = codes "\n"

abbrev pub obstacle_line : Obstacle → List ℕ
obstacle_line obstacle = obstacle_text obstacle ++ cause_part obstacle

-- how many foreign lines have that keytype, or none
abbrev pub keytype_line : Option (List ℕ) → ℕ → List ℕ
keytype_line None n = codes "foreign lines without a keytype: " ++ decimal n ++ codes "\n"
keytype_line (Some keytype) n = codes "foreign lines of keytype " ++ quoted keytype ++ codes ": " ++ decimal n ++ codes "\n"

abbrev pub foreign_line : Option (List ℕ) × ℕ → List ℕ
foreign_line e = keytype_line e.0 e.1

-- the counts, then the mark that is due, then the foreign lines by their keytypes, then the obstacles
abbrev pub report_text : Counts → Option ℕ → List (Option (List ℕ) × ℕ) → List Obstacle → List ℕ
report_text counts due foreign found = counts_text counts ++ due_line due ++ flat_map foreign_line foreign ++ flat_map obstacle_line found
