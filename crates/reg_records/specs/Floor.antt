-- The first line of a log may be `floor TAB offset`, before its LF.
use Rattle.std.specs.Prelude.{ℕ, List, [], ◌∷◌, ◌++◌, Bool, not, nat_eq, nat_lt, length}
use Rattle.std.specs.Prelude.{drop, codes, decimal, Result, Ok, Err, if◌then◌else◌}
use Rattle.std.specs.List.{starts_with}
use Rattle.std.specs.Option.{option_map_or}
use Rattle.std.specs.Str.{is_utf8}
use Rattle.reg_records.specs.Line.{offset_of}
use Rattle.reg_records.specs.declared.limits.TheConstants.{LINE_LIMIT}
use Rattle.reg_records.specs.declared.line.LineError.TheVariants.{TooLong, BadUtf8}
use Rattle.reg_records.specs.declared.log.LogFault.{LogFault}
use Rattle.reg_records.specs.declared.log.LogFault.TheVariants as faults

-- `floor` and a TAB
abbrev pub floor_mark : List ℕ
floor_mark = codes "floor" ++ 9 ∷ []

-- the line of a floor, without its LF
abbrev pub floor_text : ℕ → List ℕ
floor_text floor = floor_mark ++ decimal floor

-- the line begins as a floor's
abbrev pub is_floor_line : List ℕ → Bool
is_floor_line line = starts_with nat_eq line floor_mark

-- the floor that such a line says, or the first fault that it has
abbrev pub floor_reading : List ℕ → Result ℕ LogFault
floor_reading line = if nat_lt LINE_LIMIT (length line) then Err (faults.Line TooLong)
    else (if not (is_utf8 line) then Err (faults.Line BadUtf8)
    else option_map_or Ok (offset_of (drop (length floor_mark) line)) (Err faults.BadFloor))
