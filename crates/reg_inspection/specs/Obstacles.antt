-- What keeps a log from being taken over. Below, rs are the last records.
use Rattle.std.specs.Prelude.{◌≡◌, ◌↔◌, ℕ, List, [], ◌∷◌, ◌++◌, Bool, true, not, ◌==◌, ◌&&◌, nat_le, nat_lt}
use Rattle.std.specs.Prelude.{Option, option_and_then, option_map, map, codes, decimal, if◌then◌else◌}
use Rattle.std.specs.List.{filter_map, list_all}
use Rattle.json.specs.Print.{quoted}
use Rattle.reg_fold.specs.reg_records.declared.record.Record.{Record}
use Rattle.reg_fold.specs.reg_set.Records.{Records, records_of}
use Rattle.reg_fold.specs.Closed.{is_closed}
use Rattle.reg_fold.specs.Entries.{entries}
use Rattle.reg_fold.specs.IdMark.{needs_mark}
use Rattle.reg_fold.specs.reg_records.declared.limits.TheConstants.{OFFSET_LIMIT}
use Rattle.reg_inspection.specs.Cause.{cause_of, version_in}
use Rattle.reg_inspection.specs.Shared.{shared_ids}
use Rattle.reg_inspection.specs.declared.obstacle.Obstacle.{Obstacle}
use Rattle.reg_inspection.specs.declared.obstacle.Obstacle.TheVariants as kinds

-- a version's record that can't be read
abbrev pub opaque_in : Record → Option Obstacle
opaque_in r = option_and_then (λ v. option_map (λ cause. kinds.Opaque r.offset v.0 v.1 cause) (cause_of r)) (version_in r.key)

-- whether a mark of ids is due, and no offset is left for it. Here and below, next is the next offset
abbrev pub has_no_place : Records → ℕ → Bool
has_no_place rs next = needs_mark rs && nat_lt OFFSET_LIMIT next

-- that, if it is so
abbrev pub place_missing : Records → ℕ → List Obstacle
place_missing rs next = if has_no_place rs next then kinds.NumbersUsedUp ∷ [] else []

-- the versions whose records can't be read, by their offsets, the ids that name two schemas, in ascending order, and a mark without a place
abbrev pub obstacles : Records → ℕ → List Obstacle
obstacles rs next = filter_map opaque_in (records_of rs) ++ map kinds.TwoSchemas (shared_ids (entries rs)) ++ place_missing rs next

-- whether a topic can begin with these: the registry over them takes commands, and a mark that is due has a place
abbrev pub can_begin : Records → ℕ → Bool
can_begin rs next = not (is_closed rs) && not (has_no_place rs next)

-- there is none exactly where a topic can begin with these
abbrev pub NoObstacleIsOpen : Type 0
NoObstacleIsOpen = (rs : Records) (next : ℕ) → (obstacles rs next ≡ []) ↔ (can_begin rs next ≡ true)

-- whether a text has neither a control character nor a quotation mark
abbrev pub is_plain : List ℕ → Bool
is_plain text = list_all (λ b. nat_le 32 b && not (b == 34)) text

-- the text as it stands in a line: as it is where it is plain, else as a JSON string, so that it breaks no line
abbrev pub shown : List ℕ → List ℕ
shown text = if is_plain text then text else quoted text

abbrev pub opaque_text : ℕ → List ℕ → ℕ → List ℕ
opaque_text offset subject version = codes "opaque record at " ++ decimal offset ++ codes ": subject " ++ shown subject
    ++ codes ", version " ++ decimal version

-- its text, without the cause
abbrev pub obstacle_text : Obstacle → List ℕ
obstacle_text (kinds.Opaque offset subject version cause) = opaque_text offset subject version
obstacle_text (kinds.TwoSchemas id) = codes "two schemas for id " ++ decimal id
obstacle_text kinds.NumbersUsedUp = codes "no offset is left for the mark of ids"
