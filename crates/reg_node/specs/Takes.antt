-- What nodes draw from the topic.
use Rattle.std.specs.Prelude.{◌≡◌, ◌≢◌, ◌≤◌, ℕ, true, false, List, [], ◌∷◌, ◌++◌, length, fold, map, Option, Some, None, option_to_list}
use Rattle.std.specs.FinSet.{contains, empty, from_list, insert}
use Rattle.std.specs.List.{list_any}
use mathlib.Core.List.{IsPrefix}
use Rattle.reg_records.specs.declared.record.Record.{Record}
use Rattle.reg_set.specs.LastRecords.{last_records}
use Rattle.reg_set.specs.Records.{Records}
use Rattle.reg_floored.specs.Floored.{Floored}
use Rattle.reg_floored.specs.Floors.{rebased}
use Rattle.reg_topic.specs.declared.published.Item.{Item}
use Rattle.reg_shared.specs.Held.{Held, IsBelow, IsSince, topic_at}
use Rattle.reg_node.specs.declared.take.Draw.{Draw}
use Rattle.reg_node.specs.declared.take.Draw.TheVariants as draws
use Rattle.reg_node.specs.declared.take.Rebase.{Rebase}

-- what a rebase brings
abbrev pub base_in : Rebase → Floored
base_in r = record { records = from_list r.below; floor = r.floor }

-- a take adds its record; a rebase puts the records that it brings in the place of those below its floor
abbrev pub with_draw : Records → Draw → Records
with_draw s (draws.Take t) = insert s t.kept
with_draw s (draws.Rebase r) = rebased s (base_in r)

-- all records that were taken, and rebased
abbrev pub taken : List Draw → Records
taken ds = fold with_draw empty ds

-- the floor is that of the last rebase
abbrev pub floor_with : ℕ → Draw → ℕ
floor_with floor (draws.Take t) = floor
floor_with floor (draws.Rebase r) = r.floor

abbrev pub floor_of : List Draw → ℕ
floor_of ds = fold floor_with 0 ds

-- what was taken, as a set with a floor
abbrev pub taken_set : List Draw → Floored
taken_set ds = record { records = taken ds; floor = floor_of ds }

-- the last records, with one draw more
abbrev pub lasts_with_draw : Records → Draw → Records
lasts_with_draw rs d = last_records (with_draw rs d)

-- what a node's list folds to
abbrev pub DrawsFoldToLastRecords : Type 0
DrawsFoldToLastRecords = (ds : List Draw) → fold lasts_with_draw empty ds ≡ last_records (taken ds)

-- a draw from a front of the topic's list, with that front's length, at a node with those records and that floor: a take of a kept
-- record where the floors are equal, or a rebase on the kept set
abbrev pub IsDraw : Held → List Item → Records → ℕ → Draw → Type 0
IsDraw first f s floor (draws.Take t) = (t.read ≡ length f) × (floor ≡ (topic_at first f).kept.floor)
    × (contains (topic_at first f).kept.records t.kept ≡ true)
IsDraw first f s floor (draws.Rebase r) =
    (r.read ≡ length f) × (floor ≤ r.floor) × (r.floor ≡ (topic_at first f).kept.floor)
    × (with_draw s (draws.Rebase r) ≡ rebased s (topic_at first f).kept)

-- each is drawn from a front of the topic's list. Each of these fronts begins with the one before, the
-- first with the front given first; the front given last begins with them all
abbrev pub AreDrawn : Held → Records → ℕ → List Item → List Draw → List Item → Type 0
AreDrawn first s floor from [] upto = IsPrefix from upto
AreDrawn first s floor from (d ∷ ds) upto =
    (f : List Item) × IsPrefix from f × IsDraw first f s floor d × AreDrawn first (with_draw s d) (floor_with floor d) f ds upto

-- from nothing
abbrev pub AreDrawnFrom : Held → List Draw → List Item → Type 0
AreDrawnFrom first ds upto = AreDrawn first empty 0 [] ds upto

-- a take of each record, where so many items had been read
abbrev pub takes_of : ℕ → List Record → List Draw
takes_of read records = map (λ r. draws.Take (record { read = read; kept = r })) records

-- a rebase, if records are given for one, and a take of each record
abbrev pub draws_of : ℕ → ℕ → Option (List Record) → List Record → List Draw
draws_of read floor below records =
    map (λ rs. draws.Rebase (record { read = read; floor = floor; below = rs })) (option_to_list below) ++ takes_of read records

-- no records for a rebase where the floors are equal; else those kept below the kept floor
abbrev pub IsBasis : Floored → ℕ → Option (List Record) → Type 0
IsBasis kept floor None = floor ≡ kept.floor
IsBasis kept floor (Some below) = (floor ≢ kept.floor) × IsBelow kept.records kept.floor below

-- draws are pending besides, from the front that is then seen: a rebase, where its kept set has another floor, and a take of
-- each record of its kept set from some offset on. There is one, and no record that was there before
pub record Pulls (first : Held) (front : List Item) (before after : List Draw × List Draw) : Type 0 where
  pub below : Option (List Record)
  pub basis : IsBasis (topic_at first front).kept (floor_of (before.0 ++ before.1)) below
  pub records : List Record
  pub from : ℕ
  pub since : IsSince (topic_at first front).kept.records from records
  pub some : draws_of (length front) (topic_at first front).kept.floor below records ≢ []
  pub new : list_any (contains (taken (before.0 ++ before.1))) records ≡ false
  pub pending : after ≡ (before.0, before.1 ++ draws_of (length front) (topic_at first front).kept.floor below records)
