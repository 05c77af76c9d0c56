-- Where the connections of a node are, and what each weighs.
use Rattle.std.specs.Prelude.{◌≡◌, ◌+◌, ◌-◌, ◌^◌, ◌<◌, ◌≤◌, ℕ, List, Bool, true, false, Option, Some, None, min, nat_le, nat_lt, replicate, slice_get, slice_set, if◌then◌else◌}
use Rattle.std.specs.List.{position, sum}
use Rattle.reg_connection.specs.Connection.{weight_of}
use Rattle.reg_connection.specs.declared.connection.Connection.{Connection}
use Rattle.reg_connection.specs.declared.places.Place.{Place}
use Rattle.reg_connection.specs.declared.places.Place.TheVariants as places

-- where the connection of each place is, how many bytes each held when it was last seen, and how many were closed
pub record PlaceTable (S T : Type 0) : Type 0 where
  pub places : List (Place S T)
  pub weights : List ℕ
  pub closed : ℕ

module _ {S T : Type 0} where
  -- so many places, all free
  abbrev pub all_free : ℕ → PlaceTable S T
  all_free n = record { places = replicate n places.Free; weights = replicate n 0; closed = 0 }

  abbrev pub is_free : Place S T → Bool
  is_free places.Free = true
  is_free places.Out = false
  is_free (places.Held connection) = false
  is_free (places.Lent stirred) = false

  -- whether the poll reported a place while its connection was lent
  abbrev pub is_stirred : Option (Place S T) → Bool
  is_stirred (Some (places.Lent stirred)) = stirred
  is_stirred (Some places.Free) = false
  is_stirred (Some places.Out) = false
  is_stirred (Some (places.Held connection)) = false
  is_stirred None = false

  -- the connection of a place, where the poller has it
  abbrev pub held_in : Option (Place S T) → Option (Connection S T)
  held_in (Some (places.Held connection)) = Some connection
  held_in (Some places.Free) = None
  held_in (Some places.Out) = None
  held_in (Some (places.Lent stirred)) = None
  held_in None = None

  -- the same, but for one place
  abbrev pub with_place : ℕ → Place S T → PlaceTable S T → PlaceTable S T
  with_place at place table = record { places = slice_set table.places at place; weights = table.weights; closed = table.closed }

  -- the same, but for what the connection of one place holds
  abbrev pub weighed : ℕ → ℕ → PlaceTable S T → PlaceTable S T
  weighed at weight table = record { places = table.places; weights = slice_set table.weights at weight; closed = table.closed }

  -- the same, but for both
  abbrev pub with_weight : ℕ → Place S T → ℕ → PlaceTable S T → PlaceTable S T
  with_weight at place weight table =
      record { places = slice_set table.places at place; weights = slice_set table.weights at weight; closed = table.closed }

  -- the connection of a place was closed, which is free then
  abbrev pub left_at : ℕ → PlaceTable S T → PlaceTable S T
  left_at at table = record {
    places = slice_set table.places at places.Free;
    weights = slice_set table.weights at 0;
    closed = min (table.closed + 1) (2 ^ 64 - 1);
  }

  -- the first free place was taken, or none is free
  abbrev pub TakesFree : PlaceTable S T → PlaceTable S T → Option ℕ → Type 0
  TakesFree old new None = (position is_free old.places ≡ None) × (new ≡ old)
  TakesFree old new (Some at) = (position is_free old.places ≡ Some at) × (new ≡ with_place at places.Out old)

  -- what became of a place that the poll reported: a connection that is held is taken out, and of one that is lent the report is kept
  abbrev pub StirsPlace : ℕ → Option (Place S T) → PlaceTable S T → PlaceTable S T → Option (Connection S T) → Type 0
  StirsPlace at (Some (places.Held connection)) old new result = (result ≡ Some connection) × (new ≡ with_place at places.Out old)
  StirsPlace at (Some (places.Lent stirred)) old new result = (result ≡ None) × (new ≡ with_place at (places.Lent true) old)
  StirsPlace at (Some places.Free) old new result = (result ≡ None) × (new ≡ old)
  StirsPlace at (Some places.Out) old new result = (result ≡ None) × (new ≡ old)
  StirsPlace at None old new result = (result ≡ None) × (new ≡ old)

  abbrev pub Stirs : ℕ → PlaceTable S T → PlaceTable S T → Option (Connection S T) → Type 0
  Stirs at old new result = StirsPlace at (slice_get old.places at) old new result

  -- how many bytes all connections held when they were last seen, up to the greatest count
  abbrev pub all_weight : PlaceTable S T → ℕ
  all_weight table = min (sum table.weights) (2 ^ 64 - 1)

  -- no held connection asked last by that time; or one did, and none before it
  abbrev pub IsOldest : ℕ → List (Place S T) → Option ℕ → Type 0
  IsOldest by all None = (i : ℕ) (c : Connection S T) → held_in (slice_get all i) ≡ Some c → by < c.asked
  IsOldest by all (Some at) = (oldest : Connection S T) × (held_in (slice_get all at) ≡ Some oldest) × (oldest.asked ≤ by)
      × ((i : ℕ) (c : Connection S T) → held_in (slice_get all i) ≡ Some c → oldest.asked ≤ c.asked)

  -- no held connection holds any bytes; or one does, and none more
  abbrev pub IsHeaviest : List (Place S T) → Option ℕ → Type 0
  IsHeaviest all None = (i : ℕ) (c : Connection S T) → held_in (slice_get all i) ≡ Some c → weight_of c ≡ 0
  IsHeaviest all (Some at) = (heaviest : Connection S T) × (held_in (slice_get all at) ≡ Some heaviest) × (0 < weight_of heaviest)
      × ((i : ℕ) (c : Connection S T) → held_in (slice_get all i) ≡ Some c → weight_of c ≤ weight_of heaviest)

  -- no held one of the first so many has asked by that time; or one has, and none before it
  abbrev pub OldestOf : ℕ → ℕ → List (Place S T) → Option (ℕ × ℕ) → Type 0
  OldestOf n by all None = (i : ℕ) → i < n → (c : Connection S T) → held_in (slice_get all i) ≡ Some c → by < c.asked
  OldestOf n by all (Some (at, least)) =
      (oldest : Connection S T) × (held_in (slice_get all at) ≡ Some oldest) × (oldest.asked ≡ least) × (least ≤ by)
      × ((i : ℕ) → i < n → (c : Connection S T) → held_in (slice_get all i) ≡ Some c → least ≤ c.asked)

  -- no held one of the first so many holds bytes; or one does, and none more
  abbrev pub HeaviestOf : ℕ → List (Place S T) → Option (ℕ × ℕ) → Type 0
  HeaviestOf n all None = (i : ℕ) → i < n → (c : Connection S T) → held_in (slice_get all i) ≡ Some c → weight_of c ≡ 0
  HeaviestOf n all (Some (at, most)) =
      (heaviest : Connection S T) × (held_in (slice_get all at) ≡ Some heaviest) × (weight_of heaviest ≡ most) × (0 < most)
      × ((i : ℕ) → i < n → (c : Connection S T) → held_in (slice_get all i) ≡ Some c → weight_of c ≤ most)

-- the place with the lesser time: one that was found, or another, whose time is to be no later than that
abbrev pub lesser : Option (ℕ × ℕ) → ℕ → ℕ → ℕ → Option (ℕ × ℕ)
lesser None at time by = if nat_le time by then Some (at, time) else None
lesser (Some (found, least)) at time by = if nat_lt time least then Some (at, time) else Some (found, least)

-- the place with the greater weight: one that was found, or another, whose weight is to be above 0
abbrev pub greater : Option (ℕ × ℕ) → ℕ → ℕ → Option (ℕ × ℕ)
greater None at weight = if nat_lt 0 weight then Some (at, weight) else None
greater (Some (found, most)) at weight = if nat_lt most weight then Some (at, weight) else Some (found, most)
