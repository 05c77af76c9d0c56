-- The data that a `Json` stands for.
use Rattle.std.specs.Prelude.{ℕ, List, [], ◌∷◌, map}
use Rattle.std.specs.Borrow.{Bor}
use Rattle.serde_json.specs.Data.{Data, null, boolean, number, string, array, object, Items, no_items, item, Members, no_members, member}
use Rattle.serde_json.specs.View.{number_view}
use Rattle.json_tree.specs.declared.tree.Json.{Json, fold-Json}
use Rattle.json_tree.specs.declared.tree.Json.TheOpen.{Json-F}

abbrev pub items_of : List Data → Items
items_of [] = no_items
items_of (d ∷ ds) = item d (items_of ds)

abbrev pub members_of : List (Bor (List ℕ) × Data) → Members
members_of [] = no_members
members_of (m ∷ ms) = member m.0.now m.1 (members_of ms)

-- one level, with each value inside already seen as its data
abbrev pub view_step : Json-F Data → Data
view_step Json-F.Null = null
view_step (Json-F.Bool b) = boolean b
view_step (Json-F.Number x) = number (number_view x)
view_step (Json-F.String s) = string s.now
view_step (Json-F.Array v) = array (items_of v.items)
view_step (Json-F.Object v) = object (members_of v.items)

abbrev pub view : Json → Data
view = fold-Json Data view_step

-- a member, by its name
abbrev pub Entry : Type 0
Entry = Bor (List ℕ) × Json

abbrev pub items_view : List Json → Items
items_view vs = items_of (map view vs)

abbrev pub members_view : List Entry → Members
members_view ms = members_of (map (λ m. (m.0, view m.1)) ms)
