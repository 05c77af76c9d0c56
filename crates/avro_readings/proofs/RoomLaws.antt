-- What is left of the room where parts are made one after the other.
use Rattle.std.proofs.Common.{◌≡◌, ◌⊎◌, inl, inr, ℕ, ◌+◌, ◌≤◌, List, [], ◌∷◌, ◌++◌, map, Bool, true, false, ◌||◌, nat_lt}
use Rattle.std.proofs.Common.{is_some, Option, Some, None, option_map, option_and_then, refl, sym, ◌∙◌, ap, subst, arith}
use Rattle.std.proofs.lemmas.Bool.{le-ltb, ltb-false}
use Rattle.std.proofs.Math.Nat.{le-max_left, le-max_right, max-le}
use Rattle.avro_resolve.specs.avro_schema.declared.node.Field.{Field}
use Rattle.avro_resolve.specs.avro_schema.declared.node.Node.{Node}
use Rattle.avro_resolve.specs.declared.obligations.Pair.{Pair}
use Rattle.avro_resolve.specs.Pairing.{partner}
use Rattle.avro_data.specs.Value.{Value, leaf, symbol, list_of, map_of, branch, fields_of, by_default, Values, value, Members, member}
use Rattle.avro_data.specs.Size.{parts, depth, parts_of_values, depth_of_values, parts_of_members, depth_of_members, is_too_large}
use Rattle.avro_data.specs.View.{view, values_of, members_of, values_view, members_view}
use Rattle.avro_data.specs.declared.data.Data.{Data}
use Rattle.avro_data.specs.declared.limits.TheConstants.{PARTS_LIMIT, LEVELS_LIMIT}
use Rattle.avro_readings.specs.declared.room.Room.{Room}
use Rattle.avro_readings.specs.declared.room.Halt.{Halt}
use Rattle.avro_readings.specs.declared.room.Halt.TheVariants.{Unreadable, TooLarge, OutOfMemory}
use Rattle.avro_readings.specs.Reads.{field_read, fields_read, reads, items_read, values_read}
use Rattle.avro_readings.specs.Steps.{values_before, members_before}
use Rattle.avro_readings.specs.Room.{value_room, values_room, members_room, inner_room, FitsIn, IsTaken, IsHalt}
use Rattle.avro_readings.proofs.Along.{Entry, seen}

-- a halt at a part is one of the whole, where the whole takes the part's room and more
pub halts : (had now : Room) (whole part : Option Room)
    → ((x : Room) → whole ≡ Some x → (y : Room) × (part ≡ Some y) × (FitsIn had x → FitsIn now y))
    → (e : Halt) → IsHalt now part e → IsHalt had whole e
halts had now None part needs Unreadable h = refl
halts had now (Some x) part needs Unreadable h = let (y, at, fits) = needs x refl in absurd (cc)
halts had now whole part needs TooLarge h = λ x is fit. let (y, at, fits) = needs x is in h y at (fits fit)
halts had now whole part needs OutOfMemory h = tt

-- ---- one part

pub parts-inner : (v : Value) → parts v ≡ 1 + (inner_room v).parts
parts-inner leaf = refl
parts-inner (symbol s) = refl
parts-inner (list_of vs) = refl
parts-inner (map_of ms) = refl
parts-inner (branch k v) = refl
parts-inner (fields_of ms) = refl
parts-inner by_default = refl

pub depth-inner : (v : Value) → depth v ≡ 1 + (inner_room v).levels
depth-inner leaf = refl
depth-inner (symbol s) = refl
depth-inner (list_of vs) = refl
depth-inner (map_of ms) = refl
depth-inner (branch k v) = refl
depth-inner (fields_of ms) = refl
depth-inner by_default = refl

-- no room for any part
pub full : (had : Room) → (had.parts ≡ 0) ⊎ (had.levels ≡ 0)
    → (o : Option Value) (e : Halt) → e ≡ TooLarge → IsHalt had (option_map value_room o) e
full had none o e is = subst (IsHalt had (option_map value_room o)) (sym is) (go o)
  where
    go : (o : Option Value) (x : Room) → option_map value_room o ≡ Some x → FitsIn had x → ⊥
    go None x at fit = absurd (cc)
    go (Some v) x at fit =
        let same : value_room v ≡ x = cc in
        let parts_is : parts v ≡ x.parts = ap (λ (s : Room). s.parts) same in
        let depth_is : depth v ≡ x.levels = ap (λ (s : Room). s.levels) same in
        elim none [
          | inl z ↦ omega (arith, parts-inner v, parts_is, z, fit.parts)
          | inr z ↦ omega (arith, depth-inner v, depth_is, z, fit.levels)
        ]

module _ (had now : Room) (part : now.parts + 1 ≡ had.parts) (level : now.levels + 1 ≡ had.levels) where
  -- a value whose insides were made in the room that is left
  pub row_taken : (left : Room) (v : Value) → IsTaken now left (inner_room v)
      → IsTaken had (record { parts = left.parts; levels = left.levels + 1 }) (value_room v)
  row_taken left v t = record {
    parts = omega (arith, parts-inner v, t.parts, part);
    levels = omega (arith, t.levels, level);
    deep = omega (arith, depth-inner v, t.deep, level);
  }

  pub row_halt : (o : Option Value) (e : Halt) → IsHalt now (option_map inner_room o) e → IsHalt had (option_map value_room o) e
  row_halt o = halts had now (option_map value_room o) (option_map inner_room o) (go o)
    where
      go : (o : Option Value) (x : Room) → option_map value_room o ≡ Some x
          → (y : Room) × (option_map inner_room o ≡ Some y) × (FitsIn had x → FitsIn now y)
      go None x is = absurd (cc)
      go (Some v) x is =
          let same : value_room v ≡ x = cc in
          let parts_is : parts v ≡ x.parts = ap (λ (s : Room). s.parts) same in
          let depth_is : depth v ≡ x.levels = ap (λ (s : Room). s.levels) same in (
            inner_room v,
            refl,
            λ fit.
                record {
                  parts = omega (arith, parts-inner v, parts_is, part, fit.parts);
                  levels = omega (arith, depth-inner v, depth_is, level, fit.levels);
                },
          )

  -- a branch around a value that was made in the room that is left
  pub branch_taken : (left : Room) (k : ℕ) (v : Value) → IsTaken now left (value_room v)
      → IsTaken had (record { parts = left.parts; levels = left.levels + 1 }) (value_room (branch k v))
  branch_taken left k v t = row_taken left (branch k v) t

  pub branch_halt : (k : ℕ) (o : Option Value) (e : Halt) → IsHalt now (option_map value_room o) e
      → IsHalt had (option_map value_room (option_map (branch k) o)) e
  branch_halt k o e h = row_halt (option_map (branch k) o) e (subst (λ p. IsHalt now p e) (sym (same o)) h)
    where
      same : (o : Option Value) → option_map inner_room (option_map (branch k) o) ≡ option_map value_room o
      same None = refl
      same (Some v) = refl

-- ---- one more of a list

parts-before : (xs : List Value) (vs : Values) → parts_of_values (values_before xs vs) ≡ parts_of_values (values_of xs) + parts_of_values vs
parts-before [] vs = omega arith
parts-before (x ∷ xs) vs = omega (arith, parts-before xs vs)

depth-inside : (xs : List Value) (v : Value) (vs : Values) → depth v ≤ depth_of_values (values_before xs (value v vs))
depth-inside [] v vs = le-max_left (depth v) (depth_of_values vs)
depth-inside (x ∷ xs) v vs = omega (arith, depth-inside xs v vs, le-max_right (depth x) (depth_of_values (values_before xs (value v vs))))

parts-last : (ds : List Data) (d : Data) → parts_of_values (values_view (ds ++ d ∷ [])) ≡ parts_of_values (values_view ds) + parts (view d)
parts-last [] d = omega arith
parts-last (e ∷ ds) d = omega (arith, parts-last ds d)

depth-last : (ds : List Data) (d : Data) (n : ℕ) → depth_of_values (values_view ds) ≤ n
    → depth (view d) ≤ n → depth_of_values (values_view (ds ++ d ∷ [])) ≤ n
depth-last [] d n all one = max-le one (omega arith)
depth-last (e ∷ ds) d n all one =
    let head : depth (view e) ≤ n = omega (arith, all, le-max_left (depth (view e)) (depth_of_values (values_view ds))) in
    let rest : depth_of_values (values_view ds) ≤ n =
    omega (arith, all, le-max_right (depth (view e)) (depth_of_values (values_view ds))) in
    max-le head (depth-last ds d n rest one)

pub items_taken : (had now after : Room) (done more : List Data) (found : Data) → IsTaken had now (values_room (values_view done))
    → IsTaken now after (value_room (view found)) → more ≡ done ++ found ∷ [] → IsTaken had after (values_room (values_view more))
items_taken had now after done more found so_far one is = subst (λ ds. IsTaken had after (values_room (values_view ds))) (sym is) (record {
  parts = omega (arith, parts-last done found, so_far.parts, one.parts);
  levels = one.levels ∙ so_far.levels;
  deep = depth-last done found had.levels so_far.deep (omega (arith, one.deep, so_far.levels));
})

pub items_halt : (r w : List Node) (q : Pair) (all left next done : List Data) (x : Data) (had now : Room)
    → items_read r w q (values_view all) ≡ option_map (values_before (map view done)) (items_read r w q (values_view left))
    → left ≡ x ∷ next → IsTaken had now (values_room (values_view done))
    → (e : Halt) → IsHalt now (option_map value_room (reads r w q (view x))) e
    → IsHalt had (option_map values_room (items_read r w q (values_view all))) e
items_halt r w q all left next done x had now so_far is taken =
    halts had now (option_map values_room (items_read r w q (values_view all))) (option_map value_room (reads r w q (view x)))
    (λ s at. go (reads r w q (view x)) (items_read r w q (values_view next)) s (
    sym (
    ap (option_map values_room) (so_far ∙ ap (λ ys. option_map (values_before (map view done)) (items_read r w q (values_view ys))) is))
    ∙ at))
  where
    go : (o : Option Value) (rest : Option Values) (s : Room)
        → option_map values_room (option_map (values_before (map view done)) (option_and_then (λ v. option_map (value v) rest) o)) ≡ Some s
        → (y : Room) × (option_map value_room o ≡ Some y) × (FitsIn had s → FitsIn now y)
    go None rest s at = absurd (cc)
    go (Some v) None s at = absurd (cc)
    go (Some v) (Some vs) s at =
        let same : values_room (values_before (map view done) (value v vs)) ≡ s = cc in
        let parts_is : parts_of_values (values_before (map view done) (value v vs)) ≡ s.parts = ap (λ (t : Room). t.parts) same in
        let depth_is : depth_of_values (values_before (map view done) (value v vs)) ≡ s.levels = ap (λ (t : Room). t.levels) same in (
          value_room v,
          refl,
          λ fit. record {
            parts = omega (arith, parts-before (map view done) (value v vs), parts_is, taken.parts, fit.parts);
            levels = omega (arith, depth-inside (map view done) v vs, depth_is, taken.levels, fit.levels);
          },
        )

-- ---- one more member

member_parts-before : (xs : List (List ℕ × Value)) (ms : Members)
    → parts_of_members (members_before xs ms) ≡ parts_of_members (members_of xs) + parts_of_members ms
member_parts-before [] ms = omega arith
member_parts-before (x ∷ xs) ms = omega (arith, member_parts-before xs ms)

member_depth-inside : (xs : List (List ℕ × Value)) (k : List ℕ) (v : Value) (ms : Members)
    → depth v ≤ depth_of_members (members_before xs (member k v ms))
member_depth-inside [] k v ms = le-max_left (depth v) (depth_of_members ms)
member_depth-inside (x ∷ xs) k v ms =
    omega (arith, member_depth-inside xs k v ms, le-max_right (depth x.1) (depth_of_members (members_before xs (member k v ms))))

member_parts-last : (es : List Entry) (k : List ℕ) (d : Data)
    → parts_of_members (members_view (es ++ (k, d) ∷ [])) ≡ parts_of_members (members_view es) + parts (view d)
member_parts-last [] k d = omega arith
member_parts-last (e ∷ es) k d = omega (arith, member_parts-last es k d)

member_depth-last : (es : List Entry) (k : List ℕ) (d : Data) (n : ℕ) → depth_of_members (members_view es) ≤ n
    → depth (view d) ≤ n → depth_of_members (members_view (es ++ (k, d) ∷ [])) ≤ n
member_depth-last [] k d n all one = max-le one (omega arith)
member_depth-last (e ∷ es) k d n all one =
    let head : depth (view e.1) ≤ n = omega (arith, all, le-max_left (depth (view e.1)) (depth_of_members (members_view es))) in
    let rest : depth_of_members (members_view es) ≤ n =
    omega (arith, all, le-max_right (depth (view e.1)) (depth_of_members (members_view es))) in
    max-le head (member_depth-last es k d n rest one)

pub members_taken : (had now after : Room) (done more : List Entry) (k : List ℕ) (found : Data)
    → IsTaken had now (members_room (members_view done)) → IsTaken now after (value_room (view found))
    → more ≡ done ++ (k, found) ∷ [] → IsTaken had after (members_room (members_view more))
members_taken had now after done more k found so_far one is =
    subst (λ es. IsTaken had after (members_room (members_view es))) (sym is) (record {
      parts = omega (arith, member_parts-last done k found, so_far.parts, one.parts);
      levels = one.levels ∙ so_far.levels;
      deep = member_depth-last done k found had.levels so_far.deep (omega (arith, one.deep, so_far.levels));
    })

-- where a member's value halts, after those that were made
pub member_halt : (whole : Option Members) (done : List Entry) (k : List ℕ) (o : Option Value) (rest : Option Members) (had now : Room)
    → whole ≡ option_map (members_before (map seen done)) (option_and_then (λ v. option_map (member k v) rest) o)
    → IsTaken had now (members_room (members_view done))
    → (e : Halt) → IsHalt now (option_map value_room o) e → IsHalt had (option_map members_room whole) e
member_halt whole done k o rest had now is taken =
    halts had now (option_map members_room whole) (option_map value_room o)
    (λ s at. go o rest s (sym (ap (option_map members_room) is) ∙ at))
  where
    go : (o : Option Value) (rest : Option Members) (s : Room)
        → option_map members_room (option_map (members_before (map seen done)) (option_and_then (λ v. option_map (member k v) rest) o))
        ≡ Some s
        → (y : Room) × (option_map value_room o ≡ Some y) × (FitsIn had s → FitsIn now y)
    go None rest s at = absurd (cc)
    go (Some v) None s at = absurd (cc)
    go (Some v) (Some ms) s at =
        let same : members_room (members_before (map seen done) (member k v ms)) ≡ s = cc in
        let parts_is : parts_of_members (members_before (map seen done) (member k v ms)) ≡ s.parts = ap (λ (t : Room). t.parts) same in
        let depth_is : depth_of_members (members_before (map seen done) (member k v ms)) ≡ s.levels = ap (λ (t : Room). t.levels) same in (
          value_room v,
          refl,
          λ fit. record {
            parts = omega (arith, member_parts-before (map seen done) (member k v ms), parts_is, taken.parts, fit.parts);
            levels = omega (arith, member_depth-inside (map seen done) k v ms, depth_is, taken.levels, fit.levels);
          },
        )

pub values_halt : (r w : List Node) (q : Pair) (all left next done : List Entry) (x : Entry) (had now : Room)
    → values_read r w q (members_view all) ≡ option_map (members_before (map seen done)) (values_read r w q (members_view left))
    → left ≡ x ∷ next → IsTaken had now (members_room (members_view done))
    → (e : Halt) → IsHalt now (option_map value_room (reads r w q (view x.1))) e
    → IsHalt had (option_map members_room (values_read r w q (members_view all))) e
values_halt r w q all left next done x had now so_far is =
    member_halt (values_read r w q (members_view all)) done x.0 (reads r w q (view x.1)) (values_read r w q (members_view next)) had now
    (so_far ∙ ap (λ ys. option_map (members_before (map seen done)) (values_read r w q (members_view ys))) is)

pub fields_halt : (read : List ℕ → Pair → Option Value) (gs all left next : List Field) (done : List Entry) (f : Field) (had now : Room)
    → fields_read read gs all ≡ option_map (members_before (map seen done)) (fields_read read gs left)
    → left ≡ f ∷ next → IsTaken had now (members_room (members_view done))
    → (e : Halt) → IsHalt now (option_map value_room (field_read read f (partner gs f))) e
    → IsHalt had (option_map members_room (fields_read read gs all)) e
fields_halt read gs all left next done f had now so_far is =
    member_halt (fields_read read gs all) done f.name (field_read read f (partner gs f)) (fields_read read gs next) had now
    (so_far ∙ ap (λ ys. option_map (members_before (map seen done)) (fields_read read gs ys)) is)

-- ---- the whole room

pub small : (had left : Room) (v : Value) → had ≡ record { parts = PARTS_LIMIT; levels = LEVELS_LIMIT }
    → IsTaken had left (value_room v) → is_too_large v ≡ false
small had left v whole t =
    let few : parts v ≤ PARTS_LIMIT = subst (λ (h : Room). parts v ≤ h.parts) whole (omega (arith, t.parts)) in
    let flat : depth v ≤ LEVELS_LIMIT = subst (λ (h : Room). depth v ≤ h.levels) whole t.deep in
    ap (λ b. b || nat_lt LEVELS_LIMIT (depth v)) (le-ltb PARTS_LIMIT (parts v) few) ∙ le-ltb LEVELS_LIMIT (depth v) flat

pub large : (had : Room) (v : Value) → had ≡ record { parts = PARTS_LIMIT; levels = LEVELS_LIMIT }
    → (FitsIn had (value_room v) → ⊥) → is_too_large v ≡ true
large had v whole none = go (nat_lt PARTS_LIMIT (parts v)) (nat_lt LEVELS_LIMIT (depth v)) refl refl
  where
    go : (a b : Bool) → nat_lt PARTS_LIMIT (parts v) ≡ a → nat_lt LEVELS_LIMIT (depth v) ≡ b → (a || b) ≡ true
    go true b one two = refl
    go false true one two = refl
    go false false one two =
        absurd (
        none (
        subst (λ (h : Room). FitsIn h (value_room v)) (sym whole)
        (record { parts = ltb-false PARTS_LIMIT (parts v) one; levels = ltb-false LEVELS_LIMIT (depth v) two })))

-- a reading that there is no room for, where there is one
pub too_large : (had : Room) (o : Option Value) (e : Halt) → had ≡ record { parts = PARTS_LIMIT; levels = LEVELS_LIMIT }
    → e ≡ TooLarge → IsHalt had (option_map value_room o) e → is_some o ≡ true → (x : Value) × (o ≡ Some x) × (is_too_large x ≡ true)
too_large had None e whole is halt some = absurd (cc)
too_large had (Some x) e whole is halt some =
    let none : IsHalt had (Some (value_room x)) TooLarge = subst (IsHalt had (Some (value_room x))) is halt in
    (x, refl, large had x whole (none (value_room x) refl))
