-- Private: which fields of a reader's record have a partner, found from the writer's side.
use Rattle.std.specs.Prelude.{◌≡◌, ◌≢◌, ◌<◌, ◌≤◌, ℕ, ◌⊎◌, List, [], ◌∷◌, ◌++◌, length, true, Option, Some}
use Rattle.std.specs.Prelude.{None, All, IsSome, is_some, option_and_then, suc, get_or, slice_get}
use Rattle.std.specs.Global.{Vec}
use Rattle.std.specs.Borrow.{Bor}
use Rattle.std.specs.Cmp.Lexicographic.{slice_cmp}
use Rattle.std.specs.Option.{option_map_or}
use Rattle.std.specs.Ordering.{nat_cmp}
use Rattle.std.specs.BTreeMap.{BTreeMap, get}
use Rattle.avro_schema.specs.declared.node.Field.{Field}
use Rattle.avro_schema.specs.declared.node.Node.{Node}
use Rattle.avro_schema.specs.Defaults.{field_named}
use Rattle.avro_schema.specs.Sound.{fields_of_node}
use Rattle.avro_resolve.specs.declared.field_index.Holder.{Holder}
use Rattle.avro_resolve.specs.declared.field_index.FoundField.{FoundField}
use Rattle.avro_resolve.specs.declared.field_index.FieldIndex.{FieldIndex}
use Rattle.avro_resolve.specs.Pairing.{partner}

-- a field's names, in the order in which a partner is looked for
abbrev pub names_of : Field → List (List ℕ)
names_of f = f.name ∷ f.aliases

-- ---- holders of names

-- none of these is of field k
abbrev pub IsAbsent : ℕ → List Holder → Type 0
IsAbsent k hs = All (λ h. h.field ≢ k) hs

-- none of these is of field k and of a place up to r
abbrev pub IsAbsentUpto : ℕ → ℕ → List Holder → Type 0
IsAbsentUpto k r hs = All (λ h. h.field ≡ k → r < h.rank) hs

-- place r of field k comes before place j of field i
abbrev pub Before : ℕ → ℕ → ℕ → ℕ → Type 0
Before k r i j = (k < i) ⊎ ((k ≡ i) × (r < j))

-- field k has a name at place r
abbrev pub HasAt : List Field → List ℕ → Holder → Type 0
HasAt fs n h = (f : Field) × (slice_get fs h.field ≡ Some f) × (slice_get (names_of f) h.rank ≡ Some n)

abbrev pub Holders : Type 0
Holders = BTreeMap (Bor (List ℕ)) (Vec Holder)

abbrev pub Name : Type 0
Name = Bor (List ℕ)

-- who has a name
abbrev pub held : Holders → Name → List Holder
held m n = option_map_or (λ v. v.items) (get (λ a b. slice_cmp nat_cmp a.now b.now) m n) []

-- one more, unless one of that field was there
abbrev pub IsAddedTo : List Holder → List Holder → Holder → Type 0
IsAddedTo old new h = (new ≡ old ++ h ∷ []) ⊎ ((new ≡ old) × (IsAbsent h.field old → ⊥))

-- at each name the fields that have it, up to place j of field i
pub record AreHolders (fs : List Field) (i j : ℕ) (m : Holders) : Type 0 where
  pub named : (n : Name) → All (HasAt fs n.now) (held m n)
  pub before : (n : Name) → All (λ h. Before h.field h.rank i j) (held m n)
  pub whole : (k r : ℕ) (f : Field) (n : Name)
      → slice_get fs k ≡ Some f
      → slice_get (names_of f) r ≡ Some n.now
      → Before k r i j
      → IsAbsentUpto k r (held m n)
      → ⊥

-- a place after the names of its field
abbrev pub IsAfter : List Field → Holder → Type 0
IsAfter fs h = (f : Field) × (slice_get fs h.field ≡ Some f) × (length (names_of f) ≤ h.rank)

-- fields with a place after their names, all without default among them
pub record AreOthers (fs : List Field) (hs : List Holder) : Type 0 where
  pub after : All (IsAfter fs) hs
  pub whole : (k : ℕ) (f : Field) → slice_get fs k ≡ Some f → IsAbsent k hs → is_some f.default ≡ true

pub record IsFieldIndex (fs : List Field) (s : FieldIndex) : Type 0 where
  pub others : AreOthers fs s.others.items
  pub holders : AreHolders fs (length fs) 0 s.holders

-- ---- what was found

-- a field that has no partner, and lacks no value
abbrev pub IsPassed : List Field → Field → Type 0
IsPassed writer f = (partner writer f ≡ None) × (is_some f.default ≡ true)

abbrev pub at_place : ℕ → Holder → FoundField
at_place p h = record { holder = h; place = p }

abbrev pub NoneOf : ℕ → List FoundField → Type 0
NoneOf k xs = All (λ x. x.holder.field ≢ k) xs

abbrev pub NoneUpto : ℕ → ℕ → List FoundField → Type 0
NoneUpto k r xs = All (λ x. x.holder.field ≡ k → r < x.holder.rank) xs

-- the writer's field at the place has the name, or there is neither
abbrev pub IsFound : List Field → List Field → FoundField → Type 0
IsFound reader writer x = (f : Field) × (slice_get reader x.holder.field ≡ Some f)
    × (slice_get writer x.place ≡ option_and_then (field_named writer) (slice_get (names_of f) x.holder.rank))
    × ((length (names_of f) ≤ x.holder.rank) ⊎ IsSome (slice_get writer x.place))

-- all that can't be passed over for the writer's fields before place p
pub record AreFoundUpto (reader writer : List Field) (p : ℕ) (xs : List FoundField) : Type 0 where
  pub each : All (IsFound reader writer) xs
  pub whole : (k r q : ℕ) (f g : Field)
      → slice_get reader k ≡ Some f
      → slice_get writer q ≡ Some g
      → q < p
      → slice_get (names_of f) r ≡ Some g.name
      → NoneUpto k r xs
      → ⊥
  pub lacking : (k : ℕ) (f : Field) → slice_get reader k ≡ Some f → NoneOf k xs → is_some f.default ≡ true

-- by number, and of one field the first name first
abbrev pub DoRise : List FoundField → Type 0
DoRise xs = (i j : ℕ) (d : FoundField)
    → i ≤ j
    → j < length xs
    → Before (get_or xs i d).holder.field (get_or xs i d).holder.rank (get_or xs j d).holder.field (suc (get_or xs j d).holder.rank)

-- all that can't be passed over
pub record AreFound (reader writer : List Field) (xs : List FoundField) : Type 0 where
  pub upto : AreFoundUpto reader writer (length writer) xs
  pub within : All (λ x. x.holder.field < length reader) xs
  pub rise : DoRise xs

abbrev pub fields_in : Option Node → List Field
fields_in (Some n) = fields_of_node n
fields_in None = []

-- what is kept of a record is a field index of its fields
abbrev pub AreFieldIndexes : List Node → BTreeMap ℕ FieldIndex → Type 0
AreFieldIndexes r kept = (i : ℕ) (s : FieldIndex) → get nat_cmp kept i ≡ Some s → IsFieldIndex (fields_in (slice_get r i)) s
