-- Nothing keeps a log from being taken over exactly where a topic can begin with it.
use Rattle.std.proofs.Common.{◌≡◌, ℕ, Bool, true, false, not, min, cond, ◌||◌, ◌&&◌, if◌then◌else◌, inl, List, [], ◌∷◌}
use Rattle.std.proofs.Common.{◌++◌, map, Option, Some, None, option_and_then, option_map, refl, sym, ap, subst, ◌∙◌}
use Rattle.std.proofs.lemmas.Bool.{false≢true}
use Rattle.std.specs.List.{cons_option, filter, filter_map, reduce}
use Rattle.std.specs.Prelude.{bytes_eq, is_some}
use Rattle.reg_fold.specs.reg_records.declared.record.Record.{Record}
use Rattle.reg_fold.specs.reg_set.Records.{Records, records_of}
use Rattle.reg_fold.specs.reg_entries.Sought as sought
use Rattle.reg_fold.specs.reg_entries.TwoSchemas.{HasTwoSchemas, NoneIsOneTextEach}
use Rattle.reg_fold.specs.reg_entries.declared.entry.Entry.{Entry}
use Rattle.reg_fold.specs.Closed.{is_closed, two_schemas}
use Rattle.reg_fold.specs.Entries.{entries}
use Rattle.reg_fold.specs.Opaque.{is_opaque, opaque}
use Rattle.reg_inspection.specs.Cause.{CausesAreOfOpaque, version_in}
use Rattle.reg_inspection.specs.Obstacles.{NoObstacleIsOpen, can_begin, has_no_place, obstacles, opaque_in, place_missing}
use Rattle.reg_inspection.specs.Shared.{shared_ids}
use Rattle.reg_inspection.specs.declared.cause.OpaqueCause.{OpaqueCause}
use Rattle.reg_inspection.specs.declared.obstacle.Obstacle.{Obstacle}
use Rattle.reg_inspection.specs.declared.obstacle.Obstacle.TheVariants as kinds
use Rattle.reg_inspection.proofs.Apart.{apart as texts_apart, one_text, shared_of_two, two_of_shared}
use Rattle.reg_inspection.proofs.Members.{IsIn, by_bool}

some_none : {X : Type 0} (x : X) → Some x ≡ None → ⊥
some_none x e = absurd (cc)

one_nothing : {X : Type 0} (x : X) (xs : List X) → x ∷ xs ≡ [] → ⊥
one_nothing x xs e = absurd (cc)

-- ---- the opaque versions

in_version : {V : Type 0} (kind : V → OpaqueCause → Obstacle) (cause : V → Option OpaqueCause) (o : Option V)
    → is_some (option_and_then (λ v. option_map (kind v) (option_and_then cause o)) o) ≡ is_some (option_and_then cause o)
in_version kind cause None = refl
in_version kind cause (Some v) = mapped (kind v) (cause v)
  where
    mapped : {A B : Type 0} (f : A → B) (o : Option A) → is_some (option_map f o) ≡ is_some o
    mapped f None = refl
    mapped f (Some a) = refl

obstacle_of_opaque : CausesAreOfOpaque → (r : Record) → is_some (opaque_in r) ≡ is_opaque r
obstacle_of_opaque causes r = in_version (λ v cause. kinds.Opaque r.offset v.0 v.1 cause) _ (version_in r.key) ∙ causes r

module _ {X Y : Type 0} (f : X → Option Y) (p : X → Bool) (same : (x : X) → is_some (f x) ≡ p x) where
  none_passes : (xs : List X) → filter_map f xs ≡ [] → filter p xs ≡ []
  none_passes [] h = refl
  none_passes (x ∷ xs) h =
      elim (f x) as (λ o. f x ≡ o → cons_option o (filter_map f xs) ≡ [] → filter p (x ∷ xs) ≡ []) [
        | None ↦ λ e k. ap (λ b. cond b (x ∷ filter p xs) (filter p xs)) (sym (same x) ∙ ap is_some e) ∙ none_passes xs k
        | Some y ↦ λ e k. absurd (one_nothing y (filter_map f xs) k)
      ] refl h

  none_given : (xs : List X) → filter p xs ≡ [] → filter_map f xs ≡ []
  none_given [] h = refl
  none_given (x ∷ xs) h =
      elim (p x) as (λ b. p x ≡ b → cond b (x ∷ filter p xs) (filter p xs) ≡ [] → filter_map f (x ∷ xs) ≡ []) [
        | true ↦ λ e k. absurd (one_nothing x (filter p xs) k)
        | false ↦ λ e k. ap (λ o. cons_option o (filter_map f xs)) (is_none_of (f x) (same x ∙ e)) ∙ none_given xs k
      ] refl h
    where
      is_none_of : (o : Option Y) → is_some o ≡ false → o ≡ None
      is_none_of None h = refl
      is_none_of (Some y) h = absurd (false≢true (sym h))

least_none : {X : Type 0} (f : X → ℕ) (xs : List X) → reduce min (map f xs) ≡ None → xs ≡ []
least_none f [] h = refl
least_none f (x ∷ xs) h = absurd (some_none _ h)

none_least : {X : Type 0} (f : X → ℕ) (xs : List X) → xs ≡ [] → reduce min (map f xs) ≡ None
none_least f xs h = ap (λ ys. reduce min (map f ys)) h

no_opaque : CausesAreOfOpaque → (rs : Records) → filter_map opaque_in (records_of rs) ≡ [] → opaque rs ≡ None
unfolding opaque
no_opaque causes rs h =
    none_least (λ r. r.offset) (filter is_opaque (records_of rs))
    (none_passes opaque_in is_opaque (obstacle_of_opaque causes) (records_of rs) h)

opaque_no : CausesAreOfOpaque → (rs : Records) → opaque rs ≡ None → filter_map opaque_in (records_of rs) ≡ []
unfolding opaque
opaque_no causes rs h =
    none_given opaque_in is_opaque (obstacle_of_opaque causes) (records_of rs)
    (least_none (λ r. r.offset) (filter is_opaque (records_of rs)) h)

-- ---- the ids

no_shared : NoneIsOneTextEach → (es : List Entry) → shared_ids es ≡ [] → sought.two_schemas es ≡ None
no_shared none es h =
    (none es).1 (λ e f has_e has_f ids.
    by_bool (not (bytes_eq e.normal f.normal))
    (λ differs. absurd (subst (λ (l : List ℕ). IsIn f.id l) h (shared_of_two es f.id (e, f, has_e, has_f, ids, refl, apart e f differs))))
    (one_text e.normal f.normal))
  where
    apart : (e f : Entry) → not (bytes_eq e.normal f.normal) ≡ true → ¬ (e.normal ≡ f.normal)
    apart e f h = texts_apart e.normal f.normal h

shared_no : NoneIsOneTextEach → (es : List Entry) → sought.two_schemas es ≡ None → shared_ids es ≡ []
shared_no none es h = nothing (shared_ids es) (λ id i. two_of_shared es id i)
  where
    nothing : (ids : List ℕ) → ((id : ℕ) → IsIn id ids → HasTwoSchemas es id) → ids ≡ []
    nothing [] gives = refl
    nothing (id ∷ ids) gives =
        let two = gives id (inl refl) in
        absurd (two.6 ((none es).0 h two.0 two.1 two.2 two.3 (two.4 ∙ sym two.5)))

-- ---- both

left_nothing : {X : Type 0} (xs ys : List X) → xs ++ ys ≡ [] → xs ≡ []
left_nothing [] ys h = refl
left_nothing (x ∷ xs) ys h = absurd (one_nothing x (xs ++ ys) h)

right_nothing : {X : Type 0} (xs ys : List X) → xs ++ ys ≡ [] → ys ≡ []
right_nothing [] ys h = h
right_nothing (x ∷ xs) ys h = absurd (one_nothing x (xs ++ ys) h)

unmapped : {X Y : Type 0} (f : X → Y) (xs : List X) → map f xs ≡ [] → xs ≡ []
unmapped f [] h = refl
unmapped f (x ∷ xs) h = absurd (one_nothing (f x) (map f xs) h)

neither : {A B : Type 0} (a : Option A) (b : Option B) → a ≡ None → b ≡ None → (is_some a || is_some b) ≡ false
neither a b h k = ap (λ o. is_some o || is_some b) h ∙ ap is_some k

first_none : {A B : Type 0} (a : Option A) (b : Option B) → (is_some a || is_some b) ≡ false → a ≡ None
first_none None b h = refl
first_none (Some a) b h = absurd (false≢true (sym h))

second_none : {A B : Type 0} (a : Option A) (b : Option B) → (is_some a || is_some b) ≡ false → b ≡ None
second_none None None h = refl
second_none None (Some b) h = absurd (false≢true (sym h))
second_none (Some a) b h = absurd (false≢true (sym h))

closed_is : CausesAreOfOpaque → NoneIsOneTextEach → (rs : Records)
    → filter_map opaque_in (records_of rs) ≡ [] → shared_ids (entries rs) ≡ [] → is_closed rs ≡ false
closed_is causes none rs opaques ids = neither (opaque rs) (two_schemas rs) (no_opaque causes rs opaques) (no_shared none (entries rs) ids)

placed : (b : Bool) → (if b then kinds.NumbersUsedUp ∷ [] else []) ≡ [] → b ≡ false
placed true h = absurd (one_nothing kinds.NumbersUsedUp [] h)
placed false h = refl

is_false : (b : Bool) → not b ≡ true → b ≡ false
is_false true h = absurd (false≢true h)
is_false false h = refl

first_true : (a b : Bool) → (a && b) ≡ true → a ≡ true
first_true true b h = refl
first_true false b h = absurd (false≢true h)

second_true : (a b : Bool) → (a && b) ≡ true → b ≡ true
second_true true b h = h
second_true false b h = absurd (false≢true h)

-- the obstacles of records are none, and a mark that is due has a place
begins : CausesAreOfOpaque → NoneIsOneTextEach → (rs : Records) (next : ℕ) → obstacles rs next ≡ [] → can_begin rs next ≡ true
begins causes none rs next h =
    let opaques : List Obstacle = filter_map opaque_in (records_of rs) in
    let shared : List Obstacle = map kinds.TwoSchemas (shared_ids (entries rs)) in
    let both : opaques ++ shared ≡ [] = left_nothing (opaques ++ shared) (place_missing rs next) h in
    let closed : is_closed rs ≡ false = closed_is causes none rs (left_nothing opaques shared both)
    (unmapped kinds.TwoSchemas (shared_ids (entries rs)) (right_nothing opaques shared both)) in
    let place : has_no_place rs next ≡ false =
    placed (has_no_place rs next) (right_nothing (opaques ++ shared) (place_missing rs next) h) in
    ap (λ b. not b && not (has_no_place rs next)) closed ∙ ap not place

open_is : CausesAreOfOpaque → NoneIsOneTextEach → (rs : Records) (next : ℕ) → can_begin rs next ≡ true → obstacles rs next ≡ []
open_is causes none rs next h =
    let closed : is_closed rs ≡ false = is_false (is_closed rs) (first_true (not (is_closed rs)) (not (has_no_place rs next)) h) in
    let place : has_no_place rs next ≡ false =
    is_false (has_no_place rs next) (second_true (not (is_closed rs)) (not (has_no_place rs next)) h) in
    ap (λ (os : List Obstacle). os ++ map kinds.TwoSchemas (shared_ids (entries rs)) ++ place_missing rs next)
    (opaque_no causes rs (first_none (opaque rs) (two_schemas rs) closed))
    ∙ ap (λ (ids : List ℕ). map kinds.TwoSchemas ids ++ place_missing rs next)
    (shared_no none (entries rs) (second_none (opaque rs) (two_schemas rs) closed))
    ∙ ap (λ b. if b then kinds.NumbersUsedUp ∷ [] else []) place

pub no_obstacle_is_open : CausesAreOfOpaque → NoneIsOneTextEach → NoObstacleIsOpen
no_obstacle_is_open causes none rs next = (begins causes none rs next, open_is causes none rs next)
