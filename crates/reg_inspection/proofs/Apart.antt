-- The ids that name two schemas.
use Rattle.std.proofs.Common.{◌≡◌, ℕ, Bool, true, false, not, ◌==◌, inl, List, ◌∷◌, map, refl, sym, ap, subst, ◌∙◌, arith}
use Rattle.std.proofs.lemmas.Bool.{false≢true}
use Rattle.std.proofs.lemmas.List.Kept.{IsStrictlyIncreasing-filter}
use Rattle.std.proofs.lemmas.Map.Keys.{IsStrictlyIncreasing-from_sorted}
use Rattle.std.proofs.lemmas.Slice.Eq.{bytes_eq-Decides}
use Rattle.std.specs.List.{list_any}
use Rattle.std.specs.Prelude.{bytes_eq}
use Rattle.reg_fold.specs.reg_entries.Sought.{with_id}
use Rattle.reg_fold.specs.reg_entries.TwoSchemas.{HasTwoSchemas}
use Rattle.reg_fold.specs.reg_entries.declared.entry.Entry.{Entry}
use Rattle.reg_inspection.specs.Shared.{SharedIdsNameTwo, SharedIdsRise, are_apart, ids_of, shared_ids}
use Rattle.reg_inspection.proofs.Members.{IsIn, any_found, any_in, by_bool, contains_in}
use Rattle.reg_inspection.proofs.Members.{in_contains, in_filter, in_map}
use Rattle.reg_inspection.proofs.Members.{out_of_filter, same_test}
use Rattle.reg_inspection.proofs.Rising.{rising_in, rising_rises}

number : (a b : ℕ) → (a == b) ≡ true → a ≡ b
number a b h = grind arith

itself : (a b : ℕ) → a ≡ b → (a == b) ≡ true
itself a b h = grind arith

pub apart : (a b : List ℕ) → not (bytes_eq a b) ≡ true → ¬ (a ≡ b)
apart a b h same = false≢true (sym (ap not ((bytes_eq-Decides a b).1 same)) ∙ h)

differ : (a b : List ℕ) → ¬ (a ≡ b) → not (bytes_eq a b) ≡ true
differ a b h = by_bool (bytes_eq a b) (λ same. absurd (h ((bytes_eq-Decides a b).0 same))) (λ no. ap not no)

-- texts that aren't told apart are one
pub one_text : (a b : List ℕ) → not (bytes_eq a b) ≡ false → a ≡ b
one_text a b h = by_bool (bytes_eq a b) (bytes_eq-Decides a b).0 (λ no. absurd (false≢true (sym h ∙ ap not no)))

-- two of the entries, whose normal texts differ
pub two_apart : (es : List Entry) → are_apart es ≡ true → (e : Entry) × (f : Entry) × IsIn e es × IsIn f es × ¬ (e.normal ≡ f.normal)
two_apart es h =
    let one = any_found (λ e. list_any (λ (f : Entry). not (bytes_eq e.normal f.normal)) es) es h in
    let other = any_found (λ (f : Entry). not (bytes_eq one.0.normal f.normal)) es one.1.1 in
    (one.0, other.0, one.1.0, other.1.0, apart one.0.normal other.0.normal other.1.1)

pub apart_two : (es : List Entry) (e f : Entry) → IsIn e es → IsIn f es → ¬ (e.normal ≡ f.normal) → are_apart es ≡ true
apart_two es e f i j h =
    any_in (λ e. list_any (λ (f : Entry). not (bytes_eq e.normal f.normal)) es) e es
    (any_in (λ (f : Entry). not (bytes_eq e.normal f.normal)) f es (differ e.normal f.normal h) j) i

-- it is enough to look for an entry that differs from the first
pub apart_from_first : (f : Entry) (es : List Entry) → list_any (λ e. not (bytes_eq e.normal f.normal)) (f ∷ es) ≡ are_apart (f ∷ es)
apart_from_first f es = same_test _ _ to back
  where
    differs : Entry → Bool
    differs e = not (bytes_eq e.normal f.normal)

    to : list_any (λ e. not (bytes_eq e.normal f.normal)) (f ∷ es) ≡ true → are_apart (f ∷ es) ≡ true
    to h =
        let one = any_found (λ (e : Entry). not (bytes_eq e.normal f.normal)) (f ∷ es) h in
        apart_two (f ∷ es) one.0 f one.1.0 (inl refl) (apart one.0.normal f.normal one.1.1)

    back : are_apart (f ∷ es) ≡ true → list_any (λ e. not (bytes_eq e.normal f.normal)) (f ∷ es) ≡ true
    back h =
        let two = two_apart (f ∷ es) h in
        by_bool (not (bytes_eq two.0.normal f.normal))
        (λ is. any_in (λ (e : Entry). not (bytes_eq e.normal f.normal)) two.0 (f ∷ es) is two.2)
        (λ isnt.
        any_in (λ (e : Entry). not (bytes_eq e.normal f.normal)) two.1 (f ∷ es)
        (differ two.1.normal f.normal (λ same. two.4 (one_text two.0.normal f.normal isnt ∙ sym same))) two.3)

pub shared_ids_rise : SharedIdsRise
shared_ids_rise es =
    IsStrictlyIncreasing-filter (λ id. are_apart (with_id es id)) (ids_of es)
    (IsStrictlyIncreasing-from_sorted (ids_of es) (rising_rises (map (λ e. e.id) es)))

pub two_of_shared : (es : List Entry) (id : ℕ) → IsIn id (shared_ids es) → HasTwoSchemas es id
two_of_shared es id i =
    let kept = out_of_filter (λ id. are_apart (with_id es id)) id (ids_of es) i in
    let two = two_apart (with_id es id) kept.0 in
    let e = out_of_filter (λ (e : Entry). e.id == id) two.0 es two.2 in
    let f = out_of_filter (λ (e : Entry). e.id == id) two.1 es two.3 in
    (two.0, two.1, contains_in es two.0 e.1, contains_in es two.1 f.1, number two.0.id id e.0, number two.1.id id f.0, two.4)

pub shared_of_two : (es : List Entry) (id : ℕ) → HasTwoSchemas es id → IsIn id (shared_ids es)
shared_of_two es id h =
    let e = h.0 in
    let f = h.1 in
    let has_e = in_filter (λ (e : Entry). e.id == id) e es (itself e.id id h.4) (in_contains es e h.2) in
    let has_f = in_filter (λ (e : Entry). e.id == id) f es (itself f.id id h.5) (in_contains es f h.3) in
    in_filter (λ id. are_apart (with_id es id)) id (ids_of es) (apart_two (with_id es id) e f has_e has_f h.6)
    (rising_in (map (λ e. e.id) es) id
    (subst (λ n. IsIn n (map (λ (e : Entry). e.id) es)) h.4 (in_map (λ (e : Entry). e.id) e es (in_contains es e h.2))))

pub shared_ids_name_two : SharedIdsNameTwo
shared_ids_name_two es id =
    (λ has. two_of_shared es id (in_contains (shared_ids es) id has), λ two. contains_in (shared_ids es) id (shared_of_two es id two))
