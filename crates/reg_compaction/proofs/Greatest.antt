-- The greatest id that records name.
use Rattle.std.proofs.Common.{◌≡◌, ◌≤◌, ◌<◌, ◌⊎◌, inl, inr, ⊎_elim, ℕ, suc, max, Bool, true, false, cond, ◌&&◌, List, [], ◌∷◌}
use Rattle.std.proofs.Common.{length, Option, Some, None, refl, arith}
use Rattle.std.proofs.lemmas.Bool.Decides.{nat_tests}
use Rattle.std.proofs.lemmas.List.Elements.{All-cons, All-nil}
use Rattle.std.specs.List.{All, Contains, fold}
use Rattle.std.specs.Option.{option_map_or}
use Rattle.std.specs.Prelude.{codes, nat_le, nat_lt, option_and_then, unwrap_or}
use Rattle.serde_json.specs.Data.{Data}
use Rattle.serde_json.specs.Find.{as_number, as_u64, get}
use Rattle.serde_json.specs.Read.{read}
use Rattle.reg_records.specs.Json.{number_at, within_number_limit}
use Rattle.reg_records.specs.declared.limits.TheConstants.{NUMBER_LIMIT}
use Rattle.reg_records.specs.declared.record.Record.{Record}
use Rattle.reg_compaction.specs.Lacking.{GreatestNamedIsGreatest, IsGreatestNamed, greatest_named, has_id, id_in, named_id}

abbrev greatest_from : ℕ → List Record → ℕ
greatest_from n rs = fold (λ greatest r. max greatest (named_id r)) n rs

grows : (n : ℕ) (rs : List Record) → n ≤ greatest_from n rs
grows n [] = omega arith
grows n (r ∷ rs) = omega (arith, grows (max n (named_id r)) rs)

covers : (n : ℕ) (rs : List Record) → All (λ r. named_id r ≤ greatest_from n rs) rs
covers n [] = All-nil (λ (r : Record). named_id r ≤ greatest_from n [])
covers n (r ∷ rs) =
    let here : named_id r ≤ greatest_from (max n (named_id r)) rs = omega (arith, grows (max n (named_id r)) rs) in
    All-cons (λ (q : Record). named_id q ≤ greatest_from (max n (named_id r)) rs) r rs here (covers (max n (named_id r)) rs)

one_of : (a b n : ℕ) → n ≡ max a b → (n ≡ a) ⊎ (b ≡ n)
one_of a b n is =
    elim (nat_lt b a) as (λ t. nat_lt b a ≡ t → (n ≡ a) ⊎ (b ≡ n)) [
      | true ↦ λ t. let lt : b < a = grind (arith, nat_tests) in inl (omega arith)
      | false ↦ λ t. let le : a ≤ b = grind (arith, nat_tests) in inr (omega arith)
    ] refl

named : (n : ℕ) (rs : List Record) → (greatest_from n rs ≡ n) ⊎ ((r : Record) × Contains rs r × (named_id r ≡ greatest_from n rs))
named n [] = inl refl
named n (r ∷ rs) =
    ⊎_elim
    (λ same. ⊎_elim
    (λ old. inl old)
    (λ new. inr (r, (0, omega arith, refl), new))
    (one_of n (named_id r) (greatest_from (max n (named_id r)) rs) same))
    (λ found. inr (found.0, (suc found.1.0, omega (arith, found.1.1), found.1.2), found.2))
    (named (max n (named_id r)) rs)

-- ---- an id is within its limits

limited : (n : ℕ) → unwrap_or (within_number_limit n) 0 ≤ NUMBER_LIMIT
limited n =
    elim (nat_le 1 n && nat_le n NUMBER_LIMIT) as (λ b. (nat_le 1 n && nat_le n NUMBER_LIMIT) ≡ b → unwrap_or (cond b (Some n) None) 0 ≤ NUMBER_LIMIT) [
      | true ↦ λ is. grind (arith, nat_tests)
      | false ↦ λ is. omega arith
    ] refl

limited_if_any : (found : Option ℕ) → unwrap_or (option_and_then within_number_limit found) 0 ≤ NUMBER_LIMIT
limited_if_any None = omega arith
limited_if_any (Some n) = limited n

id_in_limits : (found : Option Data) → unwrap_or (option_and_then (number_at (codes "id")) found) 0 ≤ NUMBER_LIMIT
id_in_limits None = omega arith
id_in_limits (Some d) = limited_if_any (option_and_then as_u64 (option_and_then as_number (get (codes "id") d)))

value_in_limits : (b : Bool) (value : Option (List ℕ)) → cond b (option_map_or id_in value 0) 0 ≤ NUMBER_LIMIT
value_in_limits false value = omega arith
value_in_limits true None = omega arith
value_in_limits true (Some text) = id_in_limits (read text)

within : (n : ℕ) (rs : List Record) → n ≤ NUMBER_LIMIT → greatest_from n rs ≤ NUMBER_LIMIT
within n [] le = le
within n (r ∷ rs) le = within (max n (named_id r)) rs (omega (arith, le, value_in_limits (has_id r.key) r.value))

pub greatest_named_is_greatest : GreatestNamedIsGreatest
greatest_named_is_greatest rs = record { covers = covers 0 rs; named = named 0 rs; within = within 0 rs (omega arith) }
