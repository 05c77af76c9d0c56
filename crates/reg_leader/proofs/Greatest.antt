-- The greatest version of a subject is within its limits, as its entries' versions are; so is the last id, once an entry stands.
use Rattle.std.proofs.Common.{◌≡◌, ◌≤◌, ℕ, max, bytes_eq, List, map, Some, None, unwrap_or, refl, arith}
use Rattle.std.proofs.lemmas.List.Elements.{All-contains_itself, All-filter, All-map, All-weaker}
use Rattle.std.specs.List.{Contains}
use Rattle.reg_rules.specs.reg_entries.Sought.{of_subject}
use Rattle.reg_rules.specs.reg_entries.declared.entry.Entry.{Entry}
use Rattle.reg_rules.specs.reg_fold.Entries.{EntriesAreInLimits, entries}
use Rattle.reg_rules.specs.reg_fold.IdMark.{IdMarkIsInLimits, last_id}
use Rattle.reg_rules.specs.reg_fold.Standing.{greatest_id, greatest_version}
use Rattle.reg_rules.specs.reg_records.Written.{IsVersionOrId}
use Rattle.reg_rules.specs.reg_records.declared.limits.TheConstants.{NUMBER_LIMIT}
use Rattle.reg_rules.specs.reg_set.Records.{Records}
use Rattle.reg_leader.proofs.Chosen.{max-picks, reduce_has}
use Rattle.reg_leader.proofs.Names.{id_up_to_last}

pub greatest-fits : EntriesAreInLimits → (rs : Records) (subject : List ℕ) (most : ℕ)
    → greatest_version rs subject ≡ Some most → IsVersionOrId most
greatest-fits fits rs subject most is =
    let each = All-weaker (Contains (entries rs)) (λ e. IsVersionOrId e.version)
    (λ e stands. (fits rs e stands).0) (entries rs) (All-contains_itself (entries rs)) in
    let own = All-filter (λ e. bytes_eq e.subject subject) (λ e. IsVersionOrId e.version) (entries rs) each in
    reduce_has IsVersionOrId max max-picks (map (λ e. e.version) (of_subject (entries rs) subject)) most
    (All-map IsVersionOrId (λ e. e.version) (of_subject (entries rs) subject) own) is

-- a subject with a greatest version has an entry
pub greatest-stands : (rs : Records) (subject : List ℕ) (most : ℕ)
    → greatest_version rs subject ≡ Some most → (e : Entry) × Contains (entries rs) e
greatest-stands rs subject most is =
    let own = All-filter (λ e. bytes_eq e.subject subject) (Contains (entries rs)) (entries rs) (All-contains_itself (entries rs)) in
    let P : ℕ → Type 0 = λ _. (e : Entry) × Contains (entries rs) e in
    reduce_has P max max-picks (map (λ e. e.version) (of_subject (entries rs) subject)) most
    (All-map P (λ e. e.version) (of_subject (entries rs) subject)
    (All-weaker (Contains (entries rs)) (λ e. P e.version) (λ e stands. (e, stands)) (of_subject (entries rs) subject) own))
    is

greatest_id-fits : EntriesAreInLimits → (rs : Records) → unwrap_or (greatest_id rs) 0 ≤ NUMBER_LIMIT
greatest_id-fits fits rs =
    let each = All-weaker (Contains (entries rs)) (λ e. e.id ≤ NUMBER_LIMIT)
    (λ e stands. (fits rs e stands).1.1) (entries rs) (All-contains_itself (entries rs)) in
    elim (greatest_id rs) as (λ g. greatest_id rs ≡ g → unwrap_or g 0 ≤ NUMBER_LIMIT) [
      | None ↦ λ _. omega arith
      | Some m ↦ λ is.
          reduce_has (λ m. m ≤ NUMBER_LIMIT) max max-picks (map (λ e. e.id) (entries rs)) m
          (All-map (λ m. m ≤ NUMBER_LIMIT) (λ e. e.id) (entries rs) each) is
    ] refl

pub last_id-fits : EntriesAreInLimits → IdMarkIsInLimits → (rs : Records) (e : Entry) → Contains (entries rs) e → IsVersionOrId (last_id rs)
last_id-fits fits marks rs e stands =
    let low = (fits rs e stands).1.0 in
    let up = id_up_to_last rs e stands in
    let mark = marks rs in
    let greatest = greatest_id-fits fits rs in
    (omega (arith, low, up), omega (arith, mark, greatest))
