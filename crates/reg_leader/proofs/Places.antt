-- Which entries stand at a place, a subject and a version.
use Rattle.std.proofs.Common.{◌≡◌, ℕ, suc, ◌≤◌, max, true, false, ◌==◌, bytes_eq, List, Some}
use Rattle.std.proofs.Common.{None, All, Contains, refl, sym, ◌∙◌, arith, eq-eqb, eqb-true}
use Rattle.std.proofs.lemmas.Bool.{false≢true}
use Rattle.std.proofs.lemmas.List.Elements.{All-contains, All-filter, filter_passes}
use Rattle.std.proofs.lemmas.Slice.Eq.{bytes_eq-Decides}
use Rattle.std.specs.Option.{option_map_or}
use Rattle.reg_rules.specs.reg_entries.Sought.{counting, counts, of_subject}
use Rattle.reg_rules.specs.reg_entries.declared.entry.Entry.{Entry}
use Rattle.reg_rules.specs.reg_fold.Entries.{entries}
use Rattle.reg_rules.specs.reg_fold.Standing.{greatest_version, version_in}
use Rattle.reg_rules.specs.reg_fold.declared.version_ref.VersionRef.TheVariants.{Number}
use Rattle.reg_rules.specs.Standing.{next_version}
use Rattle.reg_rules.specs.reg_set.Records.{Records}
use Rattle.reg_leader.proofs.Chosen.{find_has, find_none, find_passes, from_filter, nothing_there, up_to_greatest_of}

module _ (rs : Records) where
  -- what all entries of a subject have
  of_its_subject : (P : Entry → Type 0) (subject : List ℕ) → All P (of_subject (entries rs) subject)
      → (f : Entry) → Contains (entries rs) f → f.subject ≡ subject → P f
  of_its_subject P subject all f stands same =
      let each = from_filter (λ e. bytes_eq e.subject subject) P (entries rs) all in
      All-contains (λ e. bytes_eq e.subject subject ≡ true → P e) (entries rs) f each stands ((bytes_eq-Decides f.subject subject).1 same)

  -- no entry stands at the next version
  pub next-free : (subject : List ℕ) (f : Entry) → Contains (entries rs) f → f.subject ≡ subject → f.version ≡ next_version rs subject → ⊥
  next-free subject f stands same =
      elim (greatest_version rs subject) as (λ g. greatest_version rs subject ≡ g → f.version ≡ option_map_or suc g 1 → ⊥) [
        | None ↦ λ is _.
            of_its_subject (λ _. ⊥) subject
            (nothing_there max (λ (e : Entry). e.version) (of_subject (entries rs) subject) is) f stands same
        | Some m ↦ λ is next.
            let low = of_its_subject (λ e. e.version ≤ m) subject
            (up_to_greatest_of (λ e. e.version) (of_subject (entries rs) subject) m is) f stands same in
            omega (arith, low, next)
      ] refl

  pub none_there : (subject : List ℕ) (version : ℕ) → version_in (entries rs) subject (Number version) true ≡ None
      → (f : Entry) → Contains (entries rs) f → f.subject ≡ subject → f.version ≡ version → ⊥
  none_there subject version none f stands same at =
      let all = from_filter (counts true) (λ e. (e.version == version) ≡ false) (of_subject (entries rs) subject)
      (find_none (λ e. e.version == version) (counting (entries rs) subject true) none) in
      let isnt = of_its_subject (λ e. true ≡ true → (e.version == version) ≡ false) subject all f stands same refl in
      false≢true (sym isnt ∙ eq-eqb f.version version at)

  pub one_there : (subject : List ℕ) (version : ℕ) (e : Entry)
      → version_in (entries rs) subject (Number version) true ≡ Some e → (e.subject ≡ subject) × (e.version ≡ version)
  one_there subject version e is =
      let own = All-filter (counts true) (λ e. bytes_eq e.subject subject ≡ true)
      (of_subject (entries rs) subject) (filter_passes (λ e. bytes_eq e.subject subject) (entries rs)) in
      let found =
      find_has (λ e. bytes_eq e.subject subject ≡ true) (λ e. e.version == version) (counting (entries rs) subject true) e own is in (
        (bytes_eq-Decides e.subject subject).0 found,
        eqb-true e.version version (find_passes (λ e. e.version == version) (counting (entries rs) subject true) e is),
      )
