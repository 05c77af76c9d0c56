-- Whether a subject has a live entry, told by a list of its entries.
use Rattle.std.proofs.Common.{◌≡◌, ℕ, ◌==◌, ◌&&◌, ◌||◌, not, bytes_eq, cond, Bool, true}
use Rattle.std.proofs.Common.{false, List, [], ◌∷◌, length, map, Some, refl, sym, ap, ◌∙◌}
use Rattle.std.proofs.Math.Dec.{eqb-suc-zero}
use Rattle.std.proofs.lemmas.List.{length-map}
use Rattle.std.specs.List.{filter, list_any}
use Rattle.reg_rules.specs.reg_entries.Sought.{counting, counts, has_live, live_of, of_subject}
use Rattle.reg_rules.specs.reg_entries.declared.entry.Entry.{Entry}
use Rattle.reg_rules.specs.reg_refusals.declared.refusal.Refusal.{Refusal}
use Rattle.reg_rules.specs.Tests.{refuse_if, refuse_unless}
use Rattle.reg_leader.specs.Course.{Course, Refused, ◌▸◌}

any_standing : (es : List Entry) (s : List ℕ) → has_live es (Some s) ≡ list_any (λ e. not e.soft) (counting es s true)
any_standing [] s = refl
any_standing (e ∷ es) s =
    elim (bytes_eq e.subject s) as (λ b. ((b && not e.soft) || has_live es (Some s))
    ≡ list_any (λ e. not e.soft) (filter (counts true) (cond b (e ∷ of_subject es s) (of_subject es s)))) [
      | true ↦ ap (λ b. not e.soft || b) (any_standing es s)
      | false ↦ any_standing es s
    ]

live_length : (es : List Entry) (s : List ℕ) → has_live es (Some s) ≡ not (length (live_of es s) == 0)
live_length [] s = refl
live_length (e ∷ es) s =
    elim (bytes_eq e.subject s) as (λ b. ((b && not e.soft) || has_live es (Some s))
    ≡ not (length (filter (counts false) (cond b (e ∷ of_subject es s) (of_subject es s))) == 0)) [
      | true ↦ elim e.soft as (λ b. (not b || has_live es (Some s)) ≡ not (length (cond (not b) (e ∷ live_of es s) (live_of es s)) == 0)) [
        | true ↦ live_length es s
        | false ↦ sym (ap not (eqb-suc-zero (length (live_of es s))))
      ]
      | false ↦ live_length es s
    ]

any-map : {X : Type 0} (f : X → Entry) (xs : List X) → list_any (λ x. not (f x).soft) xs ≡ list_any (λ e. not e.soft) (map f xs)
any-map f [] = refl
any-map f (x ∷ xs) = ap (λ b. not (f x).soft || b) (any-map f xs)

pub has_live-standing : {X : Type 0} (f : X → Entry) (xs : List X) (es : List Entry) (s : List ℕ) (b : Bool) →
    map f xs ≡ counting es s true → list_any (λ x. not (f x).soft) xs ≡ b → has_live es (Some s) ≡ b
has_live-standing f xs es s b all e = any_standing es s ∙ ap (list_any (λ e. not e.soft)) (sym all) ∙ sym (any-map f xs) ∙ e

pub has_live-live : {X : Type 0} (f : X → Entry) (xs : List X) (es : List Entry) (s : List ℕ) (b : Bool) →
    map f xs ≡ live_of es s → (length xs == 0) ≡ b → has_live es (Some s) ≡ not b
has_live-live f xs es s b all e = live_length es s ∙ ap not (ap (λ n. n == 0) (ap length (sym all) ∙ length-map xs f) ∙ e)

module _ (b : Bool) (refusal : Refusal) (c : Course) where
  pub refused_unless : b ≡ false → (refuse_unless b refusal ▸ c) ≡ Refused refusal
  refused_unless e = ap (λ b. refuse_unless b refusal ▸ c) e

  pub passed_unless : b ≡ true → (refuse_unless b refusal ▸ c) ≡ c
  passed_unless e = ap (λ b. refuse_unless b refusal ▸ c) e

  pub refused_if : b ≡ true → (refuse_if b refusal ▸ c) ≡ Refused refusal
  refused_if e = ap (λ b. refuse_if b refusal ▸ c) e

  pub passed_if : b ≡ false → (refuse_if b refusal ▸ c) ≡ c
  passed_if e = ap (λ b. refuse_if b refusal ▸ c) e
