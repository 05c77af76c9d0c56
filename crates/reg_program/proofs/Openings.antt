-- The topic that a log is, and what is promised over it.
use Rattle.std.proofs.Common.{◌≡◌, ◌⊎◌, ◌<◌, ◌≤◌, ◌||◌, ℕ, Bool, true, false, List, [], ◌∷◌, All}
use Rattle.std.proofs.Common.{refl, sym, ap, ◌∙◌, inl, inr, arith, Option, None, Some, IfSome}
use Rattle.std.specs.Prelude.{Ok, count_by}
use Rattle.std.proofs.lemmas.Bool.{false≢true}
use Rattle.std.proofs.lemmas.List.Elements.{All-head, All-tail}
use Rattle.std.specs.Cmp.{Equal-is, IsTotalOrder}
use Rattle.std.specs.FinSet.{IsAntisymmetric, contains-from_list, from_list}
use Rattle.std.specs.List.{list_any}
use Rattle.std.specs.Ordering.{eq_by_cmp}
use Rattle.reg_records.specs.Log.{IsLogOf, LogText, is_foreign, log_of}
use Rattle.reg_records.specs.declared.log.Log.{Log}
use Rattle.reg_records.specs.declared.record.Record.{Record}
use Rattle.reg_set.specs.LastRecords.{last_records}
use Rattle.reg_set.specs.RecordOrder.{record_cmp}
use Rattle.reg_topic.specs.Promises.{LawfulListsKeepIds, LawfulListsMeetLevels}
use Rattle.reg_topic.specs.Topic.{IsLawful, plain_topic}
use Rattle.reg_topic.specs.declared.published.Item.{Item}
use Rattle.reg_topic.specs.declared.topic.Topic.{Topic}
use Rattle.reg_program.specs.Opening.{IsAdoptedIfOpen, IsOpened}
use Rattle.reg_program.specs.Published.{KeepsPromises, topic_of}
use Rattle.reg_program.specs.declared.desk.FoldDesk.{FoldDesk}

either : (a b : Bool) → (a || b) ≡ true → (a ≡ true) ⊎ (b ≡ true)
either true b h = inl refl
either false b h = inr h

module _ (order : IsTotalOrder record_cmp) (apart : IsAntisymmetric record_cmp) where
  below_list : (next : ℕ) (rs : List Record) → All (λ r. r.offset < next) rs
      → (q : Record) → list_any (eq_by_cmp record_cmp q) rs ≡ true → q.offset < next
  below_list next [] all q any = absurd (false≢true any)
  below_list next (r ∷ rs) all q any =
      elim (either (eq_by_cmp record_cmp q r) (list_any (eq_by_cmp record_cmp q) rs) any) as (λ _. q.offset < next) [
        | inl e ↦
            let at = ap (λ (x : Record). x.offset) (apart q r ((Equal-is (record_cmp q r)).0 e)) in
            let here = All-head (λ x. x.offset < next) r rs all in
            omega (arith, at, here)
        | inr rest ↦ below_list next rs (All-tail (λ x. x.offset < next) r rs all) q rest
      ]

  -- records below the next offset begin an adopted topic, where they take commands
  pub adopted : (rs : List Record) (next floor : ℕ) → All (λ r. r.offset < next) rs
      → floor ≤ next → IsAdoptedIfOpen (plain_topic rs next floor)
  adopted rs next floor all low not_closed = record {
    not_closed = not_closed;
    ahead = λ q h. below_list next rs all q (sym (contains-from_list order rs q) ∙ h);
    floor_below = low;
    whole = refl;
  }

-- a log that holds what its lines say
pub same_topic : (log : Log) (found : LogText) → IsLogOf found.floor found.reads log
    → plain_topic log.records.items log.next log.floor ≡ topic_of found
same_topic log found is = λ i. plain_topic (is.records i) (is.next i) (is.floor i)

-- what the lines of a log say, of which it is known what they are
read_of : (log : Log) (input left : Option (List ℕ))
    → IfSome input (λ text. (found : LogText) × (log_of text ≡ Ok found) × IsLogOf found.floor found.reads log × (left ≡ Some found.rest))
    → IfSome input (λ text.
    (found : LogText) × (log_of text ≡ Ok found) × (plain_topic log.records.items log.next log.floor ≡ topic_of found)
    × (log.foreign ≡ count_by is_foreign found.reads) × (left ≡ Some found.rest))
read_of log None left read = tt
read_of log (Some text) left (found, reads, is, rest) = (found, reads, same_topic log found is, is.foreign, rest)

pub opens : IsTotalOrder record_cmp → IsAntisymmetric record_cmp → (log : Log) (input left : Option (List ℕ)) (desk : FoldDesk)
    → desk.registry ≡ last_records (from_list log.records.items) → desk.next ≡ log.next
    → IfSome input (λ text. (found : LogText) × (log_of text ≡ Ok found) × IsLogOf found.floor found.reads log × (left ≡ Some found.rest))
    → IsOpened input left log.foreign desk
opens order apart log input left desk registry next read = (
  plain_topic log.records.items log.next log.floor,
  record { registry = registry; next = next; lawful = tt },
  adopted order apart log.records.items log.next log.floor log.ahead log.above,
  read_of log input left read,
)

pub promised : LawfulListsKeepIds → LawfulListsMeetLevels → (base : Topic) (done : List Item)
    → IsAdoptedIfOpen base → IsLawful base done → KeepsPromises base done
promised ids levels base done adopted lawful = record {
  lawful = lawful;
  ids = λ not_closed. ids base done (adopted not_closed) lawful;
  levels = levels base done lawful;
}
