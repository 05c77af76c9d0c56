-- What a node's list folds to.
use Rattle.std.proofs.Common.{◌≡◌, ◌&&◌, List, [], ◌∷◌, fold, refl, sym, ap, ◌∙◌}
use Rattle.std.specs.Cmp.{IsTotalOrder}
use Rattle.std.specs.FinSet.{empty, contains-empty, contains-retain, IsAntisymmetric, same_set}
use Rattle.reg_set.specs.Join.{LastRecordsOfInsert}
use Rattle.reg_set.specs.LastRecords.{is_last, last_records}
use Rattle.reg_set.specs.RecordOrder.{record_cmp}
use Rattle.reg_set.specs.Records.{Records}
use Rattle.reg_floored.specs.Laws.{LastRecordsOfRebased}
use Rattle.reg_node.specs.Takes.{DrawsFoldToLastRecords, base_in, lasts_with_draw, with_draw}
use Rattle.reg_node.specs.declared.take.Draw.{Draw}
use Rattle.reg_node.specs.declared.take.Draw.TheVariants as draws

module _ (order : IsTotalOrder record_cmp) (apart : IsAntisymmetric record_cmp) where
  none_of_none : last_records empty ≡ empty
  unfolding last_records
  none_of_none = same_set order apart (last_records empty) empty (λ q.
      contains-retain empty (is_last empty) q (λ x e. ap (is_last empty) (sym (apart q x e)))
      ∙ (ap (λ b. b && is_last empty q) (contains-empty record_cmp q) ∙ sym (contains-empty record_cmp q)))

  module _ (of_insert : LastRecordsOfInsert) (of_rebased : LastRecordsOfRebased) where
    with_one : (s : Records) (d : Draw) → lasts_with_draw (last_records s) d ≡ last_records (with_draw s d)
    with_one s (draws.Take t) = of_insert s t.kept
    with_one s (draws.Rebase r) = of_rebased s (base_in r)

    folds : (s : Records) (ds : List Draw) → fold lasts_with_draw (last_records s) ds ≡ last_records (fold with_draw s ds)
    folds s [] = refl
    folds s (d ∷ ds) = ap (λ rs. fold lasts_with_draw rs ds) (with_one s d) ∙ folds (with_draw s d) ds

    pub draws_fold : DrawsFoldToLastRecords
    draws_fold ds = ap (λ rs. fold lasts_with_draw rs ds) (sym none_of_none) ∙ folds empty ds
