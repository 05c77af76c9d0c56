-- Records one after the other, each at a greater offset than all before it.
use Rattle.std.proofs.Common.{◌≡◌, Bool, true, false, ◌||◌, List, [], ◌∷◌, refl, sym, ap, ◌∙◌}
use Rattle.std.specs.FinSet.{contains, from_list, insert, union, contains-from_list, contains-insert, contains-union, same_set}
use Rattle.std.specs.List.{list_any}
use Rattle.std.specs.Ordering.{eq_by_cmp}
use Rattle.reg_alike.specs.reg_records.declared.record.Record.{Record}
use Rattle.reg_alike.specs.reg_set.RecordOrder.{record_cmp}
use Rattle.reg_alike.specs.reg_set.Records.{Records}
use Rattle.reg_alike.specs.reg_entries.EntryOrder.{Place}
use Rattle.reg_world.specs.Eager.{after_records}
use Rattle.reg_world.proofs.EagerSteps.{IsFit, one_record, seen}
use Rattle.reg_world.proofs.Tops.{IsAbove, LastLaws}

abbrev pub Fits : Records → List Record → Type 0
Fits log [] = Unit {0}
Fits log (r ∷ rs) = IsAbove log r × IsFit log r.key r × Fits (insert log r) rs

abbrev pub insert_each : Records → List Record → Records
insert_each log [] = log
insert_each log (r ∷ rs) = insert_each (insert log r) rs

or_false : (a : Bool) → a ≡ (a || false)
or_false true = refl
or_false false = refl

or_move : (a b c : Bool) → ((a || b) || c) ≡ (b || (a || c))
or_move true true c = refl
or_move true false c = refl
or_move false b c = refl

module _ (l : LastLaws) where
  folded : (log : Records) (rs : List Record) (p : Place) → Fits log rs → after_records p (seen log p) rs ≡ seen (insert_each log rs) p
  folded log [] p fits = refl
  folded log (r ∷ rs) p fits = ap (λ o. after_records p o rs) (one_record l log r p fits.0 fits.1) ∙ folded (insert log r) rs p fits.2

  in_each : (log : Records) (rs : List Record) (q : Record)
      → contains (insert_each log rs) q ≡ (contains log q || list_any (eq_by_cmp record_cmp q) rs)
  in_each log [] q = or_false (contains log q)
  in_each log (r ∷ rs) q =
      in_each (insert log r) rs q ∙ ap (λ b. b || list_any (eq_by_cmp record_cmp q) rs) (contains-insert l.order log r q)
      ∙ or_move (eq_by_cmp record_cmp q r) (contains log q) (list_any (eq_by_cmp record_cmp q) rs)

  each_union : (log : Records) (rs : List Record) → insert_each log rs ≡ union log (from_list rs)
  each_union log rs = same_set l.order l.apart (insert_each log rs) (union log (from_list rs)) (λ q.
      in_each log rs q
      ∙ ap (λ b. contains log q || b) (sym (contains-from_list l.order rs q))
      ∙ sym (contains-union l.order log (from_list rs) q))

  pub all_records : (log : Records) (rs : List Record) (p : Place) → Fits log rs
      → after_records p (seen log p) rs ≡ seen (union log (from_list rs)) p
  all_records log rs p fits = folded log rs p fits ∙ ap (λ s. seen s p) (each_union log rs)
