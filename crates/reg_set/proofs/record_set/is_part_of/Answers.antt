use Rattle.std.proofs.Common.{◌≡◌, Bool, ◌&&◌, List, [], ◌∷◌, refl, sym, ap, ◌∙◌}
use Rattle.std.proofs.lemmas.List.Folds.{list_all-append}
use Rattle.std.specs.BTreeMap.{values}
use Rattle.std.specs.FinSet.{contains, contains-from_list}
use Rattle.std.specs.Global.{Vec}
use Rattle.std.specs.List.{flat_map, list_all}
use Rattle.reg_records.specs.declared.record.Record.{Record}
use Rattle.reg_set.specs.ByKey.{all_records}
use Rattle.reg_set.specs.Records.{records_of}
use Rattle.reg_set.proofs.InOrder.{contains-records_of}
use Rattle.reg_set.proofs.Joined.{all-same}
use Rattle.reg_set.proofs.Orders.{record_cmp-total}
use Rattle.reg_set.proofs.record_set.is_part_of.Goals as goal

all_joined : (p : Record → Bool) (vs : List (Vec Record)) → list_all (λ v. list_all p v.items) vs ≡ list_all p (flat_map (λ v. v.items) vs)
all_joined p [] = refl
all_joined p (v ∷ vs) = ap (λ b. list_all p v.items && b) (all_joined p vs) ∙ sym (list_all-append p v.items (flat_map (λ v. v.items) vs))

pub returns : goal.returns
returns c =
    let m = c.part.inside.by_key in
    c.are_all_in.ensures ∙ all_joined (contains c.args.whole.now) (values m)
    ∙ all-same (contains c.args.whole.now) (all_records m) (records_of c.args.part.now) (λ q.
    sym (contains-from_list record_cmp-total (all_records m) q)
    ∙ ap (λ s. contains s q) c.part.view_is
    ∙ contains-records_of c.args.part.now q)
