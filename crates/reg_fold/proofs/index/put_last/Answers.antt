use Rattle.std.proofs.Common.{◌≡◌, ap, subst, ◌∙◌}
use Rattle.reg_set.specs.LastRecords.{last, last_records}
use Rattle.reg_fold.proofs.News.{last-newest, last-others}
use Rattle.reg_fold.proofs.index.put_last.Goals as goal

pub returns-clause-step : goal.returns-clause-step
returns-clause-step c =
    let before = c.args.lasts.now in
    let r = c.args.given.now in
    let order = c.records_are_ordered.ensures in
    let greatest = c.last_is_greatest.ensures in
    let lasts = c.last_records_are_enough.ensures.last_of_last in
    let after = c.in_ok-before.ensures.added in
    let compact = subst (λ rs. last_records rs ≡ rs) after c.is_compact-2.ensures in
    record {
      from_before = c.entries_are_of_lasts.ensures;
      from_after = c.entries_are_of_lasts-2.ensures;
      newest = ap (λ rs. last rs r.key) after
          ∙ last-newest order.all order.apart greatest.greatest lasts before r greatest.none c.is_compact.ensures compact c.requires;
      others = λ key apart. ap (λ rs. last rs key) after ∙ last-others order.all order.apart greatest.greatest lasts before r key apart;
    }
