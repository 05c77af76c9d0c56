use Rattle.reg_node.proofs.Begun.{news_are_whole}
use Rattle.reg_node.proofs.Caught.{caught_stays, news_catch_up}
use Rattle.reg_node.proofs.laws.followers_catch_up.Goals as goal

pub returns-clause-stays : goal.returns-clause-stays
returns-clause-stays c =
    let later = c.later_records_are_news.ensures in
    caught_stays c.kept_sets_are_compactions.ensures.grows c.last_is_greatest.ensures.greatest
    later.news later.rise c.floors_stay_below.ensures.rise

pub returns-clause-news : goal.returns-clause-news
returns-clause-news c =
    let o = c.records_are_ordered.ensures in
    let k = c.kept_sets_are_compactions.ensures in
    let g = c.last_is_greatest.ensures in
    news_catch_up o.all o.apart k.grows k.kept c.floors_stay_below.ensures.below c.compactions_compose.ensures.itself g.greatest g.none

pub returns-clause-whole : goal.returns-clause-whole
returns-clause-whole c =
    let o = c.records_are_ordered.ensures in
    let k = c.kept_sets_are_compactions.ensures in
    let g = c.last_is_greatest.ensures in
    let itself = c.compactions_compose.ensures.itself in
    news_are_whole o.all o.apart g.greatest g.none c.last_records_are_enough.ensures.last_records k.kept itself
    (news_catch_up o.all o.apart k.grows k.kept c.floors_stay_below.ensures.below itself g.greatest g.none)
