use Rattle.reg_world.proofs.laws.lower_laws.Goals as goal

pub returns : goal.returns
returns c = record {
  order = c.records_are_ordered.ensures.all;
  apart = c.records_are_ordered.ensures.apart;
  greatest = c.last_is_greatest.ensures.greatest;
  none = c.last_is_greatest.ensures.none;
  lasts = c.last_records_are_enough.ensures.last_of_last;
  keeps_own = c.keeping_lasts_composes.ensures.itself;
  keeps_across = c.keeping_lasts_composes.ensures.across;
  keeps_least = c.last_records_are_enough.ensures.least;
  across = c.compactions_compose.ensures.across;
  last_of = c.compactions_keep_what_stands.ensures.last;
  unite = c.rebasing_keeps_lasts.ensures.union;
  rebase = c.rebasing_keeps_lasts.ensures.rebased;
  alike = c.compactions_answer_alike.ensures;
  kept = c.kept_sets_are_compactions.ensures.kept;
  drops = c.allowed_drops_leave_compactions.ensures;
  below = c.floors_stay_below.ensures.below;
  in_turn = c.lawful_items_follow.ensures.in_turn;
  go_on = c.lawful_items_follow.ensures.go_on;
  commits = c.commits_follow.ensures;
  whole = c.log_is_what_was_published.ensures;
}
