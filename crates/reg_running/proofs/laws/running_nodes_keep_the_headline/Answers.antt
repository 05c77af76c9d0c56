use Rattle.reg_running.proofs.Claims.{after_events, claims_hold, same_at_moments}
use Rattle.reg_running.proofs.laws.running_nodes_keep_the_headline.Goals as goal

pub returns-clause-moments : goal.returns-clause-moments
returns-clause-moments c = after_events

pub returns-clause-claims : goal.returns-clause-claims
returns-clause-claims c =
    claims_hold c.nodes_answer_alike.ensures.of_the_set c.ids_name_one_schema.ensures c.registered_versions_meet_levels.ensures

pub returns-clause-alike : goal.returns-clause-alike
returns-clause-alike c = same_at_moments c.nodes_answer_alike.ensures.alike
