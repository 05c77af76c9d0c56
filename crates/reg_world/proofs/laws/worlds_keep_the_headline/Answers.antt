use Rattle.reg_world.proofs.laws.worlds_keep_the_headline.Goals as goal

pub returns : goal.returns
returns c = λ es w a.
    let lawful = c.every_list_of_events_is_lawful.ensures in
    let caught_up = c.caught_up_nodes_answer_as_the_log.ensures in
    record {
      log = lawful.log es w a;
      whole = lawful.whole es w a;
      kept = lawful.kept es w a;
      nodes = lawful.nodes es w a;
      answers = c.nodes_answer_alike.ensures.of_the_set es w a;
      took_all = λ i took. caught_up.answers es w a i (caught_up.all es w a i took);
      caught_up = caught_up.lasts es w a;
      ids = c.ids_name_one_schema.ensures es w a;
      levels = c.registered_versions_meet_levels.ensures es w a;
      eager = c.eager_folding_is_right.ensures es w a;
    }
