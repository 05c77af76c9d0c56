use Rattle.reg_alike.proofs.laws.compactions_give_alike.Goals as goal

pub returns : goal.returns
returns c part whole is =
    c.what_stands_gives_all.ensures part.records whole.records (c.compactions_keep_what_stands.ensures.standing part whole is)
