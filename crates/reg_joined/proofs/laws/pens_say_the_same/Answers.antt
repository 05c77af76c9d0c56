use Rattle.std.proofs.Common.{◌++◌}
use Rattle.reg_joined.specs.Pens.{process_of}
use Rattle.reg_joined.proofs.laws.pens_say_the_same.Goals as goal

pub returns-clause-bytes : goal.returns-clause-bytes
returns-clause-bytes g c log early others base other_base l m joins joined as_many query one other is_one is_other closes =
    c.same_logs_give_same_bytes.ensures (process_of early base l.published) (process_of others other_base m.published)
    (record {
      chain = log;
      one = c.pens_take_part.ensures.readers log early base l joins;
      other = c.pens_take_part-2.ensures.readers log others other_base m joined;
      as_many = as_many;
    })
    query one other is_one is_other closes

pub returns-clause-ids : goal.returns-clause-ids
returns-clause-ids g c log early others base other_base l m joins joined begun others_begun =
    c.no_id_names_two_schemas.ensures.of_two log (process_of early base (l.published ++ l.pending))
    (process_of others other_base (m.published ++ m.pending)) (c.pens_take_part.ensures.pens log early base l joins)
    (c.pens_take_part-2.ensures.pens log others other_base m joined) begun others_begun
