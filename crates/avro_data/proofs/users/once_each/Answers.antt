use Rattle.std.proofs.Common.{List, Contains, sym, subst}
use Rattle.std.proofs.lemmas.List.Sorted.{Contains-permutation}
use Rattle.avro_schema.specs.declared.node.NodeId.{NodeId}
use Rattle.avro_data.proofs.users.once_each.Goals as goal

pub returns : goal.returns
returns c = λ i has. c.in_ok-add_all.ensures.added i
    (subst (λ (xs : List NodeId). Contains xs i) (sym c.as_slice.ensures.value)
    (Contains-permutation c.args.ids.items c.sort_unstable_by_key.new.self.items i c.sort_unstable_by_key.ensures.permutation has))
