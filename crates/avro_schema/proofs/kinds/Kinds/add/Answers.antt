use Rattle.std.proofs.Common.{refl}
use Rattle.avro_schema.specs.declared.kinds.BranchKind.TheVariants as branch
use Rattle.avro_schema.proofs.SetLemmas.{as_kind, added_named}
use Rattle.avro_schema.proofs.kinds.Kinds.add.Goals as goal

pub returns-in_ok-insert-in-Named : goal.returns-in_ok-insert-in-Named
returns-in_ok-insert-in-Named c =
    λ ks holds.
    as_kind _ c.args.kind (branch.Named c.in-Named.node) ks _ c.in-Named.is
    (added_named c.args.self.now _ c.in-Named.node ks c.in_ok-insert-in-Named.field-0 holds refl
    refl refl c.in_ok-insert-in-Named.ensures.updates c.in_ok-insert-in-Named.ensures.added)
