use Rattle.std.proofs.Common.{◌≡◌, Some, take}
use Rattle.std.specs.BTreeMap.{get}
use Rattle.std.specs.List.{list_any}
use Rattle.avro_resolve.specs.declared.labels.Label.{Label}
use Rattle.avro_resolve.specs.Labels.{is_label, label_cmp}
use Rattle.avro_resolve.proofs.Indexed.{with_one}
use Rattle.avro_resolve.proofs.unions.add_aliases.Given as goal

-- the labels of the aliases so far are there
abbrev pub invariant-loop-alias : goal.invariant-loop-alias
invariant-loop-alias l =
    (q : Label)
    → get label_cmp l.labelled q
    ≡ with_one l.branch (list_any (λ a. is_label l.head.shape a.name (Some a.namespace) q) (take l.alias-index l.head.aliases.now))
    (get label_cmp l.initial.labelled q)
