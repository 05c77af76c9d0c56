use Rattle.std.proofs.Common.{◌≡◌, ◌<◌, List, get_or, length, Contains, Some, slice_get, refl, ◌∙◌, sym, subst, arith}
use Rattle.std.proofs.lemmas.Option.{slice_get_read, slice_get-get_or}
use Rattle.avro_schema.specs.declared.node.NodeId.{NodeId}
use Rattle.avro_schema.specs.declared.node.Field.{Field}
use Rattle.avro_schema.specs.declared.node.Node.{Node}
use Rattle.avro_data.specs.Users.{awaited, HasUser, IsUserOf}
use Rattle.avro_data.proofs.UserLaws.{one_further, all_of, grown_on, uses_of_fields}
use Rattle.avro_data.proofs.users.add_uses.Goals as goal

pub loop-field-preserved : goal.loop-field-preserved
loop-field-preserved c =
    let l = c.loop-field in
    let fs = c.as_slice-field-items.result.now in
    let before = l.users.items in
    let users = c.add_user.new.users.items in
    let step = c.in_ok-add_user-in-Record.ensures in
    let at : slice_get fs l.field-index ≡ Some c.field-item.result =
    slice_get_read fs (length fs) l.field-index c.field-item.result refl c.loop-field-test.true c.field-item.is in
    record {
      grown = grown_on c.args.users.now.items before users l.invariant.grown step.grown;
      size = step.size ∙ l.invariant.size;
      added = one_further fs l.field-index c.field-item.result (λ f. f.node.index < length users → HasUser users f.node c.args.user) at
          (λ n f lt here within. step.grown f.node c.args.user (l.invariant.added n f lt here (let same = step.size in omega arith)))
          (λ within. step.added (let same = step.size in omega arith));
    }

pub loop-branch-preserved : goal.loop-branch-preserved
loop-branch-preserved c =
    let l = c.loop-branch in
    let js = c.as_slice-branch-items.result.now in
    let before = l.users.items in
    let users = c.add_user-in-loop-branch.new.users.items in
    let step = c.in_ok-add_user-in-Union.ensures in
    let x : NodeId = get_or js l.branch-index (record { index = 0 }) in
    let at : slice_get js l.branch-index ≡ Some x = slice_get-get_or js l.branch-index (record { index = 0 }) c.loop-branch-test.true in
    record {
      grown = grown_on c.args.users.now.items before users l.invariant.grown step.grown;
      size = step.size ∙ l.invariant.size;
      added = one_further js l.branch-index x (λ j. j.index < length users → HasUser users j c.args.user) at
          (λ n j lt here within. step.grown j c.args.user (l.invariant.added n j lt here (let same = step.size in omega arith)))
          (λ within. step.added (let same = step.size in omega arith));
    }

pub returns-after-loop-field-clause-added : goal.returns-after-loop-field-clause-added
returns-after-loop-field-clause-added c =
    let l = c.loop-field in
    let fs = c.as_slice-field-items.result.now in
    let users = l.users.items in
    subst (λ (n : Node). IsUserOf users c.args.user (awaited n)) (sym c.in-Record.is)
    (uses_of_fields users c.args.user c.in-Record.fields
    (λ f has.
    all_of fs l.field-index (λ g. g.node.index < length users → HasUser users g.node c.args.user) c.loop-field-test.false
    l.invariant.added f (subst (λ (xs : List Field). Contains xs f) (sym c.as_slice-field-items.ensures.items) has)))

pub returns-after-loop-branch-clause-added : goal.returns-after-loop-branch-clause-added
returns-after-loop-branch-clause-added c =
    let l = c.loop-branch in
    let js = c.as_slice-branch-items.result.now in
    let users = l.users.items in
    subst (λ (n : Node). IsUserOf users c.args.user (awaited n)) (sym c.in-Union.is)
    (λ j has.
    all_of js l.branch-index (λ i. i.index < length users → HasUser users i c.args.user) c.loop-branch-test.false l.invariant.added j
    (subst (λ (xs : List NodeId). Contains xs j) (sym c.as_slice-branch-items.ensures) has))
