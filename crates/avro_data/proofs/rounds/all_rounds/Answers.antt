use Rattle.std.proofs.Common.{◌≡◌, ◌≤◌, ◌<◌, ◌+◌, ◌==◌, ℕ, zero, suc, List, length, vec_len, false, ◌∙◌, subst, arith}
use Rattle.std.specs.Global.{Vec}
use Rattle.avro_schema.specs.declared.node.NodeId.{NodeId}
use Rattle.avro_data.specs.Rounds.{AreRounds, IsNext, given_count}
use Rattle.avro_data.specs.Users.{AreUsersOf}
use Rattle.avro_data.proofs.Giving.{counted}
use Rattle.avro_data.proofs.Candidates.{candidates_next}
use Rattle.avro_data.proofs.RoundLaws.{next_are}
use Rattle.avro_data.proofs.rounds.all_rounds.Goals as goal

some_given : (n k : ℕ) → n ≡ k → false ≡ (k == 0) → 0 < n
some_given n zero e h = absurd (cc)
some_given n (suc k) e h = omega arith

pub give-requires-clause-room : goal.give-requires-clause-room
give-requires-clause-room c =
    let most = counted c.rounds.table.items in
    let fewer : c.rounds.round ≤ given_count c.rounds.table.items = c.rounds.invariant.fewer in
    omega (arith, c.rounds.table.ok, c.rounds.table.small)

pub overflow_add-round : goal.overflow_add-round
overflow_add-round c =
    let most = counted c.rounds.table.items in
    let fewer : c.rounds.round ≤ given_count c.rounds.table.items = c.rounds.invariant.fewer in
    omega (arith, c.rounds.table.ok, c.rounds.table.small)

pub rounds-smaller : goal.rounds-smaller
rounds-smaller c =
    let nodes = c.args.schema.now.nodes in
    let most : given_count c.give.new.table.items ≤ length c.give.new.table.items = counted c.give.new.table.items in
    let next : IsNext nodes c.rounds.table.items c.rounds.round c.give.new.table.items = c.in_ok-given.ensures.next in
    let size : length c.give.new.table.items ≡ length nodes = next.size ∙ c.rounds.invariant.are.size in
    let count = c.in_ok-given.ensures.count in
    let fewer : c.rounds.round ≤ given_count c.rounds.table.items = c.rounds.invariant.fewer in
    let one : 0 < length c.in_ok-given.given.items = some_given (length c.in_ok-given.given.items)
    (vec_len c.in_ok-given.given) (omega (arith, c.in_ok-given.given.ok)) c.if-is_empty.ensures in
    omega arith

pub rounds-preserved : goal.rounds-preserved
rounds-preserved c =
    let nodes = c.args.schema.now.nodes in
    let users = c.in_ok-users.users.items in
    let are_users = c.in_ok-users.ensures in
    let next : IsNext nodes c.rounds.table.items c.rounds.round c.give.new.table.items = c.in_ok-given.ensures.next in
    let are : AreRounds nodes c.give.new.table.items (c.rounds.round + 1) =
    next_are nodes c.rounds.table.items c.rounds.round c.rounds.invariant.are c.give.new.table.items next in
    let count = c.in_ok-given.ensures.count in
    let fewer : c.rounds.round ≤ given_count c.rounds.table.items = c.rounds.invariant.fewer in
    let one : 0 < length c.in_ok-given.given.items = some_given (length c.in_ok-given.given.items)
    (vec_len c.in_ok-given.given) (omega (arith, c.in_ok-given.given.ok)) c.if-is_empty.ensures in
    record {
      are = are;
      candidates =
          candidates_next nodes users are_users c.give.new.table.items c.rounds.round are
          c.in_ok-given.given.items c.in_ok-candidates-2.candidates.items c.in_ok-given.ensures.given
          (subst (λ (js : List NodeId). AreUsersOf users js c.in_ok-candidates-2.candidates.items) c.as_slice-in-rounds-2.ensures.value
          (subst (λ (us : List (Vec NodeId)). AreUsersOf us c.as_slice-in-rounds-2.result.now c.in_ok-candidates-2.candidates.items)
          c.as_slice-in-rounds.ensures.value c.in_ok-candidates-2.ensures));
      fewer = omega arith;
    }
