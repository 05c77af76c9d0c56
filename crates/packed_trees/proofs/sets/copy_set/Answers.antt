use Rattle.std.proofs.Common.{◌≡◌, [], ◌∷◌, ◌++◌, map, sym, subst, rules}
use Rattle.std.proofs.lemmas.List.{map_push}
use Rattle.std.proofs.lemmas.List.Elements.{AllZip-push}
use Rattle.std.proofs.lemmas.Map.Iter.{iter_end}
use Rattle.std.proofs.lemmas.Result.{IfOk-weaker}
use Rattle.std.specs.BTreeSet.{IsFromIterResult}
use Rattle.std.specs.List.{AllZip}
use Rattle.std.specs.Map.Iter.{deref}
use Rattle.std.specs.Prelude.{IfOk}
use Rattle.packed_trees.proofs.Collected.{copied_set}
use Rattle.packed_trees.proofs.sets.copy_set.Goals as goal

pub loop-key-preserved : goal.loop-key-preserved
loop-key-preserved g c =
    let C = g.K.Clone.is_clone in
    let key = c.in-Some.key in
    let more : c.push.new.self.items ≡ c.loop-key.copies.items ++ c.in_ok-clone.field-0 ∷ [] = search rules in
    subst (λ ks. AllZip C ks c.push.new.self.items) (sym (map_push deref c.loop-key.yielded key))
    (subst (AllZip C (map deref c.loop-key.yielded ++ key.now ∷ [])) (sym more)
    (AllZip-push C (map deref c.loop-key.yielded) c.loop-key.copies.items key.now c.in_ok-clone.field-0
    c.loop-key.invariant c.in_ok-clone.ensures.cases))

pub returns-clause-same : goal.returns-clause-same
returns-clause-same g c =
    let cmp = g.K.Ord.cmp in
    let s = c.args.set.now in
    let end = iter_end deref s.keys c.loop-key.yielded c.into_iter-key-iterator.result c.loop-key.key-iterator c.next.new.self
    c.next.result c.into_iter-key-iterator.ensures.into_iter_gives.0 c.loop-key.yielded_by c.in-None.is c.next.ensures.steps in
    let clones = subst (λ ks. AllZip g.K.Clone.is_clone ks c.loop-key.copies.items) end.0 c.loop-key.invariant in
    let made : IfOk c.collect.result (IsFromIterResult cmp c.loop-key.copies.items) = search rules in
    IfOk-weaker c.collect.result (IsFromIterResult cmp c.loop-key.copies.items) _ (λ n h ties key.
    copied_set g.met.K.Ord.total g.K.Clone.is_clone ties s n c.loop-key.copies.items clones h key)
    made
