use Rattle.std.proofs.Common.{◌≡◌, [], ◌∷◌, ◌++◌, map, sym, subst, Bor, rules}
use Rattle.std.proofs.lemmas.List.{map_push}
use Rattle.std.proofs.lemmas.List.Elements.{AllZip-push}
use Rattle.std.proofs.lemmas.Map.Iter.{iter_end}
use Rattle.std.proofs.lemmas.Result.{IfOk-weaker}
use Rattle.std.specs.BTreeMap.{IsFromIterResult}
use Rattle.std.specs.List.{AllZip}
use Rattle.std.specs.Map.Iter.{deref_pair}
use Rattle.std.specs.Prelude.{IfOk}
use Rattle.packed_trees.proofs.Collected.{copied_map}
use Rattle.packed_trees.proofs.maps.copy_map.Goals as goal

pub loop-key-preserved : goal.loop-key-preserved
loop-key-preserved g c =
    let C = λ (p : g.row.K.Denot × g.row.V.Denot) (q : g.row.K.Denot × g.row.V.Denot). g.K.Clone.is_clone p.0 q.0 × g.V.Clone.is_clone p.1 q.1 in
    let item : Bor g.row.K.Denot × Bor g.row.V.Denot = (c.in-Some.key, c.in-Some.value) in
    let copy : g.row.K.Denot × g.row.V.Denot = (c.in_ok-clone.field-0, c.in_ok-clone-2.field-0) in
    let more : c.push.new.self.items ≡ c.loop-key.copies.items ++ copy ∷ [] = search rules in
    subst (λ es. AllZip C es c.push.new.self.items) (sym (map_push deref_pair c.loop-key.yielded item))
    (subst (AllZip C (map deref_pair c.loop-key.yielded ++ deref_pair item ∷ [])) (sym more)
    (AllZip-push C (map deref_pair c.loop-key.yielded) c.loop-key.copies.items (deref_pair item) copy
    c.loop-key.invariant (c.in_ok-clone.ensures.cases, c.in_ok-clone-2.ensures.cases)))

pub returns-clause-same : goal.returns-clause-same
returns-clause-same g c =
    let cmp = g.K.Ord.cmp in
    let m = c.args.map.now in
    let end = iter_end deref_pair m.entries c.loop-key.yielded c.into_iter-key-iterator.result c.loop-key.key-iterator c.next.new.self
    c.next.result c.into_iter-key-iterator.ensures.into_iter_gives.0 c.loop-key.yielded_by c.in-None.is c.next.ensures.steps in
    let clones =
    subst (λ es. AllZip (λ p q. g.K.Clone.is_clone p.0 q.0 × g.V.Clone.is_clone p.1 q.1) es c.loop-key.copies.items) end.0 c.loop-key.invariant in
    let made : IfOk c.collect.result (IsFromIterResult cmp c.loop-key.copies.items) = search rules in
    IfOk-weaker c.collect.result (IsFromIterResult cmp c.loop-key.copies.items) _ (λ n h ties equal key.
    copied_map g.met.K.Ord.total g.K.Clone.is_clone ties g.V.Clone.is_clone equal m n c.loop-key.copies.items c.len.ensures.ordered clones h key)
    made
