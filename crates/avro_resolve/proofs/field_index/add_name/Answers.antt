use Rattle.std.proofs.Common.{◌≡◌, ◌∙◌, ◌++◌, ◌∷◌, [], inl, ap, sym, subst, rules}
use Rattle.avro_resolve.specs.FieldIndex.{held, IsAddedTo}
use Rattle.avro_resolve.proofs.FieldIndexes.{held_alike, held_new, held_old}
use Rattle.avro_resolve.proofs.field_index.add_name.Goals as goal

pub returns-in_ok-add_holder-in-Some-clause-here : goal.returns-in_ok-add_holder-in-Some-clause-here
returns-in_ok-add_holder-in-Some-clause-here c = λ n e.
    let old = c.args.holders.now in
    let v = c.add_holder.new.kept in
    let after = c.get_mut.follows.lender v in
    let was : held old c.args.name ≡ c.in-Some.kept.now.items = search rules in
    let before : held old n ≡ c.in-Some.kept.now.items = held_alike old n c.args.name e ∙ was in
    let now : held after n ≡ v.items = held_new old after c.args.name v ((c.get_mut.follows.holds v).3 (search rules)).0 n e in
    subst (λ hs. IsAddedTo hs (held after n) c.args.holder) (sym before)
    (subst (λ hs. IsAddedTo c.in-Some.kept.now.items hs c.args.holder) (sym now) c.in_ok-add_holder-in-Some.ensures)

pub returns-in_ok-add_holder-in-Some-clause-others : goal.returns-in_ok-add_holder-in-Some-clause-others
returns-in_ok-add_holder-in-Some-clause-others c = λ n apart.
    let v = c.add_holder.new.kept in
    held_old c.args.holders.now (c.get_mut.follows.lender v) c.args.name v ((c.get_mut.follows.holds v).3 (search rules)).0 n apart

pub returns-in_ok-insert-in-None-clause-here : goal.returns-in_ok-insert-in-None-clause-here
returns-in_ok-insert-in-None-clause-here c = λ n e.
    let old = c.args.holders.now in
    let kept : c.get_mut.follows.lender-at-none ≡ old = c.get_mut.follows.holds-at-none in
    let was : held old c.args.name ≡ [] = search rules in
    let before : held old n ≡ [] = held_alike old n c.args.name e ∙ was in
    let now : held c.insert.new.self n ≡ c.push.new.self.items = held_new c.get_mut.follows.lender-at-none
    c.insert.new.self c.args.name c.push.new.self c.in_ok-insert-in-None.ensures.updates.0 n e in
    inl (now ∙ c.in_ok-push-in-None.ensures.items ∙ ap (λ hs. hs ++ c.args.holder ∷ []) (c.new-kept.ensures.items ∙ sym before))

pub returns-in_ok-insert-in-None-clause-others : goal.returns-in_ok-insert-in-None-clause-others
returns-in_ok-insert-in-None-clause-others c = λ n apart.
    held_old c.get_mut.follows.lender-at-none c.insert.new.self c.args.name c.push.new.self c.in_ok-insert-in-None.ensures.updates.0 n apart
    ∙ ap (λ m. held m n) c.get_mut.follows.holds-at-none
