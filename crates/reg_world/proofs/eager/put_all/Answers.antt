use Rattle.std.proofs.Common.{◌≡◌, ◌<◌, Bor, get_or, length, map, sym, ap, subst, ◌∙◌, rules}
use Rattle.std.proofs.Math.ListN.{get_or-map}
use Rattle.std.proofs.lemmas.List.{length-map}
use Rattle.std.specs.FinMap as finmap
use Rattle.reg_alike.specs.reg_entries.EntryOrder.{place_cmp, place_of}
use Rattle.reg_alike.specs.reg_entries.declared.entry.Entry.{Entry}
use Rattle.reg_world.proofs.EagerMaps.{entry_more}
use Rattle.reg_world.proofs.eager.put_all.Goals as goal

pub loop-entry-init : goal.loop-entry-init
loop-entry-init c = λ p. ap (λ m. finmap.get m p) c.new-standing.ensures ∙ finmap.get-empty place_cmp p

pub loop-entry-preserved : goal.loop-entry-preserved
loop-entry-preserved c =
    let l = c.loop-entry in
    let given = c.args.entries.now in
    let item = c.entry-item.result in
    let before = λ (e : Bor Entry). e.now in
    let at : item.now ≡ get_or (map before given) l.entry-index item.now =
    ap before c.entry-item.is ∙ sym (get_or-map before given l.entry-index item) in
    let within : l.entry-index < length (map before given) =
    subst (λ n. l.entry-index < n) (sym (length-map given before)) c.loop-entry-test.true in
    let copy : c.in_ok-clone.field-0 ≡ item.now = search rules in
    let put : c.put.new.self ≡ finmap.insert l.standing (place_of item.now) item.now =
    c.in_ok-put.ensures.put ∙ ap (λ e. finmap.insert l.standing (place_of e) e) copy in
    λ p. ap (λ m. finmap.get m p) put ∙ entry_more l.standing (map before given) l.entry-index item.now c.requires within at l.invariant p
