use Rattle.std.proofs.Common.{◌≡◌, ◌⊎◌, ◌&&◌, ◌||◌, not, true, cond, Some, subst}
use Rattle.std.specs.BTreeSet.{contains}
use Rattle.std.specs.Ordering.{eq_by_cmp}
use Rattle.reg_entries.specs.EntryOrder.{place_of}
use Rattle.reg_entries.specs.Index.{HasAt}
use Rattle.reg_entries.specs.Schemas.{Schema, schema_of, schema_cmp, is_held}
use Rattle.reg_entries.proofs.Listed.{listed_refreshed, either, else_same, here_either}
use Rattle.reg_entries.proofs.schemas.write_all.Goals as goal

pub returns-clause-still_listed : goal.returns-clause-still_listed
returns-clause-still_listed c =
    let m = c.args.entries.now in
    let n = c.write-written.new.entries in
    let e = c.args.entry in
    let ends : HasAt m n (place_of e) (Some e) ⊎ (n.entries ≡ m.entries) =
    either c.write-written.result c.write-written.ensures.written c.write-written.ensures.refused in
    let added : (s : Schema)
    → contains schema_cmp c.insert.new.self s
    ≡ cond (eq_by_cmp schema_cmp (schema_of e) s) true (contains schema_cmp c.args.schemas.now s) =
    subst (λ k. (s : Schema)
    → contains schema_cmp c.insert.new.self s
    ≡ cond (eq_by_cmp schema_cmp k s) true
    (contains schema_cmp c.args.schemas.now s)) c.in_ok-schema_of.ensures c.in_ok-insert.ensures.updates.0 in
    let one : (s : Schema)
    → contains schema_cmp c.refresh.new.schemas s
    ≡ (contains schema_cmp c.insert.new.self s && (not (eq_by_cmp schema_cmp (schema_of e) s) || is_held n s)) =
    subst (λ k. (s : Schema)
    → contains schema_cmp c.refresh.new.schemas s
    ≡ (
    contains schema_cmp c.insert.new.self s
    && (not (eq_by_cmp schema_cmp k s) || is_held n s))) c.requires.new c.refresh.ensures in
    listed_refreshed m n e c.args.old.now c.requires.placed (else_same m n (place_of e) (Some e) ends)
    (here_either m n (place_of e) (Some e) ends) c.requires.old c.args.schemas.now c.insert.new.self
    c.refresh.new.schemas c.refresh_any.new.schemas c.requires.listed added one c.refresh_any.ensures
