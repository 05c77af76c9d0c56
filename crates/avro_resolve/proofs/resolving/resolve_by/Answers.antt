use Rattle.std.proofs.Common.{◌≡◌, ◌∙◌, sym, ap, subst, length, option_map, Err, arith}
use Rattle.std.proofs.lemmas.Option.{slice_get_read}
use Rattle.avro_resolve.specs.Row.{clash_of_cause}
use Rattle.avro_resolve.specs.Search.{expanded}
use Rattle.avro_resolve.specs.Table.{outcome, obligations}
use Rattle.avro_resolve.proofs.BreadthFirst.{leads_back, searched_first, searched_within}
use Rattle.avro_resolve.proofs.BreadthFirst.{searched_clash, searched_next, searched_few}
use Rattle.avro_resolve.proofs.BreadthFirst.{searched_all, length-expanded}
use Rattle.avro_resolve.proofs.Searching.{clashes_when, owes_when}
use Rattle.avro_resolve.specs.FieldIndex.{AreFieldIndexes}
use Rattle.avro_resolve.proofs.resolving.resolve_by.Goals as goal
use Rattle.avro_resolve.proofs.resolving.resolve_by.Goals.{then-len-patience+in_ok-pairs+in_default, else-len-patience}

pub heads-init : goal.heads-init
heads-init c = (
  c.in_ok-reach_roots.ensures.agrees,
  searched_first c.args.r.now.nodes c.args.w.now.nodes c.requires.reader c.requires.writer
      c.reach_roots.new.self.entries.items c.in_ok-reach_roots.ensures.first,
  omega arith,
  c.requires.unions,
  c.requires.field_indexes,
)

pub look_up-requires-clause-reader : goal.look_up-requires-clause-reader
look_up-requires-clause-reader c =
    let at = slice_get_read c.heads.search.entries.items _ c.heads.head c.index.result.now c.heads.search.entries.ok.0
    (omega (arith, c.heads-test.true, c.len.ensures)) c.index.ensures in
    (searched_within _ _ _ _ c.heads.invariant.1 c.index.result.now at).reader

pub look_up-requires-clause-writer : goal.look_up-requires-clause-writer
look_up-requires-clause-writer c =
    let at = slice_get_read c.heads.search.entries.items _ c.heads.head c.index.result.now c.heads.search.entries.ok.0
    (omega (arith, c.heads-test.true, c.len.ensures)) c.index.ensures in
    (searched_within _ _ _ _ c.heads.invariant.1 c.index.result.now at).writer

pub trail_to-requires-clause-within : goal.trail_to-requires-clause-within
trail_to-requires-clause-within c =
    omega (arith, c.heads-test.true, c.len.ensures)

pub trail_to-requires-clause-back : goal.trail_to-requires-clause-back
trail_to-requires-clause-back c = leads_back _ _ _ _ c.heads.invariant.1

pub returns-in-Some-2-clause-verdict : goal.returns-in-Some-2-clause-verdict
returns-in-Some-2-clause-verdict c =
    let at = slice_get_read c.heads.search.entries.items _ c.heads.head c.index.result.now c.heads.search.entries.ok.0
    (omega (arith, c.heads-test.true, c.len.ensures)) c.index.ensures in
    let clash = clashes_when (outcome c.args.r.now.nodes c.args.w.now.nodes c.index.result.now.pair)
    (clash_of_cause c.in-Some-2.cause) (ap (option_map clash_of_cause) (sym c.in-Some-2.is) ∙ c.in_ok-cause.ensures.clash) in
    searched_clash _ _ _ _ c.heads.invariant.1 c.index.result.now c.in_ok-trail.trail.kind c.in_ok-trail.trail.hops at
    (clash ∙ ap Err (sym c.in_ok-trail.ensures.kind)) c.in_ok-trail.ensures.hops

pub returns-in-Some-2-clause-pairs : goal.returns-in-Some-2-clause-pairs
returns-in-Some-2-clause-pairs c =
    omega (arith, c.heads-test.true, c.len.ensures, c.heads.search.entries.ok.0, searched_few _ _ _ _ c.heads.invariant.1)

pub heads-smaller : goal.heads-smaller
heads-smaller c =
    omega (arith, c.heads-test.true, c.len.ensures, c.heads.search.entries.ok.0, searched_few _ _ _ _ c.heads.invariant.1)

pub heads-preserved : goal.heads-preserved
heads-preserved c =
    let at = slice_get_read c.heads.search.entries.items _ c.heads.head c.index.result.now c.heads.search.entries.ok.0
    (omega (arith, c.heads-test.true, c.len.ensures)) c.index.ensures in
    let owed = obligations c.args.r.now.nodes c.args.w.now.nodes c.index.result.now.pair in
    let next = searched_next _ _ _ _ c.heads.invariant.1 c.requires.reader c.requires.writer c.index.result.now owed at
    (owes_when (outcome c.args.r.now.nodes c.args.w.now.nodes c.index.result.now.pair)
    (ap (option_map clash_of_cause) (sym c.in_default-2.is) ∙ c.in_ok-cause.ensures.clash))
    in
    let entries =
    c.in_ok-reach_all.ensures.entries
    ∙ ap (λ ps. expanded c.heads.head 0 ps c.heads.search.entries.items)
    (c.as_slice.ensures.value ∙ c.in_ok-cause.ensures.owed c.in_default-2.is) in (
      c.in_ok-reach_all.ensures.agrees,
      rw entries next,
      omega (
        arith,
        c.heads-test.true,
        c.len.ensures,
        c.heads.search.entries.ok.0,
        c.reach_all.new.self.entries.ok.0,
        ap length entries,
        length-expanded c.heads.head 0 owed c.heads.search.entries.items,
      ),
      c.in_ok-cause.ensures.unions,
      c.in_ok-cause.ensures.field_indexes,
    )

pub returns-clause-verdict : goal.returns-clause-verdict
returns-clause-verdict c =
    let all : c.heads.head ≡ length c.heads.search.entries.items =
    omega (arith, c.heads-test.false, c.len.ensures, c.heads.search.entries.ok.0, c.heads.invariant.2) in
    searched_all _ _ _ _ c.heads.invariant.1 all

pub returns-clause-pairs : goal.returns-clause-pairs
returns-clause-pairs c =
    omega (arith, c.heads.search.entries.ok.0, c.heads.invariant.2, searched_few _ _ _ _ c.heads.invariant.1)

pub look_up-requires-clause-field_indexes : goal.look_up-requires-clause-field_indexes
look_up-requires-clause-field_indexes c =
    elim c.if-len-patience.branch [
      | then-len-patience+in_ok-pairs+in_default w ↦ subst
          (λ s. AreFieldIndexes c.args.r.now.nodes s.of) (sym w.field_indexes-is) w.in_ok-pairs.ensures.field_indexes
      | else-len-patience w ↦ subst (λ s. AreFieldIndexes c.args.r.now.nodes s.of) (sym w.field_indexes-is) c.heads.invariant.4
    ]
