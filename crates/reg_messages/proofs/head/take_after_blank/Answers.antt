use Rattle.std.proofs.Common.{◌≡◌, ◌-◌, ◌∷◌, [], arith, slice_set, subst, sym, take}
use Rattle.std.proofs.lemmas.List.{length-set, take_more_set}
use Rattle.reg_messages.specs.HeadReading.{TakesFront, TakesHead}
use Rattle.reg_messages.specs.declared.limits.TheConstants.{HEAD_LIMIT}
use Rattle.reg_messages.proofs.Fronts.{blank-full, blank-over, blank-too_long, head-cut, head-found, head-full, head-short}
use Rattle.reg_messages.proofs.head.take_after_blank.Goals as goal

pub returns-then-blank-gt-HEAD_LIMIT-clause-taken : goal.returns-then-blank-gt-HEAD_LIMIT-clause-taken
returns-then-blank-gt-HEAD_LIMIT-clause-taken g c = λ start took.
    blank-too_long start (g.R.Read.remaining c.args.reader.now.inner) c.args.blank c.in-None.is c.if-blank-gt-HEAD_LIMIT.true took

pub returns-else-blank-gt-HEAD_LIMIT-clause-taken : goal.returns-else-blank-gt-HEAD_LIMIT-clause-taken
returns-else-blank-gt-HEAD_LIMIT-clause-taken g c = λ start took.
    blank-over start (g.R.Read.remaining c.args.reader.now.inner) c.args.blank c.in-None.is c.if-blank-gt-HEAD_LIMIT.false took

pub returns-then-blank-ge-HEAD_LIMIT-clause-taken : goal.returns-then-blank-ge-HEAD_LIMIT-clause-taken
returns-then-blank-ge-HEAD_LIMIT-clause-taken g c = λ start took.
    blank-full start
    (g.R.Read.remaining c.args.reader.now.inner) c.args.blank c.in-Some.first c.in-Some.is c.if-blank-ge-HEAD_LIMIT.true took

pub returns-in-Ok-Found-clause-taken : goal.returns-in-Ok-Found-clause-taken
returns-in-Ok-Found-clause-taken g c = λ start took.
    let mid = g.R.Read.remaining c.args.reader.now.inner in
    let new = g.R.Read.remaining c.take_head.new.reader.inner in
    let before = slice_set c.args.buffer.now 0 c.in-Some.first in
    let limit = HEAD_LIMIT - c.args.blank.count in
    let first : take 1 before ≡ c.in-Some.first ∷ [] = take_more_set c.args.buffer.now 0 c.in-Some.first (omega (arith, c.requires.room)) in
    subst (λ t. TakesFront start new c.take_head.new.buffer t) (sym c.taken_head.ensures)
    (head-found start mid new c.args.blank before c.take_head.new.buffer limit c.in-Ok-Found.len c.in-Some.first c.in-Some.is
    (omega (arith, c.if-blank-ge-HEAD_LIMIT.false))
    first (omega (arith, c.requires.room, c.take_head.auto.buffer, length-set c.args.buffer.now 0 c.in-Some.first)) took
    (subst (λ e. TakesHead mid new before c.take_head.new.buffer limit e) c.in-Ok-Found.field-0-is c.in-Ok-Found.ensures.taken))

pub returns-in-Ok-Ended-clause-taken : goal.returns-in-Ok-Ended-clause-taken
returns-in-Ok-Ended-clause-taken g c = λ start took.
    let mid = g.R.Read.remaining c.args.reader.now.inner in
    let new = g.R.Read.remaining c.take_head.new.reader.inner in
    let before = slice_set c.args.buffer.now 0 c.in-Some.first in
    let limit = HEAD_LIMIT - c.args.blank.count in
    let first : take 1 before ≡ c.in-Some.first ∷ [] = take_more_set c.args.buffer.now 0 c.in-Some.first (omega (arith, c.requires.room)) in
    head-cut start mid new c.args.blank before c.take_head.new.buffer limit c.in-Some.first c.in-Some.is
    (omega (arith, c.if-blank-ge-HEAD_LIMIT.false)) first took
    (subst (λ e. TakesHead mid new before c.take_head.new.buffer limit e) c.in-Ok-Ended.field-0-is c.in-Ok-Ended.ensures.taken)

pub returns-in-Ok-Full-clause-taken : goal.returns-in-Ok-Full-clause-taken
returns-in-Ok-Full-clause-taken g c = λ start took.
    let mid = g.R.Read.remaining c.args.reader.now.inner in
    let new = g.R.Read.remaining c.take_head.new.reader.inner in
    let before = slice_set c.args.buffer.now 0 c.in-Some.first in
    let limit = HEAD_LIMIT - c.args.blank.count in
    let first : take 1 before ≡ c.in-Some.first ∷ [] = take_more_set c.args.buffer.now 0 c.in-Some.first (omega (arith, c.requires.room)) in
    head-full start mid new c.args.blank before c.take_head.new.buffer limit c.in-Some.first c.in-Some.is
    (omega (arith, c.if-blank-ge-HEAD_LIMIT.false)) first took
    (subst (λ e. TakesHead mid new before c.take_head.new.buffer limit e) c.in-Ok-Full.field-0-is c.in-Ok-Full.ensures.taken)

pub returns-in-Err-clause-short : goal.returns-in-Err-clause-short
returns-in-Err-clause-short g c = λ start took.
    let mid = g.R.Read.remaining c.args.reader.now.inner in
    let new = g.R.Read.remaining c.take_head.new.reader.inner in
    let before = slice_set c.args.buffer.now 0 c.in-Some.first in
    let limit = HEAD_LIMIT - c.args.blank.count in
    let first : take 1 before ≡ c.in-Some.first ∷ [] = take_more_set c.args.buffer.now 0 c.in-Some.first (omega (arith, c.requires.room)) in
    head-short start mid new c.args.blank before limit c.in-Some.first c.in-Some.is
    (omega (arith, c.if-blank-ge-HEAD_LIMIT.false)) first took c.in-Err.ensures.lost.1
