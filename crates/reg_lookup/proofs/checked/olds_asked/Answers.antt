use Rattle.std.proofs.Common.{[], ◌∷◌, ap, map, ◌∙◌, arith}
use Rattle.reg_levels.specs.Judgement.{first_unread}
use Rattle.reg_modes.specs.reg_entries.Sought.{texts_of}
use Rattle.reg_lookup.proofs.Asked.{found_is_read, live_are_read, texts_rise}
use Rattle.reg_lookup.proofs.checked.olds_asked.Goals as goal

pub returns-in_ok-texts_of-in-None-clause-rising : goal.returns-in_ok-texts_of-in-None-clause-rising
returns-in_ok-texts_of-in-None-clause-rising c =
    texts_rise c.in_ok-texts_of-in-None.field-0.items (map (λ e. e.now) c.in_ok-live-in-None.live.items)
    (c.in_ok-texts_of-in-None.ensures.texts ∙ ap (λ es. texts_of (map (λ e. e.now) es)) c.deref.ensures.value)
    c.in_ok-live-in-None.ensures.in_order

pub returns-in_ok-texts_of-in-Some-clause-rising : goal.returns-in_ok-texts_of-in-Some-clause-rising
returns-in_ok-texts_of-in-Some-clause-rising c =
    texts_rise c.in_ok-texts_of-in-Some.field-0.items (c.in_ok-found-in-Some.found.now ∷ []) c.in_ok-texts_of-in-Some.ensures.texts
    (λ k within. absurd (omega arith))

pub returns-in_ok-texts_of-in-None-clause-read : goal.returns-in_ok-texts_of-in-None-clause-read
returns-in_ok-texts_of-in-None-clause-read c =
    ap first_unread
    (c.in_ok-texts_of-in-None.ensures.texts
    ∙ ap (λ es. texts_of (map (λ e. e.now) es)) c.deref.ensures.value
    ∙ ap texts_of c.in_ok-live-in-None.ensures.all)
    ∙ live_are_read c.entries_are_read.ensures c.args.registry.now c.args.subject.now

pub returns-in_ok-texts_of-in-Some-clause-read : goal.returns-in_ok-texts_of-in-Some-clause-read
returns-in_ok-texts_of-in-Some-clause-read c =
    ap first_unread c.in_ok-texts_of-in-Some.ensures.texts
    ∙ found_is_read c.entries_are_read.ensures c.args.registry.now c.found_entries_stand.ensures
    c.args.subject.now c.in-Some.which c.in_ok-found-in-Some.found.now c.in_ok-found-in-Some.ensures.found
