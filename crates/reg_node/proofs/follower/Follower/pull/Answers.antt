use Rattle.std.proofs.Common.{rules, ◌≡◌, ◌≢◌, ℕ, max, List, [], ◌++◌, Option, None, length, sym, ap, subst, ◌∙◌}
use Rattle.std.proofs.lemmas.List.{append-nil}
use Rattle.reg_records.specs.declared.record.Record.{Record}
use Rattle.reg_set.specs.LastRecords.{last_records}
use Rattle.reg_topic.specs.declared.published.Item.{Item}
use Rattle.reg_shared.specs.Held.{held_of, topic_at}
use Rattle.reg_node.specs.Caught.{IsCaught, IsCaughtUp, IsNews, IsWhole}
use Rattle.reg_node.specs.Takes.{Pulls, draws_of, floor_of, taken}
use Rattle.reg_node.specs.declared.take.Draw.{Draw}
use Rattle.reg_node.proofs.Begun.{whole_is}
use Rattle.reg_node.proofs.Drawn.{floor_after, more_behind}
use Rattle.reg_node.proofs.follower.Follower.pull.Goals as goal

pub invariant_of-self : goal.invariant_of-self
invariant_of-self g c =
    let first = g.N.FeedName.first in
    let front : List Item = c.read_news.new.topic in
    let before = c.self.inside.out.value in
    let rest = c.self.inside.rest.items in
    let ds : List Draw = before.0 ++ (before.1 ++ rest) in
    let caught : IsCaught first front ds c.self.inside.upto = c.followers_catch_up.ensures.stays first
    c.self.inside.topic front ds c.self.inside.upto c.read_news.ensures.longer c.self.invariant.2 in
    (c.self.invariant.0, c.self.invariant.1, caught, c.self.invariant.3)

pub invariant_of-self-then-is_nothing : goal.invariant_of-self-then-is_nothing
invariant_of-self-then-is_nothing g c =
    let first = g.N.FeedName.first in
    let front : List Item = c.read_news.new.topic in
    let before = c.self.inside.out.value in
    let rest = c.self.inside.rest.items in
    let ds : List Draw = before.0 ++ (before.1 ++ rest) in
    let caught : IsCaught first front ds c.self.inside.upto = c.followers_catch_up.ensures.stays first
    c.self.inside.topic front ds c.self.inside.upto c.read_news.ensures.longer c.self.invariant.2 in
    let records : List Record = c.in_ok-found.found.records.items in
    let below : Option (List Record) = c.in_ok-found.found.below in
    let news : IsNews (held_of (topic_at first front)) (floor_of ds) c.self.inside.upto below records =
    subst (λ (f : ℕ).
    IsNews (held_of (topic_at first front)) f c.self.inside.upto below records) c.self.invariant.3 c.in_ok-found.ensures.news in
    let found = c.followers_catch_up.ensures.news first front ds c.self.inside.upto below records c.self.invariant.1 caught news in
    let no_base : below ≡ None = search rules in
    let no_record : records ≡ [] = search rules in
    let kept = (topic_at first front).kept in
    let none : draws_of (length front) kept.floor below records ≡ [] = λ i. draws_of (length front) kept.floor (no_base i) (no_record i) in
    let now : IsCaughtUp first front ds = subst (IsCaughtUp first front) (ap (λ (w : List Draw). ds ++ w) none ∙ append-nil ds) found.0 in (
      c.self.invariant.0,
      c.self.invariant.1,
      subst (IsCaught first front ds) (sym {A = ℕ} c.in_ok-found.ensures.next) now.caught,
      c.self.invariant.3,
    )

pub returns-then-is_nothing-clause-compaction : goal.returns-then-is_nothing-clause-compaction
returns-then-is_nothing-clause-compaction g c =
    let first = g.N.FeedName.first in
    let front : List Item = c.read_news.new.topic in
    let before = c.self.inside.out.value in
    let rest = c.self.inside.rest.items in
    let ds : List Draw = before.0 ++ (before.1 ++ rest) in
    let caught : IsCaught first front ds c.self.inside.upto = c.followers_catch_up.ensures.stays first
    c.self.inside.topic front ds c.self.inside.upto c.read_news.ensures.longer c.self.invariant.2 in
    let records : List Record = c.in_ok-found.found.records.items in
    let below : Option (List Record) = c.in_ok-found.found.below in
    let news : IsNews (held_of (topic_at first front)) (floor_of ds) c.self.inside.upto below records =
    subst (λ (f : ℕ).
    IsNews (held_of (topic_at first front)) f c.self.inside.upto below records) c.self.invariant.3 c.in_ok-found.ensures.news in
    let found = c.followers_catch_up.ensures.news first front ds c.self.inside.upto below records c.self.invariant.1 caught news in
    let no_base : below ≡ None = search rules in
    let no_record : records ≡ [] = search rules in
    let kept = (topic_at first front).kept in
    let none : draws_of (length front) kept.floor below records ≡ [] = λ i. draws_of (length front) kept.floor (no_base i) (no_record i) in
    let now : IsCaughtUp first front ds = subst (IsCaughtUp first front) (ap (λ (w : List Draw). ds ++ w) none ∙ append-nil ds) found.0 in
    now.compaction

pub add_news-requires-clause-whole : goal.add_news-requires-clause-whole
add_news-requires-clause-whole g c =
    let first = g.N.FeedName.first in
    let front : List Item = c.read_news.new.topic in
    let before = c.self.inside.out.value in
    let rest = c.self.inside.rest.items in
    let ds : List Draw = before.0 ++ (before.1 ++ rest) in
    let caught : IsCaught first front ds c.self.inside.upto = c.followers_catch_up.ensures.stays first
    c.self.inside.topic front ds c.self.inside.upto c.read_news.ensures.longer c.self.invariant.2 in
    let records : List Record = c.in_ok-found.found.records.items in
    let below : Option (List Record) = c.in_ok-found.found.below in
    let news : IsNews (held_of (topic_at first front)) (floor_of ds) c.self.inside.upto below records =
    subst (λ (f : ℕ).
    IsNews (held_of (topic_at first front)) f c.self.inside.upto below records) c.self.invariant.3 c.in_ok-found.ensures.news in
    let kept = (topic_at first front).kept in
    let more : List Draw = draws_of (length front) kept.floor below records in
    let read : c.len-read.result ≡ length front = search rules in
    let floor : c.in_ok-found.found.floor ≡ kept.floor = c.in_ok-found.ensures.floor in
    let whole : IsWhole kept (floor_of ds) c.self.inside.upto c.in_ok-found.found.whole =
    subst (λ (f : ℕ). IsWhole kept f c.self.inside.upto c.in_ok-found.found.whole) c.self.invariant.3 c.in_ok-found.ensures.whole in
    let same : draws_of c.len-read.result c.in_ok-found.found.floor below records ≡ more = λ i. draws_of (read i) (floor i) below records in
    whole_is kept (floor_of ds) c.self.inside.upto c.in_ok-found.found.whole
    (last_records (taken (ds ++ draws_of c.len-read.result c.in_ok-found.found.floor below records))) whole
    (λ may. ap (λ (w : List Draw). last_records (taken (ds ++ w))) same
    ∙ c.followers_catch_up.ensures.whole first front ds c.self.inside.upto below records c.self.invariant.1 caught news may)

pub invariant_of-self-in_err-add_news : goal.invariant_of-self-in_err-add_news
invariant_of-self-in_err-add_news g c =
    let first = g.N.FeedName.first in
    let front : List Item = c.read_news.new.topic in
    let before = c.self.inside.out.value in
    let rest = c.self.inside.rest.items in
    let ds : List Draw = before.0 ++ (before.1 ++ rest) in
    let caught : IsCaught first front ds c.self.inside.upto = c.followers_catch_up.ensures.stays first
    c.self.inside.topic front ds c.self.inside.upto c.read_news.ensures.longer c.self.invariant.2 in
    let out = c.add_news.new.out.value in
    let all : List Draw = out.1 ++ c.add_news.new.rest.items in
    let same : ds ≡ out.0 ++ all =
    ap (λ (w : List Draw). w ++ (before.1 ++ rest)) (sym {A = List Draw} c.add_news.ensures.published)
    ∙ ap (λ (w : List Draw). out.0 ++ w) (sym {A = List Draw} c.in_err-add_news.ensures.refused) in (
      c.self.invariant.0,
      c.self.invariant.1,
      subst (λ (w : List Draw). IsCaught first front w c.self.inside.upto) same caught,
      subst (λ (w : List Draw). c.self.inside.floor ≡ floor_of w) same c.self.invariant.3,
    )

pub invariant_of-self-2 : goal.invariant_of-self-2
invariant_of-self-2 g c =
    let first = g.N.FeedName.first in
    let front : List Item = c.read_news.new.topic in
    let before = c.self.inside.out.value in
    let rest = c.self.inside.rest.items in
    let ds : List Draw = before.0 ++ (before.1 ++ rest) in
    let caught : IsCaught first front ds c.self.inside.upto = c.followers_catch_up.ensures.stays first
    c.self.inside.topic front ds c.self.inside.upto c.read_news.ensures.longer c.self.invariant.2 in
    let records : List Record = c.in_ok-found.found.records.items in
    let below : Option (List Record) = c.in_ok-found.found.below in
    let news : IsNews (held_of (topic_at first front)) (floor_of ds) c.self.inside.upto below records =
    subst (λ (f : ℕ).
    IsNews (held_of (topic_at first front)) f c.self.inside.upto below records) c.self.invariant.3 c.in_ok-found.ensures.news in
    let found = c.followers_catch_up.ensures.news first front ds c.self.inside.upto below records c.self.invariant.1 caught news in
    let kept = (topic_at first front).kept in
    let more : List Draw = draws_of (length front) kept.floor below records in
    let read : c.len-read.result ≡ length front = search rules in
    let floor : c.in_ok-found.found.floor ≡ kept.floor = c.in_ok-found.ensures.floor in
    let out = c.add_news.new.out.value in
    let all : List Draw = out.1 ++ c.add_news.new.rest.items in
    let added : all ≡ (before.1 ++ rest) ++ more =
    c.in_ok-add_news.ensures.added ∙ (λ i. (before.1 ++ rest) ++ draws_of (read i) (floor i) below records) in
    let same : ds ++ more ≡ out.0 ++ all = more_behind before.0 (before.1 ++ rest) more out.0 all c.add_news.ensures.published added in
    let now : IsCaughtUp first front (out.0 ++ all) = subst (IsCaughtUp first front) same found.0 in
    let is_floor : floor_of (ds ++ more) ≡ kept.floor = floor_after kept ds (length front) below records news.basis in (
      c.self.invariant.0,
      c.self.invariant.1,
      subst (IsCaught first front (out.0 ++ all)) (sym {A = ℕ} c.in_ok-found.ensures.next) now.caught,
      floor ∙ (sym is_floor ∙ ap floor_of same),
    )

pub returns-clause-pulled : goal.returns-clause-pulled
returns-clause-pulled g c =
    let first = g.N.FeedName.first in
    let front : List Item = c.read_news.new.topic in
    let before = c.self.inside.out.value in
    let rest = c.self.inside.rest.items in
    let ds : List Draw = before.0 ++ (before.1 ++ rest) in
    let caught : IsCaught first front ds c.self.inside.upto = c.followers_catch_up.ensures.stays first
    c.self.inside.topic front ds c.self.inside.upto c.read_news.ensures.longer c.self.invariant.2 in
    let records : List Record = c.in_ok-found.found.records.items in
    let below : Option (List Record) = c.in_ok-found.found.below in
    let news : IsNews (held_of (topic_at first front)) (floor_of ds) c.self.inside.upto below records =
    subst (λ (f : ℕ).
    IsNews (held_of (topic_at first front)) f c.self.inside.upto below records) c.self.invariant.3 c.in_ok-found.ensures.news in
    let found = c.followers_catch_up.ensures.news first front ds c.self.inside.upto below records c.self.invariant.1 caught news in
    let kept = (topic_at first front).kept in
    let more : List Draw = draws_of (length front) kept.floor below records in
    let read : c.len-read.result ≡ length front = search rules in
    let floor : c.in_ok-found.found.floor ≡ kept.floor = c.in_ok-found.ensures.floor in
    let out = c.add_news.new.out.value in
    let all : List Draw = out.1 ++ c.add_news.new.rest.items in
    let added : all ≡ (before.1 ++ rest) ++ more =
    c.in_ok-add_news.ensures.added ∙ (λ i. (before.1 ++ rest) ++ draws_of (read i) (floor i) below records) in
    let same : ds ++ more ≡ out.0 ++ all = more_behind before.0 (before.1 ++ rest) more out.0 all c.add_news.ensures.published added in
    let some : (read floor : ℕ) → draws_of read floor below records ≢ [] = search rules in
    let pulls : Pulls first front (before.0, before.1 ++ rest) (out.0, all) = record {
      below = below;
      basis = news.basis;
      records = records;
      from = max c.self.inside.upto kept.floor;
      since = news.since;
      some = some (length front) kept.floor;
      new = found.1;
      pending = λ i. (c.add_news.ensures.published i, added i);
    } in
    subst (λ (l : List Item × (List Draw × List Draw)). Pulls first front l.1 (out.0, all)) c.self.view_is pulls

pub returns-clause-compaction : goal.returns-clause-compaction
returns-clause-compaction g c =
    let first = g.N.FeedName.first in
    let front : List Item = c.read_news.new.topic in
    let before = c.self.inside.out.value in
    let rest = c.self.inside.rest.items in
    let ds : List Draw = before.0 ++ (before.1 ++ rest) in
    let caught : IsCaught first front ds c.self.inside.upto = c.followers_catch_up.ensures.stays first
    c.self.inside.topic front ds c.self.inside.upto c.read_news.ensures.longer c.self.invariant.2 in
    let records : List Record = c.in_ok-found.found.records.items in
    let below : Option (List Record) = c.in_ok-found.found.below in
    let news : IsNews (held_of (topic_at first front)) (floor_of ds) c.self.inside.upto below records =
    subst (λ (f : ℕ).
    IsNews (held_of (topic_at first front)) f c.self.inside.upto below records) c.self.invariant.3 c.in_ok-found.ensures.news in
    let found = c.followers_catch_up.ensures.news first front ds c.self.inside.upto below records c.self.invariant.1 caught news in
    let kept = (topic_at first front).kept in
    let more : List Draw = draws_of (length front) kept.floor below records in
    let read : c.len-read.result ≡ length front = search rules in
    let floor : c.in_ok-found.found.floor ≡ kept.floor = c.in_ok-found.ensures.floor in
    let out = c.add_news.new.out.value in
    let all : List Draw = out.1 ++ c.add_news.new.rest.items in
    let added : all ≡ (before.1 ++ rest) ++ more =
    c.in_ok-add_news.ensures.added ∙ (λ i. (before.1 ++ rest) ++ draws_of (read i) (floor i) below records) in
    let same : ds ++ more ≡ out.0 ++ all = more_behind before.0 (before.1 ++ rest) more out.0 all c.add_news.ensures.published added in
    let now : IsCaughtUp first front (out.0 ++ all) = subst (IsCaughtUp first front) same found.0 in
    now.compaction
