-- Before the sync is done and after it a crash leaves what it might have left before.
use Rattle.std.proofs.Common.{◌≡◌, ◌∙◌, ℕ, List, subst}
use Rattle.std.specs.Prelude.{IfOk}
use Rattle.reg_journal.specs.Found.{IsFound}
use Rattle.reg_journal.proofs.Ends.{says_found}
use Rattle.reg_journal.proofs.Moments.{begun, quietly}
use Rattle.reg_journal.proofs.opening.look.Goals as goal

pub returns-in_err-sync-clause-any_moment : goal.returns-in_err-sync-clause-any_moment
returns-in_err-sync-clause-any_moment g c modelled =
    let known = c.requires modelled in
    let d = c.args.disk.now in
    let may = g.D.Disk.may_leave in
    let start = begun g.D.Disk.moment g.D.Disk.left_since may (may d) d (λ f left. g.met.D.Disk.only_now d f known left) (λ f left. left) in
    (quietly g.D.Disk.moment g.D.Disk.left_since may (may d) d d c.sync.new.self start
    (c.sync.ensures.time known) (c.sync.ensures.crash known))

pub returns-in_err-bytes-clause-any_moment : goal.returns-in_err-bytes-clause-any_moment
returns-in_err-bytes-clause-any_moment g c modelled =
    let known = c.requires modelled in
    let d = c.args.disk.now in
    let may = g.D.Disk.may_leave in
    let first = c.in_ok-sync.ensures.seen known in
    let start = begun g.D.Disk.moment g.D.Disk.left_since may (may d) d (λ f left. g.met.D.Disk.only_now d f known left) (λ f left. left) in
    let synced = quietly g.D.Disk.moment g.D.Disk.left_since may (may d) d d c.sync.new.self start
    (c.sync.ensures.time known) (c.sync.ensures.crash known) in
    (quietly g.D.Disk.moment g.D.Disk.left_since may (may d) d c.sync.new.self c.read.new.self synced
    (c.read.ensures.time first.0) (c.read.ensures.crash first.0))

pub returns-clause-any_moment : goal.returns-clause-any_moment
returns-clause-any_moment g c modelled =
    let known = c.requires modelled in
    let d = c.args.disk.now in
    let may = g.D.Disk.may_leave in
    let first = c.in_ok-sync.ensures.seen known in
    let start = begun g.D.Disk.moment g.D.Disk.left_since may (may d) d (λ f left. g.met.D.Disk.only_now d f known left) (λ f left. left) in
    let synced = quietly g.D.Disk.moment g.D.Disk.left_since may (may d) d d c.sync.new.self start
    (c.sync.ensures.time known) (c.sync.ensures.crash known) in
    (quietly g.D.Disk.moment g.D.Disk.left_since may (may d) d c.sync.new.self c.read.new.self synced
    (c.read.ensures.time first.0) (c.read.ensures.crash first.0))

pub returns-clause-log : goal.returns-clause-log
returns-clause-log g c modelled =
    let d = c.args.disk.now in
    let known = c.requires modelled in
    let first = c.in_ok-sync.ensures.seen known in
    let same : c.in_ok-bytes.bytes.items ≡ g.D.Disk.seen d = c.in_ok-bytes.ensures.bytes first.0 ∙ first.1 in
    says_found (g.D.Disk.seen d) c.read_ended.result
    (subst (λ (file : List ℕ). IfOk c.read_ended.result (IsFound file)) same c.read_ended.ensures.found)
