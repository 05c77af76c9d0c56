-- After the cut, a crash leaves what keeps the front of the file.
use Rattle.std.proofs.Common.{◌≡◌, ◌+◌, ◌≤◌, ℕ, List, length, sym, ap, subst, ◌∙◌}
use Rattle.reg_journal.specs.Disk.{Keeps, Only}
use Rattle.reg_journal.specs.Lines.{said}
use Rattle.reg_journal.proofs.Ends.{cut_says, cut_settles, end_within, kept_says}
use Rattle.reg_journal.proofs.Moments.{begun, then, quietly}
use Rattle.reg_journal.proofs.opening.cut_behind.Goals as goal

pub returns-in_err-cut-clause-any_moment : goal.returns-in_err-cut-clause-any_moment
returns-in_err-cut-clause-any_moment g c modelled =
    let known = c.requires.known modelled in
    let d = c.args.disk.now in
    let found = c.args.found.now in
    let m = g.D.Disk.moment in
    let l = g.D.Disk.left_since in
    let may = g.D.Disk.may_leave in
    let seen = g.D.Disk.seen in
    let is = c.requires.found modelled in
    let on_disk = c.requires.durable modelled in
    let start = begun m l may (λ f. said f ≡ said (seen d)) d
    (λ f left. g.met.D.Disk.only_now d f known left) (λ f left. ap said (on_disk f left)) in
    let kept : (f : List ℕ) → may c.cut.new.self f → said f ≡ said (seen d) = λ f left.
    let from = c.cut.ensures.crash known f left in
    kept_says (seen d) found is f (subst (λ o. Keeps (found.end + 1) o f) (on_disk from.0 from.1) from.2) in
    let cut = then m l may (λ f. said f ≡ said (seen d)) d d c.cut.new.self start (c.cut.ensures.time known) kept in
    cut

pub returns-in_err-sync-clause-any_moment : goal.returns-in_err-sync-clause-any_moment
returns-in_err-sync-clause-any_moment g c modelled =
    let known = c.requires.known modelled in
    let d = c.args.disk.now in
    let found = c.args.found.now in
    let m = g.D.Disk.moment in
    let l = g.D.Disk.left_since in
    let may = g.D.Disk.may_leave in
    let seen = g.D.Disk.seen in
    let is = c.requires.found modelled in
    let on_disk = c.requires.durable modelled in
    let start = begun m l may (λ f. said f ≡ said (seen d)) d
    (λ f left. g.met.D.Disk.only_now d f known left) (λ f left. ap said (on_disk f left)) in
    let kept : (f : List ℕ) → may c.cut.new.self f → said f ≡ said (seen d) = λ f left.
    let from = c.cut.ensures.crash known f left in
    kept_says (seen d) found is f (subst (λ o. Keeps (found.end + 1) o f) (on_disk from.0 from.1) from.2) in
    let cut = then m l may (λ f. said f ≡ said (seen d)) d d c.cut.new.self start (c.cut.ensures.time known) kept in
    let within : found.end + 1 ≤ length (seen d) = end_within (seen d) found is in
    let was_cut = c.in_ok-cut.ensures.seen known within in
    (quietly m l may (λ f. said f ≡ said (seen d)) d c.cut.new.self c.sync.new.self cut
    (c.sync.ensures.time was_cut.0) (c.sync.ensures.crash was_cut.0))

pub returns-clause-any_moment : goal.returns-clause-any_moment
returns-clause-any_moment g c modelled =
    let known = c.requires.known modelled in
    let d = c.args.disk.now in
    let found = c.args.found.now in
    let m = g.D.Disk.moment in
    let l = g.D.Disk.left_since in
    let may = g.D.Disk.may_leave in
    let seen = g.D.Disk.seen in
    let is = c.requires.found modelled in
    let on_disk = c.requires.durable modelled in
    let start = begun m l may (λ f. said f ≡ said (seen d)) d
    (λ f left. g.met.D.Disk.only_now d f known left) (λ f left. ap said (on_disk f left)) in
    let kept : (f : List ℕ) → may c.cut.new.self f → said f ≡ said (seen d) = λ f left.
    let from = c.cut.ensures.crash known f left in
    kept_says (seen d) found is f (subst (λ o. Keeps (found.end + 1) o f) (on_disk from.0 from.1) from.2) in
    let cut = then m l may (λ f. said f ≡ said (seen d)) d d c.cut.new.self start (c.cut.ensures.time known) kept in
    let within : found.end + 1 ≤ length (seen d) = end_within (seen d) found is in
    let was_cut = c.in_ok-cut.ensures.seen known within in
    (quietly m l may (λ f. said f ≡ said (seen d)) d c.cut.new.self c.sync.new.self cut
    (c.sync.ensures.time was_cut.0) (c.sync.ensures.crash was_cut.0))

pub returns-clause-same : goal.returns-clause-same
returns-clause-same g c modelled =
    let known = c.requires.known modelled in
    let d = c.args.disk.now in
    let found = c.args.found.now in
    let m = g.D.Disk.moment in
    let l = g.D.Disk.left_since in
    let may = g.D.Disk.may_leave in
    let seen = g.D.Disk.seen in
    let is = c.requires.found modelled in
    let on_disk = c.requires.durable modelled in
    let within : found.end + 1 ≤ length (seen d) = end_within (seen d) found is in
    let was_cut = c.in_ok-cut.ensures.seen known within in
    let last = c.in_ok-sync.ensures.seen was_cut.0 in
    (last.0, cut_says (seen d) found is (seen c.sync.new.self) (last.1 ∙ was_cut.1))

pub returns-clause-steady : goal.returns-clause-steady
returns-clause-steady g c modelled =
    let known = c.requires.known modelled in
    let d = c.args.disk.now in
    let found = c.args.found.now in
    let m = g.D.Disk.moment in
    let l = g.D.Disk.left_since in
    let may = g.D.Disk.may_leave in
    let seen = g.D.Disk.seen in
    let is = c.requires.found modelled in
    let on_disk = c.requires.durable modelled in
    let within : found.end + 1 ≤ length (seen d) = end_within (seen d) found is in
    let was_cut = c.in_ok-cut.ensures.seen known within in
    let last = c.in_ok-sync.ensures.seen was_cut.0 in
    let durable : Only (seen c.sync.new.self) (may c.sync.new.self) =
    λ f left. c.in_ok-sync.ensures.durable was_cut.0 f left ∙ sym last.1 in
    cut_settles (seen d) found is seen may c.sync.new.self (last.1 ∙ was_cut.1) durable
