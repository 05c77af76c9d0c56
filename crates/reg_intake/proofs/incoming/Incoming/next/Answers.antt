use Rattle.std.proofs.Common.{◌≡◌, ◌++◌, ◌∷◌, ◌+◌, ℕ, List, Ok, drop, sym, ap, ◌∙◌, arith}
use Rattle.reg_records.specs.Device.{counted}
use Rattle.reg_intake.specs.Intake.{Unread, said_at}
use Rattle.reg_intake.proofs.OneMore.{comes, front_line, left_behind}
use Rattle.reg_intake.proofs.incoming.Incoming.next.Goals as goal

pub returns-clause-came : goal.returns-clause-came
returns-clause-came c text read has =
    let found = c.in-Some.ensures.parts in
    let view : c.args.self.now ≡ record { bytes = drop c.self.inside.passed c.self.inside.held.items; count = c.self.inside.count } =
    sym c.self.view_is in
    let parts : c.args.self.now.bytes ≡ found.0 ++ 10 ∷ found.1 = sym c.unread-rest.ensures ∙ found.2 in
    let said : said_at c.self.inside.count found.0 ≡ Ok c.in_ok-came.came =
    c.in_ok-came.ensures.came found.0 (front_line c.unread-rest.result.now found.0 found.1 c.in-Some.len found.2 found.4) found.3 in
    let counts : c.saturating_add-self-inside.result ≡ counted c.args.self.now.count =
    omega (arith, c.saturating_add-self-inside.ensures, ap (λ (s : Unread). s.count) view) in
    let left : drop (c.self.inside.passed + (c.in-Some.len + 1)) c.self.inside.held.items ≡ found.1 =
    left_behind c.self.inside.held.items found.0 found.1 c.self.inside.passed c.in-Some.len (sym (ap (λ (s : Unread). s.bytes) view)
    ∙ parts) found.4 in
    let new : Unread = record {
      bytes = drop (c.self.inside.passed + (c.in-Some.len + 1)) c.self.inside.held.items;
      count = c.saturating_add-self-inside.result;
    } in
    comes text read c.args.self.now found.0 found.1 parts found.3 (omega (arith, c.if-len-eq0.false, found.4)) has c.in_ok-came.came new
    (ap (λ (s : Unread). said_at s.count found.0) view ∙ said)
    (ap (λ (b : List ℕ). record { bytes = b; count = c.saturating_add-self-inside.result }) left
    ∙ ap (λ (n : ℕ). record { bytes = found.1; count = n }) counts)
