use Rattle.std.proofs.Common.{◌≡◌, ◌++◌, [], List, ℕ, take, drop, ap, refl, subst, sym, ◌∙◌, append-nil, arith}
use Rattle.std.specs.List.Sorted.{IsNonDecreasingBy}
use Rattle.reg_journal.specs.Lines.{text_of}
use Rattle.reg_compaction.specs.declared.sorting.Piece.{Piece}
use Rattle.reg_compaction.proofs.Fronts.{split_behind, split_front, text_of-append}
use Rattle.reg_compaction.proofs.Pieces.{lines_of, moved, stays}
use Rattle.reg_compaction.proofs.sorting.reordered.Goals as goal

pub returns-then-rise : goal.returns-then-rise
returns-then-rise c front lines floor read parts is say =
    let text : List ℕ = c.args.text.now in
    let whole : text ≡ text_of (front ++ lines) ++ [] = parts ∙ sym (append-nil (text_of (front ++ lines))) in
    let back : c.split_at.result.1.now ≡ text_of lines =
    c.split_at.ensures.back
    ∙ ap (λ (n : ℕ). drop n text) c.floor_len.ensures.len
    ∙ split_behind front lines floor read [] text is say refl whole
    ∙ append-nil (text_of lines) in
    let pieces = c.in_ok-pieces.ensures lines read (omega arith) back say in
    stays front lines text c.in_ok-pieces.pieces.items parts pieces.0 pieces.1
    (subst (IsNonDecreasingBy (λ (p : Piece). p.offset)) c.deref.ensures.value (c.rise.ensures.0 c.if-rise.true))

pub returns : goal.returns
returns c front lines floor read parts is say =
    let text : List ℕ = c.args.text.now in
    let whole : text ≡ text_of (front ++ lines) ++ [] = parts ∙ sym (append-nil (text_of (front ++ lines))) in
    let first : c.split_at.result.0.now ≡ text_of front =
    c.split_at.ensures.front
    ∙ ap (λ (n : ℕ). take n text) c.floor_len.ensures.len
    ∙ split_front front lines floor read [] text is say refl whole in
    let back : c.split_at.result.1.now ≡ text_of lines =
    c.split_at.ensures.back
    ∙ ap (λ (n : ℕ). drop n text) c.floor_len.ensures.len
    ∙ split_behind front lines floor read [] text is say refl whole
    ∙ append-nil (text_of lines) in
    let pieces = c.in_ok-pieces.ensures lines read (omega arith) back say in
    let sorted : List Piece = c.sort.new.pieces.items in
    moved front lines _ c.in_ok-pieces.pieces.items sorted
    (c.in_ok-joined.ensures ∙ ap (λ (l : List Piece). c.split_at.result.0.now ++ text_of (lines_of l)) c.deref-2.ensures.value
    ∙ ap (λ (t : List ℕ). t ++ text_of (lines_of sorted)) first ∙ sym (text_of-append front (lines_of sorted)))
    pieces.0 pieces.1 c.in_ok-sort.ensures.permutation c.in_ok-sort.ensures.sorted
