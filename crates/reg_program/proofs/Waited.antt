-- Texts that are put behind what waits, one after the other.
use Rattle.std.proofs.Common.{◌≡◌, ◌+◌, ℕ, List, [], ◌∷◌, ◌++◌, take, drop, append-nil, sym, ap, subst, ◌∙◌}
use Rattle.std.specs.Prelude.{Option, Result, Ok, Err}
use Rattle.std.proofs.lemmas.Grind.{flat_map-append}
use Rattle.std.proofs.lemmas.List.{append_assoc}
use Rattle.avro_data.specs.declared.pieces.Piece.{Piece}
use Rattle.avro_data.specs.Pieces.{piece_text, pieces_text}
use Rattle.reg_records.specs.declared.device.Device.{Device}
use Rattle.reg_responses.specs.Writing.{HasFront, HasWritten, Writes}
use Rattle.reg_responses.proofs.Written.{HasFront-more, HasFront-then, Writes-then, flat_map-split}
use Rattle.reg_program.specs.Waiting.{IsPut, Puts}

-- up to one piece and that one
pub pieces_more : (pieces : List Piece) (i : ℕ) (x : Piece) → take (i + 1) pieces ≡ take i pieces ++ x ∷ []
    → pieces_text (take (i + 1) pieces) ≡ pieces_text (take i pieces) ++ piece_text x
pieces_more pieces i x next =
    ap pieces_text next ∙ flat_map-append piece_text (take i pieces) (x ∷ [])
    ∙ ap (λ last. pieces_text (take i pieces) ++ last) (append-nil (piece_text x))

-- what was put, and more behind it
joined : (first second waiting before waiting' after last : List ℕ) → waiting ++ first ≡ before ++ waiting'
    → waiting' ++ second ≡ after ++ last → waiting ++ (first ++ second) ≡ before ++ (after ++ last)
joined first second waiting before waiting' after last e f =
    sym (append_assoc waiting first second) ∙ ap (λ t. t ++ second) e ∙ append_assoc before waiting' second ∙ ap (λ t. before ++ t) f

module _ {W : Type 0} (contents : W → Option (List ℕ)) where
  -- and more behind it
  pub put_more : (old mid new : Device W) (first second waiting waiting' last : List ℕ) → IsPut contents old mid waiting waiting' first
      → IsPut contents mid new waiting' last second → IsPut contents old new waiting last (first ++ second)
  put_more old mid new first second waiting waiting' last one two = record {
    front = one.front ++ two.front;
    parts = joined first second waiting one.front waiting' two.front last one.parts two.parts
        ∙ sym (append_assoc one.front two.front last);
    written = Writes-then {A = ℕ} {E = ℕ} contents old mid new one.front two.front (Ok 0) one.written two.written;
  }

  -- where the writer was lost in what stands behind it, it has a front of all
  pub lost_then : (old mid new : Device W) (first second waiting waiting' : List ℕ) → IsPut contents old mid waiting waiting' first
      → HasFront contents mid new (waiting' ++ second) → HasFront contents old new (waiting ++ (first ++ second))
  lost_then old mid new first second waiting waiting' one lost =
      HasFront-then contents old mid new one.front (waiting' ++ second) [] (waiting ++ (first ++ second))
      (joined first second waiting one.front waiting' (waiting' ++ second) [] one.parts (sym (append-nil (waiting' ++ second))))
      one.written lost

  -- a front of a part of what was to be put is one of the whole
  pub front_of_more : (old new : Device W) (waiting text more : List ℕ)
      → HasFront contents old new (waiting ++ text) → HasFront contents old new (waiting ++ (text ++ more))
  front_of_more old new waiting text more lost =
      subst (HasFront contents old new) (append_assoc waiting text more) (HasFront-more contents old new (waiting ++ text) more lost)

  -- where the writer was lost in one piece, it has a front of all of them
  pub lost_in : (old mid new : Device W) (waiting waiting' : List ℕ) (pieces : List Piece) (i : ℕ) (x : Piece)
      → take (i + 1) pieces ≡ take i pieces ++ x ∷ [] → IsPut contents old mid waiting waiting' (pieces_text (take i pieces))
      → HasFront contents mid new (waiting' ++ piece_text x) → HasFront contents old new (waiting ++ pieces_text pieces)
  lost_in old mid new waiting waiting' pieces i x next one lost =
      subst (λ t. HasFront contents old new (waiting ++ t))
      (append_assoc (pieces_text (take i pieces)) (piece_text x) (pieces_text (drop (i + 1) pieces))
      ∙ sym (flat_map-split piece_text pieces i x next))
      (front_of_more old new waiting (pieces_text (take i pieces) ++ piece_text x) (pieces_text (drop (i + 1) pieces))
      (lost_then old mid new (pieces_text (take i pieces)) (piece_text x) waiting waiting' one lost))

  -- nothing was put, and nothing is written
  pub put_nothing : (old new : Device W) (waiting : List ℕ) → HasWritten contents old new [] → IsPut contents old new waiting waiting []
  put_nothing old new waiting none = record { front = []; parts = append-nil waiting; written = none }

  -- both were written
  pub put_whole : {A E : Type 0} (old mid new : Device W) (waiting text : List ℕ) (result : Result A E)
      → HasWritten contents old mid waiting → Writes contents mid new text result → Puts contents old new waiting [] text result
  put_whole old mid new waiting text (Ok value) has more = record {
    front = waiting ++ text;
    parts = sym (append-nil (waiting ++ text));
    written = Writes-then {A = ℕ} {E = ℕ} contents old mid new waiting text (Ok 0) has more;
  }
  put_whole old mid new waiting text (Err error) has lost =
      HasFront-then contents old mid new waiting text [] (waiting ++ text) (ap (λ t. waiting ++ t) (sym (append-nil text))) has lost

  -- what was put is written with what waits
  pub put_written : {A E : Type 0} (old begun mid new : Device W) (text waiting : List ℕ) (result : Result A E)
      → HasWritten contents old begun [] → IsPut contents begun mid [] waiting text → Writes contents mid new waiting result
      → Writes contents old new text result
  put_written old begun mid new text waiting result begins one last =
      subst (λ t. Writes contents old new t result) (sym one.parts)
      (Writes-then contents old begun new [] (one.front ++ waiting) result begins
      (Writes-then contents begun mid new one.front waiting result one.written last))
