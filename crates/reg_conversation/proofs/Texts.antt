-- The responses to a text that comes in pieces.
use Rattle.std.proofs.Common.{◌≡◌, ◌<◌, ◌≤◌, ◌+◌, ◌++◌, ◌∷◌, [], List, ℕ, Bool, true, false, sym, ap}
use Rattle.std.proofs.Common.{subst, ◌∙◌, append-nil, length, take, take_all, drop, get_or}
use Rattle.std.specs.Prelude.{Option, Result}
use Rattle.std.specs.Borrow.{Bor}
use Rattle.std.specs.declared.alloc.AllocError.{AllocError}
use Rattle.std.proofs.lemmas.Grind.{flat_map-append}
use Rattle.std.proofs.lemmas.List.{append_assoc, take-append-drop, take_more}
use Rattle.reg_leader.specs.declared.command.Command.{Command}
use Rattle.reg_leader.specs.declared.reply.Reply.{Reply}
use Rattle.reg_lookup.specs.declared.answered.Answer.{Answer}
use Rattle.reg_lookup.specs.declared.query.Query.{Query}
use Rattle.reg_records.specs.Device.{bytes_in, faults_of}
use Rattle.reg_records.specs.declared.device.Device.{Device}
use Rattle.reg_http.specs.declared.serving.ServeError.{ServeError}
use Rattle.reg_conversation.specs.Conversation.{AnswersWhole, RepliesAll, Stops}
use Rattle.reg_conversation.specs.Pieces.{LosesPiece, StopsPieces, text_of}
use Rattle.reg_conversation.specs.declared.pieces.PieceError.{PieceError}
use Rattle.reg_conversation.specs.declared.pieces.PieceError.TheVariants as errors
use Rattle.reg_conversation.proofs.Lasts.{short-nil}
use Rattle.reg_conversation.proofs.Turns.{replies-closed, replies-rest, some-begun, stops-piece, stops-rest, whole-fed}

text_of-append : (xs ys : List (Bor (List ℕ))) → text_of (xs ++ ys) ≡ text_of xs ++ text_of ys
text_of-append xs ys = flat_map-append (λ piece. piece.now) xs ys

-- one piece more
text-more : (pieces : List (Bor (List ℕ))) (i : ℕ) (d : Bor (List ℕ)) → i < length pieces
    → text_of (take (i + 1) pieces) ≡ text_of (take i pieces) ++ (get_or pieces i d).now
text-more pieces i d less =
    ap text_of (take_more pieces i d less) ∙ text_of-append (take i pieces) (get_or pieces i d ∷ [])
    ∙ ap (λ t. text_of (take i pieces) ++ t) (append-nil (get_or pieces i d).now)

-- the pieces so far, one, and those after it
text-parts : (pieces : List (Bor (List ℕ))) (i : ℕ) (d : Bor (List ℕ)) → i < length pieces
    → text_of pieces ≡ (text_of (take i pieces) ++ (get_or pieces i d).now) ++ text_of (drop (i + 1) pieces)
text-parts pieces i d less =
    ap text_of (sym (take-append-drop (i + 1) pieces)) ∙ text_of-append (take (i + 1) pieces) (drop (i + 1) pieces)
    ∙ ap (λ t. t ++ text_of (drop (i + 1) pieces)) (text-more pieces i d less)

module _ {D : Type 0} (asks : D → Query → Result Answer AllocError → D → Type 0) (commands : D → Command → Reply → D → Type 0) where
  pub pieces-begun : (old : D) (held : List ℕ) (before after : Option (List ℕ)) → held ≡ [] → after ≡ before
      → AnswersWhole asks commands old [] before after held old true
  pieces-begun old held before after none same =
      subst (λ h. AnswersWhole asks commands old [] before after h old true) (sym none)
      (some-begun asks commands old [] before after same, λ e. short-nil)

  pub pieces-more : (pieces : List (Bor (List ℕ))) (i : ℕ) (d : Bor (List ℕ)) (old mid new : D)
      (held held' : List ℕ) (before middle after : Option (List ℕ)) (goes : Bool)
      → i < length pieces → goes ≡ true → AnswersWhole asks commands old (text_of (take i pieces)) before middle held mid true
      → AnswersWhole asks commands mid (held ++ (get_or pieces i d).now) middle after held' new goes
      → AnswersWhole asks commands old (text_of (take (i + 1) pieces)) before after held' new true
  pieces-more pieces i d old mid new held held' before middle after goes less is some answered =
      subst (λ t. AnswersWhole asks commands old t before after held' new true) (sym (text-more pieces i d less))
      (subst (λ g. AnswersWhole asks commands old (text_of (take i pieces) ++ (get_or pieces i d).now) before after held' new g) is
      (whole-fed asks commands old mid new (text_of (take i pieces)) held
      (get_or pieces i d).now held' before middle after goes some.0 answered))

  pub pieces-closed : (pieces : List (Bor (List ℕ))) (i : ℕ) (d : Bor (List ℕ)) (old mid new : D)
      (held held' : List ℕ) (before middle after : Option (List ℕ)) (goes : Bool)
      → i < length pieces → goes ≡ false → AnswersWhole asks commands old (text_of (take i pieces)) before middle held mid true
      → AnswersWhole asks commands mid (held ++ (get_or pieces i d).now) middle after held' new goes
      → RepliesAll asks commands old (text_of pieces) before after new
  pieces-closed pieces i d old mid new held held' before middle after goes less is some answered =
      subst (λ t. RepliesAll asks commands old t before after new) (sym (text-parts pieces i d less))
      (replies-closed asks commands old new (text_of (take i pieces) ++ (get_or pieces i d).now)
      (text_of (drop (i + 1) pieces)) held' before after
      (subst (λ g. AnswersWhole asks commands old (text_of (take i pieces) ++ (get_or pieces i d).now) before after held' new g) is
      (whole-fed asks commands old mid new (text_of (take i pieces)) held
      (get_or pieces i d).now held' before middle after goes some.0 answered)))

  pub pieces-stop : {W : Type 0} (contents : W → Option (List ℕ)) (pieces : List (Bor (List ℕ)))
      (i : ℕ) (d : Bor (List ℕ)) (start writer writer' : Device W)
      (old mid new : D) (held held' : List ℕ) (before : Option (List ℕ)) (e : PieceError)
      → i < length pieces → faults_of writer ≡ faults_of start
      → AnswersWhole asks commands old (text_of (take i pieces)) before (bytes_in contents writer) held mid true
      → LosesPiece asks commands writer writer' mid held (get_or pieces i d).now
      (bytes_in contents writer) (bytes_in contents writer') held' new e
      → StopsPieces asks commands start writer' old (text_of pieces) before (bytes_in contents writer') new e
  pieces-stop contents pieces i d start writer writer' old mid new held held' before errors.NoMemory less faults some (kept, same, still) = (
    ap (λ w. faults_of w) kept ∙ faults,
    text_of (take i pieces),
    (get_or pieces i d).now ++ text_of (drop (i + 1) pieces),
    text-parts pieces i d less ∙ append_assoc (text_of (take i pieces)) (get_or pieces i d).now (text_of (drop (i + 1) pieces)),
    held,
    subst (λ w. AnswersWhole asks commands old (text_of (take i pieces)) before (bytes_in contents w) held new true) (sym kept)
        (subst (λ m. AnswersWhole asks commands old (text_of (take i pieces)) before (bytes_in contents writer) held m true)
        (sym same) some),
  )
  pieces-stop contents pieces i d start writer writer' old mid new held held' before (errors.Failed e) less faults some stops =
      subst (λ t. Stops asks commands start writer' old t before (bytes_in contents writer') new e) (sym (text-parts pieces i d less))
      (stops-piece asks commands start writer writer' old mid new (text_of (take i pieces)) held
      (get_or pieces i d).now before (bytes_in contents writer) (bytes_in contents writer') e
      faults some.0 stops (text_of (drop (i + 1) pieces)))

  -- once no piece is left
  pub pieces-ended : (pieces : List (Bor (List ℕ))) (i : ℕ) (old mid new : D) (held : List ℕ) (before middle after : Option (List ℕ))
      → length pieces ≤ i
      → AnswersWhole asks commands old (text_of (take i pieces)) before middle held mid true
      → RepliesAll asks commands mid held middle after new
      → RepliesAll asks commands old (text_of pieces) before after new
  pieces-ended pieces i old mid new held before middle after all some replies =
      subst (λ t. RepliesAll asks commands old t before after new) (ap text_of (take_all i pieces all))
      (replies-rest asks commands old mid new (text_of (take i pieces)) held before middle after some.0 replies)

  pub pieces-last : {W : Type 0} (pieces : List (Bor (List ℕ))) (i : ℕ) (start writer writer' : Device W) (old mid new : D) (held : List ℕ)
      (before middle after : Option (List ℕ)) (e : ServeError) → length pieces ≤ i → faults_of writer ≡ faults_of start
      → AnswersWhole asks commands old (text_of (take i pieces)) before middle held mid true
      → Stops asks commands writer writer' mid held middle after new e
      → Stops asks commands start writer' old (text_of pieces) before after new e
  pieces-last pieces i start writer writer' old mid new held before middle after e all faults some stops =
      subst (λ t. Stops asks commands start writer' old t before after new e) (ap text_of (take_all i pieces all))
      (stops-rest asks commands start writer writer' old mid new (text_of (take i pieces)) held before middle after e faults some.0 stops)
