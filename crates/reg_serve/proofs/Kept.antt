-- An answer that failed left a front of itself behind what was gathered, or nothing.
use Rattle.std.proofs.Common.{◌≡◌, ◌++◌, List, ℕ, Some, sym, ap, ◌∙◌, arith, length, take, take_all}
use Rattle.std.specs.Prelude.{[], IfErr, OnErr, Option, Result, Ok, Err}
use Rattle.std.specs.declared.alloc.AllocError.{AllocError}
use Rattle.std.proofs.lemmas.List.{take-append-le}
use Rattle.reg_leader.specs.declared.command.Command.{Command}
use Rattle.reg_leader.specs.declared.reply.Reply.{Reply}
use Rattle.reg_lookup.specs.declared.answered.Answer.{Answer}
use Rattle.reg_lookup.specs.declared.query.Query.{Query}
use Rattle.reg_records.specs.declared.device.Device.{Device}
use Rattle.reg_http.specs.declared.serving.ServeError.{ServeError}
use Rattle.reg_http.specs.declared.serving.ServeError.TheVariants as errors
use Rattle.reg_connection.specs.Answering.{FailsKnowing}

-- a front of some bytes that others were added to
front-of : (xs ys more : List ℕ) → ys ≡ xs ++ more → take (length xs) ys ≡ xs
front-of xs ys more is =
    ap (take (length xs)) is ∙ take-append-le (length xs) xs more (omega arith) ∙ take_all (length xs) xs (omega arith)

module _ {D S W : Type 0} (asks : D → Query → Result Answer AllocError → D → Type 0) (commands : D → Command → Reply → D → Type 0)
    (learns : D → S → D → Type 0) where
  pub fails-kept : (old new : D) (before : Option S) (writer writer' : Device W) (text xs ys : List ℕ) (e : ServeError)
      → FailsKnowing asks commands learns old before writer writer' text (Some xs) (Some ys) new e → take (length xs) ys ≡ xs
  fails-kept old new before writer writer' text xs ys errors.ReadFault (told, learnt, fails) = absurd fails
  fails-kept old new before writer writer' text xs ys errors.WriteFault (told, learnt, (lost, out, rest, first, (front, more, parts, written))) =
      front-of xs ys front written

  -- what is left once it is cut to what was gathered before
  pub kept-after : {A : Type 0} (r : Result A ServeError) (old new : D) (before : Option S) (writer writer' : Device W)
      (text xs had ys has left : List ℕ) (n : ℕ) → had ≡ xs → has ≡ ys → n ≡ length xs → left ≡ take n has
      → IfErr r (λ e. (more : List ℕ) → FailsKnowing asks commands learns old before writer writer' (text ++ more) (Some had) (Some ys) new e)
      → OnErr r (left ≡ xs)
  kept-after (Ok x) old new before writer writer' text xs had ys has left n same now size cut fails = tt
  kept-after (Err e) old new before writer writer' text xs had ys has left n same now size cut fails =
      cut ∙ ap (take n) now ∙ ap (λ k. take k ys) (size ∙ ap length (sym same))
      ∙ fails-kept old new before writer writer' (text ++ []) had ys e (fails []) ∙ same
