-- Examples, computed on the definitions.
use Rattle.std.proofs.Common.{◌≡◌, true, false, List, [], ◌∷◌, None, Some, Ok, Err, codes, refl}
use Rattle.reg_records.specs.declared.record.Read.TheVariants as reads
use Rattle.reg_adapter.specs.Heard.{heard_of}
use Rattle.reg_adapter.specs.Said.{follows, word_of}
use Rattle.reg_adapter.specs.declared.fault.MessageFault.TheVariants as faults
use Rattle.reg_adapter.specs.declared.told.AdapterAnswer.TheVariants as answers
use Rattle.reg_adapter.specs.declared.told.AdapterMessage.TheVariants.{Answer, Ready}

-- `ready`, then two answers
words : heard_of (codes "ready" ∷ codes "kept" ∷ codes "lost" ∷ [])
    ≡ Ok (record { told = Ready ∷ Answer answers.Kept ∷ Answer answers.Lost ∷ []; begun = None })
unfolding word_of
words = refl

-- a batch is begun
begun : heard_of (codes "behind" ∷ codes "batch" ∷ []) ≡ Ok (record { told = Answer answers.Behind ∷ []; begun = Some [] })
unfolding word_of
begun = refl

no_message : heard_of (codes "ready" ∷ codes "keep" ∷ codes "kept" ∷ []) ≡ Err faults.NoMessage
unfolding word_of
no_message = refl

empty_line : heard_of ([] ∷ []) ≡ Err faults.NoMessage
unfolding word_of
empty_line = refl

empty_batch : heard_of (codes "batch" ∷ [] ∷ codes "ready" ∷ []) ≡ Err faults.EmptyBatch
unfolding word_of
empty_batch = refl

-- the line at 5 is followed by one at 6
next : follows (reads.Foreign 5 ∷ []) (reads.Foreign 6) ≡ true
next = refl

gap : follows (reads.Foreign 5 ∷ []) (reads.Foreign 7) ≡ false
gap = refl

twice : follows (reads.Foreign 5 ∷ reads.Foreign 6 ∷ []) (reads.Foreign 6) ≡ false
twice = refl
