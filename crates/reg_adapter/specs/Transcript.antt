-- What an adapter says: a log, an empty line behind it, and messages.
use Rattle.std.specs.Prelude.{◌≡◌, ⊤, ℕ, suc, List, [], ◌∷◌, ◌++◌, codes, Ok}
use Rattle.reg_journal.specs.Lines.{Say, text_of}
use Rattle.reg_records.specs.Log.{LogText, log_of, offset_in}
use Rattle.reg_records.specs.declared.record.Read.{Read}
use Rattle.reg_adapter.specs.declared.told.AdapterAnswer.{AdapterAnswer}
use Rattle.reg_adapter.specs.declared.told.AdapterAnswer.TheVariants.{Kept, Behind, Declined, Lost}
use Rattle.reg_adapter.specs.declared.told.AdapterMessage.{AdapterMessage}
use Rattle.reg_adapter.specs.declared.told.AdapterMessage.TheVariants as messages

-- each line has the offset behind that of the line before it, and the first one this offset
abbrev pub FollowFrom : ℕ → List Read → Type 0
FollowFrom next [] = ⊤
FollowFrom next (read ∷ more) = (offset_in read ≡ next) × FollowFrom (suc next) more

-- one or more lines, whose offsets follow each other
abbrev pub IsBatch : List Read → Type 0
IsBatch [] = ⊥
IsBatch (first ∷ more) = FollowFrom (suc (offset_in first)) more

abbrev pub answer_word : AdapterAnswer → List ℕ
answer_word Kept = codes "kept"
answer_word Behind = codes "behind"
answer_word Declined = codes "declined"
answer_word Lost = codes "lost"

-- the lines of a message: a word, and for a batch its lines, and an empty line behind them
abbrev pub IsMessage : List (List ℕ) → AdapterMessage → Type 0
IsMessage lines (messages.Batch reads) =
    (others : List (List ℕ)) × (lines ≡ codes "batch" ∷ (others ++ [] ∷ [])) × Say others reads × IsBatch reads
IsMessage lines (messages.Answer answer) = lines ≡ answer_word answer ∷ []
IsMessage lines messages.Ready = lines ≡ codes "ready" ∷ []

-- the lines of some messages, one after the other
abbrev pub AreMessages : List (List ℕ) → List AdapterMessage → Type 0
AreMessages lines [] = lines ≡ []
AreMessages lines (next ∷ more) =
    (front : List (List ℕ)) × (others : List (List ℕ)) × (lines ≡ front ++ others) × IsMessage front next × AreMessages others more

-- a text that is these messages and nothing more
abbrev pub IsMessageText : List ℕ → List AdapterMessage → Type 0
IsMessageText text told = (lines : List (List ℕ)) × (text ≡ text_of lines) × AreMessages lines told

-- all that an adapter says that ends between two messages: what its base says, and the messages behind it
pub record IsTranscript (text : List ℕ) (base : LogText) (told : List AdapterMessage) : Type 0 where
  pub is_base : log_of text ≡ Ok base
  pub behind : IsMessageText base.rest told
