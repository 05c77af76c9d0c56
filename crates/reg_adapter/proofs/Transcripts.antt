-- The texts of messages.
use Rattle.std.proofs.Common.{◌≡◌, ◌-◌, ◌^◌, ℕ, Bool, true, false, not, List, [], ◌∷◌, ◌++◌, length, min, codes, None, Result, Ok, All, refl, sym, ap, subst, ◌∙◌, true≢false}
use Rattle.std.proofs.lemmas.Bool.{and_parts}
use Rattle.std.proofs.lemmas.List.{append-nil}
use Rattle.std.proofs.lemmas.List.Elements.{All-append, All-cons, All-nil}
use Rattle.std.specs.List.{list_all}
use Rattle.reg_journal.specs.Lines.{Say, text_of}
use Rattle.reg_records.specs.Line.{is_line_feed}
use Rattle.reg_records.specs.Log.{LogText}
use Rattle.reg_records.specs.Pieces.{HasNoLineFeed}
use Rattle.reg_records.specs.declared.record.Read.{Read}
use Rattle.reg_records.specs.declared.log.LogFault.{LogFault}
use Rattle.reg_adapter.proofs.Texts.{texts_tell_once}
use Rattle.reg_adapter.proofs.Words.{word_text}
use Rattle.reg_adapter.proofs.Written.{heard_were_written, written_are_heard}
use Rattle.reg_adapter.specs.Laws.{MessagesAreRead, MessagesHaveTexts, TextsAreMessages, TranscriptsAreUnique}
use Rattle.reg_adapter.specs.Transcript.{AreMessages, IsMessage, IsMessageText, answer_word}
use Rattle.reg_adapter.specs.declared.line.Word.{Word}
use Rattle.reg_adapter.specs.declared.line.Word.TheVariants as words
use Rattle.reg_adapter.specs.declared.told.AdapterAnswer.TheVariants.{Kept, Behind, Declined, Lost}
use Rattle.reg_adapter.specs.declared.told.AdapterMessage.{AdapterMessage}
use Rattle.reg_adapter.specs.declared.told.AdapterMessage.TheVariants as messages

abbrev IsFree : ℕ → Type 0
IsFree b = is_line_feed b ≡ false

not_true : (b : Bool) → not b ≡ true → b ≡ false
not_true true is = absurd (true≢false (sym is))
not_true false is = refl

by_test : (text : List ℕ) → list_all (λ b. not (is_line_feed b)) text ≡ true → HasNoLineFeed text
by_test [] is = All-nil IsFree
by_test (b ∷ text) is =
    let both = and_parts (not (is_line_feed b)) (list_all (λ b. not (is_line_feed b)) text) is in
    All-cons IsFree b text (not_true (is_line_feed b) both.0) (by_test text both.1)

word_free : (word : Word) → HasNoLineFeed (word_text word)
word_free words.Batch = by_test (codes "batch") refl
word_free (words.Answer Kept) = by_test (codes "kept") refl
word_free (words.Answer Behind) = by_test (codes "behind") refl
word_free (words.Answer Declined) = by_test (codes "declined") refl
word_free (words.Answer Lost) = by_test (codes "lost") refl
word_free words.Ready = by_test (codes "ready") refl

one_free : (line : List ℕ) → HasNoLineFeed line → All HasNoLineFeed (line ∷ [])
one_free line free = All-cons HasNoLineFeed line [] free (All-nil HasNoLineFeed)

Say-free : (lines : List (List ℕ)) (reads : List Read) → Say lines reads → All HasNoLineFeed lines
Say-free [] reads say = All-nil HasNoLineFeed
Say-free (line ∷ lines) [] say = absurd say
Say-free (line ∷ lines) (read ∷ reads) say = All-cons HasNoLineFeed line lines say.1 (Say-free lines reads say.3)

message_free : (lines : List (List ℕ)) (next : AdapterMessage) → IsMessage lines next → All HasNoLineFeed lines
message_free lines (messages.Batch reads) (others, is, say, batch) =
    subst (All HasNoLineFeed) (sym is)
    (All-cons HasNoLineFeed (codes "batch") (others ++ [] ∷ []) (word_free words.Batch)
    (All-append HasNoLineFeed others ([] ∷ []) (Say-free others reads say) (one_free [] (All-nil IsFree))))
message_free lines (messages.Answer answer) is =
    subst (All HasNoLineFeed) (sym is) (one_free (answer_word answer) (word_free (words.Answer answer)))
message_free lines messages.Ready is = subst (All HasNoLineFeed) (sym is) (one_free (codes "ready") (word_free words.Ready))

are_free : (lines : List (List ℕ)) (told : List AdapterMessage) → AreMessages lines told → All HasNoLineFeed lines
are_free lines [] is = subst (All HasNoLineFeed) (sym is) (All-nil HasNoLineFeed)
are_free lines (next ∷ more) (front, others, is, message, are) =
    subst (All HasNoLineFeed) (sym is)
    (All-append HasNoLineFeed front others (message_free front next message) (are_free others more are))

pub messages_are_read : MessagesAreRead
messages_are_read text told (lines, is, are) = (
  min (length lines) (2 ^ 64 - 1),
  record {
    lines = lines;
    parts = is ∙ sym (append-nil (text_of lines));
    free = are_free lines told are;
    heard = written_are_heard lines told are;
    counts = refl;
  },
)

pub texts_are_messages : TextsAreMessages
texts_are_messages text told count has =
    (has.lines, has.parts ∙ append-nil (text_of has.lines), heard_were_written has.lines told has.free has.heard)

-- one message more in front
more_text : (lines : List (List ℕ)) (next : AdapterMessage) (more : List AdapterMessage) → IsMessage lines next → ((text : List ℕ) × IsMessageText text more)
    → (text : List ℕ) × IsMessageText text (next ∷ more)
more_text lines next more message (text, (others, is, are)) =
    (text_of (lines ++ others), (lines ++ others, refl, (lines, others, refl, message, are)))

pub messages_have_texts : MessagesHaveTexts
messages_have_texts [] have = ([], ([], refl, refl))
messages_have_texts (messages.Batch reads ∷ more) have =
    let (lines, say, batch) = have.0 in
    more_text (codes "batch" ∷ (lines ++ [] ∷ [])) (messages.Batch reads) more (lines, refl, say, batch) (messages_have_texts more have.1)
messages_have_texts (messages.Answer answer ∷ more) have =
    more_text (answer_word answer ∷ []) (messages.Answer answer) more refl (messages_have_texts more have)
messages_have_texts (messages.Ready ∷ more) have =
    more_text (codes "ready" ∷ []) messages.Ready more refl (messages_have_texts more have)

-- a text is that of one list of messages
same_messages : (text text' : List ℕ) (told other : List AdapterMessage) → text' ≡ text → IsMessageText text told → IsMessageText text' other → other ≡ told
same_messages text text' told other same is is' =
    let has = messages_are_read text told is in
    let has' = messages_are_read text other (subst (λ (t : List ℕ). IsMessageText t other) same is') in
    (texts_tell_once text told other None None [] [] has.0 has'.0 has.1 (All-nil IsFree) has'.1 (All-nil IsFree)).0

pub transcripts_are_unique : TranscriptsAreUnique
transcripts_are_unique text base base' told other is is' =
    let both : ◌≡◌ {A = Result LogText (ℕ × LogFault)} (Ok base') (Ok base) = sym is'.is_base ∙ is.is_base in
    let same : base' ≡ base = cc in
    (same, same_messages base.rest base'.rest told other (ap (λ (b : LogText). b.rest) same) is.behind is'.behind)
