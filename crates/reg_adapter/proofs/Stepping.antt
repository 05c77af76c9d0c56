-- One line more of a text.
use Rattle.std.proofs.Common.{◌≡◌, ◌<◌, ℕ, true, false, cond, List, ◌∷◌, length, drop, Option, Some, None, Ok, refl, sym, ap, subst₂, ◌∙◌, arith, length-append}
use Rattle.reg_records.specs.Device.{counted}
use Rattle.reg_records.specs.declared.record.Read.{Read}
use Rattle.reg_adapter.proofs.Cuts.{left_behind}
use Rattle.reg_adapter.proofs.Hearing.{part_heard, taken, word_heard}
use Rattle.reg_adapter.specs.Heard.{Heard, heard_with}
use Rattle.reg_adapter.specs.Lines.{IsFrontLine, Unread}
use Rattle.reg_adapter.specs.Messages.{HasRead, HasTold, IsRefusalAt, begun_in}
use Rattle.reg_adapter.specs.Said.{part_in, word_in}
use Rattle.reg_adapter.specs.Steps.{IsLess, IsSame, IsStepRefusal, IsTaken, TakesPart, TakesWord, told_after}
use Rattle.reg_adapter.specs.declared.fault.MessageError.{MessageError}
use Rattle.reg_adapter.specs.declared.line.Part.{Part}
use Rattle.reg_adapter.specs.declared.line.Word.{Word}
use Rattle.reg_adapter.specs.declared.messages.Messages.{Messages}
use Rattle.reg_adapter.specs.declared.messages.Step.{Step}
use Rattle.reg_adapter.specs.declared.messages.Step.TheVariants as steps
use Rattle.reg_adapter.specs.declared.told.AdapterMessage.{AdapterMessage}

-- the line at the front was taken, which is heard so
pub stepped : (text : List ℕ) (told : List AdapterMessage) (begun : Option (List Read)) (bytes : List ℕ) (count : ℕ) (line : List ℕ) (h : Heard)
    (rest : List ℕ) (next : ℕ) → HasTold text told begun bytes count → (front : IsFrontLine bytes line) → heard_with told begun front.text ≡ Ok h
    → rest ≡ drop (length line) bytes → next ≡ counted count → HasTold text h.told h.begun rest next
stepped text told begun bytes count line h rest next has front hears is counts =
    subst₂ (λ (r : List ℕ) (n : ℕ). HasTold text h.told h.begun r n)
    (sym (is ∙ left_behind bytes front.text line front.rest (length line) front.parts front.is refl))
    (sym counts)
    (taken text told begun bytes count front.text front.rest h has front.parts front.free hears)

-- fewer bytes are left
pub fewer : (bytes line rest : List ℕ) → IsFrontLine bytes line → rest ≡ drop (length line) bytes → length rest < length bytes
fewer bytes line rest front is =
    let left : rest ≡ front.rest = is ∙ left_behind bytes front.text line front.rest (length line) front.parts front.is
    refl in
    omega (arith, ap length left, ap length front.parts, length-append front.text (10 ∷ front.rest))

-- what is told and begun once a line was heard and taken
pub moved : (text : List ℕ) (told : List AdapterMessage) (old mid : Messages) (line : List ℕ) (step : Step) (left : Unread) → HasRead text told old
    → (front : IsFrontLine old.lines.bytes line)
    → heard_with told (begun_in old) front.text ≡ Ok (record { told = told_after told step; begun = begun_in mid }) → mid.lines ≡ old.lines
    → left ≡ record { bytes = drop (length line) mid.lines.bytes; count = counted mid.lines.count }
    → HasTold text (told_after told step) (begun_in mid) left.bytes left.count
moved text told old mid line step left has front hears same is =
    stepped text told (begun_in old) old.lines.bytes old.lines.count line (record { told = told_after told step; begun = begun_in mid })
    left.bytes left.count has front hears
    (ap (λ (u : Unread). u.bytes) is ∙ ap (λ (u : Unread). drop (length line) u.bytes) same)
    (ap (λ (u : Unread). u.count) is ∙ ap (λ (u : Unread). counted u.count) same)

pub heard_by_part : (told : List AdapterMessage) (old mid : Messages) (text : List ℕ) (part : Part) (step : Step) → old.is_begun ≡ true
    → part_in old.begun.items text ≡ Ok part → TakesPart old part step mid
    → heard_with told (begun_in old) text ≡ Ok (record { told = told_after told step; begun = begun_in mid })
heard_by_part told old mid text part step begun says takes =
    ap (λ t. heard_with told (cond t (Some old.begun.items) None) text) begun
    ∙ part_heard told old.begun.items text part says
    ∙ ap Ok (takes.makes told)

pub heard_by_word : (told : List AdapterMessage) (old mid : Messages) (text : List ℕ) (word : Word) (step : Step) → old.is_begun ≡ false
    → word_in text ≡ Ok word → TakesWord old word step mid
    → heard_with told (begun_in old) text ≡ Ok (record { told = told_after told step; begun = begun_in mid })
heard_by_word told old mid text word step begun says takes =
    ap (λ t. heard_with told (cond t (Some old.begun.items) None) text) begun
    ∙ word_heard told text word says
    ∙ ap Ok (takes.makes told)

-- what is the same reads the same
pub same_read : (text : List ℕ) (told : List AdapterMessage) (old new : Messages) → IsSame old new → HasRead text told old → HasRead text told new
same_read text told old new same has =
    subst₂ (λ (u : Unread) (b : Option (List Read)). HasTold text told b u.bytes u.count) (sym same.lines) (sym same.begun) has

pub same_refusal : (old new : Messages) (error : MessageError) → IsSame old new → IsStepRefusal old error → IsStepRefusal new error
same_refusal old new error same refused =
    subst₂ (λ (u : Unread) (b : Option (List Read)). IsRefusalAt b u.bytes u.count error) (sym same.lines) (sym same.begun) refused

-- what a line of a batch comes to, and a word
pub by_part : (told : List AdapterMessage) (old after mid : Messages) (text : List ℕ) (begun : List Read) (part : Part) (step same_step : Step)
    → old.is_begun ≡ true → begun ≡ old.begun.items → part_in begun text ≡ Ok part → TakesPart old part step after
    → mid ≡ after → same_step ≡ step
    → (heard_with told (begun_in old) text ≡ Ok (record { told = told_after told same_step; begun = begun_in mid }))
    × (mid.lines ≡ old.lines) × IsTaken same_step
by_part told old after mid text begun part step same_step is_begun is says takes same other =
    subst₂ (λ (m : Messages) (s : Step).
    (heard_with told (begun_in old) text ≡ Ok (record { told = told_after told s; begun = begun_in m })) × (m.lines ≡ old.lines) × IsTaken s)
    (sym same) (sym other)
    (heard_by_part told old after text part step is_begun (ap (λ (b : List Read). part_in b text) (sym is) ∙ says) takes, takes.lines, takes.taken)

pub by_word : (told : List AdapterMessage) (old after mid : Messages) (text : List ℕ) (word : Word) (step same_step : Step)
    → old.is_begun ≡ false → word_in text ≡ Ok word → TakesWord old word step after
    → mid ≡ after → same_step ≡ step
    → (heard_with told (begun_in old) text ≡ Ok (record { told = told_after told same_step; begun = begun_in mid }))
    × (mid.lines ≡ old.lines) × IsTaken same_step
by_word told old after mid text word step same_step is_begun says takes same other =
    subst₂ (λ (m : Messages) (s : Step).
    (heard_with told (begun_in old) text ≡ Ok (record { told = told_after told s; begun = begun_in m })) × (m.lines ≡ old.lines) × IsTaken s)
    (sym same) (sym other)
    (heard_by_word told old after text word step is_begun says takes, takes.lines, takes.taken)

pub less_left : (old new : Messages) (step : Step) → IsTaken step → length new.lines.bytes < length old.lines.bytes → IsLess old step new
less_left old new (steps.Told next) taken less = less
less_left old new steps.Within taken less = less
less_left old new steps.Nothing taken less = absurd taken
