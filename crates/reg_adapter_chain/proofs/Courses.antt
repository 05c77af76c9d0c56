-- One event more of a conversation.
use Rattle.std.proofs.Common.{◌≡◌, ℕ, List, ◌∷◌, [], ◌++◌, Option, Some, None, Bool, true, false, if◌then◌else◌, refl, sym, ap, ◌∙◌, option_and_then, option_map, option_to_list}
use mathlib.Core.List.{append_assoc}
use Rattle.reg_records.specs.declared.record.Record.{Record}
use Rattle.reg_adapter_chain.specs.Batches.{begins_at}
use Rattle.reg_adapter_chain.specs.Course.{Asks, Course, Event, Tells, asked, course_by, course_from, course_of}
use Rattle.reg_adapter_chain.specs.Laws.{AsksGoOn, HandedBeginsChain, HandsGoOn, TellsGoOn}
use Rattle.reg_adapter_chain.specs.Standing.{Standing, asking_in, course, handed_by}
use Rattle.reg_adapter_chain.specs.declared.asking.Asking.TheVariants as askings
use Rattle.reg_adapter_chain.specs.declared.request.AppendRequest.{AppendRequest}

one_more_by : (event : Event) (more : List Event) (o : Option Course)
    → ((c : Course) → course_from c (more ++ event ∷ []) ≡ option_and_then (λ next. course_by next event) (course_from c more))
    → option_and_then (λ next. course_from next (more ++ event ∷ [])) o
    ≡ option_and_then (λ next. course_by next event) (option_and_then (λ next. course_from next more) o)
one_more_by event more None h = refl
one_more_by event more (Some c) h = h c

only : (o : Option Course) → option_and_then (λ next. course_from next []) o ≡ o
only None = refl
only (Some c) = refl

-- a course by one event more
pub one_more : (event : Event) (events : List Event) (c : Course)
    → course_from c (events ++ event ∷ []) ≡ option_and_then (λ next. course_by next event) (course_from c events)
one_more event [] c = only (course_by c event)
one_more event (first ∷ more) c = one_more_by event more (course_by c first) (one_more event more)

pub goes_on : (first : ℕ) (events : List Event) (event : Event) (c d : Course) → course_of first events ≡ Some c → course_by c event ≡ Some d
    → course_of first (events ++ event ∷ []) ≡ Some d
goes_on first events event c d is by =
    one_more event events _ ∙ (ap (option_and_then (λ (next : Course). course_by next event)) is ∙ by)

placed : (b : Bool) (c : Course) → askings.Asked ≡ (if b then askings.Asked else askings.Misplaced) → (if b then Some c else None) ≡ Some c
placed true c e = refl
placed false c e = absurd (cc e)

-- what is asked opens a request
asks : (c : Course) (batch : List Record) (request : Option AppendRequest) (due : List (List Record))
    → askings.Asked ≡ asking_in c.next request batch due
    → asked c batch request ≡ Some (record c { request = Some (record { batch = batch; crossed = false }) })
asks c batch None [] e = placed (begins_at c.next batch) _ e
asks c batch (Some r) [] e = absurd (cc e)
asks c batch None (first ∷ more) e = absurd (cc e)
asks c batch (Some r) (first ∷ more) e = absurd (cc e)

pub begins : HandedBeginsChain
begins first events handed s has = ap (option_map (λ (c : Course). c.batches)) has

pub tells_go_on : TellsGoOn
tells_go_on first events handed old new told answer has is =
    goes_on first events (Tells told) (course handed old) (course (handed_by handed old.request answer) new) has (is.goes_on handed)

pub asks_go_on : AsksGoOn
asks_go_on first events handed old new batch has is =
    goes_on first events (Asks batch) (course handed old) (course handed new) has
    (asks (course handed old) batch old.request old.due is.asks ∙ ap (λ (s : Standing). Some (course handed s)) (sym is.stands))

pub hands_go_on : HandsGoOn
hands_go_on first events handed old new batch has is =
    has
    ∙ ap (λ (bs : List (List Record)). Some (record { batches = bs; next = old.next; request = old.request }))
    (ap (λ (bs : List (List Record)). handed ++ bs) is.due ∙ sym (append_assoc handed (option_to_list batch) new.due))
    ∙ ap (λ (s : Standing). Some (course (handed ++ option_to_list batch) s)) (sym is.same)
