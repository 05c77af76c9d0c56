-- The bodies of answers: JSON without spaces, its members in this order.
use Rattle.std.specs.Prelude.{ℕ, List, map, Bool, Option, Some, None, Result, Ok, Err, codes, if◌then◌else◌}
use Rattle.serde_json.specs.Data.{unsigned, Data, boolean, number, string, array, object, no_items, item, Members, member, no_members}
use Rattle.serde_json.specs.View.{items_of}
use Rattle.serde_json.specs.Written.{compact_text}
use Rattle.reg_modes.specs.reg_entries.declared.entry.Entry.{Entry}
use Rattle.reg_modes.specs.reg_refusals.Refusal.{code_of, status_of, message_of}
use Rattle.reg_modes.specs.reg_refusals.declared.refusal.Refusal.{Refusal}
use Rattle.reg_lookup.specs.declared.answered.Answer.{Answer}

-- a list of what stands for each
abbrev pub list_body : {X : Type 0} → (X → Data) → List X → List ℕ
list_body data_of xs = compact_text (array (items_of (map data_of xs)))

abbrev pub number_data : ℕ → Data
number_data n = number (unsigned n)

-- the subject and version of an entry
abbrev pub place_data : Entry → Data
place_data e = object (member (codes "subject") (string e.subject) (member (codes "version") (number_data e.version) no_members))

-- an entry, with the text that its record holds
abbrev pub entry_body : Entry → List ℕ
entry_body e =
    compact_text (object (member (codes "subject") (string e.subject) (member (codes "version") (number_data e.version)
    (member (codes "id") (number_data e.id) (member (codes "schema") (string e.text) no_members)))))

abbrev pub schema_body : List ℕ → List ℕ
schema_body text = compact_text (object (member (codes "schema") (string text) no_members))

abbrev pub refusal_body : Refusal → List ℕ
refusal_body refusal =
    compact_text (object (member (codes "error_code") (number_data (code_of refusal))
    (member (codes "message") (string (message_of refusal)) no_members)))

-- the messages: one where there is a clash
abbrev pub messages_data : Option (List ℕ) → Data
messages_data None = array no_items
messages_data (Some message) = array (item (string message) no_items)

-- they are there where they were asked for
abbrev pub messages_member : Bool → Option (List ℕ) → Members
messages_member verbose message =
    if verbose then member (codes "messages") (messages_data message) no_members else no_members

abbrev pub check_body : Bool → Bool → Option (List ℕ) → List ℕ
check_body verbose ok message =
    compact_text (object (member (codes "is_compatible") (boolean ok) (messages_member verbose message)))

abbrev pub level_body : List ℕ → List ℕ
level_body name = compact_text (object (member (codes "compatibilityLevel") (string name) no_members))

abbrev pub mode_body : List ℕ → List ℕ
mode_body name = compact_text (object (member (codes "mode") (string name) no_members))

-- the answer that gives what was found, or says why nothing is given
abbrev pub answer_with : Result (List ℕ) Refusal → Answer
answer_with (Ok body) = record { status = 200; body = body }
answer_with (Err refusal) = record { status = status_of refusal; body = refusal_body refusal }
