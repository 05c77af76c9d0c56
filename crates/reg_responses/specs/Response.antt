-- The text of a response (RFC 9112).
use Rattle.std.specs.Prelude.{◌≡◌, ℕ, List, [], ◌++◌, Bool, length, codes, decimal, Option, Some, None, Err, unwrap_or, if◌then◌else◌}
use Rattle.http.specs.StatusCode.{reason_phrase}
use Rattle.reg_lookup.specs.Bodies.{answer_with}
use Rattle.reg_lookup.specs.declared.answered.Answer.{Answer}
use Rattle.reg_leader.specs.reg_refusals.Allow.{allow_text}
use Rattle.reg_leader.specs.reg_refusals.Refusal.{no_memory}
use Rattle.reg_leader.specs.reg_refusals.declared.allow.Allow.{Allow}
use Rattle.reg_leader.specs.reg_refusals.declared.refusal.Refusal.{Refusal}
use Rattle.reg_leader.specs.reg_refusals.declared.refusal.Refusal.TheVariants.{MethodNotAllowed}

-- the phrase of a status (RFC 9110); a number that no status has is without one
unfoldable pub phrase_of : ℕ → List ℕ
phrase_of status = unwrap_or (reason_phrase status) []

-- the field that tells the methods of a path
abbrev pub allow_field : Option Allow → List ℕ
allow_field None = []
allow_field (Some allow) = codes "Allow: " ++ (allow_text allow ++ codes "\r\n")

-- the field that tells that the server closes the connection
abbrev pub closing_field : Bool → List ℕ
closing_field closes = if closes then codes "Connection: close\r\n" else []

-- the status line, the fields and an empty line, before a body of so many bytes
unfoldable pub head_text : ℕ → Option Allow → Bool → ℕ → List ℕ
head_text status allow closes len =
    codes "HTTP/1.1 " ++ (decimal status ++ (codes " " ++ (phrase_of status
    ++ (codes "\r\nContent-Type: application/vnd.schemaregistry.v1+json\r\nContent-Length: " ++ (decimal len
    ++ (codes "\r\n" ++ (allow_field allow ++ (closing_field closes ++ codes "\r\n"))))))))

-- the head and the body, whose length is counted in bytes
unfoldable pub response_text : ℕ → Option Allow → Bool → List ℕ → List ℕ
response_text status allow closes body = head_text status allow closes (length body) ++ body

-- the methods that a refusal tells
abbrev pub allow_in : Refusal → Option Allow
allow_in (MethodNotAllowed allow) = Some allow
allow_in other = None

-- the response that gives an answer
abbrev pub answer_text : Bool → Answer → List ℕ
answer_text closes answer = response_text answer.status None closes answer.body

-- the response of a refusal
unfoldable pub refusal_text : Bool → Refusal → List ℕ
refusal_text closes refusal =
    let answer = answer_with (Err refusal) in response_text answer.status (allow_in refusal) closes answer.body

-- the response where memory was refused
abbrev pub memory_text : Bool → List ℕ
memory_text closes = refusal_text closes no_memory

-- a response begins with a line that states this status
abbrev pub StatesStatus : List ℕ → ℕ → Type 0
StatesStatus out status = (rest : List ℕ) × (out ≡ codes "HTTP/1.1 " ++ (decimal status ++ (codes " " ++ rest)))
