-- The status that a response states.
use Rattle.std.proofs.Common.{◌≡◌, ℕ, List, ◌++◌, ap, ◌∙◌}
use Rattle.std.specs.Prelude.{Bool, Option, codes, decimal, length}
use Rattle.std.proofs.lemmas.List.{append_assoc}
use Rattle.reg_leader.specs.reg_refusals.declared.allow.Allow.{Allow}
use Rattle.reg_leader.specs.reg_refusals.declared.refusal.Refusal.{Refusal}
use Rattle.reg_leader.specs.reg_refusals.Refusal.{no_memory, status_of}
use Rattle.reg_lookup.specs.Bodies.{refusal_body}
use Rattle.reg_responses.specs.Response.{StatesStatus, allow_field, allow_in, closing_field, head_text, memory_text, phrase_of, refusal_text, response_text}

behind : (a b c rest body : List ℕ) → (a ++ (b ++ (c ++ rest))) ++ body ≡ a ++ (b ++ (c ++ (rest ++ body)))
behind a b c rest body =
    append_assoc a (b ++ (c ++ rest)) body ∙ ap (λ t. a ++ t) (append_assoc b (c ++ rest) body ∙ ap (λ t. b ++ t) (append_assoc c rest body))

pub response-states : (status : ℕ) (allow : Option Allow) (closes : Bool) (body : List ℕ)
    → StatesStatus (response_text status allow closes body) status
unfolding response_text head_text
response-states status allow closes body =
    let rest =
    phrase_of status ++ (codes "\r\nContent-Type: application/vnd.schemaregistry.v1+json\r\nContent-Length: " ++ (decimal (length body)
    ++ (codes "\r\n" ++ (allow_field allow ++ (closing_field closes ++ codes "\r\n"))))) in
    (rest ++ body, behind (codes "HTTP/1.1 ") (decimal status) (codes " ") rest body)

pub refusal-states : (closes : Bool) (refusal : Refusal) → StatesStatus (refusal_text closes refusal) (status_of refusal)
unfolding refusal_text
refusal-states closes refusal = response-states (status_of refusal) (allow_in refusal) closes (refusal_body refusal)
