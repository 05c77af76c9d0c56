-- Whole responses, as the definitions give them.
use Rattle.std.proofs.Common.{◌≡◌, ◌∷◌, [], true, false, refl, codes}
use Rattle.std.specs.Fmt.{digits}
use Rattle.serde_json.proofs.OnLiterals.{serde_json_on_literals}
use Rattle.reg_leader.specs.declared.reply.Reply.TheVariants as replies
use Rattle.reg_leader.specs.reg_level_names.declared.level.Level.TheVariants as levels
use Rattle.reg_leader.specs.reg_modes.declared.mode.Mode.TheVariants as modes
use Rattle.reg_leader.specs.reg_refusals.declared.allow.Allow.TheVariants as allows
use Rattle.reg_leader.specs.reg_refusals.declared.reason.Reason.TheVariants as reasons
use Rattle.reg_leader.specs.reg_refusals.declared.refusal.Refusal.TheVariants as refusals
use Rattle.reg_responses.specs.Reply.{reply_answer}
use Rattle.reg_responses.specs.Response.{answer_text, head_text, memory_text, phrase_of, refusal_text, response_text}

empty_list : answer_text false (record { status = 200; body = codes "[]" })
    ≡ codes "HTTP/1.1 200 OK\r\nContent-Type: application/vnd.schemaregistry.v1+json\r\nContent-Length: 2\r\n\r\n[]"
unfolding head_text phrase_of response_text digits
empty_list = refl

method_not_offered : refusal_text true (refusals.MethodNotAllowed allows.Get)
    ≡ codes "HTTP/1.1 405 Method Not Allowed\r\nContent-Type: application/vnd.schemaregistry.v1+json\r\nContent-Length: 49\r\nAllow: GET\r\nConnection: close\r\n\r\n{\"error_code\":405,\"message\":\"Method Not Allowed\"}"
unfolding head_text phrase_of refusal_text response_text serde_json_on_literals digits
method_not_offered = refl

pub no_memory : memory_text false
    ≡ codes "HTTP/1.1 500 Internal Server Error\r\nContent-Type: application/vnd.schemaregistry.v1+json\r\nContent-Length: 52\r\n\r\n{\"error_code\":50001,\"message\":\"Store error: memory\"}"
unfolding head_text phrase_of refusal_text response_text serde_json_on_literals digits
no_memory = refl

pub no_memory_closing : memory_text true
    ≡ codes "HTTP/1.1 500 Internal Server Error\r\nContent-Type: application/vnd.schemaregistry.v1+json\r\nContent-Length: 52\r\nConnection: close\r\n\r\n{\"error_code\":50001,\"message\":\"Store error: memory\"}"
unfolding head_text phrase_of refusal_text response_text serde_json_on_literals digits
no_memory_closing = refl

versions_deleted : answer_text false (reply_answer (replies.Versions (1 ∷ 2 ∷ 10 ∷ [])))
    ≡ codes "HTTP/1.1 200 OK\r\nContent-Type: application/vnd.schemaregistry.v1+json\r\nContent-Length: 8\r\n\r\n[1,2,10]"
unfolding head_text phrase_of reply_answer response_text serde_json_on_literals digits
versions_deleted = refl

level_set : reply_answer (replies.Level levels.FullTransitive)
    ≡ record { status = 200; body = codes "{\"compatibility\":\"FULL_TRANSITIVE\"}" }
unfolding reply_answer serde_json_on_literals
level_set = refl

level_removed : reply_answer (replies.LevelRemoved levels.None) ≡ record { status = 200; body = codes "{\"compatibilityLevel\":\"NONE\"}" }
unfolding reply_answer serde_json_on_literals
level_removed = refl

mode_set : reply_answer (replies.Mode modes.Readonly) ≡ record { status = 200; body = codes "{\"mode\":\"READONLY\"}" }
unfolding reply_answer serde_json_on_literals
mode_set = refl

registered : reply_answer (replies.Id 2147483647) ≡ record { status = 200; body = codes "{\"id\":2147483647}" }
unfolding reply_answer serde_json_on_literals digits
registered = refl

nothing : reply_answer replies.Nothing ≡ record { status = 200; body = codes "{}" }
unfolding reply_answer serde_json_on_literals
nothing = refl

-- a message is written as a JSON string
incompatible : refusal_text false (refusals.Incompatible (codes "a \"b\"\n"))
    ≡ codes "HTTP/1.1 409 Conflict\r\nContent-Type: application/vnd.schemaregistry.v1+json\r\nContent-Length: 40\r\n\r\n{\"error_code\":409,\"message\":\"a \\\"b\\\"\\n\"}"
unfolding head_text phrase_of refusal_text response_text serde_json_on_literals digits
incompatible = refl

read_only : reply_answer (replies.Refused (refusals.NotPermitted reasons.Readonly))
    ≡ record { status = 422; body = codes "{\"error_code\":42205,\"message\":\"Operation not permitted: READONLY\"}" }
unfolding reply_answer serde_json_on_literals digits
read_only = refl

unsettled : reply_answer (replies.Unsettled 7)
    ≡ record { status = 500; body = codes "{\"error_code\":50001,\"message\":\"Store error: unsettled\"}" }
unfolding reply_answer serde_json_on_literals digits
unsettled = refl
