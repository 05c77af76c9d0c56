-- The responses to requests for pages (RFC 9112): each has its length, and is the last one of its connection.
use Rattle.std.specs.Prelude.{ℕ, List, [], ◌++◌, codes, decimal, length}
use Rattle.reg_metrics.specs.declared.asked.PageRequest.{PageRequest}
use Rattle.reg_metrics.specs.declared.asked.PageRequest.TheVariants.{Malformed, Metrics, NotAllowed, NotFound, Ready}
use Rattle.reg_metrics.specs.declared.stage.Stage.{Stage}
use Rattle.reg_metrics.specs.declared.stage.Stage.TheVariants as stages

-- a status with its phrase, and a type
abbrev pub status_text : List ℕ → List ℕ → List ℕ
status_text status kind = codes "HTTP/1.1 " ++ (status ++ (codes "\r\nContent-Type: " ++ (kind ++ codes "\r\n")))

abbrev pub length_text : ℕ → List ℕ
length_text len = codes "Content-Length: " ++ (decimal len ++ codes "\r\n")

-- these, other fields, and a body
abbrev pub response_text : List ℕ → List ℕ → List ℕ → List ℕ → List ℕ
response_text status kind fields body =
    status_text status kind ++ (length_text (length body) ++ (fields ++ (codes "Connection: close\r\n\r\n" ++ body)))

-- a line of text
abbrev pub told_text : List ℕ → List ℕ → List ℕ
told_text status line = response_text status (codes "text/plain; charset=utf-8") [] line

-- whether commands are answered, and else why not, in one word
abbrev pub ready_text : Stage → List ℕ
ready_text stages.Ready = told_text (codes "200 OK") (codes "ready\n")
ready_text stages.Starting = told_text (codes "503 Service Unavailable") (codes "starting\n")
ready_text stages.Lost = told_text (codes "503 Service Unavailable") (codes "lost\n")
ready_text stages.Declined = told_text (codes "503 Service Unavailable") (codes "declined\n")
ready_text stages.Full = told_text (codes "503 Service Unavailable") (codes "full\n")
ready_text stages.Unlawful = told_text (codes "503 Service Unavailable") (codes "unlawful\n")
ready_text stages.Unreachable = told_text (codes "503 Service Unavailable") (codes "unreachable\n")
ready_text stages.Ended = told_text (codes "503 Service Unavailable") (codes "ended\n")

-- the response to what is asked, where the process is at that stage and has that page of numbers
abbrev pub answer_text : PageRequest → Stage → List ℕ → List ℕ
answer_text Metrics stage page = response_text (codes "200 OK") (codes "text/plain; version=0.0.4; charset=utf-8") [] page
answer_text Ready stage page = ready_text stage
answer_text NotFound stage page = told_text (codes "404 Not Found") (codes "not found\n")
answer_text NotAllowed stage page =
    response_text (codes "405 Method Not Allowed") (codes "text/plain; charset=utf-8") (codes "Allow: GET\r\n") (codes "method not allowed\n")
answer_text Malformed stage page = told_text (codes "400 Bad Request") (codes "bad request\n")
