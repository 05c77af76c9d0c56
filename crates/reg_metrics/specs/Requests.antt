-- What a request for a page asks, by the first line of its head: `METHOD TARGET VERSION` (RFC 9112, section 3).
use Rattle.std.specs.Prelude.{ℕ, List, Bool, ◌==◌, ◌||◌, codes, bytes_eq, if◌then◌else◌}
use Rattle.std.specs.List.{before_first, after_first}
use Rattle.reg_metrics.specs.declared.asked.PageRequest.{PageRequest}
use Rattle.reg_metrics.specs.declared.asked.PageRequest.TheVariants as asks

-- the first line, up to its CR
abbrev pub line_of : List ℕ → List ℕ
line_of head = before_first (λ b. b == 13) head

abbrev pub is_version : List ℕ → Bool
is_version text = bytes_eq text (codes "HTTP/1.1") || bytes_eq text (codes "HTTP/1.0")

-- what a method asks at a path
abbrev pub asked_at : List ℕ → List ℕ → PageRequest
asked_at method path =
    if bytes_eq path (codes "/metrics") then (if bytes_eq method (codes "GET") then asks.Metrics else asks.NotAllowed)
    else if bytes_eq path (codes "/ready") then (if bytes_eq method (codes "GET") then asks.Ready else asks.NotAllowed)
    else asks.NotFound

-- what a line asks by what stands before its first space, before the next one, and after that; a target's query says nothing
abbrev pub asked_by : List ℕ → List ℕ → PageRequest
asked_by method rest =
    if is_version (after_first (λ b. b == 32) rest)
    then asked_at method (before_first (λ b. b == 63) (before_first (λ b. b == 32) rest))
    else asks.Malformed

abbrev pub asked_in : List ℕ → PageRequest
asked_in head = asked_by (before_first (λ b. b == 32) (line_of head)) (after_first (λ b. b == 32) (line_of head))
