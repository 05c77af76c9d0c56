-- Since when a connection waits, and what its client takes of the answers that are left.
use Rattle.std.specs.Prelude.{◌≡◌, ◌≢◌, ◌⊎◌, ◌+◌, ◌-◌, ◌≤◌, ◌^◌, ℕ, List, true, ◌&&◌, ◌==◌, drop, length, min, nat_lt, take, if◌then◌else◌}
use Rattle.reg_connection.specs.Sending.{TakesBytes}
use Rattle.reg_connection.specs.declared.connection.Connection.{Connection}
use Rattle.reg_connection.specs.declared.waiting.Waits.TheVariants as waits

-- what a connection waits for begins anew where the first byte of a request comes, and at no other
abbrev pub since_after : ℕ → ℕ → ℕ → ℕ → ℕ
since_after now before after since = if before == 0 && nat_lt 0 after then now else since

module _ {S T : Type 0} where
  -- since when it waits stays, and when its last whole request came; what it waits for stays too, or it is closing
  abbrev pub KeepsTimes : Connection S T → Connection S T → Type 0
  KeepsTimes old new = (new.since ≡ old.since) × (new.asked ≡ old.asked) × ((new.waits ≡ old.waits) ⊎ (new.waits ≡ waits.End))

  -- it waits on for a request, since the moment at which its first byte came; or it is closing, from now on
  abbrev pub WaitsOn : ℕ → Connection S T → Connection S T → Type 0
  WaitsOn now old new =
      ((new.waits ≡ waits.Request) × (new.since ≡ since_after now (length old.conversation) (length new.conversation) old.since))
      ⊎ ((new.waits ≡ waits.End) × (new.since ≡ now))

  -- its client has ended its side, or its stream broke
  abbrev pub IsGone : (S → Type 0) → Connection S T → Type 0
  IsGone broke c = (c.ended ≡ true) ⊎ broke c.stream

  -- or, once its last answer was written, as many bytes were dropped as may be
  abbrev pub IsDone : (S → Type 0) → ℕ → Connection S T → Type 0
  IsDone broke most c = IsGone broke c ⊎ ((c.waits ≡ waits.End) × (most ≤ c.dropped))

  -- the bytes of the answers that the client hasn't taken yet
  abbrev pub left_of : Connection S T → List ℕ
  left_of c = drop c.sent c.unsent.items

  -- how many bytes it holds of unfinished requests and unread answers, up to the greatest count
  abbrev pub weight_of : Connection S T → ℕ
  weight_of c = min (length c.conversation + length c.unsent.items) (2 ^ 64 - 1)

  -- the client took a front of them, of which nothing is sent again, or all
  abbrev pub Gives : (S → List ℕ → S → Type 0) → Connection S T → Connection S T → Type 0
  Gives took old new = (n : ℕ) × TakesBytes took old.stream (take n (left_of old)) new.stream
      × (new.waits ≡ waits.Client → left_of new ≡ drop n (left_of old))
      × (new.waits ≢ waits.Client → take n (left_of old) ≡ left_of old)
