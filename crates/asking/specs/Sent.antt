-- A transfer or none, as a tick is given it: whether one was sent, and its bytes. Assumes nothing: these are definitions.
use Rattle.std.specs.Prelude.{ℕ, Bool, true, false, List, [], Option, Some, None}
use denote.Bor.{Bor}

abbrev pub is_sent : Option (Bor (List ℕ)) → Bool
is_sent (Some bytes) = true
is_sent None = false

-- where none was sent there are none, and nothing that is told of a tick looks at them
abbrev pub bytes_sent : Option (Bor (List ℕ)) → List ℕ
bytes_sent (Some bytes) = bytes.now
bytes_sent None = []
