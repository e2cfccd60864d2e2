-- What a server says of the connections that it was given.
use Rattle.std.specs.Prelude.{◌≡◌, ◌↔◌, ℕ, zero, suc, ◌+◌, ◌-◌, ◌^◌, ◌≤◌, nat_lt, if◌then◌else◌, Option, Some, IfSome}
use Rattle.gateway_words.specs.Causes.{Rose}
use Rattle.shard_service.specs.declared.serve.ServeEnd.{ServeEnd}
use Rattle.shard_service.specs.declared.serve.ServeEnd.TheVariants as «end»

-- a count with one more: it stands still at its type's end
abbrev pub one_more : ℕ → ℕ
one_more count = if nat_lt count (2 ^ 64 - 1) then count + 1 else count

-- a count with so many more, one by one
abbrev pub raised : ℕ → ℕ → ℕ
raised zero count = count
raised (suc more) count = one_more (raised more count)

-- so many connections were given of at most so many that are wanted, by the acceptor's counts before and behind, and serving ended so
pub record Serves (wanted : Option ℕ) (accepted_before accepted_now faults_before faults_now : ℕ) (how : ServeEnd) : Type 0 where
  -- how many connections were given
  pub given : ℕ
  pub counted : accepted_now ≡ raised given accepted_before
  pub within : IfSome wanted (λ most. given ≤ most)
  -- all that are wanted were given
  pub limit : (how ≡ «end».Limit) ↔ (wanted ≡ Some given)
  -- the acceptor failed
  pub later : faults_before ≤ faults_now
  pub failed : how ≡ «end».Failed → Rose faults_before faults_now
