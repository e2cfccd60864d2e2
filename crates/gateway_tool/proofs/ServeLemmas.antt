-- What the status of serve says, by how serving ended.
use Rattle.std.proofs.Common.{◌≡◌, ℕ, ◌≤◌, Option, None, Some, refl, sym, subst, arith}
use Rattle.std.specs.Prelude.{IfSome}
use Rattle.shard_service.specs.Serving.{Serves}
use Rattle.shard_service.specs.declared.serve.ServeEnd.{ServeEnd}
use Rattle.shard_service.specs.declared.serve.ServeEnd.TheVariants as «end»
use Rattle.gateway_tool.specs.Serve.{DoesServe, status_of}
use Rattle.gateway_tool.specs.Status.{status_listen_fault}

-- serving ended behind some connections
pub ended_so : (wanted : Option ℕ) (a b f g : ℕ) (how : ServeEnd) → Serves wanted a b f g how → DoesServe wanted a b f g (status_of how)
ended_so wanted a b f g «end».Limit s = record { given = s.given; counted = s.counted; within = s.within; ok = ((λ _. s.limit.0 refl), (λ _. refl)); statuses = refl }
ended_so wanted a b f g «end».Failed s = record { given = s.given; counted = s.counted; within = s.within; ok = ((λ e. absurd cc), (λ e. absurd (other (s.limit.1 e)))); statuses = refl }
  where
    other : «end».Failed ≡ «end».Limit → ⊥
    other e = cc
ended_so wanted a b f g «end».Memory s = record { given = s.given; counted = s.counted; within = s.within; ok = ((λ e. absurd cc), (λ e. absurd (other (s.limit.1 e)))); statuses = refl }
  where
    other : «end».Memory ≡ «end».Limit → ⊥
    other e = cc

-- no connection was given, since the acceptor listens nowhere
pub never_begun : (wanted : Option ℕ) (a f g : ℕ) → IfSome wanted (λ n. 1 ≤ n) → DoesServe wanted a a f g status_listen_fault
never_begun None a f g some = record { given = 0; counted = refl; within = tt; ok = ((λ e. absurd cc), (λ e. absurd cc)); statuses = refl }
never_begun (Some n) a f g some = record { given = 0; counted = refl; within = omega arith; ok = ((λ e. absurd cc), (λ e. absurd (none e))); statuses = refl }
  where
    none : Some n ≡ Some 0 → ⊥
    none e = let same : n ≡ 0 = cc in omega (arith, some, same)
