use Rattle.std.proofs.Common.{subst, List, ℕ}
use Rattle.shard_index.specs.Index.{Contents, IndexOf}
use Rattle.shard_index.proofs.index.Index.tell.Goals as goal

pub returns-clause-read : goal.returns-clause-read
returns-clause-read c = subst (λ (x : Contents). ∥ ((bytes : List ℕ) × IndexOf bytes x) ∥₁) c.self.view_is c.self.invariant.1
