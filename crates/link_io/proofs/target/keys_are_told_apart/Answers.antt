use Rattle.std.proofs.Common.{◌≡◌, ℕ, List, refl, ap}
use Rattle.std.specs.declared.cmp.Ordering.{Ordering}
use Rattle.std.specs.declared.cmp.Ordering.TheVariants.{Less, Equal, Greater}
use Rattle.std.specs.Ordering.{nat_cmp, ordering_reverse}
use Rattle.std.specs.Cmp.Lexicographic.{slice_cmp, nat_list_cmp_total}
use Rattle.std.proofs.lemmas.Map.Lookups.{exact_bytes}
use Rattle.link_io.specs.declared.target.Key.TheVariants.{Index, Shard}
use Rattle.link_io.proofs.target.keys_are_told_apart.Goals as goal

own_reverse : (r : Ordering) → r ≡ ordering_reverse r → r ≡ Equal
own_reverse Less e = cc
own_reverse Equal e = refl
own_reverse Greater e = cc

equal_to_itself : (xs : List ℕ) → slice_cmp nat_cmp xs xs ≡ Equal
equal_to_itself xs = own_reverse (slice_cmp nat_cmp xs xs) (nat_list_cmp_total.antisymm xs xs)

pub returns-clause-apart : goal.returns-clause-apart
returns-clause-apart c (Index a) (Index b) e = ap Index (exact_bytes a b e)
returns-clause-apart c (Index a) (Shard b) e = cc
returns-clause-apart c (Shard a) (Index b) e = cc
returns-clause-apart c (Shard a) (Shard b) e = let same = exact_bytes a.0 b.0 e in λ i. Shard (record { 0 = same i })

pub returns-clause-same : goal.returns-clause-same
returns-clause-same c (Index a) = equal_to_itself a
returns-clause-same c (Shard a) = equal_to_itself a.0
