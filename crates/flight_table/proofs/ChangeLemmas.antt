-- What every change of a pass keeps.
use Rattle.std.proofs.Common.{◌≡◌, ◌+◌, Bool, true, false, if◌then◌else◌, refl, ap, ◌∙◌}
use Rattle.flight_rows.specs.Sight.{Sight}
use Rattle.flight_table.specs.declared.saying.Change.{Change}
use Rattle.flight_table.specs.declared.saying.Change.TheVariants as change
use Rattle.flight_table.specs.Facts.{Facts, missed_pass, is_awaited}
use Rattle.flight_table.specs.Saying.{said_by, is_entry, leaves}

by_test : {X : Type 0} (g : Facts → X) (b : Bool) (p r : Facts) → g r ≡ g p → g (if b then r else p) ≡ g p
by_test g true p r same = same
by_test g false p r same = refl

pub said_query : (c : Change) (t : Sight) (p : Facts) → (said_by c t p).query ≡ p.query
said_query (change.Hits f) t p = refl
said_query (change.Awaits f) t p = refl
said_query (change.Holds f) t p = refl
said_query change.Frees t p = refl
said_query (change.Takes f w) t p = refl
said_query (change.Misses f) t p = by_test (λ (r : Facts). r.query) (is_awaited f p.awaits) p (missed_pass f p) refl
said_query (change.Lands f size) t p = refl
said_query (change.Loses f) t p = refl
said_query change.Leaves t p = refl

pub said_calls : (c : Change) (t : Sight) (p : Facts) → (said_by c t p).calls ≡ (if is_entry c then p.calls + 1 else p.calls)
said_calls (change.Hits f) t p = refl
said_calls (change.Awaits f) t p = refl
said_calls (change.Holds f) t p = refl
said_calls change.Frees t p = refl
said_calls (change.Takes f w) t p = refl
said_calls (change.Misses f) t p = by_test (λ (r : Facts). r.calls) (is_awaited f p.awaits) p (missed_pass f p) refl
said_calls (change.Lands f size) t p = refl
said_calls (change.Loses f) t p = refl
said_calls change.Leaves t p = refl

pub said_live : (c : Change) (t : Sight) (p : Facts) → (said_by c t p).live ≡ (if leaves c then false else p.live)
said_live (change.Hits f) t p = refl
said_live (change.Awaits f) t p = refl
said_live (change.Holds f) t p = refl
said_live change.Frees t p = refl
said_live (change.Takes f w) t p = refl
said_live (change.Misses f) t p = by_test (λ (r : Facts). r.live) (is_awaited f p.awaits) p (missed_pass f p) refl
said_live (change.Lands f size) t p = refl
said_live (change.Loses f) t p = refl
said_live change.Leaves t p = refl

-- an entry is a call more
pub entry_calls : (c : Change) (t : Sight) (p : Facts) → is_entry c ≡ true → (said_by c t p).calls ≡ p.calls + 1
entry_calls c t p e = said_calls c t p ∙ ap (λ b. if b then p.calls + 1 else p.calls) e
