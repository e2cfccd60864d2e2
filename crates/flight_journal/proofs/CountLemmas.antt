-- What a journal counts of one query.
use Rattle.std.proofs.Common.{◌≡◌, ℕ, zero, suc, ◌+◌, ◌<◌, ◌≤◌, ◌==◌, Bool, true, false, true≢false, List, [], ◌∷◌, ◌++◌, length, Option, Some, None, slice_get, refl, sym, ap, ◌∙◌, arith, append-nil, append_assoc, length-append, add-zero, eq-eqb}
use Rattle.std.proofs.lemmas.Option.{slice_get_within}
use Rattle.flight_journal.specs.declared.entry.Entry.{Entry}
use Rattle.flight_journal.specs.declared.entry.Entry.TheVariants.{Opened, Began, Joined, Hit, Taken, Landed, Lost, Cancelled, Closed, Evicted, Refreshed, Abandoned}
use Rattle.flight_journal.specs.State.{State, nothing, IsOpen, Flight}
use Rattle.flight_journal.specs.Journal.{step, after_from, after, Allowed, LegalFrom, Legal}
use Rattle.flight_journal.specs.Count.{Among, names, one_if, is_this, calls_of, loser_in, losses_of, asker_in, asked_of, key_in, only_if, asked_in, asks_from, is_wreck, wrecked_in, wrecks_from}
use Rattle.flight_journal.proofs.ListLemmas.{none_in_nothing, length_more, length_set}

-- ---- one entry more
pub calls_push : (q : ℕ) (es : List Entry) (e : Entry) → calls_of q (es ++ e ∷ []) ≡ calls_of q es + one_if (names q e)
calls_push q [] e = omega arith
calls_push q (x ∷ es) e = let h = calls_push q es e in omega arith

pub losses_push : (q : ℕ) (es : List Entry) (e : Entry) → losses_of q (es ++ e ∷ []) ≡ losses_of q es + one_if (is_this q (loser_in e))
losses_push q [] e = omega arith
losses_push q (x ∷ es) e = let h = losses_push q es e in omega arith

pub asks_push : (q : ℕ) (s : State) (es : List Entry) (e : Entry) → asks_from q s (es ++ e ∷ []) ≡ asks_from q s es ++ asked_in q (after_from s es) e
unfolding asks_from after_from
asks_push q s [] e = append-nil _
asks_push q s (x ∷ es) e = ap (λ l. asked_in q s x ++ l) (asks_push q (step s x) es e) ∙ sym (append_assoc (asked_in q s x) (asks_from q (step s x) es) (asked_in q (after_from (step s x) es) e))

pub wrecks_push : (q : ℕ) (s : State) (es : List Entry) (e : Entry) → wrecks_from q s (es ++ e ∷ []) ≡ wrecks_from q s es ++ wrecked_in q (after_from s es) e
unfolding wrecks_from after_from
wrecks_push q s [] e = append-nil _
wrecks_push q s (x ∷ es) e = ap (λ l. wrecked_in q s x ++ l) (wrecks_push q (step s x) es e) ∙ sym (append_assoc (wrecked_in q s x) (wrecks_from q (step s x) es) (wrecked_in q (after_from (step s x) es) e))

-- ---- an entry that names another query, or none
no_loss : (q : ℕ) (e : Entry) → names q e ≡ false → is_this q (loser_in e) ≡ false
no_loss q (Lost p f) h = h
no_loss q (Opened p) h = refl
no_loss q (Began p f t) h = refl
no_loss q (Joined p f) h = refl
no_loss q (Hit p f) h = refl
no_loss q (Taken p f) h = refl
no_loss q (Landed p f size) h = refl
no_loss q (Cancelled p) h = refl
no_loss q (Closed p) h = refl
no_loss q (Evicted f) h = refl
no_loss q (Refreshed f) h = refl
no_loss q (Abandoned f) h = refl

no_ask : (q : ℕ) (s : State) (e : Entry) → names q e ≡ false → asked_in q s e ≡ []
no_ask q s (Began p f t) h = ap (λ b. only_if b (t.key ∷ [])) h
no_ask q s (Joined p f) h = ap (λ b. only_if b (key_in (slice_get s.flights f))) h
no_ask q s (Hit p f) h = ap (λ b. only_if b (key_in (slice_get s.flights f))) h
no_ask q s (Opened p) h = refl
no_ask q s (Taken p f) h = refl
no_ask q s (Landed p f size) h = refl
no_ask q s (Lost p f) h = refl
no_ask q s (Cancelled p) h = refl
no_ask q s (Closed p) h = refl
no_ask q s (Evicted f) h = refl
no_ask q s (Refreshed f) h = refl
no_ask q s (Abandoned f) h = refl

no_wreck : (q : ℕ) (s : State) (e : Entry) → names q e ≡ false → wrecked_in q s e ≡ []
no_wreck q s (Landed p f None) h = ap (λ b. only_if b (f ∷ [])) h
no_wreck q s (Landed p f (Some size)) h = refl
no_wreck q s (Taken p f) h = ap (λ b. only_if b (only_if (is_wreck (slice_get s.flights f)) (f ∷ []))) h
no_wreck q s (Opened p) h = refl
no_wreck q s (Began p f t) h = refl
no_wreck q s (Joined p f) h = refl
no_wreck q s (Hit p f) h = refl
no_wreck q s (Lost p f) h = refl
no_wreck q s (Cancelled p) h = refl
no_wreck q s (Closed p) h = refl
no_wreck q s (Evicted f) h = refl
no_wreck q s (Refreshed f) h = refl
no_wreck q s (Abandoned f) h = refl

pub calls_stay : (q : ℕ) (es : List Entry) (e : Entry) → names q e ≡ false → calls_of q (es ++ e ∷ []) ≡ calls_of q es
calls_stay q es e h = calls_push q es e ∙ ap (λ (b : Bool). calls_of q es + one_if b) h ∙ add-zero (calls_of q es)

pub losses_stay : (q : ℕ) (es : List Entry) (e : Entry) → names q e ≡ false → losses_of q (es ++ e ∷ []) ≡ losses_of q es
losses_stay q es e h = losses_push q es e ∙ ap (λ (b : Bool). losses_of q es + one_if b) (no_loss q e h) ∙ add-zero (losses_of q es)

pub asks_stay : (q : ℕ) (s : State) (es : List Entry) (e : Entry) → names q e ≡ false → asks_from q s (es ++ e ∷ []) ≡ asks_from q s es
asks_stay q s es e h = asks_push q s es e ∙ ap (λ l. asks_from q s es ++ l) (no_ask q (after_from s es) e h) ∙ append-nil _

pub wrecks_stay : (q : ℕ) (s : State) (es : List Entry) (e : Entry) → names q e ≡ false → wrecks_from q s (es ++ e ∷ []) ≡ wrecks_from q s es
wrecks_stay q s es e h = wrecks_push q s es e ∙ ap (λ l. wrecks_from q s es ++ l) (no_wreck q (after_from s es) e h) ∙ append-nil _

-- ---- a query that did not open yet is named nowhere
live_grows : (s : State) (e : Entry) → length s.live ≤ length (step s e).live
live_grows s (Opened p) = let h = length_more s.live true in omega arith
live_grows s (Began p f t) = omega arith
live_grows s (Joined p f) = omega arith
live_grows s (Hit p f) = omega arith
live_grows s (Taken p f) = omega arith
live_grows s (Landed p f size) = omega arith
live_grows s (Lost p f) = omega arith
live_grows s (Cancelled p) = let h = length_set p false s.live in omega arith
live_grows s (Closed p) = let h = length_set p false s.live in omega arith
live_grows s (Evicted f) = omega arith
live_grows s (Refreshed f) = omega arith
live_grows s (Abandoned f) = omega arith

live_grows_from : (s : State) (es : List Entry) → length s.live ≤ length (after_from s es).live
unfolding after_from
live_grows_from s [] = omega arith
live_grows_from s (e ∷ es) = let h = live_grows s e in let k = live_grows_from (step s e) es in omega arith

is_here : (q p n : ℕ) → (p == q) ≡ true → p < n → q < n
is_here q p n h below = let same : p ≡ q = grind (arith, h) in omega arith

open_below : (s : State) (q p : ℕ) → (p == q) ≡ true → IsOpen s p → q < length s.live
open_below s q p h is = is_here q p (length s.live) h (slice_get_within s.live p true is)

named_below : (budget q : ℕ) (s : State) (e : Entry) → Allowed budget s e → names q e ≡ true → q < length (step s e).live
named_below budget q s (Opened p) may h = let l = length_more s.live true in is_here q p (length (s.live ++ true ∷ [])) h (let n = may.1 in omega arith)
named_below budget q s (Began p f t) may h = open_below s q p h may.1
named_below budget q s (Joined p f) may h = open_below s q p h may.1
named_below budget q s (Hit p f) may h = open_below s q p h may.1
named_below budget q s (Taken p f) may h = open_below s q p h may.1
named_below budget q s (Landed p f size) may h = open_below s q p h may.1
named_below budget q s (Lost p f) may h = open_below s q p h may.1
named_below budget q s (Cancelled p) may h = let k = open_below s q p h may.1 in let l = length_set p false s.live in omega arith
named_below budget q s (Closed p) may h = let k = open_below s q p h may.1 in let l = length_set p false s.live in omega arith
named_below budget q s (Evicted f) may h = absurd (true≢false (sym h))
named_below budget q s (Refreshed f) may h = absurd (true≢false (sym h))
named_below budget q s (Abandoned f) may h = absurd (true≢false (sym h))

unseen_from : (budget q : ℕ) (s : State) (es : List Entry) → LegalFrom budget s es → length (after_from s es).live ≤ q → calls_of q es ≡ 0
unfolding after_from LegalFrom
unseen_from budget q s [] legal above = refl
unseen_from budget q s (e ∷ es) legal above = split (names q e) refl (unseen_from budget q (step s e) es legal.1 above)
  where
    split : (b : Bool) → names q e ≡ b → calls_of q es ≡ 0 → one_if b + calls_of q es ≡ 0
    split true h none = let below = named_below budget q s e legal.0 h in let grows = live_grows_from (step s e) es in absurd (omega arith)
    split false h none = omega arith

pub unseen : (budget q : ℕ) (journal : List Entry) → Legal budget journal → length (after journal).live ≤ q → calls_of q journal ≡ 0
unseen budget q journal = unseen_from budget q nothing journal

-- ---- each ask has a key
length_only_if : {X : Type 0} (b : Bool) (x : X) → length (only_if b (x ∷ [])) ≡ one_if b
length_only_if true x = refl
length_only_if false x = refl

one_key_in : (b : Bool) (o : Option Flight) (x : Flight) → o ≡ Some x → length (only_if b (key_in o)) ≡ one_if b
one_key_in b o x e = ap (λ (p : Option Flight). length (only_if b (key_in p))) e ∙ length_only_if b x.target.key

asked_once : (budget q : ℕ) (s : State) (e : Entry) → Allowed budget s e → length (asked_in q s e) ≡ one_if (is_this q (asker_in e))
asked_once budget q s (Began p f t) may = length_only_if (p == q) t.key
asked_once budget q s (Joined p f) may = one_key_in (p == q) (slice_get s.flights f) may.2.1.0 may.2.1.1
asked_once budget q s (Hit p f) may = one_key_in (p == q) (slice_get s.flights f) may.2.1.0 may.2.1.1
asked_once budget q s (Opened p) may = refl
asked_once budget q s (Taken p f) may = refl
asked_once budget q s (Landed p f size) may = refl
asked_once budget q s (Lost p f) may = refl
asked_once budget q s (Cancelled p) may = refl
asked_once budget q s (Closed p) may = refl
asked_once budget q s (Evicted f) may = refl
asked_once budget q s (Refreshed f) may = refl
asked_once budget q s (Abandoned f) may = refl

asked_from : (budget q : ℕ) (s : State) (es : List Entry) → LegalFrom budget s es → length (asks_from q s es) ≡ asked_of q es
unfolding LegalFrom asks_from
asked_from budget q s [] legal = refl
asked_from budget q s (e ∷ es) legal =
    let one = asked_once budget q s e legal.0 in
    let rest = asked_from budget q (step s e) es legal.1 in
    let sum = length-append (asked_in q s e) (asks_from q (step s e) es) in
    omega arith

pub asks_counted : (budget q : ℕ) (journal : List Entry) → Legal budget journal → length (asks_from q nothing journal) ≡ asked_of q journal
asks_counted budget q journal = asked_from budget q nothing journal

-- ---- who lost no flight has no such entry
pub no_losses : (q f : ℕ) (es : List Entry) → losses_of q es ≡ 0 → ¬ Among (Lost q f) es
no_losses q f [] none among = none_in_nothing among.0 (Lost q f) among.1
no_losses q f (e ∷ es) none among = split (λ z n h. no_losses q f es z (n, h)) among.0 among.1
  where
    split : (losses_of q es ≡ 0 → (n : ℕ) → slice_get es n ≡ Some (Lost q f) → ⊥) → (n : ℕ) → slice_get (e ∷ es) n ≡ Some (Lost q f) → ⊥
    split more zero h =
        let is : e ≡ Lost q f = cc in
        let one : is_this q (loser_in e) ≡ true = ap (λ (x : Entry). is_this q (loser_in x)) is ∙ eq-eqb q q refl in
        let lost : one_if (is_this q (loser_in e)) ≡ 1 = ap one_if one in
        let bad : ⊥ = omega arith in bad
    split more (suc n) h = more (omega arith) n h
