-- One entry more at the end of a journal.
use Rattle.std.proofs.Common.{◌≡◌, ℕ, List, [], ◌∷◌, ◌++◌, refl, ap, ◌∙◌, append-nil}
use Rattle.flight_journal.specs.declared.entry.Entry.{Entry}
use Rattle.flight_journal.specs.declared.entry.Entry.TheVariants.{Opened, Began, Joined, Hit, Taken, Landed, Lost, Cancelled, Closed, Evicted, Refreshed, Abandoned}
use Rattle.flight_journal.specs.State.{State, nothing}
use Rattle.flight_journal.specs.Journal.{step, after_from, after, Allowed, LegalFrom, Legal}
use Rattle.flight_journal.specs.Count.{begun_in}

pub after_push_from : (s : State) (es : List Entry) (e : Entry) → after_from s (es ++ e ∷ []) ≡ step (after_from s es) e
unfolding after_from
after_push_from s [] e = refl
after_push_from s (x ∷ es) e = after_push_from (step s x) es e

-- the state behind one entry more
pub after_push : (es : List Entry) (e : Entry) → after (es ++ e ∷ []) ≡ step (after es) e
after_push es e = after_push_from nothing es e

pub legal_push_from : (budget : ℕ) (s : State) (es : List Entry) (e : Entry) → LegalFrom budget s es → Allowed budget (after_from s es) e → LegalFrom budget s (es ++ e ∷ [])
unfolding after_from LegalFrom
legal_push_from budget s [] e legal may = (may, tt)
legal_push_from budget s (x ∷ es) e legal may = (legal.0, legal_push_from budget (step s x) es e legal.1 may)

-- a legal journal with an entry that may be written
pub legal_push : (budget : ℕ) (es : List Entry) (e : Entry) → Legal budget es → Allowed budget (after es) e → Legal budget (es ++ e ∷ [])
legal_push budget es e = legal_push_from budget nothing es e

-- a front of a legal journal is legal, and its last entry may be written behind the front
pub legal_front_from : (budget : ℕ) (s : State) (es : List Entry) (e : Entry) → LegalFrom budget s (es ++ e ∷ []) → LegalFrom budget s es × Allowed budget (after_from s es) e
unfolding after_from LegalFrom
legal_front_from budget s [] e legal = (tt, legal.0)
legal_front_from budget s (x ∷ es) e legal = let h = legal_front_from budget (step s x) es e legal.1 in ((legal.0, h.0), h.1)

pub begun_push : (es : List Entry) (e : Entry) → begun_in (es ++ e ∷ []) ≡ begun_in es ++ begun_in (e ∷ [])
begun_push [] e = refl
begun_push (Began q f t ∷ es) e = ap (λ l. t ∷ l) (begun_push es e)
begun_push (Opened q ∷ es) e = begun_push es e
begun_push (Joined q f ∷ es) e = begun_push es e
begun_push (Hit q f ∷ es) e = begun_push es e
begun_push (Taken q f ∷ es) e = begun_push es e
begun_push (Landed q f size ∷ es) e = begun_push es e
begun_push (Lost q f ∷ es) e = begun_push es e
begun_push (Cancelled q ∷ es) e = begun_push es e
begun_push (Closed q ∷ es) e = begun_push es e
begun_push (Evicted f ∷ es) e = begun_push es e
begun_push (Refreshed f ∷ es) e = begun_push es e
begun_push (Abandoned f ∷ es) e = begun_push es e

-- an entry that begins no flight
pub begun_same : (es : List Entry) (e : Entry) → begun_in (e ∷ []) ≡ [] → begun_in (es ++ e ∷ []) ≡ begun_in es
begun_same es e none = begun_push es e ∙ ap (λ l. begun_in es ++ l) none ∙ append-nil _
