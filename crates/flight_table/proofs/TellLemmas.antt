-- Calls of others leave all that a pass says as it was.
use Rattle.std.proofs.Common.{◌≡◌, ◌≢◌, ℕ, ◌||◌, Bool, true, false, true≢false, List, [], ◌∷◌, ◌++◌, length, Option, Some, refl, sym, ap, ◌∙◌, subst, ⊎_elim, append-nil, append_assoc}
use Rattle.std.specs.List.{list_any}
use Rattle.std.proofs.lemmas.Bool.{cases_eq}
use Rattle.flight_journal.specs.declared.entry.Entry.{Entry}
use Rattle.flight_journal.specs.State.{State, nothing}
use Rattle.flight_journal.specs.Journal.{step, after_from, Allowed, LegalFrom, Legal}
use Rattle.flight_journal.specs.Count.{names}
use Rattle.flight_rows.specs.Sight.{Sight, IsSightSound, hand_in}
use Rattle.flight_rows.specs.Serves.{Writes, HandsStay, HandMoves}
use Rattle.flight_table.specs.Facts.{Facts}
use Rattle.flight_table.specs.Knows.{Knows}
use Rattle.flight_table.specs.Tells.{Tells, HoldsTheSame}
use Rattle.flight_table.proofs.KnowLemmas.{knows_more}

-- ---- a front of a legal journal
pub front_from : (budget : ℕ) (s : State) (front rest : List Entry) → LegalFrom budget s (front ++ rest) → LegalFrom budget s front
unfolding LegalFrom
front_from budget s [] rest legal = tt
front_from budget s (e ∷ front) rest legal = (legal.0, front_from budget (step s e) front rest legal.1)

pub next_from : (budget : ℕ) (s : State) (front : List Entry) (e : Entry) (rest : List Entry) → LegalFrom budget s (front ++ e ∷ rest) → Allowed budget (after_from s front) e
unfolding LegalFrom after_from
next_from budget s [] e rest legal = legal.0
next_from budget s (x ∷ front) e rest legal = next_from budget (step s x) front e rest legal.1

neither : (a b : Bool) → a || b ≡ false → (a ≡ false) × (b ≡ false)
neither true b h = absurd (true≢false h)
neither false b h = (refl, h)

pub knows_on : (budget : ℕ) (journal written : List Entry) (p : Facts) → Legal budget (journal ++ written) → list_any (names p.query) written ≡ false → Knows journal p → Knows (journal ++ written) p
knows_on budget journal [] p legal others k = subst (λ (js : List Entry). Knows js p) (sym (append-nil journal)) k
knows_on budget journal (e ∷ written) p legal others k =
    let apart = neither (names p.query e) (list_any (names p.query) written) others in
    let join : (journal ++ e ∷ []) ++ written ≡ journal ++ e ∷ written = append_assoc journal (e ∷ []) written in
    let one = knows_more budget journal e p (front_from budget nothing journal (e ∷ written) legal) (next_from budget nothing journal e written legal) apart.0 k in
    subst (λ (js : List Entry). Knows js p) join
    (knows_on budget (journal ++ e ∷ []) written p (subst (λ (js : List Entry). Legal budget js) (sym join) legal) apart.1 one)

-- ---- a call of another query
pub tells_on : (s t : Sight) (written : List Entry) (p : Facts) → Writes written s t → IsSightSound t → list_any (names p.query) written ≡ false → HoldsTheSame p.query s t → Tells s p → Tells t p
tells_on s t written p writes sound others same k = record {
  knows = subst (λ (js : List Entry). Knows js p) (sym writes.journal)
      (knows_on t.keep s.journal written p (subst (λ (js : List Entry). Legal t.keep js) writes.journal sound.legal) others k.knows);
  hand = λ f h. (same f).0 (k.hand f h);
  in_hand = λ f h. k.in_hand f ((same f).1 h);
  base = k.base ∙ ap length (sym writes.start);
  origin = k.origin ∙ sym writes.origin;
}

pub same_where_stays : (q : ℕ) (s t : Sight) → HandsStay s t → HoldsTheSame q s t
same_where_stays q s t stays f = ((λ h. stays f ∙ h), λ h. sym (stays f) ∙ h)

pub same_where_moves : (q f : ℕ) (hand : Option ℕ) (s t : Sight) → HandMoves f hand s t → hand_in s.hands f ≢ Some q → hand ≢ Some q → HoldsTheSame q s t
same_where_moves q f hand s t moves before now g =
    ⊎_elim
    (λ (e : g ≡ f). (
      (λ h. absurd (before (ap (hand_in s.hands) (sym e) ∙ h))),
      (λ h. absurd (now (sym moves.here ∙ ap (hand_in t.hands) (sym e) ∙ h))),
    ))
    (λ (ne : g ≢ f). ((λ h. moves.others g ne ∙ h), λ h. sym (moves.others g ne) ∙ h))
    (cases_eq g f)
