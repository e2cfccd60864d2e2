-- Flights are numbered as they were begun, and where each holds its key, no key is begun twice.
use Rattle.std.proofs.Common.{◌≡◌, ◌≢◌, ℕ, zero, suc, ◌==◌, ◌&&◌, Bool, true, false, true≢false, if◌then◌else◌, List, [], ◌∷◌, ◌++◌, map, Option, Some, None, slice_get, refl, sym, ap, ◌∙◌, subst, inl, inr, ⊎_elim, arith, append-nil, append_assoc, eq-eqb}
use Rattle.std.specs.List.{list_all}
use Rattle.std.specs.Option.{option_map}
use Rattle.std.proofs.lemmas.Bool.{cases_eq}
use Rattle.std.proofs.lemmas.Option.{slice_get_within}
use Rattle.shard_cache.specs.Recency.{is_listed, without, only}
use Rattle.shard_cache.proofs.OrderLemmas.{listed_behind, listed_in_first, listed_in_second, still_listed}
use Rattle.link_io.specs.declared.target.Target.{Target}
use Rattle.flight_journal.specs.declared.entry.Entry.{Entry}
use Rattle.flight_journal.specs.declared.entry.Entry.TheVariants.{Opened, Began, Joined, Hit, Taken, Landed, Lost, Cancelled, Closed, Evicted, Refreshed, Abandoned}
use Rattle.flight_journal.specs.State.{flying, Flight, State, nothing, IsFlight, Flies, IsKept, HoldsKey, joined, parted, came_to, ended, change}
use Rattle.flight_journal.specs.Journal.{step, after_from, after, Allowed, LegalFrom, Legal}
use Rattle.flight_journal.specs.Count.{begun_in, keeps_keys}
use Rattle.flight_journal.proofs.ListLemmas.{none_in_nothing, get_changed, get_unchanged, get_before_last, get_map}
use Rattle.flight_journal.proofs.LegalLemmas.{sound_after, came_from, Older, Newer}

-- ---- flights are those that were begun, in order
abbrev targets_of : List Flight → List Target
targets_of xs = map (λ x. x.target) xs

targets_change : (n : ℕ) (h : Flight → Flight) (xs : List Flight) → ((x : Flight) → (h x).target ≡ x.target) → targets_of (change n h xs) ≡ targets_of xs
targets_change n h [] same = refl
targets_change zero h (x ∷ xs) same = ap (λ t. t ∷ targets_of xs) (same x)
targets_change (suc n) h (x ∷ xs) same = ap (λ l. x.target ∷ l) (targets_change n h xs same)

targets_parted : (q : ℕ) (xs : List Flight) → targets_of (map (parted q) xs) ≡ targets_of xs
targets_parted q [] = refl
targets_parted q (x ∷ xs) = ap (λ l. x.target ∷ l) (targets_parted q xs)

targets_more : (xs : List Flight) (x : Flight) → targets_of (xs ++ x ∷ []) ≡ targets_of xs ++ x.target ∷ []
targets_more [] x = refl
targets_more (y ∷ xs) x = ap (λ l. y.target ∷ l) (targets_more xs x)

same_targets : (s : State) (e : Entry) → targets_of (step s e).flights ≡ targets_of s.flights → targets_of (step s e).flights ≡ targets_of s.flights ++ []
same_targets s e h = h ∙ sym (append-nil (targets_of s.flights))

targets_step : (s : State) (e : Entry) → targets_of (step s e).flights ≡ targets_of s.flights ++ begun_in (e ∷ [])
targets_step s (Began q f t) = targets_more s.flights (record { target = t; phase = flying; queries = q ∷ [] })
targets_step s (Opened q) = same_targets s (Opened q) refl
targets_step s (Joined q f) = same_targets s (Joined q f) (targets_change f (joined q) s.flights (λ x. refl))
targets_step s (Hit q f) = same_targets s (Hit q f) refl
targets_step s (Taken q f) = same_targets s (Taken q f) (targets_change f (parted q) s.flights (λ x. refl))
targets_step s (Landed q f size) = same_targets s (Landed q f size) (targets_change f (came_to size q) s.flights (λ x. refl))
targets_step s (Lost q f) = same_targets s (Lost q f) (targets_change f ended s.flights (λ x. refl))
targets_step s (Cancelled q) = same_targets s (Cancelled q) (targets_parted q s.flights)
targets_step s (Closed q) = same_targets s (Closed q) (targets_parted q s.flights)
targets_step s (Evicted f) = same_targets s (Evicted f) refl
targets_step s (Refreshed f) = same_targets s (Refreshed f) refl
targets_step s (Abandoned f) = same_targets s (Abandoned f) (targets_change f ended s.flights (λ x. refl))

begun_first : (e : Entry) (es : List Entry) → begun_in (e ∷ es) ≡ begun_in (e ∷ []) ++ begun_in es
begun_first (Began q f t) es = refl
begun_first (Opened q) es = refl
begun_first (Joined q f) es = refl
begun_first (Hit q f) es = refl
begun_first (Taken q f) es = refl
begun_first (Landed q f size) es = refl
begun_first (Lost q f) es = refl
begun_first (Cancelled q) es = refl
begun_first (Closed q) es = refl
begun_first (Evicted f) es = refl
begun_first (Refreshed f) es = refl
begun_first (Abandoned f) es = refl

targets_from : (s : State) (es : List Entry) → targets_of (after_from s es).flights ≡ targets_of s.flights ++ begun_in es
unfolding after_from
targets_from s [] = sym (append-nil (targets_of s.flights))
targets_from s (e ∷ es) =
    targets_from (step s e) es
    ∙ ap (λ l. l ++ begun_in es) (targets_step s e)
    ∙ append_assoc (targets_of s.flights) (begun_in (e ∷ [])) (begun_in es)
    ∙ ap (λ l. targets_of s.flights ++ l) (sym (begun_first e es))

-- the flights behind a journal have the targets that it began, in order
pub flights_are_begun : (journal : List Entry) → map (λ x. x.target) (after journal).flights ≡ begun_in journal
flights_are_begun journal = targets_from nothing journal

-- ---- each flight holds its key
abbrev AllHold : State → Type 0
AllHold s = (f : ℕ) (x : Flight) → IsFlight s f x → HoldsKey s f x.target

listed_hit : (f g : ℕ) (ps : List (ℕ × ℕ)) → is_listed f ps ≡ true → is_listed f (only g ps ++ without g ps) ≡ true
listed_hit f g ps h =
    ⊎_elim
    (λ (e : f ≡ g). listed_in_first f (only g ps) (without g ps) (ap (λ n. is_listed f (only n ps)) (sym e) ∙ itself f ps h))
    (λ (ne : f ≢ g). listed_in_second f (only g ps) (without g ps) (still_listed g f ps ne ∙ h))
    (cases_eq f g)
  where
    itself : (n : ℕ) (qs : List (ℕ × ℕ)) → is_listed n qs ≡ true → is_listed n (only n qs) ≡ true
    itself n [] k = k
    itself n (p ∷ qs) k = split (p.0 == n) refl (itself n qs) k
      where
        split : (b : Bool) → (p.0 == n) ≡ b → (is_listed n qs ≡ true → is_listed n (only n qs) ≡ true) → (if b then true else is_listed n qs) ≡ true → is_listed n (if b then p ∷ only n qs else only n qs) ≡ true
        split true e more j = ap (λ (c : Bool). if c then true else is_listed n (only n qs)) e
        split false e more j = more j

-- a flight that flies or is kept, behind a change that keeps its phase and target, with what is kept as before
still_holds : (s s' : State) (f : ℕ) (t : Target) → ((x : Flight) → IsFlight s f x → (y : Flight) × IsFlight s' f y × (y.phase ≡ x.phase) × (y.target ≡ x.target))
    → (is_listed f s.kept ≡ true → is_listed f s'.kept ≡ true) → HoldsKey s f t → HoldsKey s' f t
still_holds s s' f t keeps listed holds =
    ⊎_elim
    (λ (w : Flies s f t). let y = keeps w.0 w.1 in inl (y.0, y.1, y.2 ∙ w.2, y.3 ∙ w.3))
    (λ (w : IsKept s f t). let y = keeps w.0 w.1 in inr (y.0, y.1, listed w.2, y.3 ∙ w.3))
    holds

unchanged_at : (s : State) (g f : ℕ) (h : Flight → Flight) → ((x : Flight) → ((h x).phase ≡ x.phase) × ((h x).target ≡ x.target)) → (x : Flight) → IsFlight s f x
    → (y : Flight) × (slice_get (change g h s.flights) f ≡ Some y) × (y.phase ≡ x.phase) × (y.target ≡ x.target)
unchanged_at s g f h same x known =
    ⊎_elim
    (λ (e : f ≡ g). (h x, ap (λ n. slice_get (change n h s.flights) f) (sym e) ∙ get_changed f h s.flights ∙ ap (option_map h) known, (same x).0, (same x).1))
    (λ (ne : f ≢ g). (x, get_unchanged g f h s.flights ne ∙ known, refl, refl))
    (cases_eq f g)

parted_at : (s : State) (p f : ℕ) (x : Flight) → IsFlight s f x → (y : Flight) × (slice_get (map (parted p) s.flights) f ≡ Some y) × (y.phase ≡ x.phase) × (y.target ≡ x.target)
parted_at s p f x known = (parted p x, get_map (parted p) s.flights f ∙ ap (option_map (parted p)) known, refl, refl)

holds_step : (budget : ℕ) (s : State) (e : Entry) → Allowed budget s e → keeps_keys e ≡ true → (f : ℕ) (t : Target) → HoldsKey s f t → HoldsKey (step s e) f t
holds_step budget s (Opened p) may keeps f t holds = still_holds s (step s (Opened p)) f t (λ x known. (x, known, refl, refl)) (λ h. h) holds
holds_step budget s (Began p g u) may keeps f t holds =
    still_holds s (step s (Began p g u)) f t (λ x known. (x, get_before_last s.flights _ f (λ e. let b = slice_get_within s.flights f x known in omega arith) ∙ known, refl, refl)) (λ h. h) holds
holds_step budget s (Joined p g) may keeps f t holds = still_holds s (step s (Joined p g)) f t (unchanged_at s g f (joined p) (λ x. (refl, refl))) (λ h. h) holds
holds_step budget s (Hit p g) may keeps f t holds = still_holds s (step s (Hit p g)) f t (λ x known. (x, known, refl, refl)) (listed_hit f g s.kept) holds
holds_step budget s (Taken p g) may keeps f t holds = still_holds s (step s (Taken p g)) f t (unchanged_at s g f (parted p) (λ x. (refl, refl))) (λ h. h) holds
holds_step budget s (Landed p g None) may keeps f t holds = absurd (true≢false (sym keeps))
holds_step budget s (Landed p g (Some size)) may keeps f t holds =
    ⊎_elim
    (λ (e : f ≡ g). ⊎_elim
    (λ (w : Flies s f t). lands e w.0 w.1 w.3)
    (λ (w : IsKept s f t). lands e w.0 w.1 w.3)
    holds)
    (λ (ne : f ≢ g). still_holds s (step s (Landed p g (Some size))) f t (λ x known. (x, get_unchanged g f (came_to (Some size) p) s.flights ne ∙ known, refl, refl)) (listed_behind f (g, size) s.kept) holds)
    (cases_eq f g)
  where
    lands : f ≡ g → (x : Flight) → IsFlight s f x → x.target ≡ t → HoldsKey (step s (Landed p g (Some size))) f t
    lands e x known same = inr (came_to (Some size) p x, ap (λ n. slice_get (change n (came_to (Some size) p) s.flights) f) (sym e) ∙ get_changed f (came_to (Some size) p) s.flights ∙ ap (option_map (came_to (Some size) p)) known, ap (λ (b : Bool). if b then true else is_listed f s.kept) (eq-eqb g f (sym e)), same)
holds_step budget s (Lost p g) may keeps f t holds = absurd (true≢false (sym keeps))
holds_step budget s (Cancelled p) may keeps f t holds = absurd (true≢false (sym keeps))
holds_step budget s (Closed p) may keeps f t holds = still_holds s (step s (Closed p)) f t (parted_at s p f) (λ h. h) holds
holds_step budget s (Evicted g) may keeps f t holds = absurd (true≢false (sym keeps))
holds_step budget s (Refreshed g) may keeps f t holds = absurd (true≢false (sym keeps))
holds_step budget s (Abandoned g) may keeps f t holds = absurd (true≢false (sym keeps))

begins : (s : State) (e : Entry) (f : ℕ) (y : Flight) → IsFlight (step s e) f y → Newer s e f y → HoldsKey (step s e) f y.target
begins s e f y known n = inl (y, known, ap (λ (x : Flight). x.phase) n.flight, refl)

all_hold_step : (budget : ℕ) (s : State) (e : Entry) → Allowed budget s e → keeps_keys e ≡ true → AllHold s → AllHold (step s e)
all_hold_step budget s e may keeps all f y known =
    ⊎_elim
    (λ (o : Older s e f y). subst (HoldsKey (step s e) f) (sym o.was.target) (holds_step budget s e may keeps f o.flight.target (all f o.flight o.there)))
    (begins s e f y known)
    (came_from budget f s e y may known)

both_true : (a b : Bool) → a && b ≡ true → (a ≡ true) × (b ≡ true)
both_true true b h = (refl, h)
both_true false b h = absurd (true≢false (sym h))

all_hold_from : (budget : ℕ) (s : State) (es : List Entry) → LegalFrom budget s es → list_all keeps_keys es ≡ true → AllHold s → AllHold (after_from s es)
unfolding after_from LegalFrom
all_hold_from budget s [] legal keeps all = all
all_hold_from budget s (e ∷ es) legal keeps all =
    let both = both_true (keeps_keys e) (list_all keeps_keys es) keeps in
    all_hold_from budget (step s e) es legal.1 both.1 (all_hold_step budget s e legal.0 both.0 all)

nobody_yet : AllHold nothing
nobody_yet f x known = absurd (none_in_nothing f x known)

-- the flight of a number has the target that was begun under it
flight_of : (journal : List Entry) (f : ℕ) (t : Target) → slice_get (begun_in journal) f ≡ Some t → (x : Flight) × IsFlight (after journal) f x × (x.target ≡ t)
flight_of journal f t h = some (slice_get (after journal).flights f) refl (sym (get_map (λ x. x.target) (after journal).flights f) ∙ ap (λ l. slice_get l f) (flights_are_begun journal) ∙ h)
  where
    some : (o : Option Flight) → slice_get (after journal).flights f ≡ o → option_map (λ (x : Flight). x.target) o ≡ Some t → (x : Flight) × IsFlight (after journal) f x × (x.target ≡ t)
    some None is k = cc
    some (Some x) is k = (x, is, cc)

-- where each flight holds its key, no two that were begun have one key
pub fetched_once : (budget : ℕ) (journal : List Entry) → Legal budget journal → list_all keeps_keys journal ≡ true
    → (f g : ℕ) (t u : Target) → slice_get (begun_in journal) f ≡ Some t → slice_get (begun_in journal) g ≡ Some u → t.key ≡ u.key → f ≡ g
fetched_once budget journal legal keeps f g t u a b same =
    let sound = sound_after budget journal legal in
    let all = all_hold_from budget nothing journal legal keeps nobody_yet in
    let x = flight_of journal f t a in
    let y = flight_of journal g u b in
    sound.one_key f g x.0.target y.0.target (all f x.0 x.1) (all g y.0 y.1) (ap (λ (v : Target). v.key) x.2 ∙ same ∙ sym (ap (λ (v : Target). v.key) y.2))
