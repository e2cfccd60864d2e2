-- Flights that came to a value without a size.
use Rattle.std.proofs.Common.{◌≡◌, ◌≢◌, ◌⊎◌, ℕ, zero, suc, ◌+◌, ◌==◌, ◌||◌, ◌&&◌, Bool, true, false, true≢false, List, [], ◌∷◌, ◌++◌, length, Option, Some, None, slice_get, refl, sym, ap, ◌∙◌, subst, inl, inr, ⊎_elim, arith, length-append, eq-eqb, ne_eqb}
use Rattle.std.specs.Option.{option_map}
use Rattle.std.proofs.lemmas.Bool.{cases_eq}
use Rattle.std.proofs.lemmas.Option.{slice_get_past}
use Rattle.flight_journal.specs.declared.entry.Entry.{Entry}
use Rattle.flight_journal.specs.declared.entry.Entry.TheVariants.{Opened, Began, Joined, Hit, Taken, Landed, Lost, Cancelled, Closed, Evicted, Refreshed, Abandoned}
use Rattle.flight_journal.specs.State.{flying, Flight, State, nothing, IsFlight, joined, parted, came_to, ended, change}
use Rattle.flight_journal.specs.Journal.{step, after_from, after, Allowed, LegalFrom, Legal}
use Rattle.flight_journal.specs.Count.{Among, one_if, only_if, is_wreck, wrecked_in, wrecks_from, wrecks_flight, is_wrecked_by, meets_wreck, wrecks_met}
use Rattle.flight_journal.proofs.ListLemmas.{none_in_nothing, get_changed, get_unchanged, get_last, get_before_last, get_map}

or_false : (b : Bool) → b || false ≡ b
or_false true = refl
or_false false = refl

or_true : (b : Bool) → b || true ≡ true
or_true true = refl
or_true false = refl

or_assoc : (a b c : Bool) → (a || b) || c ≡ a || (b || c)
or_assoc true b c = refl
or_assoc false b c = refl

or_cases : (a b : Bool) → a || b ≡ true → (a ≡ true) ⊎ (b ≡ true)
or_cases true b h = inl refl
or_cases false b h = inr h

-- ---- whether a flight is a wreck behind an entry
-- one flight changes
wreck_change : (s : State) (g f : ℕ) (h : Flight → Flight) (b : Bool) → ((o : Option Flight) → f ≡ g → slice_get s.flights f ≡ o → is_wreck (option_map h o) ≡ is_wreck o || b) → (f ≢ g → b ≡ false)
    → is_wreck (slice_get (change g h s.flights) f) ≡ is_wreck (slice_get s.flights f) || b
wreck_change s g f h b here otherwise =
    ⊎_elim
    (λ (e : f ≡ g). ap is_wreck (ap (λ n. slice_get (change n h s.flights) f) (sym e) ∙ get_changed f h s.flights) ∙ here (slice_get s.flights f) e refl)
    (λ (ne : f ≢ g). ap is_wreck (get_unchanged g f h s.flights ne) ∙ sym (ap (λ (c : Bool). is_wreck (slice_get s.flights f) || c) (otherwise ne) ∙ or_false (is_wreck (slice_get s.flights f))))
    (cases_eq f g)

parted_wreck : (p : ℕ) (o : Option Flight) → is_wreck (option_map (parted p) o) ≡ is_wreck o || false
parted_wreck p None = refl
parted_wreck p (Some x) = sym (or_false (is_wreck (Some x)))

joined_wreck : (p : ℕ) (o : Option Flight) → is_wreck (option_map (joined p) o) ≡ is_wreck o || false
joined_wreck p None = refl
joined_wreck p (Some x) = sym (or_false (is_wreck (Some x)))

-- a flight that flies is no wreck
no_flying_wreck : (x : Flight) → x.phase ≡ flying → is_wreck (Some x) ≡ false
no_flying_wreck x flies = rw flies refl

-- the flight of an entry that needs one that flies
there_at : (s : State) (f g : ℕ) (x : Flight) (o : Option Flight) → f ≡ g → slice_get s.flights f ≡ o → IsFlight s g x → o ≡ Some x
there_at s f g x o e is there = sym is ∙ ap (λ n. slice_get s.flights n) e ∙ there

-- a flight that flew and is no wreck now
ends_whole : (s : State) (f g : ℕ) (h : Flight → Flight) (x : Flight) → ((y : Flight) → is_wreck (Some (h y)) ≡ false) → IsFlight s g x → x.phase ≡ flying
    → (o : Option Flight) → f ≡ g → slice_get s.flights f ≡ o → is_wreck (option_map h o) ≡ is_wreck o || false
ends_whole s f g h x whole there flies o e is =
    let same = there_at s f g x o e is there in
    ap (λ (p : Option Flight). is_wreck (option_map h p)) same ∙ whole x ∙ sym (ap (λ (p : Option Flight). is_wreck p || false) same ∙ ap (λ (b : Bool). b || false) (no_flying_wreck x flies))

pub wreck_step : (budget f : ℕ) (s : State) (e : Entry) → Allowed budget s e → is_wreck (slice_get (step s e).flights f) ≡ is_wreck (slice_get s.flights f) || wrecks_flight f e
wreck_step budget f s (Opened p) may = sym (or_false (is_wreck (slice_get s.flights f)))
wreck_step budget f s (Began p g t) may =
    ⊎_elim
    (λ (e : f ≡ length s.flights).
    let past : slice_get s.flights f ≡ None = slice_get_past s.flights f (omega arith) in
    let new : slice_get (s.flights ++ record { target = t; phase = flying; queries = p ∷ [] } ∷ []) f ≡ Some (record { target = t; phase = flying; queries = p ∷ [] }) =
    ap (λ n. slice_get (s.flights ++ record { target = t; phase = flying; queries = p ∷ [] } ∷ []) n) e ∙ get_last s.flights _ in
    ap is_wreck new ∙ sym (ap (λ (o : Option Flight). is_wreck o || false) past))
    (λ (ne : f ≢ length s.flights). ap is_wreck (get_before_last s.flights _ f ne) ∙ sym (or_false (is_wreck (slice_get s.flights f))))
    (cases_eq f (length s.flights))
wreck_step budget f s (Joined p g) may = wreck_change s g f (joined p) false (λ o e is. joined_wreck p o) (λ ne. refl)
wreck_step budget f s (Hit p g) may = sym (or_false (is_wreck (slice_get s.flights f)))
wreck_step budget f s (Taken p g) may = wreck_change s g f (parted p) false (λ o e is. parted_wreck p o) (λ ne. refl)
wreck_step budget f s (Landed p g None) may =
    wreck_change s g f (came_to None p) (g == f) (λ o e is.
    ap (λ (x : Option Flight). is_wreck (option_map (came_to None p) x)) (there_at s f g may.2.0 o e is may.2.1)
    ∙ sym (ap (λ (b : Bool). is_wreck o || b) (eq-eqb g f (sym e)) ∙ or_true (is_wreck o)))
    (λ ne. ne_eqb g f (λ e. ne (sym e)))
wreck_step budget f s (Landed p g (Some size)) may = wreck_change s g f (came_to (Some size) p) false (ends_whole s f g (came_to (Some size) p) may.2.0 (λ y. refl) may.2.1 may.2.2) (λ ne. refl)
wreck_step budget f s (Lost p g) may = wreck_change s g f ended false (ends_whole s f g ended may.2.0 (λ y. refl) may.2.1 may.2.2) (λ ne. refl)
wreck_step budget f s (Cancelled p) may = ap is_wreck (get_map (parted p) s.flights f) ∙ parted_wreck p (slice_get s.flights f)
wreck_step budget f s (Closed p) may = ap is_wreck (get_map (parted p) s.flights f) ∙ parted_wreck p (slice_get s.flights f)
wreck_step budget f s (Evicted g) may = sym (or_false (is_wreck (slice_get s.flights f)))
wreck_step budget f s (Refreshed g) may = sym (or_false (is_wreck (slice_get s.flights f)))
wreck_step budget f s (Abandoned g) may = wreck_change s g f ended false (ends_whole s f g ended may.1.0.0 (λ y. refl) may.1.0.1 may.1.0.2) (λ ne. refl)

wrecked_from : (budget f : ℕ) (s : State) (es : List Entry) → LegalFrom budget s es → is_wreck (slice_get (after_from s es).flights f) ≡ is_wreck (slice_get s.flights f) || is_wrecked_by f es
unfolding after_from LegalFrom
wrecked_from budget f s [] legal = sym (or_false (is_wreck (slice_get s.flights f)))
wrecked_from budget f s (e ∷ es) legal =
    wrecked_from budget f (step s e) es legal.1
    ∙ ap (λ (b : Bool). b || is_wrecked_by f es) (wreck_step budget f s e legal.0)
    ∙ or_assoc (is_wreck (slice_get s.flights f)) (wrecks_flight f e) (is_wrecked_by f es)

-- a flight is a wreck exactly where an entry landed it without a size
pub wrecked_after : (budget f : ℕ) (journal : List Entry) → Legal budget journal → is_wreck (slice_get (after journal).flights f) ≡ is_wrecked_by f journal
wrecked_after budget f journal = wrecked_from budget f nothing journal

-- ---- how many wrecks a query met
any_push : (f : ℕ) (es : List Entry) (e : Entry) → is_wrecked_by f (es ++ e ∷ []) ≡ is_wrecked_by f es || wrecks_flight f e
any_push f [] e = or_false (wrecks_flight f e)
any_push f (x ∷ es) e = ap (λ (b : Bool). wrecks_flight f x || b) (any_push f es e) ∙ sym (or_assoc (wrecks_flight f x) (is_wrecked_by f es) (wrecks_flight f e))

length_only_if : (b : Bool) (x : ℕ) → length (only_if b (x ∷ [])) ≡ one_if b
length_only_if true x = refl
length_only_if false x = refl

length_both : (b c : Bool) (x : ℕ) → length (only_if b (only_if c (x ∷ []))) ≡ one_if (b && c)
length_both true c x = length_only_if c x
length_both false c x = refl

met_once : (q : ℕ) (s : State) (before : List Entry) (e : Entry) → ((f : ℕ) → is_wreck (slice_get s.flights f) ≡ is_wrecked_by f before) → length (wrecked_in q s e) ≡ one_if (meets_wreck q before e)
met_once q s before (Landed p f None) known = length_only_if (p == q) f
met_once q s before (Landed p f (Some size)) known = refl
met_once q s before (Taken p f) known = length_both (p == q) (is_wreck (slice_get s.flights f)) f ∙ ap (λ (b : Bool). one_if ((p == q) && b)) (known f)
met_once q s before (Opened p) known = refl
met_once q s before (Began p f t) known = refl
met_once q s before (Joined p f) known = refl
met_once q s before (Hit p f) known = refl
met_once q s before (Lost p f) known = refl
met_once q s before (Cancelled p) known = refl
met_once q s before (Closed p) known = refl
met_once q s before (Evicted f) known = refl
met_once q s before (Refreshed f) known = refl
met_once q s before (Abandoned f) known = refl

met_from : (budget q : ℕ) (s : State) (before es : List Entry) → ((f : ℕ) → is_wreck (slice_get s.flights f) ≡ is_wrecked_by f before) → LegalFrom budget s es → length (wrecks_from q s es) ≡ wrecks_met q before es
unfolding LegalFrom wrecks_from
met_from budget q s before [] known legal = refl
met_from budget q s before (e ∷ es) known legal =
    let one = met_once q s before e known in
    let more : (f : ℕ) → is_wreck (slice_get (step s e).flights f) ≡ is_wrecked_by f (before ++ e ∷ []) = λ f. wreck_step budget f s e legal.0 ∙ ap (λ (b : Bool). b || wrecks_flight f e) (known f) ∙ sym (any_push f before e) in
    let rest = met_from budget q (step s e) (before ++ e ∷ []) es more legal.1 in
    length-append (wrecked_in q s e) (wrecks_from q (step s e) es) ∙ ap (λ n. n + length (wrecks_from q (step s e) es)) one ∙ ap (λ n. one_if (meets_wreck q before e) + n) rest

pub wrecks_counted : (budget q : ℕ) (journal : List Entry) → Legal budget journal → length (wrecks_from q nothing journal) ≡ wrecks_met q [] journal
wrecks_counted budget q journal legal = met_from budget q nothing [] journal (λ f. refl) legal

-- ---- which entries brought a query its wrecks
among_append : (x : ℕ) (xs ys : List ℕ) → Among x (xs ++ ys) → Among x xs ⊎ Among x ys
among_append x [] ys among = inr among
among_append x (y ∷ xs) ys among = split (λ n h. among_append x xs ys (n, h)) among.0 among.1
  where
    split : ((n : ℕ) → slice_get (xs ++ ys) n ≡ Some x → Among x xs ⊎ Among x ys) → (n : ℕ) → slice_get (y ∷ (xs ++ ys)) n ≡ Some x → Among x (y ∷ xs) ⊎ Among x ys
    split more zero h = inl (zero, h)
    split more (suc n) h = ⊎_elim (λ (a : Among x xs). inl (suc a.0, a.1)) (λ (b : Among x ys). inr b) (more n h)

among_none : (x : ℕ) → Among x [] → ⊥
among_none x among = none_in_nothing among.0 x among.1

among_one : (x y : ℕ) → Among x (y ∷ []) → y ≡ x
among_one x y among = split among.0 among.1
  where
    split : (n : ℕ) → slice_get (y ∷ []) n ≡ Some x → y ≡ x
    split zero h = cc
    split (suc n) h = absurd (none_in_nothing n x h)

among_only_if : (x : ℕ) (b : Bool) (xs : List ℕ) → Among x (only_if b xs) → (b ≡ true) × Among x xs
among_only_if x true xs among = (refl, among)
among_only_if x false xs among = absurd (among_none x among)

-- q landed f without a size, or took f, which some query landed without one
abbrev Brought : ℕ → ℕ → List Entry → Type 0
Brought q f es = Among (Landed q f None) es ⊎ (Among (Taken q f) es × ((p : ℕ) × Among (Landed p f None) es))

brought_by : (budget q f : ℕ) (s : State) (e : Entry) (js : List Entry) → Among e js → ((g : ℕ) → is_wreck (slice_get s.flights g) ≡ true → (p : ℕ) × Among (Landed p g None) js) → Among f (wrecked_in q s e) → Brought q f js
brought_by budget q f s (Landed p g None) js here known among =
    let only = among_only_if f (p == q) (g ∷ []) among in
    let same : p ≡ q = grind (arith, only.0) in
    let is : Landed p g None ≡ Landed q f None = ap (λ n. Landed n g None) same ∙ ap (λ n. Landed q n None) (among_one f g only.1) in
    inl (subst (λ (x : Entry). Among x js) is here)
brought_by budget q f s (Landed p g (Some size)) js here known among = absurd (among_none f among)
brought_by budget q f s (Taken p g) js here known among =
    let only = among_only_if f (p == q) (only_if (is_wreck (slice_get s.flights g)) (g ∷ [])) among in
    let wreck = among_only_if f (is_wreck (slice_get s.flights g)) (g ∷ []) only.1 in
    let same : p ≡ q = grind (arith, only.0) in
    let number : g ≡ f = among_one f g wreck.1 in
    let is : Taken p g ≡ Taken q f = ap (λ n. Taken n g) same ∙ ap (λ n. Taken q n) number in
    inr (subst (λ (x : Entry). Among x js) is here, subst (λ n. (r : ℕ) × Among (Landed r n None) js) number (known g wreck.0))
brought_by budget q f s (Opened p) js here known among = absurd (among_none f among)
brought_by budget q f s (Began p g t) js here known among = absurd (among_none f among)
brought_by budget q f s (Joined p g) js here known among = absurd (among_none f among)
brought_by budget q f s (Hit p g) js here known among = absurd (among_none f among)
brought_by budget q f s (Lost p g) js here known among = absurd (among_none f among)
brought_by budget q f s (Cancelled p) js here known among = absurd (among_none f among)
brought_by budget q f s (Closed p) js here known among = absurd (among_none f among)
brought_by budget q f s (Evicted g) js here known among = absurd (among_none f among)
brought_by budget q f s (Refreshed g) js here known among = absurd (among_none f among)
brought_by budget q f s (Abandoned g) js here known among = absurd (among_none f among)

lander_of : (f : ℕ) (e : Entry) → wrecks_flight f e ≡ true → (p : ℕ) × (e ≡ Landed p f None)
lander_of f (Landed p g None) h = let same : g ≡ f = grind (arith, h) in (p, ap (λ n. Landed p n None) same)
lander_of f (Landed p g (Some size)) h = absurd (true≢false (sym h))
lander_of f (Opened p) h = absurd (true≢false (sym h))
lander_of f (Began p g t) h = absurd (true≢false (sym h))
lander_of f (Joined p g) h = absurd (true≢false (sym h))
lander_of f (Hit p g) h = absurd (true≢false (sym h))
lander_of f (Taken p g) h = absurd (true≢false (sym h))
lander_of f (Lost p g) h = absurd (true≢false (sym h))
lander_of f (Cancelled p) h = absurd (true≢false (sym h))
lander_of f (Closed p) h = absurd (true≢false (sym h))
lander_of f (Evicted g) h = absurd (true≢false (sym h))
lander_of f (Refreshed g) h = absurd (true≢false (sym h))
lander_of f (Abandoned g) h = absurd (true≢false (sym h))

brought_from : (budget q f : ℕ) (s : State) (es js : List Entry) → ((e : Entry) → Among e es → Among e js) → ((g : ℕ) → is_wreck (slice_get s.flights g) ≡ true → (p : ℕ) × Among (Landed p g None) js)
    → LegalFrom budget s es → Among f (wrecks_from q s es) → Brought q f js
unfolding LegalFrom wrecks_from
brought_from budget q f s [] js all known legal among = absurd (among_none f among)
brought_from budget q f s (e ∷ es) js all known legal among =
    ⊎_elim
    (λ (h : Among f (wrecked_in q s e)). brought_by budget q f s e js (all e (zero, refl)) known h)
    (λ (h : Among f (wrecks_from q (step s e) es)). brought_from budget q f (step s e) es js (λ x among. all x (suc among.0, among.1)) more legal.1 h)
    (among_append f (wrecked_in q s e) (wrecks_from q (step s e) es) among)
  where
    more : (g : ℕ) → is_wreck (slice_get (step s e).flights g) ≡ true → (p : ℕ) × Among (Landed p g None) js
    more g h =
        ⊎_elim
        (known g)
        (λ (k : wrecks_flight g e ≡ true). let w = lander_of g e k in (w.0, subst (λ (x : Entry). Among x js) w.1 (all e (zero, refl))))
        (or_cases (is_wreck (slice_get s.flights g)) (wrecks_flight g e) (sym (wreck_step budget g s e legal.0) ∙ h))

pub wrecks_brought : (budget q f : ℕ) (journal : List Entry) → Legal budget journal → Among f (wrecks_from q nothing journal) → Among (Landed q f None) journal ⊎ (Among (Taken q f) journal × ((p : ℕ) × Among (Landed p f None) journal))
wrecks_brought budget q f journal legal among = brought_from budget q f nothing journal journal (λ e a. a) (λ g h. absurd (true≢false (sym h))) legal among
