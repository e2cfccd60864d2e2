-- A call with a pass, from the book before it to the book behind it.
use Rattle.std.specs.Option.{unwrap_or}
use Rattle.std.proofs.Common.{◌≡◌, ◌≢◌, ◌⊎◌, ℕ, zero, suc, ◌+◌, ◌<◌, ◌≤◌, Bool, true, false, true≢false, List, [], ◌∷◌, ◌++◌, Option, Some, None, length, slice_get, slice_set, refl, sym, ap, ◌∙◌, subst, inl, ⊎_elim, append-nil, add-zero, arith}
use Rattle.pass_book.specs.Lines.{Lines, HasLine}
use Rattle.link_io.specs.Origin.{Origin}
use Rattle.link_io.specs.Parcel.{Packed}
use Rattle.link_io.specs.declared.target.Target.{Target}
use Rattle.flight_journal.specs.declared.entry.Entry.{Entry}
use Rattle.flight_journal.specs.declared.entry.Entry.TheVariants.{Opened, Lost, Closed, Cancelled, Refreshed}
use Rattle.flight_journal.specs.State.{Flight, State, WaitsIn, IsOwed, IsOpen, is_open, is_one_of, Flies}
use Rattle.flight_journal.specs.Journal.{after, Legal}
use Rattle.flight_journal.specs.Count.{Among, one_if}
use Rattle.flight_journal.proofs.CarryLemmas.{one_flight}
use Rattle.flight_rows.specs.Sight.{Sight, IsSightSound, hand_in}
use Rattle.flight_rows.specs.Serves.{Writes, HandsStay, Lands, Leaves, Refreshes, abandonments}
use Rattle.flight_table.specs.Facts.{Facts, new_pass}
use Rattle.flight_table.specs.Doors.{Gate, TellsDoor, lighter_door, split_off, joined_door, opening_door, cancelling_door, refreshing_door, opens, cancels, refreshes, count}
use Rattle.flight_table.specs.Lines.{Said, of_pass, of_door, AreSo}
use Rattle.flight_table.specs.Tells.{Tells}
use Rattle.flight_table.specs.Follows.{Follows, Enters, LeavesTable, Stays, Parts, HasParcel, HasValue}
use Rattle.std.proofs.lemmas.Bool.{cases_eq}
use Rattle.pass_book.proofs.LineLemmas.{below, push_else, set_here, set_else}
use Rattle.flight_table.proofs.CountingLemmas.{no_doors_abandon, count_append}
use Rattle.flight_table.proofs.PassLemmas.{cancelled_follows, one_names}
use Rattle.std.proofs.lemmas.Option.{slice_get_within}
use Rattle.flight_journal.proofs.PushLemmas.{after_push}
use Rattle.flight_journal.proofs.LegalLemmas.{waits_open}
use Rattle.flight_journal.proofs.CountLemmas.{unseen}
use Rattle.flight_table.specs.Knows.{Knows}
use Rattle.flight_table.proofs.NewLemmas.{knows_new}
use Rattle.flight_table.proofs.TellLemmas.{tells_on}
use Rattle.flight_table.proofs.LinesLemmas.{same_door}
use Rattle.flight_table.proofs.FollowLemmas.{others_on, opens_over, legal_by, apart_stays, same_count}
use Rattle.flight_table.proofs.TableLemmas.{SameStart, start_by, so_put, so_cancel, so_enter, so_refresh, so_split, so_join, so_tell}
use Rattle.flight_table.proofs.DoorLemmas.{door_told}

-- what a pass says is so before the call
pub before : (s : Sight) (b : Lines Said) (p p' : Facts) → AreSo s b → (n : ℕ) × HasLine b n (of_pass p) → p' ≡ p → Tells s p'
before s b p p' so line same = subst (Tells s) (sym same) (so.passes.told line.0 p line.1)

pub before_door : (s : Sight) (b : Lines Said) (d : Gate) → AreSo s b → (n : ℕ) × HasLine b n (of_door d) → TellsDoor s d
before_door s b d so line = door_told s b line.0 d line.1 so

-- the book behind it
pub so_behind : (s t : Sight) (b b' b'' : Lines Said) (p r r' : Facts) → b' ≡ b → r' ≡ r → (n : ℕ) × HasLine b' n (of_pass p) × (b'' ≡ slice_set b' n (Some (of_pass r'))) → Follows s t p r → AreSo s b → AreSo t b''
so_behind s t b b' b'' p r r' same is line f so =
    subst (AreSo t) (sym line.2)
    (so_put s t b' line.0 p r' line.1 (subst (Follows s t p) (sym is) f) (subst (AreSo s) (sym same) so))

pub follows_as : (s s' t : Sight) (p p' r r' : Facts) → s ≡ s' → p ≡ p' → r' ≡ r → Follows s t p r → Follows s' t p' r'
follows_as s s' t p p' r r' i j k f = subst (λ (x : Sight × (Facts × Facts)). Follows x.0 t x.1.0 x.1.1) (λ n. (i n, (j n, sym k n))) f

pub parts_as : (f : ℕ) (is_so : Facts → List (ℕ × Target) → Facts) (p p' r r' : Facts) → p ≡ p' → r' ≡ r → Parts f (is_so p) p r → Parts f (is_so p') p' r'
parts_as f is_so p p' r r' j k w = subst (λ (x : Facts × Facts). Parts f (is_so x.0) x.0 x.1) (λ n. (j n, sym k n)) w

-- the flights that a pass has entered
pub covers : (entered : List ℕ) (p q r : Facts) → p ≡ q → ((f : ℕ) (t : Target) → Among (f, t) q.awaits → is_one_of f entered ≡ true) → ((f : ℕ) (t : Target) → Among (f, t) r.awaits → Among (f, t) p.awaits) → (f : ℕ) (t : Target) → Among (f, t) r.awaits → is_one_of f entered ≡ true
covers entered p q r same all less f t among = all f t (subst (λ (x : Facts). Among (f, t) x.awaits) same (less f t among))

-- an entry that names the query by its number
pub lost_as : (s t : Sight) (q f : ℕ) (p : Facts) → q ≡ p.query → Writes (Lost q f ∷ []) s t → Writes (Lost p.query f ∷ []) s t
lost_as s t q f p same w = subst (λ n. Writes (Lost n f ∷ []) s t) same w

pub lands_as : (s t : Sight) (q f : ℕ) (size : Option ℕ) (p : Facts) → q ≡ p.query → Lands q f size s t → Lands p.query f size s t
lands_as s t q f size p same w = subst (λ n. Lands n f size s t) same w

pub closes_as : (s t : Sight) (q : ℕ) (p : Facts) → q ≡ p.query → Leaves (Closed q) s t → Leaves (Closed p.query) s t
closes_as s t q p same w = subst (λ n. Leaves (Closed n) s t) same w

pub cancels_as : (s t : Sight) (q : ℕ) (p : Facts) → q ≡ p.query → Leaves (Cancelled q) s t → Leaves (Cancelled p.query) s t
cancels_as s t q p same w = subst (λ n. Leaves (Cancelled n) s t) same w

pub open_as : (s : Sight) (q : ℕ) (p : Facts) → q ≡ p.query → IsOpen (after s.journal) p.query → IsOpen (after s.journal) q
open_as s q p same o = subst (λ n. IsOpen (after s.journal) n) (sym same) o

-- a live pass is of an open query
pub live_open : (s : Sight) (p : Facts) → Tells s p → p.live ≡ true → IsOpen (after s.journal) p.query
live_open s p k live = open_by (slice_get (after s.journal).live p.query) (sym k.knows.live ∙ live)
  where
    open_by : (o : Option Bool) → unwrap_or o false ≡ true → o ≡ Some true
    open_by None e = absurd (true≢false (sym e))
    open_by (Some b) e = ap Some e

-- a pass without a parcel in hand
pub idle_hands : (s : Sight) (p : Facts) → Tells s p → p.hand ≡ None → (f : ℕ) → hand_in s.hands f ≢ Some p.query
idle_hands s p k idle f held = none_some (sym idle ∙ k.in_hand f held)
  where
    none_some : None ≡ Some f → ⊥
    none_some e = cc

-- ---- what is so by what a pass says is so by the table
-- the awaited flight is for the target that is awaited
same_target : (s : Sight) (p : Facts) (f : ℕ) (t u : Target) → Tells s p → Among (f, t) p.awaits → Flies (after s.journal) f u → t ≡ u
same_target s p f t u k among flies =
    let a = k.knows.awaits f t among in
    sym a.target ∙ ap (λ (x : Flight). x.target) (one_flight (after s.journal) f a.flight flies.0 a.there flies.1) ∙ flies.3

pub parcel_aimed : {L : Type 0} (Aimed : ℕ → Origin → ℕ → Target → Packed L → Type 0) (s : Sight) (p p' : Facts) (f : ℕ) (parcel : Packed L) → Tells s p → p ≡ p' → HasParcel (Aimed p'.base p'.origin) f p' parcel
    → (t : Target) → Flies (after s.journal) f t → Aimed (length s.start) s.origin f t parcel
parcel_aimed Aimed s p p' f parcel k same has t flies =
    let here : HasParcel (Aimed p.base p.origin) f p parcel = subst (λ (x : Facts). HasParcel (Aimed x.base x.origin) f x parcel) (sym same) has in
    let i = same_target s p f here.0 t k here.1 flies in
    subst (λ (x : ℕ × Origin). Aimed x.0 x.1 f t parcel) (λ n. (k.base n, k.origin n)) (subst (λ u. Aimed p.base p.origin f u parcel) i here.3)

pub value_comes : {V : Type 0} (So : ℕ → Origin → ℕ → Target → Option ℕ → V → Type 0) (s : Sight) (p p' : Facts) (f : ℕ) (z : Option ℕ) (v : V) → Tells s p → p ≡ p' → HasValue (So p'.base p'.origin) f p' z v
    → (t : Target) → Flies (after s.journal) f t → So (length s.start) s.origin f t z v
value_comes So s p p' f z v k same has t flies =
    let here : HasValue (So p.base p.origin) f p z v = subst (λ (x : Facts). HasValue (So x.base x.origin) f x z v) (sym same) has in
    let i = same_target s p f here.0 t k here.1 flies in
    subst (λ (x : ℕ × Origin). So x.0 x.1 f t z v) (λ n. (k.base n, k.origin n)) (subst (λ u. So p.base p.origin f u z v) i here.2)

-- ---- a query that leaves
pub idle_as : (s : Sight) (q : ℕ) (p : Facts) → q ≡ p.query → Tells s p → p.hand ≡ None → (f : ℕ) → hand_in s.hands f ≢ Some q
idle_as s q p same k idle f held = idle_hands s p k idle f (held ∙ ap Some same)

pub awaited_as : (s : Sight) (q : ℕ) (p p' : Facts) (entered given : List ℕ) → given ≡ entered → q ≡ p.query → p ≡ p' → Tells s p → ((f : ℕ) (t : Target) → Among (f, t) p'.awaits → is_one_of f entered ≡ true)
    → (f : ℕ) → WaitsIn (after s.journal) q f ⊎ IsOwed (after s.journal) q f → is_one_of f given ≡ true
awaited_as s q p p' entered given slice same same' k all f either =
    let w = k.knows.all_awaits f (subst (λ n. WaitsIn (after s.journal) n f ⊎ IsOwed (after s.journal) n f) same either) in
    subst (λ l. is_one_of f l ≡ true) (sym slice) (all f w.0 (subst (λ (x : Facts). Among (f, w.0) x.awaits) same' w.1))

-- a line of a door in a book that another line has left
line_before : (lines : Lines Said) (m n : ℕ) (y : Said) → HasLine (slice_set lines m None) n y → HasLine lines n y
line_before lines m n y has = ⊎_elim
    (λ (i : n ≡ m). absurd (gone lines m y (subst (λ z. HasLine (slice_set lines m None) z y) i has)))
    (λ (ne : n ≢ m). sym (set_else lines m n None ne) ∙ has)
    (cases_eq n m)
  where
    gone : (l : Lines Said) (k : ℕ) (z : Said) → HasLine (slice_set l k None) k z → ⊥
    gone [] k z h = cc
    gone (x ∷ l) zero z h = cc
    gone (x ∷ l) (suc k) z h = gone l k z h

pub record Cancels (s t : Sight) (b : Lines Said) (p : Facts) (d d' : Gate) : Type 0 where
  pub so : AreSo t b
  pub leaves : LeavesTable s t p
  pub old_door : TellsDoor s d
  pub new_door : TellsDoor t d'

pub cancelled_all : (s t : Sight) (b b' b'' b''' : Lines Said) (p : Facts) (d d' : Gate) → b' ≡ b → (n : ℕ) × HasLine b' n (of_pass p) × (b'' ≡ slice_set b' n None) → d' ≡ cancelling_door d → (n : ℕ) × HasLine b'' n (of_door d) × (b''' ≡ slice_set b'' n (Some (of_door d')))
    → Leaves (Cancelled p.query) s t → HandsStay s t → IsSightSound t → Tells s p → AreSo s b → Cancels s t b''' p d d'
cancelled_all s t b b' b'' b''' p d d' same pass door mark leaves stays sound k so =
    let f = cancelled_follows s t p leaves stays sound k in
    let so' = subst (AreSo s) (sym same) so in
    let has = subst (λ (l : Lines Said). HasLine l mark.0 (of_door d)) pass.2 mark.1 in
    let none = no_doors_abandon leaves.0 in
    let all = so_cancel s t b' pass.0 mark.0 p.query (abandonments leaves.0) p d leaves.1 none.opened none.cancelled none.refreshed f.others pass.1 has so' in
    let book : slice_set (slice_set b' pass.0 None) mark.0 (Some (of_door (cancelling_door d))) ≡ b''' = (λ i. slice_set (sym pass.2 i) mark.0 (Some (of_door (sym door i)))) ∙ sym mark.2 in
    let now = subst (AreSo t) book all in
    record {
      so = now;
      leaves = record { told = k; others = f.others; opens = f.opens; gone = sym (f.now.knows.live) };
      old_door = door_told s b' mark.0 d (line_before b' pass.0 mark.0 (of_door d) has) so';
      new_door = door_told t b''' mark.0 d' (subst (λ (l : Lines Said). HasLine l mark.0 (of_door d')) (sym mark.2) (set_here b'' mark.0 (Some (of_door d')) (below b'' mark.0 (of_door d) mark.1))) now;
    }

-- ---- doors alone
at_door : (l : Lines Said) (d e : Gate) → d ≡ e → (n : ℕ) → HasLine l n (of_door d) → HasLine l n (of_door e)
at_door l d e same n has = subst (λ x. HasLine l n (of_door x)) same has

pub split_all : (s : Sight) (b b' b'' b3 : Lines Said) (d d' part d'' : Gate) → 2 ≤ d.weight → b' ≡ b → d' ≡ d → (n : ℕ) × HasLine b n (of_door d) → part ≡ split_off d' → b'' ≡ b' ++ Some (of_door part) ∷ [] → d'' ≡ lighter_door d'
    → (n : ℕ) × HasLine b'' n (of_door d') × (b3 ≡ slice_set b'' n (Some (of_door d''))) → AreSo s b → AreSo s b3
split_all s b b' b'' b3 d d' part d'' two same is line made more lighter mark so =
    let books : b'' ≡ b ++ Some (of_door (split_off d)) ∷ [] = more ∙ (λ i. same i ++ Some (of_door ((made ∙ ap split_off is) i)) ∷ []) in
    let had : HasLine (b ++ Some (of_door (split_off d)) ∷ []) mark.0 (of_door d) = subst (λ (l : Lines Said). HasLine l mark.0 (of_door d)) books (at_door b'' d' d is mark.0 mark.1) in
    let has : HasLine b line.0 (of_door d) = line.1 in
    let has' : HasLine (b ++ Some (of_door (split_off d)) ∷ []) line.0 (of_door d) = push_else b (Some (of_door (split_off d))) line.0 (of_door d) has in
    let it = so.doors.each line.0 d has in
    let all = so_split s b mark.0 d two (back b mark.0 d two had) had so in
    subst (AreSo s) ((λ i. slice_set (sym books i) mark.0 (Some (of_door (sym (lighter ∙ ap lighter_door is) i)))) ∙ sym mark.2) all
  where
    back : (l : Lines Said) (n : ℕ) (e : Gate) → 2 ≤ e.weight → HasLine (l ++ Some (of_door (split_off e)) ∷ []) n (of_door e) → HasLine l n (of_door e)
    back [] zero e two h = absurd (heavier (same_door (split_off e) e h))
      where
        heavier : split_off e ≡ e → ⊥
        heavier i = let w : 1 ≡ e.weight = ap (λ (g : Gate). g.weight) i in let bad : ⊥ = omega arith in bad
    back [] (suc n) e two h = cc
    back (x ∷ l) zero e two h = h
    back (x ∷ l) (suc n) e two h = back l n e two h

pub join_all : (s : Sight) (b b' : Lines Said) (d e d' : Gate) → d' ≡ joined_door d e
    → (n : ℕ) × (m : ℕ) × HasLine b n (of_door d) × HasLine (slice_set b n (Some (of_door d'))) m (of_door e) × (b' ≡ slice_set (slice_set b n (Some (of_door d'))) m None) → AreSo s b → AreSo s b'
join_all s b b' d e d' joins line so =
    subst (AreSo s) ((λ i. slice_set (slice_set b line.0 (Some (of_door (sym joins i)))) line.1 None) ∙ sym line.4)
    (so_join s b line.0 line.1 d e line.2 (subst (λ x. HasLine (slice_set b line.0 (Some (of_door x))) line.1 (of_door e)) joins line.3) so)

-- a query that did not open yet waits nowhere behind its opening
unseen_waits : (s t : Sight) (q f : ℕ) → q ≡ length (after s.journal).live → Legal t.keep s.journal → WaitsIn (after (s.journal ++ Opened q ∷ [])) q f → ⊥
unseen_waits s t q f number legal w =
    let before : WaitsIn (after s.journal) q f = subst (λ (x : State). WaitsIn x q f) (after_push s.journal (Opened q)) w in
    let alive = waits_open t.keep q f s.journal legal before in
    past q (length (after s.journal).live) number (slice_get_within (after s.journal).live q true alive)
  where
    past : (m n : ℕ) → m ≡ n → m < n → ⊥
    past m n same less = let bad : ⊥ = omega arith in bad

-- ---- a query that enters
pub record Entered (s t : Sight) (b : Lines Said) (r : Facts) (d d' : Gate) : Type 0 where
  pub so : AreSo t b
  pub enters : Enters s t r
  pub marked : d' ≡ opening_door d
  pub old_door : TellsDoor s d
  pub new_door : TellsDoor t d'

pub enter_all : (s t : Sight) (b b' b'' b3 : Lines Said) (q : ℕ) (d e d' : Gate) (r : Facts) → t ≡ record s { journal = s.journal ++ Opened q ∷ [] } → q ≡ length (after s.journal).live → IsSightSound t
    → b' ≡ b → e ≡ d → (n : ℕ) × HasLine b n (of_door d) → r ≡ new_pass q (length t.start) t.origin → b'' ≡ b' ++ Some (of_pass r) ∷ [] → d' ≡ opening_door e
    → (n : ℕ) × HasLine b'' n (of_door e) × (b3 ≡ slice_set b'' n (Some (of_door d'))) → AreSo s b → Entered s t b3 r d d'
enter_all s t b b' b'' b3 q d e d' r is number sound same kept line pass more opened mark so = record {
  so = now;
  enters = record { now = tells; fresh = fresh; others = others; opens = λ p ne. opens_over p (Opened q ∷ []) s t writes sound (one_names q (Opened q) refl p (λ i. ne (i ∙ sym own))) };
  marked = marks;
  old_door = door_told s b line.0 d line.1 so;
  new_door = door_told t b3 mark.0 d' (subst (λ (l : Lines Said). HasLine l mark.0 (of_door d')) (sym mark.2) (set_here b'' mark.0 (Some (of_door d')) (below b'' mark.0 (of_door e) mark.1))) now;
}
  where
    marks : d' ≡ opening_door d
    marks = opened ∙ ap opening_door kept

    own : r.query ≡ q
    own = ap (λ (x : Facts). x.query) pass

    writes : Writes (Opened q ∷ []) s t
    writes = record { journal = ap (λ (x : Sight). x.journal) is; dialed = ap (λ (x : Sight). x.dialed) is ∙ sym (append-nil _); keep = ap (λ (x : Sight). x.keep) is; start = ap (λ (x : Sight). x.start) is; origin = ap (λ (x : Sight). x.origin) is }

    hands : (f : ℕ) → hand_in t.hands f ≡ hand_in s.hands f
    hands f = ap (λ (x : Sight). hand_in x.hands f) is

    legal : Legal t.keep s.journal
    legal = legal_by s t (Opened q ∷ []) writes sound

    none_some : (f : ℕ) → None ≡ Some f → ⊥
    none_some f h = cc

    new_said : Tells t (new_pass q (length t.start) t.origin)
    new_said = record {
      knows = subst (λ (js : List Entry). Knows js (new_pass q (length t.start) t.origin)) (sym writes.journal) (knows_new t.keep q (length t.start) t.origin s.journal legal number);
      hand = λ f h. absurd (none_some f h);
      in_hand = λ f h. absurd (unseen_waits s t q f number legal (subst (λ (js : List Entry). WaitsIn (after js) q f) writes.journal (sound.in_hand q f h)));
      base = refl;
      origin = refl;
    }

    tells : Tells t r
    tells = subst (Tells t) (sym pass) new_said

    none_called : (n : ℕ) → 0 < n → n ≡ 0 → ⊥
    none_called n some none = let bad : ⊥ = omega arith in bad

    low : (p : ℕ) → p ≡ q → length (after s.journal).live ≤ p
    low p j = omega (arith, j, number)

    fresh : (o : Facts) → Tells s o → o.query ≢ r.query
    fresh o k i = none_called o.calls k.knows.entered (k.knows.calls ∙ unseen t.keep o.query s.journal legal (low o.query (i ∙ own)))

    others : (o : Facts) → Tells s o → Tells t o
    others o k = others_on q (Opened q ∷ []) s t writes sound (one_names q (Opened q) refl) (λ p ne. apart_stays s t hands p) o (λ i. fresh o k (i ∙ sym own)) k

    books : b'' ≡ b ++ Some (of_pass r) ∷ []
    books = more ∙ ap (λ l. l ++ Some (of_pass r) ∷ []) same

    back : (l : Lines Said) (n : ℕ) → HasLine (l ++ Some (of_pass r) ∷ []) n (of_door d) → HasLine l n (of_door d)
    back [] zero h = cc
    back [] (suc n) h = cc
    back (x ∷ l) zero h = h
    back (x ∷ l) (suc n) h = back l n h

    has : HasLine b mark.0 (of_door d)
    has = back b mark.0 (subst (λ (l : Lines Said). HasLine l mark.0 (of_door d)) books (at_door b'' e d kept mark.0 mark.1))

    now : AreSo t b3
    now = subst (AreSo t) ((λ i. slice_set (sym books i) mark.0 (Some (of_door (sym marks i)))) ∙ sym mark.2) (so_enter s t b mark.0 q r d writes tells fresh others has so)

-- ---- an index that is given up
pub record GivesUp (s t : Sight) (b : Lines Said) (d d' : Gate) : Type 0 where
  pub so : AreSo t b
  pub stays : Stays s t
  pub old_door : TellsDoor s d
  pub new_door : TellsDoor t d'

refresh_by : (s t : Sight) (url : List ℕ) (given_up : Bool) → Refreshes url s t given_up → IsSightSound t → Stays s t × SameStart s t × (count opens t.journal ≡ count opens s.journal) × (count cancels t.journal ≡ count cancels s.journal) × (count refreshes t.journal ≡ count refreshes s.journal + one_if given_up)
refresh_by s t url true w sound = (
  record {
    others = λ o k. tells_on s t (Refreshed w.0 ∷ []) o w.1 sound refl (apart_stays s t w.2 o.query) k;
    opens = λ q. opens_over q (Refreshed w.0 ∷ []) s t w.1 sound refl;
  },
  start_by s t (Refreshed w.0 ∷ []) w.1,
  same_count opens s t (Refreshed w.0 ∷ []) w.1 refl,
  same_count cancels s t (Refreshed w.0 ∷ []) w.1 refl,
  ap (count refreshes) w.1.journal ∙ count_append refreshes s.journal (Refreshed w.0 ∷ []),
)
refresh_by s t url false w sound = (
  record { others = λ o k. subst (λ x. Tells x o) (sym w.0) k; opens = λ q. ap (λ (x : Sight). is_open (after x.journal) q) w.0 },
  record { keep = ap (λ (x : Sight). x.keep) w.0; start = ap (λ (x : Sight). x.start) w.0; origin = ap (λ (x : Sight). x.origin) w.0 },
  ap (λ (x : Sight). count opens x.journal) w.0,
  ap (λ (x : Sight). count cancels x.journal) w.0,
  ap (λ (x : Sight). count refreshes x.journal) w.0 ∙ sym (add-zero _),
)

pub refresh_all : (s t : Sight) (b b' : Lines Said) (url : List ℕ) (given_up : Bool) (d d' : Gate) → Refreshes url s t given_up → IsSightSound t → d' ≡ refreshing_door given_up d
    → (n : ℕ) × HasLine b n (of_door d) × (b' ≡ slice_set b n (Some (of_door d'))) → AreSo s b → GivesUp s t b' d d'
refresh_all s t b b' url given_up d d' w sound marks mark so =
    let f = refresh_by s t url given_up w sound in
    let all = so_refresh s t b mark.0 given_up d f.1 f.2 f.3 f.4 f.0.others mark.1 so in
    let now = subst (AreSo t) ((λ i. slice_set b mark.0 (Some (of_door (sym marks i)))) ∙ sym mark.2) all in
    record {
      so = now;
      stays = f.0;
      old_door = door_told s b mark.0 d mark.1 so;
      new_door = door_told t b' mark.0 d' (subst (λ (l : Lines Said). HasLine l mark.0 (of_door d')) (sym mark.2) (set_here b mark.0 (Some (of_door d')) (below b mark.0 (of_door d) mark.1))) now;
    }

-- ---- a pass that is told
pub record TellsAll (s : Sight) (b b' : Lines Said) (p : Facts) : Type 0 where
  pub so : AreSo s b'
  pub told : Tells s p
  pub stood : (n : ℕ) × HasLine b n (of_pass p)
  pub fewer : (n : ℕ) (o : Facts) → HasLine b' n (of_pass o) → HasLine b n (of_pass o) × (o.query ≢ p.query)

pub tell_all : (s : Sight) (b b' : Lines Said) (p p' : Facts) → p' ≡ p → (n : ℕ) × HasLine b n (of_pass p') × (b' ≡ slice_set b n None) → AreSo s b → TellsAll s b b' p
tell_all s b b' p p' same line so = record {
  so = subst (AreSo s) (sym line.2) (so_tell s b line.0 p has so);
  told = so.passes.told line.0 p has;
  stood = (line.0, has);
  fewer = λ n o h. let was = left n o h in (line_before b line.0 n (of_pass o) was, λ i. gone n o was (so.passes.apart n line.0 o p (line_before b line.0 n (of_pass o) was) has i));
}
  where
    has : HasLine b line.0 (of_pass p)
    has = subst (λ x. HasLine b line.0 (of_pass x)) same line.1

    left : (n : ℕ) (o : Facts) → HasLine b' n (of_pass o) → HasLine (slice_set b line.0 None) n (of_pass o)
    left n o h = subst (λ (l : Lines Said). HasLine l n (of_pass o)) line.2 h

    none_some : (o : Facts) → None ≡ Some (of_pass o) → ⊥
    none_some o e = cc

    gone : (n : ℕ) (o : Facts) → HasLine (slice_set b line.0 None) n (of_pass o) → n ≡ line.0 → ⊥
    gone n o h i = none_some o (sym (set_here b line.0 None (below b line.0 (of_pass p) has)) ∙ subst (λ z. HasLine (slice_set b line.0 None) z (of_pass o)) i h)

-- ---- a query that asks
pub apart_as : (s s' : Sight) (q : ℕ) (p p' : Facts) (u : Target) → q ≡ p.query → s ≡ s' → p ≡ p' → Tells s p → ((f : ℕ) (t : Target) → Among (f, t) p'.awaits → WaitsIn (after s'.journal) p'.query f → t.key ≢ u.key)
    → (f : ℕ) (t : Target) → WaitsIn (after s.journal) q f → Flies (after s.journal) f t → t.key ≢ u.key
apart_as s s' q p p' u same view view' k apart f t waits flies =
    let w : WaitsIn (after s.journal) p.query f = subst (λ n. WaitsIn (after s.journal) n f) same waits in
    let there = k.knows.all_awaits f (inl w) in
    let here : there.0.key ≢ u.key = apart f there.0 (subst (λ (x : Facts). Among (f, there.0) x.awaits) view' there.1) (subst (λ (x : Sight × Facts). WaitsIn (after x.0.journal) x.1.query f) (λ i. (view i, view' i)) w) in
    λ e. here (ap (λ (x : Target). x.key) (same_target s p f there.0 t k there.1 flies) ∙ e)

pub covers_same : (a b : List ℕ) (p : Facts) → b ≡ a → ((f : ℕ) (t : Target) → Among (f, t) p.awaits → is_one_of f a ≡ true) → (f : ℕ) (t : Target) → Among (f, t) p.awaits → is_one_of f b ≡ true
covers_same a b p same all f t among = subst (λ l. is_one_of f l ≡ true) (sym same) (all f t among)

pub covers_more : (a b : List ℕ) (p q r : Facts) (f : ℕ) → p ≡ q → ((g : ℕ) (t : Target) → Among (g, t) q.awaits → is_one_of g a ≡ true) → is_one_of f b ≡ true → ((g : ℕ) → is_one_of g a ≡ true → is_one_of g b ≡ true)
    → ((g : ℕ) (t : Target) → Among (g, t) r.awaits → Among (g, t) p.awaits ⊎ (Some f ≡ Some g)) → (g : ℕ) (t : Target) → Among (g, t) r.awaits → is_one_of g b ≡ true
covers_more a b p q r f same all here others behind g t among =
    ⊎_elim
    (λ (old : Among (g, t) p.awaits). others g (all g t (subst (λ (x : Facts). Among (g, t) x.awaits) same old)))
    (λ (e : Some f ≡ Some g). let i : f ≡ g = cc in subst (λ n. is_one_of n b ≡ true) i here)
    (behind g t among)

pub covers_none : (a : List ℕ) (p q r : Facts) → p ≡ q → ((g : ℕ) (t : Target) → Among (g, t) q.awaits → is_one_of g a ≡ true)
    → ((g : ℕ) (t : Target) → Among (g, t) r.awaits → Among (g, t) p.awaits ⊎ (None ≡ Some g)) → (g : ℕ) (t : Target) → Among (g, t) r.awaits → is_one_of g a ≡ true
covers_none a p q r same all behind g t among =
    ⊎_elim
    (λ (old : Among (g, t) p.awaits). all g t (subst (λ (x : Facts). Among (g, t) x.awaits) same old))
    (λ (e : None ≡ Some g). absurd (none_some e))
    (behind g t among)
  where
    none_some : None ≡ Some g → ⊥
    none_some e = cc
