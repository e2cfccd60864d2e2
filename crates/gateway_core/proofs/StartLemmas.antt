-- A world before its first event.
use Rattle.std.specs.Prelude.{◌≡◌, ◌+◌, ◌*◌, ◌<◌, ℕ, zero, suc, true, false, List, [], ◌∷◌, ◌++◌, map, length, slice_get, Option, Some, None, Result, Ok, Err, IfOk, IfErr, refl}
use Rattle.std.specs.List.{enumerate_from, flat_map, slice_index_or}
use Rattle.std.specs.Option.{option_map}
use Rattle.std.proofs.Common.{sym, ◌∙◌, ap, subst, arith, true≢false}
use Rattle.std.proofs.Math.Nat.{suc-mul}
use Rattle.std.proofs.lemmas.List.{length-map}
use Rattle.std.proofs.lemmas.List.Concat.{flat_map-cons}
use Rattle.std.proofs.lemmas.Option.{same_Some, none-some, slice_get-map, slice_get-get_or, slice_get_within, get_or_from_slice_get}
use Rattle.link_io.specs.Conn.{LinkFacts}
use Rattle.link_io.specs.Origin.{Origin}
use Rattle.link_io.specs.declared.target.Target.{Target}
use Rattle.closure_request.specs.Request.{Asking, Site}
use Rattle.closure_request.specs.Slots.{Slot, no_slot, slots, slots_of}
use Rattle.flight_journal.specs.Journal.{after, after_from}
use Rattle.flight_journal.specs.State.{is_open}
use Rattle.flight_rows.specs.Sight.{Sight}
use Rattle.flight_table.specs.Doors.{Gate, TellsDoor, first_door}
use Rattle.flight_table.specs.Facts.{Facts}
use Rattle.query_needs.specs.Targets.{IsFormed, IsFormedSlot}
use Rattle.gateway_core.specs.declared.world.Place.{Place}
use Rattle.gateway_core.specs.declared.world.Place.TheVariants.{Unopened}
use Rattle.gateway_core.specs.declared.world.World.{World}
use Rattle.gateway_core.specs.Places.{IsFor, IsWell, facts_at}
use Rattle.gateway_core.specs.declared.world.Event.{Event}
use Rattle.gateway_core.specs.declared.world.ScheduleRefusal.{ScheduleRefusal}
use Rattle.gateway_core.specs.declared.world.ScheduleRefusal.TheVariants as refusal
use Rattle.gateway_core.specs.Schedules.{Begins, IsRefused, IsStopped, Ran, Runs}
use Rattle.gateway_core.specs.Sound.{AreFormed, AreSound, Fits, IsSound, IsWholeDoor, first_channels, first_subdirs, no_site}

-- ---- the slot of a channel and a subdir

get_left : {X : Type 0} (xs ys : List X) (i : ℕ) → i < length xs → slice_get (xs ++ ys) i ≡ slice_get xs i
get_left [] ys i h = absurd (omega arith)
get_left (x ∷ xs) ys zero h = refl
get_left (x ∷ xs) ys (suc i) h = get_left xs ys i (omega arith)

get_add : {X : Type 0} (xs ys : List X) (i : ℕ) → slice_get (xs ++ ys) (length xs + i) ≡ slice_get ys i
get_add [] ys i = ap (slice_get ys) (omega arith)
get_add (x ∷ xs) ys i = let e : length (x ∷ xs) + i ≡ suc (length xs + i) = omega arith in ap (slice_get (x ∷ xs ++ ys)) e ∙ get_add xs ys i

get_map : {A B : Type 0} (f : A → B) (xs : List A) (i : ℕ) (d : A) → i < length xs → slice_get (map f xs) i ≡ Some (f (slice_index_or xs i d))
get_map f xs i d h = slice_get-map f xs i ∙ ap (option_map f) (slice_get-get_or xs i d h)

slot_there : (subdirs : List (List ℕ)) (channels : List Site) (k c s : ℕ) → c < length channels → s < length subdirs →
    slice_get (flat_map (slots_of subdirs) (enumerate_from k channels)) (c * length subdirs + s) ≡ Some (record { channel = slice_index_or channels c no_site; rank = k + c; subdir = slice_index_or subdirs s [] })
slot_there subdirs [] k c s h l = absurd (omega arith)
slot_there subdirs (x ∷ xs) k zero s h l =
    let f : List ℕ → Slot = λ subdir. record { channel = x; rank = k; subdir = subdir } in
    let rest : List Slot = flat_map (slots_of subdirs) (enumerate_from (k + 1) xs) in
    let e : flat_map (slots_of subdirs) (enumerate_from k (x ∷ xs)) ≡ map f subdirs ++ rest = flat_map-cons (slots_of subdirs) (k, x) (enumerate_from (k + 1) xs) in
    let a : zero * length subdirs + s ≡ s = omega arith in
    let n : length (map f subdirs) ≡ length subdirs = length-map subdirs f in
    let b : s < length (map f subdirs) = omega arith in
    let z : k ≡ k + zero = omega arith in
    ap (λ xs. slice_get xs (zero * length subdirs + s)) e ∙ ap (slice_get (map f subdirs ++ rest)) a ∙ get_left (map f subdirs) rest s b ∙ get_map f subdirs s [] l
    ∙ ap (λ r. Some (record { channel = x; rank = r; subdir = slice_index_or subdirs s [] })) z
slot_there subdirs (x ∷ xs) k (suc c) s h l =
    let f : List ℕ → Slot = λ subdir. record { channel = x; rank = k; subdir = subdir } in
    let rest : List Slot = flat_map (slots_of subdirs) (enumerate_from (k + 1) xs) in
    let e : flat_map (slots_of subdirs) (enumerate_from k (x ∷ xs)) ≡ map f subdirs ++ rest = flat_map-cons (slots_of subdirs) (k, x) (enumerate_from (k + 1) xs) in
    let n : length (map f subdirs) ≡ length subdirs = length-map subdirs f in
    let d : suc c * length subdirs ≡ c * length subdirs + length subdirs = suc-mul c (length subdirs) in
    let a : suc c * length subdirs + s ≡ length (map f subdirs) + (c * length subdirs + s) = omega arith in
    let z : k + 1 + c ≡ k + suc c = omega arith in
    let b : c < length xs = omega arith in
    ap (λ xs. slice_get xs (suc c * length subdirs + s)) e ∙ ap (slice_get (map f subdirs ++ rest)) a ∙ get_add (map f subdirs) rest (c * length subdirs + s) ∙ slot_there subdirs xs (k + 1) c s b l
    ∙ ap (λ r. Some (record { channel = slice_index_or xs c no_site; rank = r; subdir = slice_index_or subdirs s [] })) z

formed_slots : (r : Asking) → IsFormed r → AreFormed r.channels r.subdirs
formed_slots r h c s l m =
    let i : ℕ = c * length r.subdirs + s in
    let x : Slot = record { channel = slice_index_or r.channels c no_site; rank = c; subdir = slice_index_or r.subdirs s [] } in
    let z : 0 + c ≡ c = omega arith in
    let e : slice_get (slots r) i ≡ Some x = slot_there r.subdirs r.channels 0 c s l m ∙ ap (λ n. Some (record { channel = slice_index_or r.channels c no_site; rank = n; subdir = slice_index_or r.subdirs s [] })) z in
    subst IsFormedSlot (get_or_from_slice_get (slots r) i x no_slot e) (h i (slice_get_within (slots r) i x e))

first_formed : (rs : List Asking) → ((i : ℕ) (r : Asking) → slice_get rs i ≡ Some r → IsFormed r) → AreFormed (first_channels rs) (first_subdirs rs)
first_formed [] h c s l m = absurd (omega arith)
first_formed (r ∷ rs) h c s l m = formed_slots r (h 0 r refl) c s l m

-- ---- places at which requests wait
no_facts : (N D L : Type 0) (rs : List Asking) (i : ℕ) → facts_at {N = N} {D = D} {L = L} (map Unopened rs) i ≡ None
no_facts N D L [] i = refl
no_facts N D L (r ∷ rs) zero = refl
no_facts N D L (r ∷ rs) (suc i) = no_facts N D L rs i

module _ {N D L : Type 0} where
  waiting : (rs : List Asking) (i : ℕ) (p : Place N D L) → slice_get (map Unopened rs) i ≡ Some p → (r : Asking) × (slice_get rs i ≡ Some r) × (p ≡ Unopened r)
  waiting [] i p e = absurd (none-some p e)
  waiting (r ∷ rs) zero p e = (r, refl, sym (same_Some (Unopened r) p e))
  waiting (r ∷ rs) (suc i) p e = waiting rs i p e

  pub fits_new : (keep : ℕ) (dialed : List Target) (origin : Origin) (rs : List Asking) (w : World N D L) → w.places.items ≡ map Unopened rs → w.channels.items ≡ first_channels rs → w.subdirs.items ≡ first_subdirs rs → Fits rs w
  fits_new keep dialed origin rs w p c s = record {
    many = ap length p ∙ length-map rs Unopened;
    places = λ i x e. let y = waiting rs i x (ap (λ (z : List (Place N D L)). slice_get z i) (sym p) ∙ e) in (y.0, y.1, subst (λ z. IsFor y.0 z) (sym y.2) refl);
    channels = c;
    subdirs = s;
  }

  module _ (facts : L → LinkFacts) (from : L → Origin → Type 0) where
    new_places : (keep : ℕ) (dialed : List Target) (origin : Origin) (rs : List Asking) → ((i : ℕ) (r : Asking) → slice_get rs i ≡ Some r → IsFormed r) → AreSound {N = N} {D = D} facts from (record { journal = []; keep = keep; start = dialed; dialed = dialed; origin = origin; hands = [] }) (map Unopened rs)
    unfolding after_from
    new_places keep dialed origin rs h = record {
      told = λ i f e. absurd (none-some f (sym (no_facts N D L rs i) ∙ e));
      apart = λ i j f g e d q. absurd (none-some f (sym (no_facts N D L rs i) ∙ e));
      opens = λ q o. absurd (true≢false (sym o));
      well = λ i p e. let y = waiting rs i p e in subst (λ z. IsWell facts from z) (sym y.2) (h i y.0 y.1);
    }

    pub sound_new : (keep : ℕ) (dialed : List Target) (origin : Origin) (rs : List Asking) (w : World N D L) → ((i : ℕ) (r : Asking) → slice_get rs i ≡ Some r → IsFormed r) → Begins keep dialed origin rs w → IsSound facts from w
    sound_new keep dialed origin rs w h b = record {
      places = subst (λ z. AreSound facts from z w.places.items) (sym b.table) (subst (λ z. AreSound facts from (record { journal = []; keep = keep; start = dialed; dialed = dialed; origin = origin; hands = [] }) z) (sym b.places) (new_places keep dialed origin rs h));
      door = subst (λ z. IsWholeDoor z w.door) (sym b.table) (subst (λ z. IsWholeDoor (record { journal = []; keep = keep; start = dialed; dialed = dialed; origin = origin; hands = [] }) z) (sym b.door) (record { weight = refl; told = record { keep = refl; start = refl; origin = refl; opened = λ _. refl; cancelled = λ _. refl; refreshed = λ _. refl } }));
      formed = subst (λ z. AreFormed z w.subdirs.items) (sym b.channels) (subst (λ z. AreFormed (first_channels rs) z) (sym b.subdirs) (first_formed rs h));
    }

    -- the events ran from a world before its first event
    pub runs_from : (keep : ℕ) (dialed : List Target) (origin : Origin) (rs : List Asking) (es : List Event) (w v : World N D L) → Begins keep dialed origin rs w → IsSound facts from v × Ran facts from es w v × ((xs : List Asking) → Fits xs w → Fits xs v) → Runs facts from keep dialed origin rs es v
    runs_from keep dialed origin rs es w v b h = record { first = w; begins = b; ran = h.1; sound = h.0; fits = h.2 rs (fits_new keep dialed origin rs w b.places b.channels b.subdirs) }

    -- they stopped, from such a world on
    pub refused_from : (dial : D) (dialed_of : D → List Target) (origin_of : D → Origin) (keep : ℕ) (rs : List Asking) (es : List Event) (w : World N D L) (r : ScheduleRefusal N D L) → Begins keep (dialed_of dial) (origin_of dial) rs w → IsStopped facts from w es r → IsRefused facts from dial dialed_of origin_of keep rs es r
    refused_from dial dialed_of origin_of keep rs es w (refusal.NotEnabled n v) b h = (w, b, h.0, h.1, h.2 rs (fits_new keep (dialed_of dial) (origin_of dial) rs w b.places b.channels b.subdirs))
    refused_from dial dialed_of origin_of keep rs es w (refusal.Memory d) b h = absurd h

pub if_ok : {A E : Type 0} (r : Result A E) (P Q : A → Type 0) → ((a : A) → P a → Q a) → IfOk r P → IfOk r Q
if_ok (Ok a) P Q f h = f a h
if_ok (Err e) P Q f h = h

pub if_err : {A E : Type 0} (r : Result A E) (P Q : E → Type 0) → ((e : E) → P e → Q e) → IfErr r P → IfErr r Q
if_err (Ok a) P Q f h = h
if_err (Err e) P Q f h = f e h
