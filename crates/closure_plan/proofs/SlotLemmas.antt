-- The slots of a request, by number.
use Rattle.std.proofs.Common.{◌≡◌, ℕ, zero, suc, ◌+◌, arith, List, [], ◌∷◌, ◌++◌, map, length, flat_map, refl, sym, ap, subst, ◌∙◌, Some, None}
use Rattle.std.specs.List.{All, AllByRecursion, range_with_len, enumerate_from, slice_get, slice_index_or}
use Rattle.std.specs.Option.{option_map}
use Rattle.std.proofs.lemmas.Option.{slice_get-get_or, slice_get-map, slice_get_within}
use Rattle.closure_plan.proofs.AllLemmas.{all_lists, all_numbers, all_unmapped}
use Rattle.std.proofs.lemmas.List.{map-append}
use Rattle.closure_plan.specs.declared.sources.Place.{Place}
use Rattle.closure_request.specs.Request.{Asking, Site}
use Rattle.closure_request.specs.Slots.{Slot, slots, slots_of}
use Rattle.closure_plan.specs.Sources.{IsWithin, slot_of}
use Rattle.closure_plan.specs.Start.{places_in, unpinned}
use Rattle.closure_plan.proofs.RowLemmas.{range_more}

-- the elements from a place on, by number
by_number : {A B : Type 0} (f : ℕ → A → B) (d : A) (all xs : List A) (a : ℕ) → ((i : ℕ) → slice_index_or all (a + i) d ≡ slice_index_or xs i d) → map (λ i. f i (slice_index_or all i d)) (range_with_len a (length xs)) ≡ map (λ p. f p.0 p.1) (enumerate_from a xs)
by_number f d all [] a same = refl
by_number f d all (x ∷ xs) a same =
    let here : slice_index_or all a d ≡ x = ap (λ i. slice_index_or all i d) (let e : a ≡ a + 0 = omega arith in e) ∙ same 0 in
    ap (λ y. f a y ∷ map (λ i. f i (slice_index_or all i d)) (range_with_len (a + 1) (length xs))) here
    ∙ ap (λ ys. f a x ∷ ys) (by_number f d all xs (a + 1) (λ i. ap (λ j. slice_index_or all j d) (let e : a + 1 + i ≡ a + suc i = omega arith in e) ∙ same (suc i)))

second : {A B : Type 0} (f : A → B) (a : ℕ) (xs : List A) → map (λ p. f p.1) (enumerate_from a xs) ≡ map f xs
second f a [] = refl
second f a (x ∷ xs) = ap (λ ys. f x ∷ ys) (second f (a + 1) xs)

map_map : {A B C : Type 0} (g : B → C) (f : A → B) (xs : List A) → map g (map f xs) ≡ map (λ x. g (f x)) xs
map_map g f [] = refl
map_map g f (x ∷ xs) = ap (λ ys. g (f x) ∷ ys) (map_map g f xs)

map_flat : {A B C : Type 0} (g : B → C) (f : A → List B) (xs : List A) → map g (flat_map f xs) ≡ flat_map (λ x. map g (f x)) xs
map_flat g f [] = refl
map_flat g f (x ∷ xs) = map-append g (f x) (flat_map f xs) ∙ ap (λ ys. map g (f x) ++ ys) (map_flat g f xs)

flat_as_map : {A B : Type 0} (f : A → List B) (xs : List A) → flat_map f xs ≡ flat_map (λ l. l) (map f xs)
flat_as_map f [] = refl
flat_as_map f (x ∷ xs) = ap (λ ys. f x ++ ys) (flat_as_map f xs)

abbrev no_site : Site
no_site = record { name = []; base = [] }

module _ (r : Asking) where
  one_channel : (c : ℕ) → map (slot_of r) (places_in (length r.subdirs) c) ≡ slots_of r.subdirs (c, slice_index_or r.channels c no_site)
  one_channel c =
      let f : List ℕ → Slot = λ s. record { channel = slice_index_or r.channels c no_site; rank = c; subdir = s } in
      map_map (slot_of r) (λ d. record { channel = c; subdir = d }) (range_with_len 0 (length r.subdirs))
      ∙ by_number (λ i. f) [] r.subdirs r.subdirs 0 (λ i. ap (λ j. slice_index_or r.subdirs j []) (let e : 0 + i ≡ i = omega arith in e))
      ∙ second f 0 r.subdirs

  -- the places are those of the slots
  pub places_are : map (slot_of r) (flat_map (places_in (length r.subdirs)) (range_with_len 0 (length r.channels))) ≡ slots r
  places_are =
      let f : ℕ → Site → List Slot = λ c s. slots_of r.subdirs (c, s) in
      map_flat (slot_of r) (places_in (length r.subdirs)) (range_with_len 0 (length r.channels))
      ∙ (λ k. flat_map (λ c. one_channel c k) (range_with_len 0 (length r.channels)))
      ∙ flat_as_map (λ c. f c (slice_index_or r.channels c no_site)) (range_with_len 0 (length r.channels))
      ∙ ap (flat_map (λ l. l)) (by_number f no_site r.channels r.channels 0 (λ i. ap (λ j. slice_index_or r.channels j no_site) (let e : 0 + i ≡ i = omega arith in e)))
      ∙ sym (flat_as_map (slots_of r.subdirs) (enumerate_from 0 r.channels))

-- a list with one number more
pub map_more : {B : Type 0} (f : ℕ → B) (k : ℕ) → map f (range_with_len 0 (k + 1)) ≡ map f (range_with_len 0 k) ++ f k ∷ []
map_more f k = ap (map f) (range_more 0 k) ∙ map-append f (range_with_len 0 k) ((0 + k) ∷ []) ∙ ap (λ j. map f (range_with_len 0 k) ++ f j ∷ []) (let e : 0 + k ≡ k = omega arith in e)

pub unpinned_more : {P : Type 0} (k : ℕ) → unpinned {P = P} (k + 1) ≡ unpinned k ++ None ∷ []
unpinned_more zero = refl
unpinned_more {P} (suc k) = let e : suc k + 1 ≡ suc (k + 1) = omega arith in ap (unpinned {P = P}) e ∙ ap (λ xs. None ∷ xs) (unpinned_more k)

pub unpinned_length : (P : Type 0) (k : ℕ) → length (unpinned {P = P} k) ≡ k
unpinned_length P zero = refl
unpinned_length P (suc k) = ap suc (unpinned_length P k)

-- ---- what stands at a slot

-- the numbers of each place are those of a channel and a subdir
pub all_within : (subdirs channels : ℕ) → AllByRecursion (IsWithin channels subdirs) (flat_map (places_in subdirs) (range_with_len 0 channels))
all_within subdirs channels = all_lists (IsWithin channels subdirs) (places_in subdirs) (range_with_len 0 channels)
    (all_numbers (λ c. AllByRecursion (IsWithin channels subdirs) (places_in subdirs c)) 0 channels (λ c low high.
    all_unmapped (IsWithin channels subdirs) (λ d. record { channel = c; subdir = d }) (range_with_len 0 subdirs)
    (all_numbers (λ d. IsWithin channels subdirs (record { channel = c; subdir = d })) 0 subdirs (λ d least most. (omega arith, omega arith)))))

module _ (r : Asking) (places : List Place) (are : map (slot_of r) places ≡ slots r) where
  -- the slot of a number is that of its place
  pub slot_is : (s : ℕ) → slice_get (slots r) s ≡ option_map (slot_of r) (slice_get places s)
  slot_is s = ap (λ xs. slice_get xs s) (sym are) ∙ slice_get-map (slot_of r) places s

  pub no_site_at : (s : ℕ) → slice_get places s ≡ None → option_map (λ (x : Slot). x.channel) (slice_get (slots r) s) ≡ None
  no_site_at s e = ap (option_map (λ (x : Slot). x.channel)) (slot_is s ∙ ap (option_map (slot_of r)) e)

  pub no_subdir_at : (s : ℕ) → slice_get places s ≡ None → option_map (λ (x : Slot). x.subdir) (slice_get (slots r) s) ≡ None
  no_subdir_at s e = ap (option_map (λ (x : Slot). x.subdir)) (slot_is s ∙ ap (option_map (slot_of r)) e)

  module _ (within : All (IsWithin (length r.channels) (length r.subdirs)) places) where
    place_within : (s : ℕ) (p : Place) → slice_get places s ≡ Some p → IsWithin (length r.channels) (length r.subdirs) p
    place_within s p e =
        let low = slice_get_within places s p e in
        let both : Some (slice_index_or places s p) ≡ Some p = sym (slice_get-get_or places s p low) ∙ e in
        let is : slice_index_or places s p ≡ p = cc in
        subst (IsWithin (length r.channels) (length r.subdirs)) is (within s p low)

    pub site_at : (s : ℕ) (p : Place) → slice_get places s ≡ Some p → slice_get r.channels p.channel ≡ option_map (λ (x : Slot). x.channel) (slice_get (slots r) s)
    site_at s p e =
        slice_get-get_or r.channels p.channel no_site (place_within s p e).0
        ∙ sym (ap (option_map (λ (x : Slot). x.channel)) (slot_is s ∙ ap (option_map (slot_of r)) e))

    pub subdir_at : (s : ℕ) (p : Place) → slice_get places s ≡ Some p → slice_get r.subdirs p.subdir ≡ option_map (λ (x : Slot). x.subdir) (slice_get (slots r) s)
    subdir_at s p e =
        slice_get-get_or r.subdirs p.subdir [] (place_within s p e).1
        ∙ sym (ap (option_map (λ (x : Slot). x.subdir)) (slot_is s ∙ ap (option_map (slot_of r)) e))
