-- Places made of names, and the place of the slot of a number.
use Rattle.std.proofs.Common.{◌≡◌, ℕ, ◌+◌, ◌<◌, ◌==◌, Bool, true, false, List, [], ◌∷◌, ◌++◌, length, map, get_or, refl, sym, ap, ◌∙◌, arith, length-append}
use Rattle.std.specs.List.{list_all, position_or_len}
use Rattle.std.proofs.Math.ListN.{get_or-append}
use Rattle.std.proofs.Math.Seq.{take-append_seam, drop-append-add, get_or-append_seam}
use Rattle.std.proofs.lemmas.List.{map-append}
use Rattle.std.proofs.lemmas.List.Folds.{list_all_at}
use Rattle.std.proofs.lemmas.List.Sums.{position_or_len_is}
use Rattle.std.specs.Prelude.{take, drop, Result, Ok, Err, IfOk, codes}
use Rattle.std.specs.List.{flat_map, enumerate_from}
use Rattle.std.proofs.Common.{append_assoc}
use Rattle.gateway_words.specs.Ascii.{slash}
use Rattle.channel_store.specs.Names.{is_channel_byte, is_channel_name, is_subdir_name, is_place, channel_of, subdir_of}
use Rattle.closure_request.specs.Request.{Asking}
use Rattle.closure_request.specs.Reading.{specs_of, Read}
use Rattle.match_spec.specs.Parts.{Meaning}
use Rattle.gateway_words.specs.Reading.{◌>>=◌}
use Rattle.closure_request.specs.Slots.{slots_of}
use Rattle.store_closure.specs.Asked.{Asked, site_of, request_in}
use Rattle.store_closure.specs.Places.{place, place_of, places_of, slot_places}

-- a byte of a channel name is no slash
no_slash : (b : ℕ) → is_channel_byte b ≡ true → (b == slash) ≡ false
no_slash b h = grind arith

channel_bytes : (name : List ℕ) → is_channel_name name ≡ true → list_all is_channel_byte name ≡ true
channel_bytes name h = grind arith

module _ (channel subdir : List ℕ) (named : is_channel_name channel ≡ true) where
  within : (k : ℕ) → k < length channel → (get_or channel k 0 == slash) ≡ false
  within k lt = by (is_channel_byte (get_or channel k 0)) refl where
    by : (b : Bool) → is_channel_byte (get_or channel k 0) ≡ b → (get_or channel k 0 == slash) ≡ false
    by true h = no_slash (get_or channel k 0) h
    by false h = absurd (cc (list_all_at is_channel_byte channel k 0 lt h, channel_bytes channel named))

  cut_place : position_or_len (λ b. b == slash) (channel ++ slash ∷ subdir) ≡ length channel
  cut_place = position_or_len_is (λ b. b == slash) (channel ++ slash ∷ subdir) (length channel) 0 (omega (arith, length-append channel (slash ∷ subdir)))
      (λ k lt. ap (λ b. b == slash) (get_or-append channel (slash ∷ subdir) 0 k lt) ∙ within k lt)
      (λ _. ap (λ b. b == slash) (get_or-append_seam channel slash subdir 0))

  its_channel : channel_of (place channel subdir) ≡ channel
  its_channel = ap (λ n. take n (channel ++ slash ∷ subdir)) cut_place ∙ take-append_seam channel (slash ∷ subdir)

  its_subdir : subdir_of (place channel subdir) ≡ subdir
  its_subdir = ap (λ n. drop (n + 1) (channel ++ slash ∷ subdir)) cut_place ∙ drop-append-add channel (slash ∷ subdir) 1

  -- a channel name, a slash and a subdir name are a place
  pub is_place_of : is_subdir_name subdir ≡ true → is_place (place channel subdir) ≡ true
  is_place_of below = rw (its_channel, its_subdir, named, below) refl

-- a text that is made of names is a place
pub placed : {E : Type 0} (r : Result (List ℕ) E) (front channel subdir : List ℕ) → front ≡ channel ++ codes "/" → is_channel_name channel ≡ true → is_subdir_name subdir ≡ true
    → IfOk r (λ text. text ≡ front ++ subdir) → IfOk r (λ text. is_place text ≡ true)
placed (Ok text) front channel subdir made named below is =
    ap is_place (is ∙ ap (λ (t : List ℕ). t ++ subdir) made ∙ append_assoc channel (codes "/") subdir) ∙ is_place_of channel subdir named below
placed (Err e) front channel subdir made named below is = tt

-- the places of the subdirs of a channel
places_in : (name : List ℕ) (rank : ℕ) (subdirs : List (List ℕ)) → map place_of (slots_of subdirs (rank, site_of name)) ≡ map (place name) subdirs
places_in name rank [] = refl
places_in name rank (d ∷ ds) = ap (λ ps. place name d ∷ ps) (places_in name rank ds)

-- the places of the slots of channels and subdirs
places_from : (names subdirs : List (List ℕ)) (rank : ℕ) → map place_of (flat_map (slots_of subdirs) (enumerate_from rank (map site_of names))) ≡ places_of names subdirs
places_from [] subdirs rank = refl
places_from (n ∷ ns) subdirs rank =
    map-append place_of (slots_of subdirs (rank, site_of n)) (flat_map (slots_of subdirs) (enumerate_from (rank + 1) (map site_of ns)))
    ∙ ap (λ ps. ps ++ map place_of (flat_map (slots_of subdirs) (enumerate_from (rank + 1) (map site_of ns)))) (places_in n rank subdirs)
    ∙ ap (λ ps. map (place n) subdirs ++ ps) (places_from ns subdirs (rank + 1))

-- the slots of a request of a line are those of what is asked
pub places_fit : (a : Asked) (line : List ℕ) (r : Asking) → request_in a line ≡ Ok r → slot_places r ≡ places_of a.channels a.subdirs
places_fit a line r is = go (specs_of line) is
  where
    go : (specs : Read (List Meaning)) → (specs >>= λ specs. Ok (record { channels = map site_of a.channels; subdirs = a.subdirs; specs = specs; flat = a.flat; format = a.format; priority = a.priority })) ≡ Ok r
        → slot_places r ≡ places_of a.channels a.subdirs
    go (Ok specs) e =
        let made : record { channels = map site_of a.channels; subdirs = a.subdirs; specs = specs; flat = a.flat; format = a.format; priority = a.priority } ≡ r = cc in
        ap slot_places (sym made) ∙ places_from a.channels a.subdirs 0
    go (Err f) e = absurd cc
