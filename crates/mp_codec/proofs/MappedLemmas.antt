-- A map that is read by known keys, with what was read turned into something else at its end.
use Rattle.std.proofs.Common.{◌≡◌, refl, ◌∙◌, ap, ℕ, zero, suc, List, [], ◌∷◌}
use Rattle.std.specs.Prelude.{Ok, Err, Option}
use Rattle.gateway_words.specs.Places.{Position}
use Rattle.gateway_words.specs.Reading.{◌>>=◌}
use Rattle.mp_codec.specs.Value.{Value, Pairs}
use Rattle.mp_codec.specs.Keys.{value_at}
use Rattle.mp_codec.specs.Maps.{Read, entries_from, map_head_from, map_from, unread, known_key_from, known_value_from, known_end_from, known_map_from}
use Rattle.mp_codec.proofs.KeyLemmas.{KnowsFrom, datum_at}

-- what was read, turned by a function
abbrev pub turned : {X Y : Type 0} → (X → Y) → Read X → Read Y
turned f r = r >>= λ x. Ok (f x.0, x.1)

entries_turned : {S K X Y : Type 0} (key : S → Position → Read K) (value : S → K → Position → Read S) (end : S → Position → Read X) (f : X → Y) (n : ℕ) (s : S) (here : Position)
    → entries_from key value (λ s here. turned f (end s here)) n s here ≡ turned f (entries_from key value end n s here)
unfolding entries_from
entries_turned key value end f zero s here = refl
entries_turned {S} {K} {X} {Y} key value end f (suc n) s here = go (key s here) (λ s here. entries_turned key value end f n s here)
  where
    pair : (r : Read S) → ((s : S) (here : Position) → entries_from key value (λ s here. turned f (end s here)) n s here ≡ turned f (entries_from key value end n s here))
        → (r >>= λ t. entries_from key value (λ s here. turned f (end s here)) n t.0 t.1) ≡ turned f (r >>= λ t. entries_from key value end n t.0 t.1)
    pair (Ok t) rest = rest t.0 t.1
    pair (Err g) rest = refl

    go : (r : Read K) → ((s : S) (here : Position) → entries_from key value (λ s here. turned f (end s here)) n s here ≡ turned f (entries_from key value end n s here))
        → (r >>= λ k. value s k.0 k.1 >>= λ t. entries_from key value (λ s here. turned f (end s here)) n t.0 t.1) ≡ turned f (r >>= λ k. value s k.0 k.1 >>= λ t. entries_from key value end n t.0 t.1)
    go (Ok k) rest = pair (value s k.0 k.1) rest
    go (Err g) rest = refl

-- a map of known keys with what was read turned at its end is the map, turned
pub known_map_turned : {D Y : Type 0} (names : List (List ℕ)) (required : ℕ) (datum_from : ℕ → Position → Read D) (f : List (Option D) → Y) (here : Position)
    → map_from (λ n there. entries_from (known_key_from names) (known_value_from names datum_from) (λ s here. turned f (known_end_from required s here)) n (unread names) there) here
    ≡ turned f (known_map_from names required datum_from here)
unfolding map_from known_map_from
known_map_turned {D} {Y} names required datum_from f here = go (map_head_from here)
  where
    go : (r : Read ℕ) → (r >>= λ n. entries_from (known_key_from names) (known_value_from names datum_from) (λ s here. turned f (known_end_from required s here)) n.0 (unread names) n.1)
        ≡ turned f (r >>= λ n. entries_from (known_key_from names) (known_value_from names datum_from) (known_end_from required) n.0 (unread names) n.1)
    go (Ok n) = entries_turned (known_key_from names) (known_value_from names datum_from) (known_end_from required) f n.0 (unread names) n.1
    go (Err g) = refl

-- ---- what is known, as a list

-- what stands behind each key, from place n on
abbrev pub data_of : {D : Type 0} → (ℕ → Value → D) → ℕ → List (List ℕ) → Pairs → List (Option D)
data_of datum n [] ps = []
data_of datum n (name ∷ names) ps = datum_at (datum n) (value_at name ps) ∷ data_of datum (suc n) names ps

pub knows_is : {D : Type 0} (datum : ℕ → Value → D) (n : ℕ) (names : List (List ℕ)) (s : List (Option D)) (ps : Pairs) → KnowsFrom datum n names s ps → s ≡ data_of datum n names ps
knows_is datum n [] [] ps k = refl
knows_is datum n [] (o ∷ s) ps k = absurd k
knows_is datum n (name ∷ names) [] ps k = absurd k
knows_is {D} datum n (name ∷ names) (o ∷ s) ps k = ap (λ (o : Option D). o ∷ s) k.0 ∙ ap (λ (s : List (Option D)). datum_at (datum n) (value_at name ps) ∷ s) (knows_is datum (suc n) names s ps k.1)
