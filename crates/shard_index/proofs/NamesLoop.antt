-- The loop over the names of an index: what is left to read, step by step.
use Rattle.std.proofs.Common.{◌≡◌, refl, sym, ◌∙◌, ap, ℕ, ◌+◌, ◌-◌, ◌<◌, ◌≤◌, Bool, true, false, ◌||◌, List, [], ◌∷◌, ◌++◌, map}
use Rattle.std.specs.Prelude.{Ok, Err}
use Rattle.std.specs.List.{IsDistinct, AllByRecursion}
use Rattle.std.specs.Str.{bytes_eq}
use Rattle.std.proofs.lemmas.List.Folds.{list_any-append}
use Rattle.digest_gate.specs.declared.digest.Digest.{Digest}
use Rattle.gateway_words.specs.Places.{Position}
use Rattle.mp_codec.specs.declared.fault.FormatFault.{FormatFault}
use Rattle.mp_codec.proofs.BindLemmas.{bind_ok, bind_err}
use Rattle.mp_codec.proofs.EntryLemmas.{goes_on, key_stops, value_stops, is_done}
use Rattle.shard_index.specs.Digests.{digest_from}
use Rattle.shard_index.specs.Index.{Listed}
use Rattle.mp_codec.specs.Names.{new_name_from}
use Rattle.mp_codec.proofs.NameMapLemmas.{same_met}
use Rattle.shard_index.specs.Reading.{is_listed, AreDistinct, name_from, listed_value_from, listed_end_from, listed_after}

-- a name with its digest
abbrev pub entry : List ℕ → Digest → Listed
entry name digest = record { name = name; digest = digest }

module _ (met : List ℕ → Bool) (listed : List Listed) (known : (q : List ℕ) → met q ≡ is_listed q listed) where
  pub name_goes_on : (n i : ℕ) (name : List ℕ) (digest : Digest) (here mid there : Position) → i < n → new_name_from met here ≡ Ok (name, mid) → digest_from mid ≡ Ok (digest, there)
      → listed_after (n - i) listed here ≡ listed_after (n - (i + 1)) (listed ++ entry name digest ∷ []) there
  unfolding listed_value_from
  name_goes_on n i name digest here mid there lt at_name at_digest =
      goes_on name_from listed_value_from listed_end_from n i listed (listed ++ entry name digest ∷ []) name here mid there lt
      (sym (same_met met (λ q. is_listed q listed) here known) ∙ at_name)
      (bind_ok (digest_from mid) (λ d. Ok (listed ++ entry name d.0 ∷ [], d.1)) (digest, there) at_digest)

  pub name_stops : (n i : ℕ) (f : FormatFault) (here : Position) → i < n → new_name_from met here ≡ Err f → listed_after (n - i) listed here ≡ Err f
  name_stops n i f here lt at_name = key_stops name_from listed_value_from listed_end_from n i listed f here lt (sym (same_met met (λ q. is_listed q listed) here known) ∙ at_name)

  pub digest_stops : (n i : ℕ) (name : List ℕ) (f : FormatFault) (here mid : Position) → i < n → new_name_from met here ≡ Ok (name, mid) → digest_from mid ≡ Err f
      → listed_after (n - i) listed here ≡ Err f
  unfolding listed_value_from
  digest_stops n i name f here mid lt at_name at_digest =
      value_stops name_from listed_value_from listed_end_from n i listed name f here mid lt
      (sym (same_met met (λ q. is_listed q listed) here known) ∙ at_name)
      (bind_err (digest_from mid) (λ d. Ok (listed ++ entry name d.0 ∷ [], d.1)) f at_digest)

pub names_done : (n i : ℕ) (listed : List Listed) (here : Position) → n ≤ i → listed_after (n - i) listed here ≡ Ok (listed, here)
names_done n i listed here le = is_done name_from listed_value_from listed_end_from n i listed here le

-- a name was met where it is that of the entry that was added, or was met before
pub is_listed_more : (listed : List Listed) (x : Listed) (met : Bool) (q : List ℕ) → met ≡ is_listed q listed → (bytes_eq x.name q || met) ≡ is_listed q (listed ++ x ∷ [])
is_listed_more listed x met q e = ap (λ (b : Bool). bytes_eq x.name q || b) e ∙ swap (bytes_eq x.name q) (is_listed q listed) ∙ sym (list_any-append (λ r. bytes_eq r.name q) listed (x ∷ []))
  where
    swap : (a b : Bool) → (a || b) ≡ (b || (a || false))
    swap true true = refl
    swap true false = refl
    swap false true = refl
    swap false false = refl

-- no names differ
pub distinct_none : AreDistinct []
unfolding IsDistinct
distinct_none = tt

-- names that differ, with a name more that is none of them, differ
pub distinct_more : (listed : List Listed) (x : Listed) → AreDistinct listed → is_listed x.name listed ≡ false → AreDistinct (listed ++ x ∷ [])
unfolding IsDistinct
distinct_more [] x d new = (tt, tt)
distinct_more (y ∷ ys) x d new =
    let apart = both_false (bytes_eq y.name x.name) (is_listed x.name ys) new in
    (further ys d.0 apart.0, distinct_more ys x d.1 apart.1)
  where
    both_false : (a b : Bool) → (a || b) ≡ false → (a ≡ false) × (b ≡ false)
    both_false true b e = absurd (cc)
    both_false false b e = (refl, e)

    further : (zs : List Listed) → AllByRecursion (λ q. bytes_eq y.name q ≡ false) (map (λ z. z.name) zs) → bytes_eq y.name x.name ≡ false → AllByRecursion (λ q. bytes_eq y.name q ≡ false) (map (λ z. z.name) (zs ++ x ∷ []))
    further [] a new = (new, tt)
    further (z ∷ zs) a new = (a.0, further zs a.1 new)
