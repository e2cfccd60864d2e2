-- Names in a set, with one name more.
use Rattle.std.proofs.Common.{◌≡◌, refl, sym, ◌∙◌, ap, ℕ, Bool, true, false, ◌||◌, List, [], ◌∷◌}
use Rattle.std.specs.List.{list_any}
use Rattle.std.specs.Str.{bytes_eq}
use Rattle.std.specs.Borrow.{Bor}
use Rattle.std.specs.Cmp.Lexicographic.{slice_cmp}
use Rattle.std.specs.Ordering.{nat_cmp, is_eq, match_ordering}
use Rattle.std.specs.declared.cmp.Ordering.{Ordering}
use Rattle.std.specs.declared.cmp.Ordering.TheVariants.{Less, Equal, Greater}
use Rattle.std.specs.BTreeMap.{is_at}
use Rattle.std.specs.BTreeSet.{insert_key}
use Rattle.std.proofs.lemmas.Bool.Decides.{same_from_decides, Decides-like}
use Rattle.std.proofs.lemmas.Slice.Eq.{bytes_eq-Decides}
use Rattle.std.proofs.lemmas.Map.Text.{is_eq-slice_cmp}
use Rattle.mp_codec.proofs.KeyLemmas.{same_bytes}

pub bytes_eq-sym : (xs ys : List ℕ) → bytes_eq xs ys ≡ bytes_eq ys xs
bytes_eq-sym xs ys = same_from_decides (bytes_eq xs ys) (bytes_eq ys xs) (bytes_eq-Decides xs ys) (Decides-like (bytes_eq ys xs) sym sym (bytes_eq-Decides ys xs))

-- the order of names
abbrev pub name_cmp : Bor (List ℕ) → Bor (List ℕ) → Ordering
name_cmp x y = slice_cmp nat_cmp x.now y.now

-- a key of the set is this name
abbrev pub is_name : List ℕ → Bor (List ℕ) → Bool
is_name name = is_at (λ k. slice_cmp nat_cmp name k.now)

or_swap : (a b c : Bool) → (a || (b || c)) ≡ (b || (a || c))
or_swap true true c = refl
or_swap true false c = refl
or_swap false b c = refl

or_twice : (a c : Bool) → (a || c) ≡ (a || (a || c))
or_twice true c = refl
or_twice false c = refl

name_is : (name : List ℕ) (k : Bor (List ℕ)) → is_name name k ≡ bytes_eq k.now name
name_is name k = is_eq-slice_cmp name k.now ∙ bytes_eq-sym name k.now

-- a name is in the set with one more where it is that one, or was in the set
pub has_more : (keys : List (Bor (List ℕ))) (k : Bor (List ℕ)) (name : List ℕ) → list_any (is_name name) (insert_key name_cmp keys k) ≡ (bytes_eq k.now name || list_any (is_name name) keys)
has_more [] k name = ap (λ (b : Bool). b || false) (name_is name k)
has_more (x ∷ xs) k name = go (name_cmp k x) refl (has_more xs k name)
  where
    go : (o : Ordering) → name_cmp k x ≡ o → list_any (is_name name) (insert_key name_cmp xs k) ≡ (bytes_eq k.now name || list_any (is_name name) xs)
        → list_any (is_name name) (match_ordering o (k ∷ x ∷ xs) (x ∷ xs) (x ∷ insert_key name_cmp xs k)) ≡ (bytes_eq k.now name || (is_name name x || list_any (is_name name) xs))
    go Less e rest = ap (λ (b : Bool). b || (is_name name x || list_any (is_name name) xs)) (name_is name k)
    go Equal e rest =
        let same : k.now ≡ x.now = same_bytes k.now x.now (sym (is_eq-slice_cmp k.now x.now) ∙ ap is_eq e) in
        let first : is_name name x ≡ bytes_eq k.now name = name_is name x ∙ ap (λ (t : List ℕ). bytes_eq t name) (sym same) in
        ap (λ (b : Bool). b || list_any (is_name name) xs) first ∙ or_twice (bytes_eq k.now name) (list_any (is_name name) xs)
        ∙ ap (λ (b : Bool). bytes_eq k.now name || (b || list_any (is_name name) xs)) (sym first)
    go Greater e rest = ap (λ (b : Bool). is_name name x || b) rest ∙ or_swap (is_name name x) (bytes_eq k.now name) (list_any (is_name name) xs)
