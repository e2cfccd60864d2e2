-- Puts, one after another.
use Rattle.std.proofs.Common.{◌≡◌, ℕ, zero, suc, nat_lt, map, count_by, ◌+◌, ◌<◌, Bool, true, false, cond, List, [], ◌∷◌, ◌++◌, length, get_or, take, Option, Some, None, IfSome, refl, sym, ap, ◌∙◌, inl, inr, arith}
use Rattle.std.specs.Str.{bytes_eq}
use Rattle.std.specs.Cmp.Lexicographic.{nat_list_cmp_total}
use Rattle.std.specs.FinMap.{get, insert, get-insert, same_map, nat_cmp-IsAntisymmetric, slice_cmp-IsAntisymmetric}
use Rattle.std.proofs.lemmas.Map.Text.{is_eq-slice_cmp}
use Rattle.std.proofs.lemmas.Slice.Eq.{bytes_eq-Decides}
use Rattle.std.proofs.Math.Seq.{take-length}
use Rattle.std.proofs.lemmas.List.{take_more, get_or-map, get_or_default, length-map}
use Rattle.std.proofs.lemmas.List.Sums.{count_by_more_yes, count_by_more_no}
use Rattle.std.proofs.lemmas.Map.Keys.{apart_from_distinct}
use Rattle.std.proofs.lemmas.Cmp.{nat_list_eq_equiv}
use Rattle.channel_store.specs.Store.{Files, with_file, IsEither, whole, long, found_in, found_within}
use Rattle.channel_indexer.specs.Puts.{Put, files_with, with_puts, StopsWithin, stands_in, is_these, AreApart}

-- one put more at the end
pub with-more : (ps : List Put) (p : Put) (files : Files) → files_with (ps ++ p ∷ []) files ≡ insert (files_with ps files) p.name p.bytes
with-more [] p files = refl
with-more (q ∷ ps) p files = with-more ps p (insert files q.name q.bytes)

pub puts-more : (ps : List Put) (p : Put) (old : Option Files) → with_puts (ps ++ p ∷ []) old ≡ with_file p.name p.bytes (with_puts ps old)
puts-more ps p None = refl
puts-more ps p (Some files) = ap Some (with-more ps p files)

-- a loop's step: the put at i was made
pub puts-on : (ps : List Put) (i : ℕ) (p : Put) (old new : Option Files) → i < length ps → p ≡ get_or ps i p
    → new ≡ with_file p.name p.bytes (with_puts (take i ps) old) → new ≡ with_puts (take (i + 1) ps) old
puts-on ps i p old new within is made =
    made ∙ sym (puts-more (take i ps) p old) ∙ ap (λ l. with_puts l old) (sym (take_more ps i p within ∙ ap (λ x. take i ps ++ x ∷ []) (sym is)))

cond-same : {A : Type 0} (b : Bool) (x : A) → cond b x x ≡ x
cond-same true x = refl
cond-same false x = refl

same_at : (files : Files) (name bytes q : List ℕ) → get files name ≡ Some bytes
    → (b : Bool) → bytes_eq q name ≡ b → cond b (Some bytes) (get files q) ≡ get files q
same_at files name bytes q there true e = sym (ap (get files) ((bytes_eq-Decides q name).0 e) ∙ there)
same_at files name bytes q there false e = refl

-- to put a file that stands with these bytes changes nothing
pub put-there : (files : Files) (name bytes : List ℕ) → get files name ≡ Some bytes → insert files name bytes ≡ files
put-there files name bytes there =
    same_map nat_list_cmp_total (slice_cmp-IsAntisymmetric nat_cmp-IsAntisymmetric) _ _ (λ q.
    get-insert nat_list_cmp_total files name bytes q
    ∙ ap (λ b. cond b (Some bytes) (get files q)) (is_eq-slice_cmp q name)
    ∙ same_at files name bytes q there (bytes_eq q name) refl)

-- a get that gives all bytes of a file finds that file
whole-is : (limit : ℕ) (there : Option (List ℕ)) (got : List ℕ) → whole got ≡ found_within limit there → there ≡ Some got
whole-is limit None got e = absurd (cc)
whole-is limit (Some bytes) got e = go (nat_lt limit (length bytes)) e
  where
    go : (b : Bool) → whole got ≡ cond b long (whole bytes) → Some bytes ≡ Some got
    go true e = absurd (cc)
    go false e = cc

-- where the bytes that a get gave are those that are to be put, nothing has to be put
pub there-unchanged : (old new : Option Files) (name bytes got : List ℕ) (limit : ℕ)
    → new ≡ old → IfSome old (λ told. whole got ≡ found_in told name limit) → got ≡ bytes → new ≡ with_file name bytes old
there-unchanged None new name bytes got limit same there is = same
there-unchanged (Some told) new name bytes got limit same there is =
    same ∙ ap Some (sym (put-there told name bytes (whole-is limit (get told name) got there ∙ ap Some is)))

-- what stands under a name that none of the first puts has
pub get-before : (ps : List Put) (i : ℕ) (name : List ℕ) (files : Files)
    → ((j : ℕ) (d : Put) → j < i → j < length ps → bytes_eq name (get_or ps j d).name ≡ false)
    → get (files_with (take i ps) files) name ≡ get files name
get-before ps zero name files apart = refl
get-before [] (suc i) name files apart = refl
get-before (p ∷ ps) (suc i) name files apart =
    get-before ps i name (insert files p.name p.bytes) (λ j d low within. apart (suc j) d (omega arith) (omega arith))
    ∙ get-insert nat_list_cmp_total files p.name p.bytes name
    ∙ ap (λ b. cond b (Some p.bytes) (get files name)) (is_eq-slice_cmp name p.name ∙ apart 0 p (omega arith) (omega arith))

abbrev name_of : Put → List ℕ
name_of p = p.name

-- a put whose name no put in front of it has finds what stood at the start
pub stands-still : (ps : List Put) (i : ℕ) (p : Put) (told : Files) → i < length ps → p ≡ get_or ps i p → AreApart ps
    → stands_in (files_with (take i ps) told) p ≡ stands_in told p
stands-still ps i p told within is apart =
    ap (λ o. is_these o p.bytes) (get-before ps i p.name told (λ j d low in_ps.
    nat_list_eq_equiv.symm p.name (get_or ps j d).name ∙ other j d low in_ps))
  where
    other : (j : ℕ) (d : Put) → j < i → j < length ps → bytes_eq (get_or ps j d).name p.name ≡ false
    other j d low in_ps =
        let far = apart_from_distinct bytes_eq (map name_of ps) j i p.name apart low (rw length-map within) in
        let first : get_or (map name_of ps) j p.name ≡ (get_or ps j p).name = get_or-map name_of ps j p p.name in_ps in
        let second : get_or (map name_of ps) i p.name ≡ p.name = get_or-map name_of ps i p p.name within ∙ ap name_of (sym is) in
        let default : get_or ps j d ≡ get_or ps j p = get_or_default ps j d p in_ps in
        ap (λ (q : Put). bytes_eq q.name p.name) default ∙ ap (λ l. bytes_eq l p.name) (sym first) ∙ ap (bytes_eq (get_or (map name_of ps) j p.name)) (sym second) ∙ far

-- ---- the count of what stood

-- a count goes on by one where the next put stood
pub count-on : (told : Option Files) (ps : List Put) (i : ℕ) (p : Put) (kept : ℕ) (there : Bool)
    → i < length ps → p ≡ get_or ps i p
    → IfSome told (λ files. AreApart ps → kept ≡ count_by (stands_in files) (take i ps))
    → IfSome (with_puts (take i ps) told) (λ now. there ≡ stands_in now p)
    → IfSome told (λ files. AreApart ps → cond there (kept + 1) kept ≡ count_by (stands_in files) (take (i + 1) ps))
count-on None ps i p kept there within is so_far now = tt
count-on (Some files) ps i p kept there within is so_far now = λ apart.
    go there (ap (stands_in files) (sym is) ∙ sym (now ∙ stands-still ps i p files within is apart)) (so_far apart)
  where
    go : (b : Bool) → stands_in files (get_or ps i p) ≡ b → kept ≡ count_by (stands_in files) (take i ps) → cond b (kept + 1) kept ≡ count_by (stands_in files) (take (i + 1) ps)
    go true e k = ap (λ n. n + 1) k ∙ sym (count_by_more_yes (stands_in files) ps i p within e)
    go false e k = k ∙ sym (count_by_more_no (stands_in files) ps i p within e)

-- a step that failed may have left its put there
pub stops-on : (ps : List Put) (i : ℕ) (p : Put) (start old new : Option Files) → i < length ps → p ≡ get_or ps i p
    → old ≡ with_puts (take i ps) start → IsEither old (with_file p.name p.bytes old) new → StopsWithin ps start new
stops-on ps i p start old new within is so_far (inl same) = record { done = i; files = same ∙ so_far }
stops-on ps i p start old new within is so_far (inr put) =
    record { done = i + 1; files = puts-on ps i p start new within is (put ∙ ap (with_file p.name p.bytes) so_far) }

-- ---- puts behind puts

-- the first puts of a front are first puts of the whole
in-front : (ps qs : List Put) (done : ℕ) → (n : ℕ) × (take n (ps ++ qs) ≡ take done ps)
in-front ps qs zero = (0, refl)
in-front [] qs (suc done) = (0, refl)
in-front (p ∷ ps) qs (suc done) = let r = in-front ps qs done in (suc r.0, ap (λ (l : List Put). p ∷ l) r.1)

pub stops-in-front : (ps qs : List Put) (old new : Option Files) → StopsWithin ps old new → StopsWithin (ps ++ qs) old new
stops-in-front ps qs old new stop =
    let r = in-front ps qs stop.done in
    record { done = r.0; files = stop.files ∙ ap (λ (l : List Put). with_puts l old) (sym r.1) }

pub stops-whole : (ps : List Put) (old new : Option Files) → new ≡ with_puts ps old → StopsWithin ps old new
stops-whole ps old new made = record { done = length ps; files = made ∙ ap (λ (l : List Put). with_puts l old) (sym (take-length ps)) }

-- the last put, behind the others, was made or not
pub stops-last : (ps : List Put) (p : Put) (start old new : Option Files) → old ≡ with_puts ps start
    → IsEither old (with_file p.name p.bytes old) new → StopsWithin (ps ++ p ∷ []) start new
stops-last ps p start old new so_far (inl same) = stops-in-front ps (p ∷ []) start new (stops-whole ps start new (same ∙ so_far))
stops-last ps p start old new so_far (inr put) =
    stops-whole (ps ++ p ∷ []) start new (put ∙ ap (with_file p.name p.bytes) so_far ∙ sym (puts-more ps p start))

pub made-last : (ps : List Put) (p : Put) (start old new : Option Files) → old ≡ with_puts ps start
    → new ≡ with_file p.name p.bytes old → new ≡ with_puts (ps ++ p ∷ []) start
made-last ps p start old new so_far put = put ∙ ap (with_file p.name p.bytes) so_far ∙ sym (puts-more ps p start)
