-- The rows of all groups are the rows that were grouped.
use Rattle.std.proofs.Common.{◌≡◌, ℕ, Bool, true, false, not, cond, List, [], ◌∷◌, ◌++◌, map, refl, sym, ap, ◌∙◌, subst}
use Rattle.std.specs.Ordering.{nat_cmp, is_eq}
use Rattle.std.specs.declared.cmp.Ordering.TheVariants.{Less}
use Rattle.std.specs.Cmp.Lexicographic.{slice_cmp}
use Rattle.std.specs.Str.{bytes_eq}
use Rattle.std.specs.List.{AllByRecursion, filter, flat_map}
use Rattle.std.specs.List.Sorted.{IsStrictlySortedBy, IsPermutation}
use Rattle.std.proofs.lemmas.Map.Keys.{sorted_head, sorted_tail}
use Rattle.std.proofs.lemmas.Map.Text.{is_eq-slice_cmp}
use Rattle.std.proofs.lemmas.Slice.Eq.{bytes_eq-Decides}
use Rattle.std.proofs.lemmas.List.Sorted.{IsPermutation-refl, IsPermutation-trans, IsPermutation-append_right, IsPermutation-filter_both}
use Rattle.shard_file.specs.Rows.{Row}
use Rattle.channel_indexer.specs.Groups.{Group, name_in, is_named, rows_under}

-- the rows of other names
abbrev others : List ℕ → List Row → List Row
others name rows = filter (λ r. not (is_named name r)) rows

-- none of them has the name
gone : (name : List ℕ) (rows : List Row) → filter (is_named name) (others name rows) ≡ []
gone name [] = refl
gone name (r ∷ rs) = go (bytes_eq name (name_in r)) refl (gone name rs)
  where
    go : (b : Bool) → bytes_eq name (name_in r) ≡ b → filter (is_named name) (others name rs) ≡ []
        → filter (is_named name) (cond (not b) (r ∷ others name rs) (others name rs)) ≡ []
    go true e later = later
    go false e later = ap (λ b. cond b (r ∷ filter (is_named name) (others name rs)) (filter (is_named name) (others name rs))) e ∙ later

-- they have all rows of another name
kept : (name other : List ℕ) (rows : List Row) → bytes_eq other name ≡ false → filter (is_named other) (others name rows) ≡ filter (is_named other) rows
kept name other [] apart = refl
kept name other (r ∷ rs) apart = go (bytes_eq name (name_in r)) refl (kept name other rs apart)
  where
    go : (b : Bool) → bytes_eq name (name_in r) ≡ b → filter (is_named other) (others name rs) ≡ filter (is_named other) rs
        → filter (is_named other) (cond (not b) (r ∷ others name rs) (others name rs)) ≡ cond (bytes_eq other (name_in r)) (r ∷ filter (is_named other) rs) (filter (is_named other) rs)
    go true e later =
        let same : name ≡ name_in r = (bytes_eq-Decides name (name_in r)).0 e in
        later ∙ sym (ap (λ b. cond b (r ∷ filter (is_named other) rs) (filter (is_named other) rs)) (ap (bytes_eq other) (sym same) ∙ apart))
    go false e later = ap (λ l. cond (bytes_eq other (name_in r)) (r ∷ l) l) later

pub itself : (name : List ℕ) → bytes_eq name name ≡ true
itself name = (bytes_eq-Decides name name).1 refl

-- rows of which none has a name are none
none-left : (rows : List Row) → ((name : List ℕ) → filter (is_named name) rows ≡ []) → rows ≡ []
none-left [] h = refl
none-left (r ∷ rs) h = absurd (let some : r ∷ filter (is_named (name_in r)) rs ≡ [] = ap (λ b. cond b (r ∷ filter (is_named (name_in r)) rs) (filter (is_named (name_in r)) rs)) (sym (itself (name_in r))) ∙ h (name_in r) in cc)

-- a name that comes before all names of groups has no group
pub no-group : (name : List ℕ) (groups : List Group) → AllByRecursion (λ other. slice_cmp nat_cmp name other ≡ Less) (map (λ (g : Group). g.name) groups) → rows_under name groups ≡ []
no-group name [] h = refl
no-group name (g ∷ gs) h =
    ap (λ b. cond b g.rows (rows_under name gs)) (sym (is_eq-slice_cmp name g.name) ∙ ap is_eq h.0) ∙ no-group name gs h.1

later-groups : (g : Group) (gs : List Group) (rows : List Row) → IsStrictlySortedBy (slice_cmp nat_cmp) (map (λ (g : Group). g.name) (g ∷ gs))
    → ((name : List ℕ) → rows_under name (g ∷ gs) ≡ filter (is_named name) rows) → (name : List ℕ) → rows_under name gs ≡ filter (is_named name) (others g.name rows)
later-groups g gs rows up each name = go (bytes_eq name g.name) refl
  where
    go : (b : Bool) → bytes_eq name g.name ≡ b → rows_under name gs ≡ filter (is_named name) (others g.name rows)
    go true e =
        let same : name ≡ g.name = (bytes_eq-Decides name g.name).0 e in
        ap (λ n. rows_under n gs) same ∙ no-group g.name gs (sorted_head (slice_cmp nat_cmp) g.name (map (λ (g : Group). g.name) gs) up)
        ∙ sym (gone g.name rows) ∙ ap (λ n. filter (is_named n) (others g.name rows)) (sym same)
    go false e = ap (λ b. cond b g.rows (rows_under name gs)) (sym e) ∙ each name ∙ sym (kept g.name name rows e)

pub groups-have : (groups : List Group) (rows : List Row) → IsStrictlySortedBy (slice_cmp nat_cmp) (map (λ (g : Group). g.name) groups)
    → ((name : List ℕ) → rows_under name groups ≡ filter (is_named name) rows) → IsPermutation rows (flat_map (λ (g : Group). g.rows) groups)
groups-have [] rows up each = subst (λ (l : List Row). IsPermutation l []) (sym (none-left rows (λ name. sym (each name)))) (IsPermutation-refl [])
groups-have (g ∷ gs) rows up each =
    let first : g.rows ≡ filter (is_named g.name) rows = ap (λ b. cond b g.rows (rows_under g.name gs)) (sym (itself g.name)) ∙ each g.name in
    let later = groups-have gs (others g.name rows) (sorted_tail (slice_cmp nat_cmp) g.name (map (λ (g : Group). g.name) gs) up) (later-groups g gs rows up each) in
    let split = IsPermutation-filter_both (is_named g.name) (λ r. not (is_named g.name r)) (λ r. refl) rows in
    IsPermutation-trans rows (g.rows ++ others g.name rows) (g.rows ++ flat_map (λ (g : Group). g.rows) gs)
    (subst (λ (l : List Row). IsPermutation rows (l ++ others g.name rows)) (sym first) split)
    (IsPermutation-append_right g.rows (others g.name rows) (flat_map (λ (g : Group). g.rows) gs) later)
