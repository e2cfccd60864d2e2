-- Versions that tie pass the same tests, and each starts with the other.
use Rattle.std.proofs.Common.{◌≡◌, ◌∙◌, List, [], ◌∷◌, Bool, true, ℕ, refl, sym, ap, inl, inr}
use Rattle.std.specs.Prelude.{Ok, not, ◌&&◌, Result, Err}
use Rattle.std.proofs.lemmas.Bool.{cases_Bool}
use Rattle.std.specs.Cmp.{tied_itself}
use Rattle.std.specs.Ordering.{is_eq, is_gt, is_lt}
use Rattle.std.specs.declared.cmp.Ordering.{Ordering}
use Rattle.std.specs.declared.cmp.Ordering.TheVariants.{Equal}
use Rattle.conda_version.specs.Allowing.{Group, allowed_by, allows, answer_of, fresh, groups_after, groups_behind, on_inner, passes_read, signs_of, with_item}
use Rattle.conda_version.specs.Grammar.{version_of}
use Rattle.conda_version.specs.Leaf.{Test, always, compare, compatible, leaf_of, passes, relates}
use Rattle.conda_version.specs.Order.{begins_by, lists_begin, run_begins, run_cmp, runs_begin, runs_cmp, version_cmp, version_starts_with}
use Rattle.conda_version.specs.Relation.{Relation}
use Rattle.conda_version.specs.Relation as relation
use Rattle.byte_text.specs.Text.{is_nil}
use Rattle.conda_version.specs.Token.{Token, and, leaf, left, or, right}
use Rattle.conda_version.specs.Version.{Run, Value, number}
use Rattle.conda_version.specs.declared.fault.ConstraintFault.{ConstraintFault}
use Rattle.conda_version.proofs.OrderLemmas.{lists_total, run_total, runs_total, version_total, versions-start-alike}

-- ---- what a leaf tests

-- versions that tie stand alike to a third
relates-alike : (r : Relation) (v w p : Value) → version_cmp v w ≡ Equal → relates r v p ≡ relates r w p
relates-alike relation.equal v w p e = ap is_eq (version_total.congr v w p e)
relates-alike relation.not_equal v w p e = ap (λ o. not (is_eq o)) (version_total.congr v w p e)
relates-alike relation.starts v w p e = versions-start-alike v w p e
relates-alike relation.starts_otherwise v w p e = ap not (versions-start-alike v w p e)
relates-alike relation.less v w p e = ap is_lt (version_total.congr v w p e)
relates-alike relation.at_most v w p e = ap (λ o. not (is_gt o)) (version_total.congr v w p e)
relates-alike relation.greater v w p e = ap is_gt (version_total.congr v w p e)
relates-alike relation.at_least v w p e = ap (λ o. not (is_lt o)) (version_total.congr v w p e)

-- they pass the same tests
passes-alike : (v w : Value) (t : Test) → version_cmp v w ≡ Equal → passes (Ok v) t ≡ passes (Ok w) t
passes-alike v w always e = refl
passes-alike v w (compare r p) e = relates-alike r v w p e
passes-alike v w (compatible p front) e =
    let o = version_total.congr v w p e in
    let s = versions-start-alike v w front e in
    λ i. not (is_lt (o i)) && s i

-- and the same leaves
leaf-alike : (v w : Value) (r : Result Test ConstraintFault) → version_cmp v w ≡ Equal → passes_read (Ok v) r ≡ passes_read (Ok w) r
leaf-alike v w (Ok t) e = passes-alike v w t e
leaf-alike v w (Err f) e = refl

-- ---- a whole constraint

-- a token changes the groups alike
group-alike : (v w : Value) (ls : List Group) (t : Token) → version_cmp v w ≡ Equal → groups_behind (Ok v) ls t ≡ groups_behind (Ok w) ls t
group-alike v w ls (leaf text) e = λ i. on_inner (λ l. with_item l (leaf-alike v w (leaf_of text) e i)) ls
group-alike v w ls left e = refl
group-alike v w ls right e = refl
group-alike v w ls and e = refl
group-alike v w ls or e = refl

-- so do all tokens
groups-alike : (v w : Value) (ts : List Token) (ls : List Group) → version_cmp v w ≡ Equal → groups_after (Ok v) ls ts ≡ groups_after (Ok w) ls ts
groups-alike v w [] ls e = refl
groups-alike v w (t ∷ ts) ls e =
    groups-alike v w ts (groups_behind (Ok v) ls t) e ∙ (λ i. groups_after (Ok w) (group-alike v w ls t e i) ts)

-- versions that tie are allowed by the same constraints
pub allowed-alike : (constraint a b : List ℕ) (v w : Value) → version_of a ≡ Ok v → version_of b ≡ Ok w → version_cmp v w ≡ Equal → allows constraint a ≡ allows constraint b
unfolding allows
allowed-alike constraint a b v w x y e =
    (λ i. allowed_by (x i) constraint)
    ∙ ap answer_of (groups-alike v w (signs_of constraint) (fresh ∷ []) e)
    ∙ (λ i. allowed_by (sym y i) constraint)

-- ---- a version starts with itself

-- a list begins with itself
begins-itself : {A : Type 0} (d : A) (R : A → A → Ordering) (last : A → A → Bool) → ((x : A) → R x x ≡ Equal) → ((x : A) → last x x ≡ true)
    → (xs : List A) → begins_by d R last xs xs ≡ true
begins-itself d R last tied same [] = refl
begins-itself d R last tied same (x ∷ []) = same x
begins-itself d R last tied same (x ∷ y ∷ xs) = rw tied (begins-itself d R last tied same (y ∷ xs))

-- a run begins with itself
run-itself : (r : Run) → run_begins r r ≡ true
run-itself r = rw (tied_itself run_total r) refl

-- a component begins with itself
runs-itself : (xs : List Run) → runs_begin xs xs ≡ true
runs-itself = begins-itself (number 0) run_cmp run_begins (tied_itself run_total) run-itself

-- a list of components begins with itself
lists-itself : (xs : List (List Run)) → lists_begin xs xs ≡ true
lists-itself = begins-itself [] runs_cmp runs_begin (tied_itself runs_total) runs-itself

-- a version starts with itself
pub starts-itself : (v : Value) → version_starts_with v v ≡ true
unfolding version_starts_with
starts-itself v = elim (cases_Bool (is_nil v.local)) [
  | inl none ↦ rw none (lists-itself v.release)
  | inr some ↦ rw (some, tied_itself lists_total v.release) (lists-itself v.local)
]

-- and with each that ties with it
pub starts-tied : (v w : Value) → version_cmp v w ≡ Equal → version_starts_with v w ≡ true
starts-tied v w e = versions-start-alike v w w e ∙ starts-itself w
