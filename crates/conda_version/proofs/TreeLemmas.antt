-- Sound tokens are those that spell a tree, and what they say is what the tree says.
use Rattle.std.proofs.Common.{◌≡◌, ◌+◌, ◌-◌, ◌<◌, ◌≤◌, ℕ, zero, suc, List, [], ◌∷◌, ◌++◌, Bool, true, false, length, append_assoc, length-append, refl, sym, ap, ◌∙◌, arith, inl, inr, subst}
use Rattle.std.specs.Prelude.{◌⊎◌, ◌↔◌, ◌&&◌, ◌||◌, IsTrue, Result, None}
use Rattle.std.proofs.lemmas.List.{append-nil}
use Rattle.conda_version.specs.Allowing.{Group, allowed_by, allows, answer, answer_of, fresh, groups_after, signs_of}
use Rattle.conda_version.specs.Constraint.{constraint_fault, most_levels}
use Rattle.conda_version.specs.Grammar.{version_of}
use Rattle.conda_version.specs.Token.{Token, and, leaf, left, or, right}
use Rattle.conda_version.specs.Tree.{All, AllReads, Allows, Any, AnyReads, HasTree, IsTreeOf, Item, ItemReads, all_depth, all_holds, any_depth, any_holds, both, either, group, item_depth, item_holds, one, plain, single, spell_all, spell_any, spell_item}
use Rattle.conda_version.specs.Version.{Value}
use Rattle.conda_version.specs.declared.fault.VersionFault.{VersionFault}
use Rattle.conda_version.proofs.SoundLemmas.{Sound, no-fault-sound, sound-no-fault}

-- ---- sound tokens spell a tree

-- what stands behind an `any`: the end, or the `)` of the group that it is
abbrev pub Ends : ℕ → List Token → Type 0
Ends depth rest = ((depth ≡ 0) × (rest ≡ [])) ⊎ ((behind : List Token) × (0 < depth) × (rest ≡ right ∷ behind) × Sound true (depth - 1) behind)

-- some tokens begin with an `any`
pub record Begins (depth : ℕ) (ts : List Token) : Type 0 where
  pub tree : Any
  pub rest : List Token
  pub spelled : ts ≡ spell_any tree ++ rest
  pub reads : AnyReads tree
  pub shallow : any_depth tree + depth ≤ most_levels
  pub ends : Ends depth rest

-- an item in front of an `any`, joined by `,`
abbrev pub join : Item → Any → Any
join i (one a) = one (both i a)
join i (either a x) = either (both i a) x

-- it is spelled by the item, the `,` and the rest
join-spelled : (i : Item) (x : Any) → spell_any (join i x) ≡ spell_item i ++ (and ∷ spell_any x)
join-spelled i (one a) = refl
join-spelled i (either a x) = append_assoc (spell_item i) (and ∷ spell_all a) (or ∷ spell_any x)

-- its leaves have readings
join-reads : (i : Item) (x : Any) → ItemReads i → AnyReads x → AnyReads (join i x)
join-reads i (one a) h r = (h, r)
join-reads i (either a x) h r = ((h, r.0), r.1)

-- it is no deeper than the two
join-depth : (i : Item) (x : Any) (depth : ℕ) → item_depth i + depth ≤ most_levels → any_depth x + depth ≤ most_levels → any_depth (join i x) + depth ≤ most_levels
join-depth i (one a) depth h r = omega (arith, h, r)
join-depth i (either a x) depth h r = omega (arith, h, r)

-- a group is spelled by its inside between `(` and `)`
group-spelled : (x : Any) (ts rest behind : List Token) → ts ≡ spell_any x ++ rest → rest ≡ right ∷ behind → left ∷ ts ≡ spell_item (group x) ++ behind
group-spelled x ts rest behind e is =
    (λ i. left ∷ e i) ∙ (λ i. left ∷ (spell_any x ++ is i)) ∙ (λ i. left ∷ sym (append_assoc (spell_any x) (right ∷ []) behind) i)

-- what stands behind it is no longer
behind-within : (x : Any) (ts rest behind : List Token) → ts ≡ spell_any x ++ rest → rest ≡ right ∷ behind → length behind ≤ length ts
behind-within x ts rest behind e is = omega (arith, ap length e, length-append (spell_any x) rest, ap length is)

-- an item, a `,` and an `any`
joined : (ts : List Token) (depth : ℕ) (i : Item) → ItemReads i → item_depth i + depth ≤ most_levels → Begins depth ts → Begins depth (spell_item i ++ (and ∷ ts))
joined ts depth i r d b = record {
  tree = join i b.tree;
  rest = b.rest;
  spelled = (λ k. spell_item i ++ (and ∷ b.spelled k)) ∙ sym (append_assoc (spell_item i) (and ∷ spell_any b.tree) b.rest) ∙ (λ k. sym (join-spelled i b.tree) k ++ b.rest);
  reads = join-reads i b.tree r b.reads;
  shallow = join-depth i b.tree depth d b.shallow;
  ends = b.ends;
}

-- an item, a `|` and an `any`
chosen : (ts : List Token) (depth : ℕ) (i : Item) → ItemReads i → item_depth i + depth ≤ most_levels → Begins depth ts → Begins depth (spell_item i ++ (or ∷ ts))
chosen ts depth i r d b = record {
  tree = either (single i) b.tree;
  rest = b.rest;
  spelled = (λ k. spell_item i ++ (or ∷ b.spelled k)) ∙ sym (append_assoc (spell_item i) (or ∷ spell_any b.tree) b.rest);
  reads = (r, b.reads);
  shallow = let e = b.shallow in omega (arith, d, e);
  ends = b.ends;
}

-- behind the `(` and the inside of a group the tokens go on
regroup : (ts : List Token) (depth : ℕ)
    → ((x : Any) (behind : List Token) → length behind ≤ length ts → AnyReads x → item_depth (group x) + depth ≤ most_levels → Sound true depth behind → Begins depth (spell_item (group x) ++ behind))
    → Begins (depth + 1) ts → Begins depth (left ∷ ts)
regroup ts depth go b = elim b.ends [
  | inl over ↦ absurd (omega (arith, over.0))
  | inr on ↦
      let same : depth + 1 - 1 ≡ depth = omega arith in
      let P : ℕ → Type 0 = λ d. Sound true d on.0 in
      let f : Begins depth (spell_item (group b.tree) ++ on.0) =
      go b.tree on.0 (behind-within b.tree ts b.rest on.0 b.spelled on.2) b.reads (omega (arith, b.shallow)) (subst P same on.3) in
      record {
        tree = f.tree;
        rest = f.rest;
        spelled = group-spelled b.tree ts b.rest on.0 b.spelled on.2 ∙ f.spelled;
        reads = f.reads;
        shallow = f.shallow;
        ends = f.ends;
      }
]

mutual
  -- an `any` begins here
  begin : (n : ℕ) (ts : List Token) (depth : ℕ) → length ts ≤ n → depth ≤ most_levels → Sound false depth ts → Begins depth ts
  begin n [] depth h d s = cc s.0
  begin zero (t ∷ ts) depth h d s = absurd (omega arith)
  begin (suc n) (leaf text ∷ ts) depth h d s = finish n ts depth (plain text) (omega arith) s.0.1 (omega arith) s.1
  begin (suc n) (left ∷ ts) depth h d s = regroup ts depth (λ x behind within r deep sound. finish n behind depth (group x) (omega (arith, within, h)) r deep sound)
      (begin n ts (depth + 1) (omega arith) (omega (arith, s.0.1)) s.1)
  begin (suc n) (right ∷ ts) depth h d s = cc s.0.0
  begin (suc n) (and ∷ ts) depth h d s = cc s.0
  begin (suc n) (or ∷ ts) depth h d s = cc s.0

  -- an item stands right before
  finish : (n : ℕ) (ts : List Token) (depth : ℕ) (i : Item) → length ts ≤ n → ItemReads i → item_depth i + depth ≤ most_levels → Sound true depth ts → Begins depth (spell_item i ++ ts)
  finish n [] depth i h r d s = record { tree = one (single i); rest = []; spelled = refl; reads = r; shallow = d; ends = inl (s.1, refl) }
  finish zero (t ∷ ts) depth i h r d s = absurd (omega arith)
  finish (suc n) (leaf text ∷ ts) depth i h r d s = cc s.0.0
  finish (suc n) (left ∷ ts) depth i h r d s = cc s.0.0
  finish (suc n) (right ∷ ts) depth i h r d s =
      record { tree = one (single i); rest = right ∷ ts; spelled = refl; reads = r; shallow = d; ends = inr (ts, s.0.1, refl, s.1) }
  finish (suc n) (and ∷ ts) depth i h r d s = joined ts depth i r d (begin n ts depth (omega arith) (omega (arith, d)) s.1)
  finish (suc n) (or ∷ ts) depth i h r d s = chosen ts depth i r d (begin n ts depth (omega arith) (omega (arith, d)) s.1)

-- a text without a fault has a tree
pub no-fault-tree : (text : List ℕ) → constraint_fault text ≡ None → HasTree text
no-fault-tree text e = by (begin (length (signs_of text)) (signs_of text) 0 (omega arith) (omega arith) (no-fault-sound text e))
  where
    by : Begins 0 (signs_of text) → HasTree text
    by b = elim b.ends [
      | inl over ↦ (
        b.tree,
        record {
          spelled = b.spelled ∙ (λ k. spell_any b.tree ++ over.1 k) ∙ append-nil (spell_any b.tree);
          reads = b.reads;
          shallow = omega (arith, b.shallow);
        },
      )
      | inr on ↦ absurd (omega (arith, on.1))
    ]

-- ---- a tree spells sound tokens

mutual
  -- an `any` is spelled by sound tokens
  any-sound : (x : Any) (depth : ℕ) (ts : List Token) → AnyReads x → any_depth x + depth ≤ most_levels → Sound true depth ts → Sound false depth (spell_any x ++ ts)
  any-sound (one a) depth ts r d s = all-sound a depth ts r d s
  any-sound (either a x) depth ts r d s =
      let rest : Sound true depth (or ∷ (spell_any x ++ ts)) = (refl, any-sound x depth ts r.1 (omega (arith, d)) s) in
      let P : List Token → Type 0 = Sound false depth in
      subst P (sym (append_assoc (spell_all a) (or ∷ spell_any x) ts)) (all-sound a depth (or ∷ (spell_any x ++ ts)) r.0 (omega (arith, d)) rest)

  -- so is an `all`
  all-sound : (a : All) (depth : ℕ) (ts : List Token) → AllReads a → all_depth a + depth ≤ most_levels → Sound true depth ts → Sound false depth (spell_all a ++ ts)
  all-sound (single i) depth ts r d s = item-sound i depth ts r d s
  all-sound (both i a) depth ts r d s =
      let rest : Sound true depth (and ∷ (spell_all a ++ ts)) = (refl, all-sound a depth ts r.1 (omega (arith, d)) s) in
      let P : List Token → Type 0 = Sound false depth in
      subst P (sym (append_assoc (spell_item i) (and ∷ spell_all a) ts)) (item-sound i depth (and ∷ (spell_all a ++ ts)) r.0 (omega (arith, d)) rest)

  -- so is an item
  item-sound : (i : Item) (depth : ℕ) (ts : List Token) → ItemReads i → item_depth i + depth ≤ most_levels → Sound true depth ts → Sound false depth (spell_item i ++ ts)
  item-sound (plain text) depth ts r d s = ((refl, r), s)
  item-sound (group x) depth ts r d s =
      let same : depth ≡ depth + 1 - 1 = omega arith in
      let Q : ℕ → Type 0 = λ n. Sound true n ts in
      let rest : Sound true (depth + 1) (right ∷ ts) = ((refl, omega arith), subst Q same s) in
      let P : List Token → Type 0 = Sound false (depth + 1) in
      ((refl, omega (arith, d)), subst P (sym (append_assoc (spell_any x) (right ∷ []) ts)) (any-sound x (depth + 1) (right ∷ ts) r (omega (arith, d)) rest))

-- a text that has a tree has no fault
pub tree-no-fault : (text : List ℕ) → HasTree text → constraint_fault text ≡ None
tree-no-fault text t =
    let end : Sound true 0 [] = (refl, refl) in
    let P : List Token → Type 0 = Sound false 0 in
    sound-no-fault text (subst P (append-nil (spell_any t.0) ∙ sym t.1.spelled) (any-sound t.0 0 [] t.1.reads (omega (arith, t.1.shallow)) end))

-- ---- what the tokens say is what the tree says

module _ (version : Result Value VersionFault) where
  -- the level behind an `any` that began where an alternative had held or not
  abbrev after_any : Any → Bool → Group
  after_any (one a) held = record { held = held; all = all_holds version a }
  after_any (either a x) held = after_any x (held || all_holds version a)

  -- `&&` in either grouping
  and-assoc : (a b c : Bool) → ((a && b) && c) ≡ (a && (b && c))
  and-assoc true b c = refl
  and-assoc false b c = refl

  -- `||` in either grouping
  or-assoc : (a b c : Bool) → ((a || b) || c) ≡ (a || (b || c))
  or-assoc true b c = refl
  or-assoc false b c = refl

  -- that level says what the `any` says, or what had held before
  answer-any : (x : Any) (held : Bool) → answer (after_any x held) ≡ (held || any_holds version x)
  answer-any (one a) held = refl
  answer-any (either a x) held = answer-any x (held || all_holds version a) ∙ or-assoc held (all_holds version a) (any_holds version x)

  mutual
    -- behind the tokens of an `any`
    says-any : (x : Any) (held : Bool) (ls : List Group) (ts : List Token)
        → groups_after version (record { held = held; all = true } ∷ ls) (spell_any x ++ ts) ≡ groups_after version (after_any x held ∷ ls) ts
    says-any (one a) held ls ts = says-all a held true ls ts
    says-any (either a x) held ls ts =
        ap (groups_after version (record { held = held; all = true } ∷ ls)) (append_assoc (spell_all a) (or ∷ spell_any x) ts)
        ∙ says-all a held true ls (or ∷ (spell_any x ++ ts))
        ∙ says-any x (held || all_holds version a) ls ts

    -- behind those of an `all`
    says-all : (a : All) (held all : Bool) (ls : List Group) (ts : List Token)
        → groups_after version (record { held = held; all = all } ∷ ls) (spell_all a ++ ts)
        ≡ groups_after version (record { held = held; all = all && all_holds version a } ∷ ls) ts
    says-all (single i) held all ls ts = says-item i held all ls ts
    says-all (both i a) held all ls ts =
        ap (groups_after version (record { held = held; all = all } ∷ ls)) (append_assoc (spell_item i) (and ∷ spell_all a) ts)
        ∙ says-item i held all ls (and ∷ (spell_all a ++ ts))
        ∙ says-all a held (all && item_holds version i) ls ts
        ∙ (λ k. groups_after version (record { held = held; all = and-assoc all (item_holds version i) (all_holds version a) k } ∷ ls) ts)

    -- behind those of an item
    says-item : (i : Item) (held all : Bool) (ls : List Group) (ts : List Token)
        → groups_after version (record { held = held; all = all } ∷ ls) (spell_item i ++ ts)
        ≡ groups_after version (record { held = held; all = all && item_holds version i } ∷ ls) ts
    says-item (plain text) held all ls ts = refl
    says-item (group x) held all ls ts =
        ap (groups_after version (fresh ∷ (record { held = held; all = all } ∷ ls))) (append_assoc (spell_any x) (right ∷ []) ts)
        ∙ says-any x false (record { held = held; all = all } ∷ ls) (right ∷ ts)
        ∙ (λ k. groups_after version (record { held = held; all = all && answer-any x false k } ∷ ls) ts)

  -- a text allows what each of its trees says
  pub allowed-tree : (text : List ℕ) (tree : Any) → IsTreeOf text tree → allowed_by version text ≡ any_holds version tree
  allowed-tree text tree is =
      (λ k. answer_of (groups_after version (fresh ∷ []) (is.spelled k)))
      ∙ (λ k. answer_of (groups_after version (fresh ∷ []) (sym (append-nil (spell_any tree)) k)))
      ∙ ap answer_of (says-any tree false [] [])
      ∙ answer-any tree false

-- both as texts
pub allows-tree : (text version : List ℕ) (tree : Any) → IsTreeOf text tree → allows text version ≡ any_holds (version_of version) tree
unfolding allows
allows-tree text version tree is = allowed-tree (version_of version) text tree is

-- a constraint allows what the tree that it has says
pub allows-means : (text version : List ℕ) → constraint_fault text ≡ None → IsTrue (allows text version) ↔ Allows text version
allows-means text version e = (
  λ h. (let t = no-fault-tree text e in record { tree = t.0; spelled = t.1; says = sym (allows-tree text version t.0 t.1) ∙ h }),
  λ a. allows-tree text version a.tree a.spelled ∙ a.says,
)

-- so does what the code answers
pub allows-answer : (result : Bool) (text version : List ℕ) → constraint_fault text ≡ None → result ≡ allows text version → IsTrue result ↔ Allows text version
allows-answer result text version e is =
    let m = allows-means text version e in
    (λ h. m.0 (sym is ∙ h), λ a. is ∙ m.1 a)
