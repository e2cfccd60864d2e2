-- The members of an object that is read as JSON ascend by their names.
use Rattle.std.proofs.Common.{◌≡◌, ℕ, List, [], ◌∷◌, Option, Some, None, IfSome, option_map, option_and_then, refl, ap, ◌∙◌}
use Rattle.std.specs.Prelude.{⊤}
use Rattle.std.specs.Ordering.{nat_cmp, match_ordering, ordering_reverse}
use Rattle.std.specs.declared.cmp.Ordering.{Ordering}
use Rattle.std.specs.declared.cmp.Ordering.TheVariants.{Less, Equal, Greater}
use Rattle.std.specs.Cmp.Lexicographic.{slice_cmp}
use Rattle.std.specs.List.{AllByRecursion}
use Rattle.std.specs.List.Sorted.{IsStrictlySortedBy}
use Rattle.std.proofs.lemmas.Cmp.{nat_list_cmp_total}
use Rattle.json.specs.Lex.{tokens}
use Rattle.json.specs.Json as json
use Rattle.serde_json.specs.Data.{Num, Data, null, boolean, number, string, array, object, Items, no_items, item, Members, no_members, member, put}
use Rattle.serde_json.specs.Find.{get_member}
use Rattle.serde_json.specs.Read.{number_of, of_json, of_items, of_members, max_depth, read}
use Rattle.channel_indexer.proofs.UniqueLemmas.{below-all}

-- the names of some members
abbrev pub names_in : Members → List (List ℕ)
names_in no_members = []
names_in (member k d ms) = k ∷ names_in ms

-- members ascend by their names
abbrev pub Ascend : Members → Type 0
Ascend ms = IsStrictlySortedBy (slice_cmp nat_cmp) (names_in ms)

-- a name comes before those of some members
abbrev IsBefore : List ℕ → Members → Type 0
IsBefore k ms = AllByRecursion (λ l. slice_cmp nat_cmp k l ≡ Less) (names_in ms)

-- the members of each object of a value ascend
abbrev mutual
  pub Ascends : Data → Type 0
  Ascends null = ⊤
  Ascends (boolean b) = ⊤
  Ascends (number n) = ⊤
  Ascends (string s) = ⊤
  Ascends (array ds) = EachItem ds
  Ascends (object ms) = Ascend ms × EachMember ms

  pub EachItem : Items → Type 0
  EachItem no_items = ⊤
  EachItem (item d ds) = Ascends d × EachItem ds

  pub EachMember : Members → Type 0
  EachMember no_members = ⊤
  EachMember (member k d ms) = Ascends d × EachMember ms

-- ---- a member that is put

before-put : (l k : List ℕ) (d : Data) (ms : Members) → slice_cmp nat_cmp l k ≡ Less → IsBefore l ms → IsBefore l (put k d ms)
before-put l k d no_members low h = (low, tt)
before-put l k d (member m e ms) low h = go (slice_cmp nat_cmp k m) (before-put l k d ms low h.1)
  where
    go : (o : Ordering) → IsBefore l (put k d ms) → IsBefore l (match_ordering o (member k d (member m e ms)) (member m d ms) (member m e (put k d ms)))
    go Less later = (low, h)
    go Equal later = h
    go Greater later = (h.0, later)

ascend-put : (k : List ℕ) (d : Data) (ms : Members) → Ascend ms → Ascend (put k d ms)
unfolding IsStrictlySortedBy
ascend-put k d no_members up = (tt, tt)
ascend-put k d (member l e ms) up = go (slice_cmp nat_cmp k l) refl (ascend-put k d ms up.1)
  where
    go : (o : Ordering) → slice_cmp nat_cmp k l ≡ o → Ascend (put k d ms) → Ascend (match_ordering o (member k d (member l e ms)) (member l d ms) (member l e (put k d ms)))
    go Less is later = ((is, below-all k l (names_in ms) is up.0), up)
    go Equal is later = up
    go Greater is later = (before-put l k d ms (nat_list_cmp_total.antisymm l k ∙ ap ordering_reverse is) up.0, later)

each-put : (k : List ℕ) (d : Data) (ms : Members) → Ascends d → EachMember ms → EachMember (put k d ms)
each-put k d no_members one each = (one, tt)
each-put k d (member l e ms) one each = go (slice_cmp nat_cmp k l) (each-put k d ms one each.1)
  where
    go : (o : Ordering) → EachMember (put k d ms) → EachMember (match_ordering o (member k d (member l e ms)) (member l d ms) (member l e (put k d ms)))
    go Less later = (one, each)
    go Equal later = (one, each.1)
    go Greater later = (each.0, later)

-- ---- a value that is read

some-map : {A B : Type 0} (P : A → Type 0) (Q : B → Type 0) (h : A → B) → ((a : A) → P a → Q (h a)) → (o : Option A) → IfSome o P → IfSome (option_map h o) Q
some-map P Q h k None x = tt
some-map P Q h k (Some a) x = k a x

some-then : {A B : Type 0} (P : A → Type 0) (Q : B → Type 0) (h : A → Option B) → ((a : A) → P a → IfSome (h a) Q) → (o : Option A) → IfSome o P → IfSome (option_and_then h o) Q
some-then P Q h k None x = tt
some-then P Q h k (Some a) x = k a x

any : {A : Type 0} (o : Option A) → IfSome o (λ _. ⊤)
any None = tt
any (Some a) = tt

-- members that ascend, with objects in them that do
abbrev AreAscending : Members → Type 0
AreAscending ms = Ascend ms × EachMember ms

pub no-ascend : Ascend no_members
unfolding IsStrictlySortedBy
no-ascend = tt

mutual
  of-json : (j : json.Json) → IfSome (of_json j) Ascends
  of-json json.null = tt
  of-json (json.boolean b) = tt
  of-json (json.number s) = some-map (λ (n : Num). ⊤) Ascends number (λ a x. tt) (number_of s) (any (number_of s))
  of-json (json.string s) = tt
  of-json (json.array js) = some-map EachItem Ascends array (λ a x. x) (of_items js) (of-items js)
  of-json (json.object ms) = some-map AreAscending Ascends object (λ a x. x) (of_members ms no_members) (of-members ms no_members (no-ascend, tt))

  of-items : (js : json.Items) → IfSome (of_items js) EachItem
  of-items json.no_items = tt
  of-items (json.item j js) =
      some-then Ascends EachItem (λ d. option_map (item d) (of_items js)) (λ d x. some-map EachItem EachItem (item d) (λ ds y. (x, y)) (of_items js) (of-items js)) (of_json j) (of-json j)

  of-members : (ms : json.Members) (found : Members) → AreAscending found → IfSome (of_members ms found) AreAscending
  of-members json.no_members found up = up
  of-members (json.member k j ms) found up =
      some-then Ascends AreAscending (λ d. of_members ms (put k d found)) (λ d x. of-members ms (put k d found) (ascend-put k d found up.0, each-put k d found x up.1)) (of_json j) (of-json j)

-- the objects of a value that is read ascend
pub read-ascends : (bytes : List ℕ) → IfSome (read bytes) Ascends
read-ascends bytes = some-then (λ (j : json.Json). ⊤) Ascends of_json (λ j x. of-json j) (option_and_then (λ p. json.if_last p.0 p.1) (json.value max_depth (tokens bytes))) (any _)

-- a member of ascending objects is one
pub get-ascends : (k : List ℕ) (ms : Members) → EachMember ms → IfSome (get_member k ms) Ascends
get-ascends k no_members each = tt
get-ascends k (member l e ms) each = go (slice_cmp nat_cmp k l) (get-ascends k ms each.1)
  where
    go : (o : Ordering) → IfSome (get_member k ms) Ascends → IfSome (match_ordering o (get_member k ms) (Some e) (get_member k ms)) Ascends
    go Less later = later
    go Equal later = each.0
    go Greater later = later
