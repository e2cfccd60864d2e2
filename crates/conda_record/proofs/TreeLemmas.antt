-- A value whose numbers are in range, and the data that it is, level by level.
use Rattle.std.proofs.Common.{◌≡◌, ℕ, List, Bool, true, false, true≢false, cond, bytes_eq, Option, Some, None, unwrap_or, is_some, option_map, option_and_then, refl, sym, ap, ◌∙◌}
use Rattle.std.specs.Prelude.{⊤}
use Rattle.std.proofs.lemmas.Slice.Eq.{bytes_eq-Decides}
use Rattle.json.proofs.Found.{Some_inj, not_found}
use Rattle.json.specs.Json as json
use Rattle.json.specs.Json.{Json}
use Rattle.json.specs.Find as tree
use Rattle.serde_json.specs.Data.{Num, Data, null, number, array, object, Items, item, Members, no_members, put}
use Rattle.serde_json.specs.Find.{get, get_member, as_str}
use Rattle.serde_json.specs.Read.{number_of, of_json, of_items, of_members}
use Rattle.serde_json.proofs.Views.{get_member-put, get_member-put_other}
use Rattle.conda_record.specs.Json.{both, texts_in, texts_of}
use Rattle.conda_record.specs.Tree.{data_of, tree_texts}

-- what is found of a name: the data of what the members have, else what was there before
abbrev expected : Option Json → Option Data → Option Data
expected None before = before
expected (Some j) before = of_json j

-- what is found is data
abbrev pub IsData : Option Json → Type 0
IsData None = ⊤
IsData (Some j) = is_some (of_json j) ≡ true

-- ---- the members

here : (b : Bool) (q k : List ℕ) (j : Json) (d : Data) (found : Members) → bytes_eq k q ≡ b → of_json j ≡ Some d
    → get_member q (put k d found) ≡ expected (cond b (Some j) None) (get_member q found)
here true q k j d found e is = ap (λ n. get_member n (put k d found)) (sym ((bytes_eq-Decides k q).0 e)) ∙ get_member-put k d found ∙ sym is
here false q k j d found e is = get_member-put_other q k d found (λ same. true≢false (sym ((bytes_eq-Decides k q).1 (sym same)) ∙ e))

later : (o p : Option Json) (x before now : Option Data) → x ≡ expected o now → now ≡ expected p before → x ≡ expected (tree.later_or o p) before
later None p x before now e h = e ∙ h
later (Some j) p x before now e h = e

-- one member in front of others of which it is known
step : (q k : List ℕ) (j : Json) (ms : json.Members) (found all : Members)
    → ((d : Data) → of_members ms (put k d found) ≡ Some all → get_member q all ≡ expected (tree.get_member q ms) (get_member q (put k d found)))
    → (o : Option Data) → of_json j ≡ o → option_and_then (λ d. of_members ms (put k d found)) o ≡ Some all
    → get_member q all ≡ expected (tree.get_member q (json.member k j ms)) (get_member q found)
step q k j ms found all rest None is e = not_found all e
step q k j ms found all rest (Some d) is e =
    later (tree.get_member q ms) (cond (bytes_eq k q) (Some j) None) (get_member q all) (get_member q found) (get_member q (put k d found))
    (rest d e) (here (bytes_eq k q) q k j d found refl is)

found_member : (q : List ℕ) (ms : json.Members) (found all : Members) → of_members ms found ≡ Some all
    → get_member q all ≡ expected (tree.get_member q ms) (get_member q found)
found_member q json.no_members found all e = ap (get_member q) (sym (Some_inj _ _ e))
found_member q (json.member k j ms) found all e = step q k j ms found all (λ d. found_member q ms (put k d found) all) (of_json j) refl e

either : (o : Option Json) (b : Bool) (j : Json) → IsData o → is_some (of_json j) ≡ true → IsData (tree.later_or o (cond b (Some j) None))
either None true j h mine = mine
either None false j h mine = tt
either (Some k) b j h mine = h

each : (q k : List ℕ) (j : Json) (ms : json.Members) (found : Members)
    → ((d : Data) → is_some (of_members ms (put k d found)) ≡ true → IsData (tree.get_member q ms))
    → (o : Option Data) → of_json j ≡ o → is_some (option_and_then (λ d. of_members ms (put k d found)) o) ≡ true → IsData (tree.get_member q (json.member k j ms))
each q k j ms found rest None is e = absurd (true≢false (sym e))
each q k j ms found rest (Some d) is e = either (tree.get_member q ms) (bytes_eq k q) j (rest d e) (ap is_some is)

member_is_data : (q : List ℕ) (ms : json.Members) (found : Members) → is_some (of_members ms found) ≡ true → IsData (tree.get_member q ms)
member_is_data q json.no_members found e = tt
member_is_data q (json.member k j ms) found e = each q k j ms found (λ d. member_is_data q ms (put k d found)) (of_json j) refl e

-- ---- the value behind a key

mapped : {A B : Type 0} (f : A → B) (o : Option A) → is_some (option_map f o) ≡ true → is_some o ≡ true
mapped f None e = e
mapped f (Some a) e = refl

-- what stands behind a key of data is data
pub got_is_data : (q : List ℕ) (j : Json) → is_some (of_json j) ≡ true → IsData (tree.get q j)
got_is_data q json.null e = tt
got_is_data q (json.boolean b) e = tt
got_is_data q (json.number s) e = tt
got_is_data q (json.string s) e = tt
got_is_data q (json.array js) e = tt
got_is_data q (json.object ms) e = member_is_data q ms no_members (mapped object (of_members ms no_members) e)

shown : (o : Option Json) → IsData o → expected o None ≡ option_map data_of o
shown None h = refl
shown (Some j) h = go (of_json j) h
  where
    go : (o : Option Data) → is_some o ≡ true → o ≡ Some (unwrap_or o null)
    go None e = absurd (true≢false (sym e))
    go (Some d) e = refl

in_object : (q : List ℕ) (ms : json.Members) (o : Option Members) → of_members ms no_members ≡ o → is_some (option_map object o) ≡ true
    → get q (unwrap_or (option_map object o) null) ≡ option_map data_of (tree.get_member q ms)
in_object q ms None is e = absurd (true≢false (sym e))
in_object q ms (Some all) is e = found_member q ms no_members all is ∙ shown (tree.get_member q ms) (member_is_data q ms no_members (ap is_some is))

not_in_number : (q : List ℕ) (o : Option Num) → get q (unwrap_or (option_map number o) null) ≡ None
not_in_number q None = refl
not_in_number q (Some n) = refl

not_in_array : (q : List ℕ) (o : Option Items) → get q (unwrap_or (option_map array o) null) ≡ None
not_in_array q None = refl
not_in_array q (Some ds) = refl

-- the data behind a key is that of the value behind it
pub got : (q : List ℕ) (j : Json) → is_some (of_json j) ≡ true → option_map data_of (tree.get q j) ≡ get q (data_of j)
got q json.null e = refl
got q (json.boolean b) e = refl
got q (json.number s) e = sym (not_in_number q (number_of s))
got q (json.string s) e = refl
got q (json.array js) e = sym (not_in_array q (of_items js))
got q (json.object ms) e = sym (in_object q ms (of_members ms no_members) refl e)

-- ---- strings and arrays

no_text_number : (o : Option Num) → as_str (unwrap_or (option_map number o) null) ≡ None
no_text_number None = refl
no_text_number (Some n) = refl

no_text_array : (o : Option Items) → as_str (unwrap_or (option_map array o) null) ≡ None
no_text_array None = refl
no_text_array (Some ds) = refl

no_text_object : (o : Option Members) → as_str (unwrap_or (option_map object o) null) ≡ None
no_text_object None = refl
no_text_object (Some ms) = refl

-- the string that the value is
pub string_is : (j : Json) → tree.as_str j ≡ as_str (data_of j)
string_is json.null = refl
string_is (json.boolean b) = refl
string_is (json.number s) = sym (no_text_number (number_of s))
string_is (json.string s) = refl
string_is (json.array js) = sym (no_text_array (of_items js))
string_is (json.object ms) = sym (no_text_object (of_members ms no_members))

more_texts : (j : Json) (js : json.Items) (o : Option Data) (p : Option Items) (all : Items) → of_json j ≡ o → option_and_then (λ d. option_map (item d) p) o ≡ Some all
    → ((rest : Items) → p ≡ Some rest → tree_texts js ≡ texts_in rest) → tree_texts (json.item j js) ≡ texts_in all
more_texts j js None p all is e rest = not_found all e
more_texts j js (Some d) None all is e rest = not_found all e
more_texts j js (Some d) (Some ds) all is e rest =
    let first : tree.as_str j ≡ as_str d = string_is j ∙ ap (λ o. as_str (unwrap_or o null)) is in
    ap (λ t. both t (tree_texts js)) first ∙ ap (both (as_str d)) (rest ds refl) ∙ ap texts_in (Some_inj _ _ e)

texts_in_items : (js : json.Items) (all : Items) → of_items js ≡ Some all → tree_texts js ≡ texts_in all
texts_in_items json.no_items all e = ap texts_in (Some_inj _ _ e)
texts_in_items (json.item j js) all e = more_texts j js (of_json j) (of_items js) all refl e (λ rest h. texts_in_items js rest h)

-- the texts of the array that the value is
pub texts_are : (js : json.Items) → is_some (of_json (json.array js)) ≡ true → tree_texts js ≡ texts_of (data_of (json.array js))
texts_are js e = go (of_items js) refl e
  where
    go : (o : Option Items) → of_items js ≡ o → is_some (option_map array o) ≡ true → tree_texts js ≡ texts_of (unwrap_or (option_map array o) null)
    go None is h = absurd (true≢false (sym h))
    go (Some all) is h = texts_in_items js all is
