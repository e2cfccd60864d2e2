-- Members that ascend, one after another, and the rows that they add.
use Rattle.std.proofs.Common.{◌≡◌, ℕ, suc, ◌-◌, ◌<◌, ◌≤◌, length, Bool, true, false, List, [], ◌∷◌, ◌++◌, Option, Some, None, Result, Ok, Err, OnOk, is_some, bytes_eq, true≢false, refl, sym, ap, ◌∙◌, subst, arith, append_assoc, append-nil}
use Rattle.std.specs.Prelude.{⊤}
use Rattle.std.specs.Ordering.{nat_cmp, ordering_reverse}
use Rattle.std.specs.declared.cmp.Ordering.TheVariants.{Less, Greater}
use Rattle.std.specs.Cmp.Lexicographic.{slice_cmp}
use Rattle.std.specs.List.{AllByRecursion}
use Rattle.std.specs.Borrow.{Bor}
use Rattle.std.proofs.lemmas.Cmp.{nat_list_cmp_total}
use Rattle.std.proofs.lemmas.Slice.Eq.{bytes_eq-Decides}
use Rattle.json.specs.Token.{Token}
use Rattle.json.specs.Json as tree
use Rattle.json.specs.Json.{value, members, read_key, parse_map}
use Rattle.json.proofs.Grammar.{value-begin_object}
use Rattle.serde_json.specs.Data.{Data, object, Members, no_members, member, put}
use Rattle.serde_json.specs.Find.{get_member}
use Rattle.serde_json.specs.Read.{of_json, of_members, converted}
use Rattle.serde_json.proofs.Views.{get_member-put, get_member-put_other}
use Rattle.channel_indexer.proofs.MemberTokenLemmas.{some-converted, object-converted, member-on, members-over}
use Rattle.gateway_words.specs.Reading.{◌>>=◌}
use Rattle.shard_file.specs.Rows.{Row, packages_key, conda_key}
use Rattle.channel_indexer.specs.declared.fault.IndexFault.{IndexFault}
use Rattle.channel_indexer.specs.Input.{members_of, row_of, rows_of, rows_of_parts, rows_in}
use Rattle.channel_indexer.specs.Seen.{behind}
use Rattle.channel_indexer.specs.Plain.{IsNext, value_in, members_in, rows_behind}
use Rattle.channel_indexer.proofs.MemberLemmas.{names_in}
use Rattle.channel_indexer.proofs.InputLemmas.{bind-ok}

-- ---- a key behind all those that were read

-- a key comes behind the names of some members
abbrev pub IsBehind : List ℕ → Members → Type 0
IsBehind k ms = AllByRecursion (λ l. slice_cmp nat_cmp l k ≡ Less) (names_in ms)

-- the members with one more at the end
abbrev pub with_last : List ℕ → Data → Members → Members
with_last k d no_members = member k d no_members
with_last k d (member l e ms) = member l e (with_last k d ms)

-- a key behind those of some members is put at their end
pub put-last : (k : List ℕ) (d : Data) (ms : Members) → IsBehind k ms → put k d ms ≡ with_last k d ms
put-last k d no_members h = refl
put-last k d (member l e ms) h =
    let above : slice_cmp nat_cmp k l ≡ Greater = nat_list_cmp_total.antisymm k l ∙ ap ordering_reverse h.0 in
    rw above (ap (member l e) (put-last k d ms h.1))

-- the next key is behind those that the last one is behind
behind-more : (k l : List ℕ) (ms : Members) → slice_cmp nat_cmp k l ≡ Less → IsBehind k ms → IsBehind l ms
behind-more k l no_members low h = tt
behind-more k l (member m e ms) low h = (nat_list_cmp_total.trans m k l h.0 low, behind-more k l ms low h.1)

behind-last : (k l : List ℕ) (d : Data) (ms : Members) → slice_cmp nat_cmp k l ≡ Less → IsBehind k ms → IsBehind l (with_last k d ms)
behind-last k l d no_members low h = (low, tt)
behind-last k l d (member m e ms) low h = (nat_list_cmp_total.trans m k l h.0 low, behind-last k l d ms low h.1)

-- each key that may come next is behind the members that were read
abbrev pub Passed : Option (Bor (List ℕ)) → Members → Type 0
Passed last done = (k : List ℕ) → IsNext last k → IsBehind k done

pub none-passed : Passed None no_members
none-passed k h = tt

-- a key behind those of some members is not among them
not-there : (k : List ℕ) (ms : Members) → IsBehind k ms → get_member k ms ≡ None
not-there k no_members h = refl
not-there k (member l e ms) h =
    let above : slice_cmp nat_cmp k l ≡ Greater = nat_list_cmp_total.antisymm k l ∙ ap ordering_reverse h.0 in
    rw above (not-there k ms h.1)

-- ---- one member more

module _ (depth : ℕ) where
  -- the members from the start on are those that were read, and those that the tokens have from here on
  abbrev pub Reads : List Token → ℕ → List Token → Members → Type 0
  Reads start n now done =
      (length now ≤ n) × (members_in depth start ≡ converted (λ ms. of_members ms done) (members (value depth) n now)) × (length now ≤ length start)

  pub reads-start : (start : List Token) → Reads start (length start) start no_members
  reads-start start = (omega arith, refl, omega arith)

  pub reads-on : (start : List Token) (n : ℕ) (now s r : List Token) (done : Members) (k : List ℕ) (d : Data) → Reads start n now done → IsBehind k done
      → read_key now ≡ Some (Some k, s) → value_in depth s ≡ Some (d, r) → length s < length now → length r < length s → Reads start (n - 1) r (with_last k d done)
  reads-on start n now s r done k d so_far last key e less lesser = (
    omega (arith, so_far.0),
    so_far.1 ∙ member-on (value depth) done n k now s r d (omega (arith, so_far.0)) key e
        ∙ ap (λ (ms : Members). converted (λ rest. of_members rest ms) (members (value depth) (n - 1) r)) (put-last k d done last),
    omega (arith, so_far.2),
  )

  pub reads-over : (start : List Token) (n : ℕ) (now r : List Token) (done : Members) → Reads start n now done → read_key now ≡ Some (None, r) → members_in depth start ≡ Some (done, r)
  reads-over start n now r done so_far key = so_far.1 ∙ members-over (value depth) done n now r so_far.0 key

-- the value whose members are read behind the brace
pub object-read : (depth : ℕ) (ts r : List Token) (ms : Members) → members_in depth ts ≡ Some (ms, r) → value_in (suc depth) (Token.begin_object ∷ ts) ≡ Some (object ms, r)
object-read depth ts r ms e =
    let same : suc depth - 1 ≡ depth = omega arith in
    ap (converted of_json) (value-begin_object (suc depth) ts (omega arith)) ∙ rw same (object-converted (members (value depth) (length ts) ts) ∙ ap (parse_map object) e)

data-there : (o : Option Data) → is_some o ≡ true → (d : Data) × (o ≡ Some d)
data-there None e = absurd (true≢false (sym e))
data-there (Some d) e = (d, refl)

-- a value that was read, and that is data
pub value-there : (depth : ℕ) (ts r : List Token) (j : tree.Json) → value depth ts ≡ Some (j, r) → is_some (of_json j) ≡ true → (d : Data) × (value_in depth ts ≡ Some (d, r))
value-there depth ts r j e is = let d = data-there (of_json j) is in (d.0, some-converted of_json (value depth ts) j d.0 r e d.1)

-- the row of a value that was read
pub row-there : (depth : ℕ) (ts r : List Token) (j : tree.Json) (conda : Bool) (file : List ℕ) (row : Row) → value depth ts ≡ Some (j, r)
    → (d : Data) × (of_json j ≡ Some d) × (row_of conda file d ≡ Ok row) → (d : Data) × (value_in depth ts ≡ Some (d, r)) × (row_of conda file d ≡ Ok row)
row-there depth ts r j conda file row e is = (is.0, some-converted of_json (value depth ts) j is.0 r e is.1, is.2)

-- the next key is behind the members that were read, and so is each key behind it
pub passed-on : (last : Option (Bor (List ℕ))) (key : Bor (List ℕ)) (d : Data) (done : Members) → Passed last done → IsNext last key.now → Passed (Some key) (with_last key.now d done)
passed-on last key d done passed next = λ k low. behind-last key.now k d done low (passed key.now next)

-- ---- the rows of one file more

rows-last : (conda : Bool) (file : List ℕ) (d : Data) (done : Members) (rows : List Row) (r : Row) → rows_of conda done ≡ Ok rows → row_of conda file d ≡ Ok r
    → rows_of conda (with_last file d done) ≡ Ok (rows ++ r ∷ [])
rows-last conda file d no_members rows r e is =
    let none : [] ≡ rows = cc in
    rw (is, ← none)
rows-last conda file d (member l f ms) rows r e is =
    let first = bind-ok (row_of conda l f) (λ r. rows_of conda ms >>= λ rs. Ok (r ∷ rs)) rows e in
    let rest = bind-ok (rows_of conda ms) (λ rs. Ok (first.0 ∷ rs)) rows first.1.1 in
    let same : first.0 ∷ rest.0 ≡ rows = cc (rest.1.1) in
    rw (first.1.0, rows-last conda file d ms rest.0 r rest.1.0 is) (ap (λ (rs : List Row). Ok (rs ++ r ∷ [])) same)

-- what a call that reads the members of an object says of the object itself
pub part-read : {E : Type 0} (depth : ℕ) (start ts r : List Token) (conda : Bool) (old new : List Row) (result : Result ⊤ E) → start ≡ Token.begin_object ∷ ts
    → OnOk result ((files : Members) × (members_in depth ts ≡ Some (files, r)) × (behind old (rows_of conda files) ≡ Ok new))
    → OnOk result ((files : Members) × (value_in (suc depth) start ≡ Some (object files, r)) × (behind old (rows_of conda files) ≡ Ok new))
part-read depth start ts r conda old new (Ok done) first read = (read.0, ap (value_in (suc depth)) first ∙ object-read depth ts r read.0 read.1, read.2)
part-read depth start ts r conda old new (Err e) first read = tt

-- ---- the rows of one key more

none-behind : (rows : List Row) → ◌≡◌ {A = Result (List Row) IndexFault} (Ok []) (Ok rows) → rows ≡ []
none-behind [] e = refl
none-behind (r ∷ rs) e = absurd (cc)

-- the rows so far, and behind them that of the next file
pub file-added : (conda : Bool) (file : List ℕ) (d : Data) (done : Members) (old rows : List Row) (r : Row) → behind old (rows_of conda done) ≡ Ok rows → row_of conda file d ≡ Ok r
    → behind old (rows_of conda (with_last file d done)) ≡ Ok (rows ++ r ∷ [])
file-added conda file d done old rows r e is =
    let so_far = bind-ok (rows_of conda done) (λ rs. Ok (old ++ rs)) rows e in
    let same : old ++ so_far.0 ≡ rows = cc (so_far.1.1) in
    rw (rows-last conda file d done so_far.0 r so_far.1.0 is) (ap Ok (sym (append_assoc old so_far.0 (r ∷ []))) ∙ ap (λ (rs : List Row). Ok (rs ++ r ∷ [])) same)

-- the rows of the values behind the keys of the two parts
abbrev found : Option Data → Option Data → Result (List Row) IndexFault
found p c = members_of p >>= λ packages. members_of c >>= λ conda. rows_of_parts packages conda

packages-added : (d : Data) (rows new : List Row) → found None None ≡ Ok rows → behind rows (members_of (Some d) >>= λ ms. rows_of false ms) ≡ Ok new → found (Some d) None ≡ Ok new
packages-added d rows new e f =
    let none = none-behind rows e in
    let read = bind-ok (members_of (Some d) >>= λ ms. rows_of false ms) (λ rs. Ok (rows ++ rs)) new f in
    let ms = bind-ok (members_of (Some d)) (λ ms. rows_of false ms) read.0 read.1.0 in
    let same : rows ++ read.0 ≡ new = cc (read.1.1) in
    rw (ms.1.0, ms.1.1) (ap Ok (append-nil read.0 ∙ ap (λ (rs : List Row). rs ++ read.0) (sym none) ∙ same))

conda-added : (p : Option Data) (d : Data) (rows new : List Row) → found p None ≡ Ok rows → behind rows (members_of (Some d) >>= λ ms. rows_of true ms) ≡ Ok new → found p (Some d) ≡ Ok new
conda-added p d rows new e f =
    let packages = bind-ok (members_of p) (λ packages. rows_of_parts packages no_members) rows e in
    let ps = bind-ok (rows_of false packages.0) (λ ps. Ok (ps ++ [])) rows packages.1.1 in
    let so_far : ps.0 ++ [] ≡ rows = cc (ps.1.1) in
    let read = bind-ok (members_of (Some d) >>= λ ms. rows_of true ms) (λ cs. Ok (rows ++ cs)) new f in
    let ms = bind-ok (members_of (Some d)) (λ ms. rows_of true ms) read.0 read.1.0 in
    let same : rows ++ read.0 ≡ new = cc (read.1.1) in
    rw (packages.1.0, ms.1.0, ps.1.0, ms.1.1) (ap Ok (ap (λ (rs : List Row). rs ++ read.0) (sym (append-nil ps.0) ∙ so_far) ∙ same))

other-added : (p c : Option Data) (rows new : List Row) → found p c ≡ Ok rows → behind rows (Ok []) ≡ Ok new → found p c ≡ Ok new
other-added p c rows new e f = e ∙ ap Ok (sym (append-nil rows)) ∙ f

differ : (a b : List ℕ) → bytes_eq a b ≡ false → a ≡ b → ⊥
differ a b unlike e = true≢false (sym ((bytes_eq-Decides a b).1 e) ∙ unlike)

-- the rows of the file so far, and behind them those of the next key
pub key-added : (k : List ℕ) (d : Data) (done : Members) (rows new : List Row) → IsBehind k done → rows_in (object done) ≡ Ok rows → behind rows (rows_behind k d) ≡ Ok new
    → rows_in (object (with_last k d done)) ≡ Ok new
key-added k d done rows new last e f = subst (λ (ms : Members). rows_in (object ms) ≡ Ok new) (put-last k d done last) (go (bytes_eq k packages_key) (bytes_eq k conda_key) refl refl)
  where
    go : (p c : Bool) → bytes_eq k packages_key ≡ p → bytes_eq k conda_key ≡ c → rows_in (object (put k d done)) ≡ Ok new
    go true c is any =
        let key : k ≡ packages_key = (bytes_eq-Decides k packages_key).0 is in
        let there = subst (λ q. get_member q (put k d done) ≡ Some d) key (get_member-put k d done) in
        let before = subst (λ q. get_member q done ≡ None) key (not-there k done last) in
        let later = not-there conda_key done (behind-more packages_key conda_key done refl (subst (λ q. IsBehind q done) key last)) in
        let other = get_member-put_other conda_key k d done (λ h. differ packages_key conda_key refl (sym key ∙ sym h)) ∙ later in
        let step : behind rows (members_of (Some d) >>= λ ms. rows_of false ms) ≡ Ok new = rw is at f in
        rw (there, other) (packages-added d rows new (rw (before, later) at e) step)
    go false true not_packages is =
        let key : k ≡ conda_key = (bytes_eq-Decides k conda_key).0 is in
        let there = subst (λ q. get_member q (put k d done) ≡ Some d) key (get_member-put k d done) in
        let before = subst (λ q. get_member q done ≡ None) key (not-there k done last) in
        let other = get_member-put_other packages_key k d done (λ h. differ k packages_key not_packages (sym h)) in
        let step : behind rows (members_of (Some d) >>= λ ms. rows_of true ms) ≡ Ok new = rw (not_packages, is) at f in
        rw (there, other) (conda-added (get_member packages_key done) d rows new (rw before at e) step)
    go false false not_packages not_conda =
        let first = get_member-put_other packages_key k d done (λ h. differ k packages_key not_packages (sym h)) in
        let second = get_member-put_other conda_key k d done (λ h. differ k conda_key not_conda (sym h)) in
        let step : behind rows (Ok []) ≡ Ok new = rw (not_packages, not_conda) at f in
        rw (first, second) (other-added (get_member packages_key done) (get_member conda_key done) rows new e step)
