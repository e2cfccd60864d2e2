-- What a file says is one thing: one order of its rows, one way to group them, and one fault.
use Rattle.std.proofs.Common.{◌≡◌, ◌≢◌, ℕ, Bool, true, false, cond, List, [], ◌∷◌, ◌++◌, map, length, Option, Some, None, Result, Ok, Err, IfSome, IfErr, arith, refl, sym, ap, ◌∙◌, subst}
use Rattle.std.specs.Ordering.{nat_cmp, is_eq, ordering_reverse}
use Rattle.std.specs.declared.cmp.Ordering.{Ordering}
use Rattle.std.specs.declared.cmp.Ordering.TheVariants.{Less, Equal, Greater}
use Rattle.std.specs.Cmp.Lexicographic.{slice_cmp}
use Rattle.std.specs.Str.{bytes_eq}
use Rattle.std.specs.List.{All, AllByRecursion}
use Rattle.std.specs.List.Sorted.{IsStrictlySortedBy}
use Rattle.std.specs.FinMap.{get}
use Rattle.std.proofs.lemmas.Cmp.{nat_list_cmp_total}
use Rattle.std.proofs.lemmas.List.Elements.{All-head, All-tail}
use Rattle.std.proofs.lemmas.Map.Keys.{sorted_head, sorted_tail}
use Rattle.std.proofs.lemmas.Map.Text.{is_eq-slice_cmp}
use Rattle.std.proofs.lemmas.Slice.Eq.{bytes_eq-Decides}
use Rattle.channel_store.specs.Store.{Files}
use Rattle.shard_file.specs.Rows.{Row, file_lt}
use Rattle.mp_codec.proofs.SortingLemmas.{one_sort}
use Rattle.shard_file.proofs.SortLemmas.{file_order}
use Rattle.channel_indexer.specs.declared.fault.IndexFault.{IndexFault}
use Rattle.channel_indexer.specs.declared.fault.IndexFault.TheVariants as fault
use Rattle.channel_indexer.specs.declared.fault.Large.TheVariants as large
use Rattle.channel_indexer.specs.declared.index.Summary.{Summary}
use Rattle.channel_indexer.specs.declared.plan.Plan.{Plan}
use Rattle.channel_indexer.specs.Store.{stored_fault}
use Rattle.channel_indexer.specs.Groups.{Group, rows_under, InOrder, AreGroupsOf}
use Rattle.channel_store.specs.Names.{input_name}
use Rattle.channel_indexer.specs.Shards.{listed_of, IsFit, HasFitIndex, IsFirstLong}
use Rattle.channel_indexer.specs.Prepared.{AreTooLong}
use Rattle.channel_indexer.specs.Indexing.{SaysGroups, BytesFault, says, makes, PlaceFault, no_file, too_long, of_bytes, IsIndexable, IsPlanOf, AnswersFault}
use Rattle.channel_indexer.proofs.LawLemmas.{itself, no-group}
use Rattle.channel_indexer.proofs.IndexLemmas.{StandsAt, plan-indexable}

-- ---- the order of the rows

-- rows have one order
pub one-order : (stood rows more : List Row) → InOrder stood rows → InOrder stood more → rows ≡ more
one-order stood rows more a b = one_sort file_lt file_order rows more a.ascending b.ascending (λ r. b.in_order r ∙ sym (a.in_order r))

-- ---- the groups

-- the names of some groups
abbrev names : List Group → List (List ℕ)
names groups = map (λ (g : Group). g.name) groups

-- groups ascend by their names
abbrev Ascend : List Group → Type 0
Ascend groups = IsStrictlySortedBy (slice_cmp nat_cmp) (names groups)

-- no group is empty
abbrev AreSome : List Group → Type 0
AreSome groups = All (λ (g : Group). g.rows ≢ []) groups

-- what comes before a name comes before those behind it
pub below-all : (a b : List ℕ) (ks : List (List ℕ)) → slice_cmp nat_cmp a b ≡ Less → AllByRecursion (λ k. slice_cmp nat_cmp b k ≡ Less) ks
    → AllByRecursion (λ k. slice_cmp nat_cmp a k ≡ Less) ks
below-all a b [] low h = h
below-all a b (k ∷ ks) low h = (nat_list_cmp_total.trans a b k low h.0, below-all a b ks low h.1)

-- the rows under the first name are those of the first group
pub first-rows : (g : Group) (gs : List Group) → rows_under g.name (g ∷ gs) ≡ g.rows
first-rows g gs = ap (λ b. cond b g.rows (rows_under g.name gs)) (itself g.name)

-- behind the first group there are none under its name
none-behind : (g : Group) (gs : List Group) → Ascend (g ∷ gs) → rows_under g.name gs ≡ []
none-behind g gs up = no-group g.name gs (sorted_head (slice_cmp nat_cmp) g.name (names gs) up)

-- a group that comes before all others has no rows among theirs
none-under : (g h : Group) (hs : List Group) → slice_cmp nat_cmp g.name h.name ≡ Less → Ascend (h ∷ hs) → rows_under g.name (h ∷ hs) ≡ []
none-under g h hs low up =
    no-group g.name (h ∷ hs) (low, below-all g.name h.name (names hs) low (sorted_head (slice_cmp nat_cmp) h.name (names hs) up))

-- so no group comes before all groups with the same rows under each name
not-before : (g h : Group) (gs hs : List Group) → Ascend (h ∷ hs) → AreSome (g ∷ gs)
    → ((name : List ℕ) → rows_under name (g ∷ gs) ≡ rows_under name (h ∷ hs)) → slice_cmp nat_cmp g.name h.name ≡ Less → ⊥
not-before g h gs hs up some each low =
    All-head (λ (g : Group). g.rows ≢ []) g gs some (sym (first-rows g gs) ∙ each g.name ∙ none-under g h hs low up)

-- the first of two groups with the same rows under each name
same-name : (g h : Group) (gs hs : List Group) → Ascend (g ∷ gs) → Ascend (h ∷ hs) → AreSome (g ∷ gs) → AreSome (h ∷ hs)
    → ((name : List ℕ) → rows_under name (g ∷ gs) ≡ rows_under name (h ∷ hs)) → g.name ≡ h.name
same-name g h gs hs up high some more each = go (slice_cmp nat_cmp g.name h.name) refl
  where
    go : (o : Ordering) → slice_cmp nat_cmp g.name h.name ≡ o → g.name ≡ h.name
    go Less e = absurd (not-before g h gs hs high some each e)
    go Equal e = (bytes_eq-Decides g.name h.name).0 (sym (is_eq-slice_cmp g.name h.name) ∙ ap is_eq e)
    go Greater e = absurd (not-before h g hs gs up more (λ name. sym (each name)) (nat_list_cmp_total.antisymm h.name g.name ∙ ap ordering_reverse e))

-- the others have the same rows under each name
same-behind : (g h : Group) (gs hs : List Group) → Ascend (g ∷ gs) → Ascend (h ∷ hs) → g.name ≡ h.name
    → ((name : List ℕ) → rows_under name (g ∷ gs) ≡ rows_under name (h ∷ hs)) → (name : List ℕ) → rows_under name gs ≡ rows_under name hs
same-behind g h gs hs up high same each name = go (bytes_eq name g.name) refl
  where
    go : (b : Bool) → bytes_eq name g.name ≡ b → rows_under name gs ≡ rows_under name hs
    go true e =
        let is : name ≡ g.name = (bytes_eq-Decides name g.name).0 e in
        ap (λ n. rows_under n gs) is ∙ none-behind g gs up ∙ sym (none-behind h hs high) ∙ ap (λ n. rows_under n hs) (sym (is ∙ same))
    go false e =
        ap (λ b. cond b g.rows (rows_under name gs)) (sym e) ∙ each name
        ∙ ap (λ b. cond b h.rows (rows_under name hs)) (ap (bytes_eq name) (sym same) ∙ e)

-- groups are told by their rows under each name
same-groups : (gs hs : List Group) → Ascend gs → Ascend hs → AreSome gs → AreSome hs
    → ((name : List ℕ) → rows_under name gs ≡ rows_under name hs) → gs ≡ hs
same-groups [] [] up high some more each = refl
same-groups [] (h ∷ hs) up high some more each =
    absurd (All-head (λ (g : Group). g.rows ≢ []) h hs more (sym (first-rows h hs) ∙ sym (each h.name)))
same-groups (g ∷ gs) [] up high some more each =
    absurd (All-head (λ (g : Group). g.rows ≢ []) g gs some (sym (first-rows g gs) ∙ each g.name))
same-groups (g ∷ gs) (h ∷ hs) up high some more each =
    let name : g.name ≡ h.name = same-name g h gs hs up high some more each in
    let rows : g.rows ≡ h.rows = sym (first-rows g gs) ∙ each g.name ∙ ap (λ n. rows_under n (h ∷ hs)) name ∙ first-rows h hs in
    let rest : gs ≡ hs = same-groups gs hs (sorted_tail (slice_cmp nat_cmp) g.name (names gs) up) (sorted_tail (slice_cmp nat_cmp) h.name (names hs) high)
    (All-tail (λ (g : Group). g.rows ≢ []) g gs some) (All-tail (λ (g : Group). g.rows ≢ []) h hs more) (same-behind g h gs hs up high name each) in
    λ i. record { name = name i; rows = rows i } ∷ rest i

-- rows have one grouping
pub one-grouping : (rows : List Row) (gs hs : List Group) → AreGroupsOf rows gs → AreGroupsOf rows hs → gs ≡ hs
one-grouping rows gs hs a b = same-groups gs hs a.ascending b.ascending a.some b.some (λ name. a.each name ∙ sym (b.each name))

-- ---- what a file says

-- a file says one list of rows
pub one-stood : (bytes : List ℕ) (stood others : List Row) (groups more : List Group) → SaysGroups bytes stood groups → SaysGroups bytes others more → stood ≡ others
one-stood bytes stood others groups more a b = let both : ◌≡◌ {A = Result (List Row) IndexFault} (Ok stood) (Ok others) = sym a.read ∙ b.read in cc

-- a file says one list of groups
pub one-groups : (bytes : List ℕ) (stood others : List Row) (groups more : List Group) → SaysGroups bytes stood groups → SaysGroups bytes others more → groups ≡ more
one-groups bytes stood others groups more a b =
    let same : stood ≡ others = one-stood bytes stood others groups more a b in
    let rows : a.rows ≡ b.rows = one-order others a.rows b.rows (subst (λ (s : List Row). InOrder s a.rows) same a.in_order) b.in_order in
    one-grouping b.rows groups more (subst (λ (l : List Row). AreGroupsOf l groups) rows a.grouped) b.grouped

-- ---- one fault

-- the first that isn't fit is one
first-unfit : (front others : List Group) (long large : Group) (back behind : List Group) → front ++ long ∷ back ≡ others ++ large ∷ behind
    → All IsFit front → All IsFit others → (IsFit long → ⊥) → (IsFit large → ⊥) → long ≡ large
first-unfit [] [] long large back behind e fit more unfit wrong = cc
first-unfit [] (h ∷ hs) long large back behind e fit more unfit wrong =
    let is : long ≡ h = cc in absurd (unfit (subst IsFit (sym is) (All-head IsFit h hs more)))
first-unfit (g ∷ gs) [] long large back behind e fit more unfit wrong =
    let is : g ≡ large = cc in absurd (wrong (subst IsFit is (All-head IsFit g gs fit)))
first-unfit (g ∷ gs) (h ∷ hs) long large back behind e fit more unfit wrong =
    let rest : gs ++ long ∷ back ≡ hs ++ large ∷ behind = cc in
    first-unfit gs hs long large back behind rest (All-tail IsFit g gs fit) (All-tail IsFit h hs more) unfit wrong

-- not all groups are fit where one isn't
not-all : (front : List Group) (long : Group) (back : List Group) → All IsFit (front ++ long ∷ back) → (IsFit long → ⊥) → ⊥
not-all [] long back all unfit = unfit (All-head IsFit long back all)
not-all (g ∷ gs) long back all unfit = not-all gs long back (All-tail IsFit g (gs ++ long ∷ back) all) unfit

one-long : (groups : List Group) (name other : List ℕ) → IsFirstLong groups name → IsFirstLong groups other → name ≡ other
one-long groups name other a b =
    sym a.named ∙ ap (λ (g : Group). g.name) (first-unfit a.front b.front a.long b.long a.back b.back (sym a.are ∙ b.are) a.fit b.fit a.unfit b.unfit) ∙ b.named

-- the first that is too long is not there where all are fit
no-long : (groups : List Group) (name : List ℕ) → IsFirstLong groups name → All IsFit groups → ⊥
no-long groups name a all = not-all a.front a.long a.back (subst (All IsFit) a.are all) a.unfit

-- the first that is too long is the fault
is-shard : (place : List ℕ) (groups : List Group) (name : List ℕ) (g : IndexFault) → IsFirstLong groups name → AreTooLong place groups g
    → fault.TooLong (large.Shard name) ≡ g
is-shard place groups name (fault.TooLong (large.Shard other)) a b = ap (λ (n : List ℕ). fault.TooLong (large.Shard n)) (one-long groups name other a b)
is-shard place groups name (fault.TooLong large.Index) a b = absurd (no-long groups name a b.0)
is-shard place groups name g a b = absurd b

-- the index is the fault where all groups are fit
is-index : (place : List ℕ) (groups : List Group) (g : IndexFault) → All IsFit groups → AreTooLong place groups g → fault.TooLong large.Index ≡ g
is-index place groups (fault.TooLong (large.Shard name)) all b = absurd (no-long groups name b all)
is-index place groups (fault.TooLong large.Index) all b = refl
is-index place groups g all b = absurd b

-- groups have one fault
one-unfit : (place : List ℕ) (groups : List Group) (f g : IndexFault) → AreTooLong place groups f → AreTooLong place groups g → f ≡ g
one-unfit place groups (fault.TooLong (large.Shard name)) g a b = is-shard place groups name g a b
one-unfit place groups (fault.TooLong large.Index) g a b = is-index place groups g a.0 b
one-unfit place groups f g a b = absurd a

-- some bytes have one fault
one-bytes-fault : (place bytes : List ℕ) (f g : IndexFault) → BytesFault place bytes f → BytesFault place bytes g → f ≡ g
one-bytes-fault place bytes f g (says a) (says b) = let both : ◌≡◌ {A = Result (List Row) IndexFault} (Err f) (Err g) = sym a ∙ b in cc
one-bytes-fault place bytes f g (says a) (makes stood groups said unfit) =
    absurd (let both : ◌≡◌ {A = Result (List Row) IndexFault} (Err f) (Ok stood) = sym a ∙ said.read in cc)
one-bytes-fault place bytes f g (makes stood groups said unfit) (says b) =
    absurd (let both : ◌≡◌ {A = Result (List Row) IndexFault} (Err g) (Ok stood) = sym b ∙ said.read in cc)
one-bytes-fault place bytes f g (makes stood groups said unfit) (makes others more again wrong) =
    one-unfit place more f g (subst (λ (gs : List Group). AreTooLong place gs f) (one-groups bytes stood others groups more said again) unfit) wrong

-- the file at a place is one
one-file : (o : Option (List ℕ)) (a b : List ℕ) → o ≡ Some a → o ≡ Some b → a ≡ b
one-file o a b p q = let both : ◌≡◌ {A = Option (List ℕ)} (Some a) (Some b) = sym p ∙ q in cc

-- a file that is absent is not there
no-file-there : (o : Option (List ℕ)) (a : List ℕ) → o ≡ None → o ≡ Some a → ⊥
no-file-there o a p q = let both : ◌≡◌ {A = Option (List ℕ)} None (Some a) = sym p ∙ q in cc

-- a place has one fault
pub one-fault : (place : List ℕ) (told : Files) (f g : IndexFault) → PlaceFault place told f → PlaceFault place told g → f ≡ g
one-fault place told _ _ (no_file a) (no_file b) = refl
one-fault place told _ _ (no_file a) (too_long bytes b more) = absurd (no-file-there (get told (input_name place)) bytes a b)
one-fault place told _ g (no_file a) (of_bytes bytes b short wrong) = absurd (no-file-there (get told (input_name place)) bytes a b)
one-fault place told _ _ (too_long bytes a more) (no_file b) = absurd (no-file-there (get told (input_name place)) bytes b a)
one-fault place told _ _ (too_long bytes a more) (too_long others b most) = refl
one-fault place told _ g (too_long bytes a more) (of_bytes others b short wrong) =
    absurd (let same : bytes ≡ others = one-file (get told (input_name place)) bytes others a b in omega (arith, ap (length {A = ℕ}) same))
one-fault place told f _ (of_bytes bytes a short wrong) (no_file b) = absurd (no-file-there (get told (input_name place)) bytes b a)
one-fault place told f _ (of_bytes bytes a short wrong) (too_long others b more) =
    absurd (let same : bytes ≡ others = one-file (get told (input_name place)) bytes others a b in omega (arith, ap (length {A = ℕ}) same))
one-fault place told f g (of_bytes bytes a short said) (of_bytes others b few wrong) =
    one-bytes-fault place others f g (subst (λ (l : List ℕ). BytesFault place l f) (one-file (get told (input_name place)) bytes others a b) said) wrong

-- ---- a place with nothing wrong

-- groups that are fit have no fault
no-unfit : (place : List ℕ) (groups : List Group) (f : IndexFault) → AreTooLong place groups f → All IsFit groups → HasFitIndex place (map listed_of groups) → ⊥
no-unfit place groups (fault.TooLong (large.Shard name)) a all index = no-long groups name a all
no-unfit place groups (fault.TooLong large.Index) a all index = a.1 index
no-unfit place groups f a all index = a

no-bytes-fault : (place bytes : List ℕ) (stood : List Row) (groups : List Group) (f : IndexFault) → SaysGroups bytes stood groups
    → All IsFit groups → HasFitIndex place (map listed_of groups) → BytesFault place bytes f → ⊥
no-bytes-fault place bytes stood groups f said all index (says e) =
    let both : ◌≡◌ {A = Result (List Row) IndexFault} (Err f) (Ok stood) = sym e ∙ said.read in cc
no-bytes-fault place bytes stood groups f said all index (makes others more again unfit) =
    no-unfit place groups f (subst (λ (gs : List Group). AreTooLong place gs f) (one-groups bytes others stood more groups again said) unfit) all index

-- a place that can be indexed has no fault
pub no-place-fault : (place : List ℕ) (told : Files) (stood : List Row) (groups : List Group) (f : IndexFault)
    → IsIndexable place told stood groups → PlaceFault place told f → ⊥
no-place-fault place told stood groups _ can (no_file e) = no-file-there (get told (input_name place)) can.bytes e can.stands
no-place-fault place told stood groups _ can (too_long bytes e more) =
    let same : can.bytes ≡ bytes = one-file (get told (input_name place)) can.bytes bytes can.stands e in omega (arith, can.short, ap (length {A = ℕ}) same)
no-place-fault place told stood groups f can (of_bytes bytes e short wrong) =
    no-bytes-fault place can.bytes stood groups f can.says can.fit can.index_fit
    (subst (λ (l : List ℕ). BytesFault place l f) (one-file (get told (input_name place)) bytes can.bytes e can.stands) wrong)

-- ---- what is answered

-- an answer by the input is one by the place
pub input-fails : (old : Option Files) (place : List ℕ) (e : IndexFault) → IfSome old (λ told. IfSome (stored_fault e) (PlaceFault place told))
    → IfSome (stored_fault e) (λ f. IfSome old (λ told. PlaceFault place told f))
input-fails None place e fails = go (stored_fault e)
  where
    go : (o : Option IndexFault) → IfSome o (λ f. Unit {0})
    go None = tt
    go (Some f) = tt
input-fails (Some told) place e fails = fails

-- a fault that stands at the place is the one that is answered
pub answers-fault : (old : Option Files) (place : List ℕ) (result : Result Summary IndexFault) (e : IndexFault) → result ≡ Err e
    → IfSome (stored_fault e) (λ f. IfSome old (λ told. PlaceFault place told f)) → IfSome old (λ told. (f : IndexFault) → PlaceFault place told f → AnswersFault f result)
answers-fault None place result e is fails = tt
answers-fault (Some told) place result e is fails = λ f stands. subst (AnswersFault f) (sym is) (go (stored_fault e) fails f stands)
  where
    go : (o : Option IndexFault) → IfSome o (PlaceFault place told) → (f : IndexFault) → PlaceFault place told f → IfSome o (λ g. g ≡ f)
    go None h f stands = tt
    go (Some g) h f stands = one-fault place told g f h stands

-- at a place that can be indexed no fault of the place is answered
pub answers-none : (old : Option Files) (place : List ℕ) (result : Result Summary IndexFault) (e : IndexFault) → result ≡ Err e
    → IfSome (stored_fault e) (λ f. IfSome old (λ told. PlaceFault place told f))
    → IfSome old (λ told. (stood : List Row) (groups : List Group) → IsIndexable place told stood groups → IfErr result (λ e. stored_fault e ≡ None))
answers-none None place result e is fails = tt
answers-none (Some told) place result e is fails =
    λ stood groups can. subst (λ (r : Result Summary IndexFault). IfErr r (λ e. stored_fault e ≡ None)) (sym is) (go (stored_fault e) fails stood groups can)
  where
    go : (o : Option IndexFault) → IfSome o (PlaceFault place told) → (stood : List Row) (groups : List Group) → IsIndexable place told stood groups → o ≡ None
    go None h stood groups can = refl
    go (Some g) h stood groups can = absurd (no-place-fault place told stood groups g can h)

-- no fault stands at a place whose file has a plan
pub plan-unbroken : (old : Option Files) (place bytes : List ℕ) (made : Plan) → StandsAt place bytes old → IsPlanOf place bytes made
    → IfSome old (λ told. (f : IndexFault) → PlaceFault place told f → ⊥)
plan-unbroken None place bytes made stands plan = tt
plan-unbroken (Some told) place bytes made stands plan =
    λ f fault. no-place-fault place told plan.stood plan.groups f (plan-indexable told place bytes made stands.0 stands.1 plan) fault
