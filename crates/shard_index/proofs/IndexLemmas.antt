-- An index is read right: it says what the bytes spell, and a fault is the first one.
use Rattle.std.proofs.Common.{◌≡◌, refl, sym, ◌∙◌, ap, subst, ℕ, zero, suc, ◌<◌, ◌≤◌, ◌⊎◌, inl, inr, Bool, true, false, cond, List, [], ◌∷◌, map, arith}
use Rattle.std.specs.Prelude.{Result, Ok, Err, Option, Some, None, IfOk, IfErr, IfSome, MatchResult}
use Rattle.std.specs.Str.{bytes_eq}
use Rattle.std.specs.List.Sorted.{IsSortedBy, IsStableBy}
use Rattle.gateway_words.specs.Places.{Position, start_of}
use Rattle.mp_codec.specs.declared.fault.FormatFault.{FormatFault}
use Rattle.mp_codec.specs.Value.{Value, Pairs, pairs_of, str_of}
use Rattle.mp_codec.specs.Fault.{Faults, MapRules, MapFault, IsFirstFault}
use Rattle.mp_codec.specs.Keys.{has_bytes, value_at}
use Rattle.mp_codec.specs.Maps.{Read, place_of, is_distinct, known_map_from}
use Rattle.mp_codec.proofs.JudgingLemmas.{StandBehind, JudgesOne}
use Rattle.mp_codec.proofs.MapLemmas.{mapped, same_faults}
use Rattle.mp_codec.proofs.KeyLemmas.{same_bytes, KnowsFrom, datum_at, table_rules, table_judged}
use Rattle.mp_codec.proofs.MappedLemmas.{turned, known_map_turned, data_of, knows_is}
use Rattle.mp_codec.proofs.RuleLemmas.{RulesWithin, map_within}
use Rattle.mp_codec.proofs.BytesLemmas.{ReadsBytes, JudgesBytes, bytes_judged}
use Rattle.mp_codec.proofs.UniqueLemmas.{one_value}
use Rattle.shard_index.specs.Version.{VersionFault, version_from}
use Rattle.shard_index.specs.Info.{Info, info_in, info_of, InfoFault, info_from}
use Rattle.shard_index.specs.Index.{Listed, Contents, name_lt, shards_key, version_key, info_key, index_keys, listed_of, listed_in, ShardsFault, index_rules, IndexFault, IndexOf}
use Rattle.shard_index.specs.Reading.{Datum, Shards, Version, Infos, listed_from, member_from, contents_read, index_end_from, index_from, contents_from, in_name_order, index_of}
use Rattle.shard_index.specs.declared.refusal.IndexRefusal.{IndexRefusal}
use Rattle.shard_index.specs.declared.refusal.IndexRefusal.TheVariants as refusal
use Rattle.shard_index.specs.Seen.{fault_of}
use Rattle.shard_index.proofs.VersionLemmas.{IsVersion, version_judged, version_stands}
use Rattle.shard_index.proofs.InfoLemmas.{IsInfo, info_judged, info_behind}
use Rattle.shard_index.proofs.ListedLemmas.{AreListed, listed_judged, listed_behind}
use Rattle.shard_index.proofs.SortLemmas.{name_order}
use Rattle.gateway_words.specs.Sorting.{sorted_by}
use Rattle.gateway_words.specs.Reading.{◌>>=◌, Gives}
use Rattle.mp_codec.proofs.SortingLemmas.{one_sort, sorted_is_sorted, sorted_is_stable}
use Rattle.mp_codec.proofs.FirstLemmas.{one_first}

-- ---- the values of the known keys

-- what the value of the key at this place says
abbrev pub member : ℕ → Value → Datum
member zero v = Shards (map listed_of (pairs_of v))
member (suc zero) v = Version
member (suc (suc i)) v = Infos (info_in (pairs_of v))

-- what is asked of the value of the key at this place
abbrev pub asked : ℕ → Faults
asked zero here f = ShardsFault here f
asked (suc zero) here f = VersionFault here f
asked (suc (suc zero)) here f = InfoFault here f
asked (suc (suc (suc i))) here f = ⊥

each : (i : ℕ) (here : Position) → i < 3 → JudgesOne (asked i) (λ d v. member i v ≡ d) here (member_from i here)
each zero here lt = mapped ShardsFault AreListed (λ d v. member 0 v ≡ d) Shards here (listed_from here) (λ xs v is. ap Shards (sym is)) (listed_judged here)
each (suc zero) here lt = mapped VersionFault IsVersion (λ d v. member 1 v ≡ d) (λ n. Version) here (version_from here) (λ n v is. refl) (version_judged here)
each (suc (suc zero)) here lt = mapped InfoFault IsInfo (λ d v. member 2 v ≡ d) Infos here (info_from here) (λ info v is. ap Infos (sym is)) (info_judged here)
each (suc (suc (suc i))) here lt = absurd (omega arith)

not_asked : (i : ℕ) (here : Position) (f : FormatFault) → 3 ≤ i → asked i here f → ⊥
not_asked zero here f le p = absurd (omega arith)
not_asked (suc zero) here f le p = absurd (omega arith)
not_asked (suc (suc zero)) here f le p = absurd (omega arith)
not_asked (suc (suc (suc i))) here f le p = p

asked_behind : (i : ℕ) → StandBehind (asked i)
asked_behind zero here f p = listed_behind here f p
asked_behind (suc zero) here f p = version_stands here f p
asked_behind (suc (suc zero)) here f p = info_behind here f p
asked_behind (suc (suc (suc i))) here f p = absurd p

differ : is_distinct index_keys ≡ true
differ = refl

-- ---- what is asked, by the place of a key and by its name

-- what is asked of the value of a key with these bytes
abbrev named : Option (List ℕ) → Faults
named o here f = ((has_bytes shards_key o ≡ true) × ShardsFault here f)
    ⊎ (((has_bytes version_key o ≡ true) × VersionFault here f) ⊎ ((has_bytes info_key o ≡ true) × InfoFault here f))

-- one key's bytes are not another's
apart : (a b : List ℕ) (o : Option (List ℕ)) → bytes_eq a b ≡ false → has_bytes a o ≡ true → has_bytes b o ≡ false
apart a b None unlike e = refl
apart a b (Some bytes) unlike e = ap (λ (t : List ℕ). bytes_eq t b) (same_bytes bytes a e) ∙ unlike

by_place : (o : Option (List ℕ)) (here : Position) (f : FormatFault) → asked (place_of index_keys o) here f → named o here f
by_place o here f p = go (has_bytes shards_key o) (has_bytes version_key o) (has_bytes info_key o) refl refl refl p
  where
    go : (a b c : Bool) → has_bytes shards_key o ≡ a → has_bytes version_key o ≡ b → has_bytes info_key o ≡ c → asked (cond a 0 (suc (cond b 0 (suc (cond c 0 (suc 0)))))) here f → named o here f
    go true b c x y z p = inl (x, p)
    go false true c x y z p = inr (inl (y, p))
    go false false true x y z p = inr (inr (z, p))
    go false false false x y z p = absurd p

by_name : (o : Option (List ℕ)) (here : Position) (f : FormatFault) → named o here f → asked (place_of index_keys o) here f
by_name o here f (inl p) = subst (λ (a : Bool). asked (cond a 0 (suc (cond (has_bytes version_key o) 0 (suc (cond (has_bytes info_key o) 0 (suc 0)))))) here f) (sym p.0) p.1
by_name o here f (inr (inl p)) =
    let no : has_bytes shards_key o ≡ false = apart version_key shards_key o refl p.0 in
    subst (λ (a : Bool). asked (cond a 0 (suc (cond (has_bytes version_key o) 0 (suc (cond (has_bytes info_key o) 0 (suc 0)))))) here f) (sym no)
    (subst (λ (b : Bool). asked (suc (cond b 0 (suc (cond (has_bytes info_key o) 0 (suc 0))))) here f) (sym p.0) p.1)
by_name o here f (inr (inr p)) =
    let no : has_bytes shards_key o ≡ false = apart info_key shards_key o refl p.0 in
    let nor : has_bytes version_key o ≡ false = apart info_key version_key o refl p.0 in
    subst (λ (a : Bool). asked (cond a 0 (suc (cond (has_bytes version_key o) 0 (suc (cond (has_bytes info_key o) 0 (suc 0)))))) here f) (sym no)
    (subst (λ (b : Bool). asked (suc (cond b 0 (suc (cond (has_bytes info_key o) 0 (suc 0))))) here f) (sym nor)
    (subst (λ (c : Bool). asked (suc (suc (cond c 0 (suc 0)))) here f) (sym p.0) p.1))

abbrev Table : MapRules
Table = table_rules index_keys differ 1 asked member member_from each not_asked asked_behind

table_within : RulesWithin Table index_rules
table_within = record { key = λ front here f p. p; value = λ key here f p. by_place (str_of key) here f p; end = λ front here f p. p }

within_table : RulesWithin index_rules Table
within_table = record { key = λ front here f p. p; value = λ key here f p. by_name (str_of key) here f p; end = λ front here f p. p }

-- ---- the index

-- what a value says as an index, with the names in the order in which they stand
abbrev pub contents_of : Value → Contents
contents_of v = record { info = info_of (value_at info_key (pairs_of v)); listed = listed_in (value_at shards_key (pairs_of v)) }

-- the contents are those of the value
abbrev pub AreContents : Contents → Value → Type 0
AreContents contents v = contents ≡ contents_of v

contents_said : (ps : Pairs) → contents_read (data_of member 0 index_keys ps) ≡ (record { info = info_of (value_at info_key ps); listed = listed_in (value_at shards_key ps) })
contents_said ps = go (value_at shards_key ps) (value_at version_key ps) (value_at info_key ps)
  where
    go : (a b c : Option Value) → contents_read (datum_at (member 0) a ∷ datum_at (member 1) b ∷ datum_at (member 2) c ∷ []) ≡ (record { info = info_of c; listed = listed_in a })
    go (Some v) b (Some w) = refl
    go (Some v) b None = refl
    go None b (Some w) = refl
    go None b None = refl

index_is : (here : Position) → index_from here ≡ turned contents_read (known_map_from index_keys 1 member_from here)
unfolding index_from index_end_from
index_is here = known_map_turned index_keys 1 member_from contents_read here

index_judged : (here : Position) → JudgesOne (MapFault index_rules) AreContents here (index_from here)
index_judged here =
    subst (λ (r : Read Contents). JudgesOne (MapFault index_rules) AreContents here r) (sym (index_is here))
    (mapped (MapFault index_rules) (λ s v. KnowsFrom member 0 index_keys s (pairs_of v)) AreContents contents_read here (known_map_from index_keys 1 member_from here)
    (λ s v k. ap contents_read (knows_is member 0 index_keys s (pairs_of v) k) ∙ contents_said (pairs_of v))
    (same_faults (MapFault Table) (MapFault index_rules) (λ s v. KnowsFrom member 0 index_keys s (pairs_of v)) here (known_map_from index_keys 1 member_from here)
    (map_within Table index_rules table_within here) (map_within index_rules Table within_table here)
    (table_judged index_keys differ 1 asked member member_from each not_asked asked_behind here)))

bytes_read : (bytes : List ℕ) → JudgesBytes (MapFault index_rules) AreContents bytes (contents_from bytes)
unfolding contents_from
bytes_read bytes = bytes_judged (MapFault index_rules) AreContents bytes index_from (index_judged (start_of bytes))

-- ---- what a call that reads an index gave

-- what was read, with its names sorted, is what the index says
pub index_found : (bytes : List ℕ) (info : Info) (stood listed : List Listed) → contents_from bytes ≡ Ok (record { info = info; listed = stood }) → IsSortedBy name_lt listed → IsStableBy name_lt stood listed
    → IndexOf bytes (record { info = info; listed = listed })
index_found bytes info stood listed e up stable =
    let j : ReadsBytes (MapFault index_rules) AreContents bytes (record { info = info; listed = stood }) = subst (λ (r : Result Contents FormatFault). JudgesBytes (MapFault index_rules) AreContents bytes r) e (bytes_read bytes) in
    record {
      value = j.value;
      spelled = j.spelled;
      info = ap (λ (c : Contents). c.info) j.means;
      ascending = up;
      in_order = subst (λ (xs : List Listed). IsStableBy name_lt xs listed) (ap (λ (c : Contents). c.listed) j.means) stable;
      no_fault = j.none;
    }

pub index_first : (bytes : List ℕ) (f : FormatFault) → contents_from bytes ≡ Err f → IsFirstFault (IndexFault bytes) f
index_first bytes f e = subst (λ (r : Result Contents FormatFault). JudgesBytes (MapFault index_rules) AreContents bytes r) e (bytes_read bytes)

-- bytes are an index in one way
pub one_index : (bytes : List ℕ) (c d : Contents) → IndexOf bytes c → IndexOf bytes d → c ≡ d
one_index bytes c d s t =
    let same : s.value ≡ t.value = one_value s.value t.value bytes s.spelled t.spelled in
    let info : c.info ≡ d.info = s.info ∙ ap (λ (v : Value). info_of (value_at info_key (pairs_of v))) same ∙ sym t.info in
    let in_order : IsStableBy name_lt (listed_in (value_at shards_key (pairs_of t.value))) c.listed = subst (λ (v : Value). IsStableBy name_lt (listed_in (value_at shards_key (pairs_of v))) c.listed) same s.in_order in
    let listed : c.listed ≡ d.listed = one_sort name_lt name_order c.listed d.listed s.ascending t.ascending (λ x. t.in_order x ∙ sym (in_order x)) in
    λ i. record { info = info i; listed = listed i }

-- what is read of an index is what it says
pub index_says : (bytes : List ℕ) (contents : Contents) → index_of bytes ≡ Ok contents → IndexOf bytes contents
unfolding index_of
index_says bytes contents e = go (contents_from bytes) refl e
  where
    go : (r : Result Contents FormatFault) → contents_from bytes ≡ r → (r >>= λ (c : Contents). Ok (in_name_order c)) ≡ Ok contents → IndexOf bytes contents
    go (Ok c) read is =
        let same : in_name_order c ≡ contents = cc in
        subst (λ (d : Contents). IndexOf bytes d) same
        (index_found bytes c.info c.listed (sorted_by name_lt c.listed) read (sorted_is_sorted name_lt name_order c.listed) (sorted_is_stable name_lt name_order c.listed))
    go (Err f) read is = absurd cc

-- what is read of bytes that are no index is their first fault
pub index_faults : (bytes : List ℕ) (f : FormatFault) → index_of bytes ≡ Err f → IsFirstFault (IndexFault bytes) f
unfolding index_of
index_faults bytes f e = go (contents_from bytes) refl e
  where
    go : (r : Result Contents FormatFault) → contents_from bytes ≡ r → (r >>= λ (c : Contents). Ok (in_name_order c)) ≡ Err f → IsFirstFault (IndexFault bytes) f
    go (Ok c) read is = absurd cc
    go (Err g) read is = let same : g ≡ f = cc in subst (IsFirstFault (IndexFault bytes)) same (index_first bytes g read)

-- what an index says is read of it
pub says_index : (bytes : List ℕ) (contents : Contents) → IndexOf bytes contents → index_of bytes ≡ Ok contents
says_index bytes contents s = go (index_of bytes) refl
  where
    go : (r : Result Contents FormatFault) → index_of bytes ≡ r → index_of bytes ≡ Ok contents
    go (Ok other) read = read ∙ ap Ok (one_index bytes other contents (index_says bytes other read) s)
    go (Err f) read = absurd (s.no_fault f (index_faults bytes f read).stands)

-- the first fault is read of bytes in which it stands
pub faults_index : (bytes : List ℕ) (f : FormatFault) → IsFirstFault (IndexFault bytes) f → index_of bytes ≡ Err f
faults_index bytes f first = go (index_of bytes) refl
  where
    go : (r : Result Contents FormatFault) → index_of bytes ≡ r → index_of bytes ≡ Err f
    go (Ok contents) read = absurd ((index_says bytes contents read).no_fault f first.stands)
    go (Err g) read = read ∙ ap Err (one_first (IndexFault bytes) g f (index_faults bytes g read) first)

-- bytes with which nothing is wrong are an index
pub clean_index : (bytes : List ℕ) → ((f : FormatFault) → IndexFault bytes f → ⊥) → (contents : Contents) × IndexOf bytes contents
clean_index bytes clean = go (index_of bytes) refl
  where
    go : (r : Result Contents FormatFault) → index_of bytes ≡ r → (contents : Contents) × IndexOf bytes contents
    go (Ok contents) read = (contents, index_says bytes contents read)
    go (Err f) read = absurd (clean f (index_faults bytes f read).stands)

-- what was read, with its names sorted, is an index of some bytes
pub sorted_holds : (bytes : List ℕ) (c : Contents) (listed : List Listed) → contents_from bytes ≡ Ok c → listed ≡ sorted_by name_lt c.listed
    → IsSortedBy name_lt listed × ∥ ((x : List ℕ) × IndexOf x (record { info = c.info; listed = listed })) ∥₁
sorted_holds bytes c listed read is =
    let ascending : IsSortedBy name_lt listed = subst (IsSortedBy name_lt) (sym is) (sorted_is_sorted name_lt name_order c.listed) in
    let stable : IsStableBy name_lt c.listed listed = subst (IsStableBy name_lt c.listed) (sym is) (sorted_is_stable name_lt name_order c.listed) in
    (ascending, ∣ (bytes, index_found bytes c.info c.listed listed read ascending stable) ∣₁)

-- ---- what a call that reads an index gave

pub read_found : (bytes : List ℕ) (r : Result Contents IndexRefusal) → Gives (λ c. c) fault_of r (index_of bytes) → IfOk r (λ index. IndexOf bytes index)
read_found bytes (Ok c) read = index_says bytes c read
read_found bytes (Err e) read = tt

pub read_only : (bytes : List ℕ) (r : Result Contents IndexRefusal) → Gives (λ c. c) fault_of r (index_of bytes) → (contents : Contents) → IndexOf bytes contents → MatchResult r (λ index. index ≡ contents) (λ e. e ≡ refusal.Memory)
read_only bytes (Ok c) read contents is = one_index bytes c contents (index_says bytes c read) is
read_only bytes (Err (refusal.Fault f)) read contents is = absurd (is.no_fault f (index_faults bytes f read).stands)
read_only bytes (Err refusal.Memory) read contents is = refl

pub read_first : (bytes : List ℕ) (r : Result Contents IndexRefusal) → Gives (λ c. c) fault_of r (index_of bytes) → IfErr r (λ e. IfSome (fault_of e) (IsFirstFault (IndexFault bytes)))
read_first bytes (Ok c) read = tt
read_first bytes (Err (refusal.Fault f)) read = index_faults bytes f read
read_first bytes (Err refusal.Memory) read = tt
