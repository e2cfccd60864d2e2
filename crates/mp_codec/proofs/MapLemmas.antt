-- Readers of maps, pair by pair: each pair by its own readers, and the map by its rules.
use Rattle.std.proofs.Common.{◌≡◌, refl, sym, ◌∙◌, ap, subst, ℕ, zero, suc, ◌+◌, ◌<◌, ◌≤◌, ◌⊎◌, inl, inr, Bool, true, false, cond, List, [], ◌∷◌, ◌++◌, length, arith, append_assoc, append-nil}
use Rattle.std.specs.Prelude.{Result, Ok, Err, Option, Some, None}
use Rattle.gateway_words.specs.Places.{Position, Between}
use Rattle.gateway_words.specs.Reading.{◌>>=◌}
use Rattle.mp_codec.specs.declared.fault.FormatFault.{FormatFault}
use Rattle.mp_codec.specs.declared.fault.FaultKind.{FaultKind}
use Rattle.mp_codec.specs.declared.fault.FaultKind.TheVariants as kind
use Rattle.mp_codec.specs.declared.head.Head.{Head}
use Rattle.mp_codec.specs.declared.head.Head.TheVariants as head
use Rattle.mp_codec.specs.Format.{payload_len, part_count}
use Rattle.mp_codec.specs.Value.{Value, value, Values, none, more, count, map_len, Pairs, pairs_in, pairs_of}
use Rattle.mp_codec.specs.Spelling.{HeadLies, Begins, Lies, Breaks, in_part, SpellsAll}
use Rattle.mp_codec.specs.Reading.{head_from, values_from}
use Rattle.mp_codec.specs.Fault.{Before, Faults, fault_here, Then, MapRules, PairsFault, MapFault, no_map, in_pairs}
use Rattle.mp_codec.specs.Maps.{Read, entries_from, pairs_or_wrong, map_head_from, map_from}
use Rattle.mp_codec.proofs.HeadLemmas.{ok_first, ok_second}
use Rattle.mp_codec.proofs.PlaceLemmas.{position, between_join, between_le, head_lies, head_breaks}
use Rattle.mp_codec.proofs.PassingLemmas.{LieAll, lie_none, one_of, values_node, values_break, break_values, passed_values, lies_value}
use Rattle.mp_codec.proofs.UniqueLemmas.{SameLie, lies_same}
use Rattle.mp_codec.proofs.JudgingLemmas.{Ends, StandBehind, no_breaks, Reads, Refuses, JudgesOne, JudgesAll, lies_whole, judge_then}
use Rattle.mp_codec.proofs.LeafLemmas.{head_longer, refuses_break, refuses_here, all_longer, head_err_only}

-- ---- from one set of faults or one meaning to another

pub same_faults : {X : Type 0} (P Q : Faults) (Means : X → Value → Type 0) (here : Position) (r : Read X) → ((f : FormatFault) → P here f → Q here f) → ((f : FormatFault) → Q here f → P here f)
    → JudgesOne P Means here r → JudgesOne Q Means here r
same_faults P Q Means here (Ok x) to from j = record { value = j.value; lies = j.lies; means = j.means; none = λ g q. j.none g (from g q) }
same_faults P Q Means here (Err f) to from j = record {
  stands = elim j.stands [ inl p ↦ inl (to f p) | inr b ↦ inr b ];
  first = λ g. elim [ inl q ↦ j.first g (inl (from g q)) | inr b ↦ j.first g (inr b) ];
  ends = j.ends;
}

pub mapped : {X Y : Type 0} (P : Faults) (Means : X → Value → Type 0) (Other : Y → Value → Type 0) (f : X → Y) (here : Position) (r : Read X) → ((x : X) (v : Value) → Means x v → Other (f x) v)
    → JudgesOne P Means here r → JudgesOne P Other here (r >>= λ x. Ok (f x.0, x.1))
mapped P Means Other f here (Ok x) to j = record { value = j.value; lies = j.lies; means = to x.0 j.value j.means; none = j.none }
mapped P Means Other f here (Err g) to j = j

-- a fault of this kind at a value that lies here, with which nothing else is wrong, and that the test finds bad
pub record FoundBad {X : Type 0} (P : Faults) (Means : X → Value → Type 0) (k : FaultKind) (bad : X → Bool) (here : Position) (f : FormatFault) : Type 0 where
  pub value : Value
  pub there : Position
  pub lies : Lies value here there
  pub is : f ≡ fault_here k here
  pub bad_value : (x : X) → Means x value → bad x ≡ true
  pub clean : (g : FormatFault) → P here g → ⊥

-- a reading with a test behind it that refuses at the value's own place
module _ {X Y : Type 0} (P Q : Faults) (Means : X → Value → Type 0) (Other : Y → Value → Type 0) (k : FaultKind) (here : Position) (bad : X → Bool) (give : X → Y)
    (kept : (f : FormatFault) → P here f → Q here f)
    (refused : (x : X) (v : Value) (there : Position) → Lies v here there → Means x v → bad x ≡ true → Q here (fault_here k here))
    (split : (f : FormatFault) → Q here f → P here f ⊎ FoundBad P Means k bad here f)
    (given : (x : X) (v : Value) → Means x v → bad x ≡ false → Other (give x) v) where
  abbrev tested : X × Position → Bool → Read Y
  tested x b = cond {A = Read Y} b (Err (fault_here k here)) (Ok (give x.0, x.1))

  judged_ok : (x : X × Position) → Reads P Means here x.0 x.1 → (b : Bool) → bad x.0 ≡ b → JudgesOne Q Other here (tested x b)
  judged_ok x j true is = record {
    stands = inl (refused x.0 j.value x.1 j.lies j.means is);
    first = λ g. elim [
      | inl q ↦ elim (split g q) [
        | inl p ↦ absurd (j.none g p)
        | inr f ↦ let same : g ≡ fault_here k here = f.is in inr (ap (λ (f : FormatFault). f.at) (sym same), inr (sym same))
      ]
      | inr b ↦ absurd (lies_whole here x.1 j.value g j.lies b)
    ];
    ends = λ there l. inl (all_longer here there l);
  }
  judged_ok x j false is = record {
    value = j.value;
    lies = j.lies;
    means = given x.0 j.value j.means is;
    none = λ g q. elim (split g q) [
      | inl p ↦ j.none g p
      | inr f ↦
          let same : SameLie j.value f.value x.1 f.there = lies_same j.value f.value here x.1 f.there j.lies f.lies in
          let found : bad x.0 ≡ true = f.bad_value x.0 (subst (λ (v : Value). Means x.0 v) same.value j.means) in
          let wrong : false ≡ true = sym is ∙ found in absurd (cc)
    ];
  }

  judged_err : (f : FormatFault) → Refuses P 1 here f → Refuses Q 1 here f
  judged_err f j = record {
    stands = elim j.stands [ inl p ↦ inl (kept f p) | inr b ↦ inr b ];
    first = λ g. elim [
      | inl q ↦ elim (split g q) [
        | inl p ↦ j.first g (inl p)
        | inr w ↦ elim j.stands [ inl p ↦ absurd (w.clean f p) | inr b ↦ absurd (lies_whole here w.there w.value f w.lies b) ]
      ]
      | inr b ↦ j.first g (inr b)
    ];
    ends = j.ends;
  }

  pub guarded : (r : Read X) → JudgesOne P Means here r → JudgesOne Q Other here (r >>= λ x. tested x (bad x.0))
  guarded (Ok x) j = judged_ok x j (bad x.0) refl
  guarded (Err f) j = judged_err f j

-- ---- the end of a map

-- what the end of a map says
pub record ReadsEnd {X : Type 0} (faults : Faults) (Good : X → Type 0) (here : Position) (x : X) (there : Position) : Type 0 where
  pub place : there ≡ here
  pub good : Good x
  pub none : (g : FormatFault) → faults here g → ⊥

-- the end of a map was refused by its first fault
pub record RefusesEnd (faults : Faults) (here : Position) (f : FormatFault) : Type 0 where
  pub stands : faults here f
  pub first : (g : FormatFault) → faults here g → Before f g
  pub ends : Ends f here

abbrev pub JudgesEnd : {X : Type 0} → Faults → (X → Type 0) → Position → Read X → Type 0
JudgesEnd faults Good here (Ok x) = ReadsEnd faults Good here x.0 x.1
JudgesEnd faults Good here (Err f) = RefusesEnd faults here f

pub Then-behind : (P : Faults) (Q : Value → Faults) → StandBehind P → ((v : Value) → StandBehind (Q v)) → StandBehind (Then P Q)
Then-behind P Q a b here f (inl p) = a here f p
Then-behind P Q a b here f (inr q) = let le = b q.0 q.1 f q.3 in omega (arith, le, between_le q.2.bytes here q.1 q.2.between)

regroup : {Y : Type 0} (P : Faults) (n : ℕ) (Means Other : Y → Values → Type 0) (here : Position) (r : Read Y) → ((y : Y) (vs : Values) → count vs ≡ n → Means y vs → Other y vs) → JudgesAll P n Means here r → JudgesAll P n Other here r
regroup P n Means Other here (Ok y) h j = record { lie = j.lie; means = h y.0 j.lie.values j.lie.counted j.means; none = j.none }
regroup P n Means Other here (Err f) h j = j

pub no_place : (here there : Position) → LieAll 0 here there → there ≡ here
no_place here there l = none_of l.values l.counted l.bytes l.spelled l.between
  where
    none_of : (vs : Values) → count vs ≡ 0 → (bytes : List ℕ) → SpellsAll vs bytes → Between bytes here there → there ≡ here
    none_of none e bytes s b =
        let left : here.left ≡ there.left = b.left ∙ ap (λ (t : List ℕ). t ++ there.left) s in
        let at : there.at ≡ here.at = let far : there.at ≡ here.at + length bytes = b.at in omega (arith, ap length s) in
        ap (λ (k : ℕ). position k there.left) at ∙ ap (λ (t : List ℕ). position here.at t) (sym left)
    none_of (more v vs) e bytes s b = absurd (omega arith)

end_all : {Y : Type 0} (P : Faults) (Good : Y → Type 0) (here : Position) (r : Read Y) → JudgesEnd P Good here r → JudgesAll P 0 (λ y vs. Good y) here r
end_all P Good here (Ok y) j = record { lie = subst (λ (p : Position). LieAll 0 here p) (sym j.place) (lie_none here); means = j.good; none = j.none }
end_all P Good here (Err f) j = record {
  stands = inl j.stands;
  first = λ g. elim [ inl p ↦ j.first g p | inr b ↦ absurd (no_breaks b) ];
  ends = λ there l. subst (λ (p : Position). Ends f p) (sym (no_place here there l)) j.ends;
}

-- ---- the pairs of a map

no_pairs : (vs : Values) → count vs ≡ 0 → pairs_in vs ≡ []
no_pairs none e = refl
no_pairs (more v vs) e = absurd (omega arith)

-- how many values so many pairs are
abbrev pub twice : ℕ → ℕ
twice zero = zero
twice (suc n) = suc (suc (twice n))

module _ {S K Y : Type 0} (rules : MapRules) (Knows : S → Pairs → Type 0) (IsKey : S → Pairs → K → Value → Type 0) (Final : Y → Pairs → Type 0)
    (key : S → Position → Read K) (value : S → K → Position → Read S) (end : S → Position → Read Y)
    (keys_behind : (front : Pairs) → StandBehind (rules.key front)) (values_behind : (k : Value) → StandBehind (rules.value k)) (ends_behind : (front : Pairs) → StandBehind (rules.end front))
    (key_judged : (s : S) (front : Pairs) (here : Position) → Knows s front → JudgesOne (rules.key front) (IsKey s front) here (key s here))
    (value_judged : (s : S) (front : Pairs) (k : K) (v : Value) (here : Position) → Knows s front → IsKey s front k v → JudgesOne (rules.value v) (λ t w. Knows t (front ++ (v, w) ∷ [])) here (value s k here))
    (end_judged : (s : S) (front : Pairs) (here : Position) → Knows s front → JudgesEnd (rules.end front) (λ y. Final y front) here (end s here)) where
  pub pairs_behind : (front : Pairs) (n : ℕ) → StandBehind (PairsFault rules front n)
  pairs_behind front zero = ends_behind front
  pairs_behind front (suc n) = Then-behind (rules.key front) (λ k. Then (rules.value k) (λ v. PairsFault rules (front ++ (k, v) ∷ []) n)) (keys_behind front)
      (λ k. Then-behind (rules.value k) (λ v. PairsFault rules (front ++ (k, v) ∷ []) n) (values_behind k) (λ v. pairs_behind (front ++ (k, v) ∷ []) n))

  pub entries_judged : (n : ℕ) (s : S) (front : Pairs) (here : Position) → Knows s front
      → JudgesAll (PairsFault rules front n) (twice n) (λ y vs. Final y (front ++ pairs_in vs)) here (entries_from key value end n s here)
  unfolding entries_from
  entries_judged zero s front here knows =
      regroup (rules.end front) 0 (λ y vs. Final y front) (λ y vs. Final y (front ++ pairs_in vs)) here (end s here)
      (λ y vs e final. subst (λ (ps : Pairs). Final y ps) (sym (append-nil front) ∙ ap (λ (ps : Pairs). front ++ ps) (sym (no_pairs vs e))) final)
      (end_all (rules.end front) (λ y. Final y front) here (end s here) (end_judged s front here knows))
  entries_judged (suc n) s front here knows =
      judge_then (rules.key front) (λ k. Then (rules.value k) (λ v. PairsFault rules (front ++ (k, v) ∷ []) n)) (suc (twice n)) (IsKey s front) (λ y vs. Final y (front ++ pairs_in vs)) here
      (λ k. Then-behind (rules.value k) (λ v. PairsFault rules (front ++ (k, v) ∷ []) n) (values_behind k) (λ v. pairs_behind (front ++ (k, v) ∷ []) n))
      (key s here) (λ k. value s k.0 k.1 >>= λ t. entries_from key value end n t.0 t.1) (key_judged s front here knows)
      (λ k v l is. judge_then (rules.value v) (λ w. PairsFault rules (front ++ (v, w) ∷ []) n) (twice n) (λ t w. Knows t (front ++ (v, w) ∷ [])) (λ y vs. Final y (front ++ pairs_in (more v vs))) k.1
      (λ w. pairs_behind (front ++ (v, w) ∷ []) n)
      (value s k.0 k.1) (λ t. entries_from key value end n t.0 t.1) (value_judged s front k.0 v k.1 knows is)
      (λ t w m now. regroup (PairsFault rules (front ++ (v, w) ∷ []) n) (twice n) (λ y vs. Final y ((front ++ (v, w) ∷ []) ++ pairs_in vs)) (λ y vs. Final y (front ++ ((v, w) ∷ pairs_in vs))) t.1
      (entries_from key value end n t.0 t.1)
      (λ y vs e final. subst (λ (ps : Pairs). Final y ps) (append_assoc front ((v, w) ∷ []) (pairs_in vs)) final)
      (entries_judged n t.0 (front ++ (v, w) ∷ []) t.1 now)))

-- ---- a map

twice_is : (n : ℕ) → twice n ≡ n + n
twice_is zero = refl
twice_is (suc n) = omega (arith, twice_is n)

-- a head that is a map's
record IsMap (h : Head) (n : ℕ) : Type 0 where
  payload : payload_len h ≡ 0
  parts : part_count h ≡ twice n

is_map : (h : Head) (n : ℕ) → map_len h ≡ Some n → IsMap h n
is_map (head.Map m) n e = let same : m ≡ n = cc in record { payload = refl; parts = ap (λ (k : ℕ). k + k) same ∙ sym (twice_is n) }
is_map (head.Str m) n e = absurd (cc)
is_map head.Nil n e = absurd (cc)
is_map (head.Bool b) n e = absurd (cc)
is_map (head.Int i) n e = absurd (cc)
is_map head.Float n e = absurd (cc)
is_map (head.Bin m) n e = absurd (cc)
is_map (head.Array m) n e = absurd (cc)
is_map (head.Ext m) n e = absurd (cc)

-- a head without payload begins a node
pub head_begins : (here mid : Position) (h : Head) → head_from here ≡ Ok (h, mid) → payload_len h ≡ 0 → Begins h [] here mid
head_begins here mid h e bare =
    let l : HeadLies h here mid = head_lies here h mid e in
    record { front = l.bytes; head = l.spelled; payload_len = sym bare; between = subst (λ (t : List ℕ). Between t here mid) (sym (append-nil l.bytes)) l.between }

-- a value that lies where such a head stands has its parts behind the head
pub parts_lie : (here mid there : Position) (h : Head) (v : Value) → head_from here ≡ Ok (h, mid) → payload_len h ≡ 0 → Lies v here there → LieAll (part_count h) mid there
parts_lie here mid there h v e bare l =
    let same : ◌≡◌ {A = Result Position FormatFault} (values_from (part_count h + 0) mid) (Ok there) = sym (values_node 0 here h [] mid (head_begins here mid h e bare)) ∙ lies_value v here there l in
    passed_values (part_count h) mid there (ap (λ (k : ℕ). values_from k mid) (omega arith) ∙ same)

-- a value that breaks off where such a head stands breaks off in its parts
pub parts_break : (here mid : Position) (h : Head) (f : FormatFault) → head_from here ≡ Ok (h, mid) → payload_len h ≡ 0 → Breaks 1 here f → Breaks (part_count h) mid f
parts_break here mid h f e bare b =
    let same : ◌≡◌ {A = Result Position FormatFault} (values_from (part_count h + 0) mid) (Err f) = sym (values_node 0 here h [] mid (head_begins here mid h e bare)) ∙ break_values b in
    values_break (part_count h) mid f (ap (λ (k : ℕ). values_from k mid) (omega arith) ∙ same)

-- what a map's fault is, where its head is known
data MapWrong (rules : MapRules) (here : Position) (g : FormatFault) : Type 0 where
  by_head : {there : Position} {h : Head} → head_from here ≡ Ok (h, there) → map_len h ≡ None → g ≡ fault_here kind.Wrong here → MapWrong rules here g
  by_pairs : {there : Position} {h : Head} {n : ℕ} → head_from here ≡ Ok (h, there) → map_len h ≡ Some n → PairsFault rules [] n there g → MapWrong rules here g

map_wrong : {rules : MapRules} {here : Position} {g : FormatFault} → MapFault rules here g → MapWrong rules here g
map_wrong (no_map e is) = by_head e is refl
map_wrong (in_pairs e is p) = by_pairs e is p

pub map_behind : (rules : MapRules) → ((n : ℕ) → StandBehind (PairsFault rules [] n)) → StandBehind (MapFault rules)
map_behind rules pairs here f p = elim (map_wrong p) [
  | by_head {there = there} {h = h} e is w ↦ let at : f.at ≡ here.at = ap (λ (f : FormatFault). f.at) w in omega arith
  | by_pairs {there = there} {h = h} {n = n} e is q ↦ let le : there.at ≤ f.at = pairs n there f q in let far : here.at < there.at = head_longer here there h e in omega arith
]

module _ {Y : Type 0} (rules : MapRules) (Final : Y → Pairs → Type 0) (entries : ℕ → Position → Read Y)
    (pairs_stand : (n : ℕ) → StandBehind (PairsFault rules [] n))
    (judged : (n : ℕ) (here : Position) → JudgesAll (PairsFault rules [] n) (twice n) (λ y vs. Final y (pairs_in vs)) here (entries n here)) where
  abbrev Means : Y → Value → Type 0
  Means y v = Final y (pairs_of v)

  -- a fault of a map whose head is there is one of its pairs
  of_pairs : (here mid : Position) (h : Head) (n : ℕ) → head_from here ≡ Ok (h, mid) → map_len h ≡ Some n → (g : FormatFault) → MapFault rules here g → PairsFault rules [] n mid g
  of_pairs here mid h n e is g p = elim (map_wrong p) [
    | by_head {there = there} {h = k} f lacks w ↦ absurd (
        let both : ◌≡◌ {A = Result (Head × Position) FormatFault} (Ok (h, mid)) (Ok (k, there)) = sym e ∙ f in
        let same : h ≡ k = ok_first both in
        let wrong : ◌≡◌ {A = Option ℕ} (Some n) None = sym is ∙ ap map_len same ∙ lacks in cc)
    | by_pairs {there = there} {h = k} {n = m} f some q ↦
        let both : ◌≡◌ {A = Result (Head × Position) FormatFault} (Ok (h, mid)) (Ok (k, there)) = sym e ∙ f in
        let same : h ≡ k = ok_first both in
        let place : mid ≡ there = ok_second both in
        let counts : ◌≡◌ {A = Option ℕ} (Some n) (Some m) = sym is ∙ ap map_len same ∙ some in
        let number : n ≡ m = cc in
        subst (λ (q : Position). PairsFault rules [] n q g) (sym place) (subst (λ (k : ℕ). PairsFault rules [] k there g) (sym number) q)
  ]

  in_map : (here mid : Position) (h : Head) (n : ℕ) → head_from here ≡ Ok (h, mid) → map_len h ≡ Some n → IsMap h n → (r : Read Y)
      → JudgesAll (PairsFault rules [] n) (twice n) (λ y vs. Final y (pairs_in vs)) mid r → JudgesOne (MapFault rules) Means here r
  in_map here mid h n e is m (Ok y) j =
      let l : HeadLies h here mid = head_lies here h mid e in
      let parts : count j.lie.values ≡ part_count h = j.lie.counted ∙ sym m.parts in
      record {
        value = value h [] j.lie.values;
        lies = record {
          bytes = l.bytes ++ ([] ++ j.lie.bytes);
          spelled = (l.bytes, j.lie.bytes, record { head = l.spelled; payload_len = sym m.payload; part_count = parts }, j.lie.spelled, refl);
          between = between_join l.bytes j.lie.bytes here mid y.1 l.between j.lie.between;
        };
        means = j.means;
        none = λ g p. j.none g (of_pairs here mid h n e is g p);
      }
  in_map here mid h n e is m (Err f) j = record {
    stands = elim j.stands [ inl p ↦ inl (in_pairs e is p) | inr b ↦ inr (in_part (head_begins here mid h e m.payload) (subst (λ (k : ℕ). Breaks k mid f) (sym m.parts) b)) ];
    first = λ g. elim [
      | inl p ↦ j.first g (inl (of_pairs here mid h n e is g p))
      | inr b ↦ j.first g (inr (subst (λ (k : ℕ). Breaks k mid g) m.parts (parts_break here mid h g e m.payload b)))
    ];
    ends = λ there all.
        let v = one_of here there all in
        j.ends there (subst (λ (k : ℕ). LieAll k mid there) m.parts (parts_lie here mid there h v.0 e m.payload v.1));
  }

  other : (here mid : Position) (h : Head) → head_from here ≡ Ok (h, mid) → map_len h ≡ None → (g : FormatFault) → MapFault rules here g → g ≡ fault_here kind.Wrong here
  other here mid h e is g p = elim (map_wrong p) [
    | by_head f lacks w ↦ w
    | by_pairs {there = there} {h = k} {n = m} f some q ↦ absurd (
        let both : ◌≡◌ {A = Result (Head × Position) FormatFault} (Ok (h, mid)) (Ok (k, there)) = sym e ∙ f in
        let same : h ≡ k = ok_first both in
        let wrong : ◌≡◌ {A = Option ℕ} None (Some m) = sym is ∙ ap map_len same ∙ some in cc)
  ]

  wrong_head : (here : Position) (f : FormatFault) → head_from here ≡ Err f → (g : FormatFault) → MapFault rules here g → Before f g
  wrong_head here f e g p = elim (map_wrong p) [
    | by_head {there = there} {h = k} is lacks w ↦ absurd (head_err_only here there k f e is)
    | by_pairs {there = there} {h = k} is some q ↦ absurd (head_err_only here there k f e is)
  ]

  pub map_judged : (here : Position) → JudgesOne (MapFault rules) Means here (map_from entries here)
  unfolding map_from map_head_from
  map_judged here = go (head_from here) refl
    where
      by_len : (h : Head) (mid : Position) → head_from here ≡ Ok (h, mid) → (o : Option ℕ) → map_len h ≡ o → JudgesOne (MapFault rules) Means here (pairs_or_wrong o here mid >>= λ n. entries n.0 n.1)
      by_len h mid e (Some n) is = in_map here mid h n e is (is_map h n is) (entries n mid) (judged n mid)
      by_len h mid e None is = refuses_here (MapFault rules) kind.Wrong here mid h e (no_map e is) (other here mid h e is)

      go : (r : Result (Head × Position) FormatFault) → head_from here ≡ r
          → JudgesOne (MapFault rules) Means here ((r >>= λ h. pairs_or_wrong (map_len h.0) here h.1) >>= λ n. entries n.0 n.1)
      go (Ok x) e = by_len x.0 x.1 e (map_len x.0) refl
      go (Err f) e = refuses_break (MapFault rules) here f (head_breaks 0 here f e) (wrong_head here f e)
