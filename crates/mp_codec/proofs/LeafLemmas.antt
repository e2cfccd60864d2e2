-- Readers of one value by its head: what is skipped, a str, a whole number, and a text that must stand there.
use Rattle.std.proofs.Common.{◌≡◌, refl, sym, ◌∙◌, ap, subst, ℕ, ◌+◌, ◌<◌, ◌≤◌, inl, inr, Bool, true, false, cond, List, [], ◌++◌, length, arith, length-append, append_assoc, append-nil}
use Rattle.std.specs.Prelude.{Result, Ok, Err, Option, Some, None}
use Rattle.std.specs.Str.{is_utf8}
use Rattle.gateway_words.specs.Places.{Position, Between}
use Rattle.gateway_words.specs.Reading.{◌>>=◌}
use Rattle.mp_codec.specs.declared.fault.FormatFault.{FormatFault}
use Rattle.mp_codec.specs.declared.fault.FaultKind.{FaultKind}
use Rattle.mp_codec.specs.declared.fault.FaultKind.TheVariants as kind
use Rattle.mp_codec.specs.declared.head.Head.{Head}
use Rattle.mp_codec.specs.declared.head.Head.TheVariants as head
use Rattle.mp_codec.specs.Format.{head_at, payload_len, part_count}
use Rattle.mp_codec.specs.Value.{Value, value, none, str_len, whole, number_of, str_of}
use Rattle.mp_codec.specs.Spelling.{SpellsHead, HeadLies, Lies, Breaks, short_head, reserved_head, short_payload, in_part, in_later}
use Rattle.mp_codec.specs.Reading.{head_from, bytes_from, values_from}
use Rattle.mp_codec.specs.Fault.{Before, Faults, no_fault, fault_here, TextFault, no_str, not_text}
use Rattle.mp_codec.specs.Maps.{Read, skipped, text_or_wrong, text_from, bytes_or_skipped, str_from, number_or_skipped, number_from}
use Rattle.mp_codec.proofs.HeadLemmas.{ok_first, head_len, head_more}
use Rattle.mp_codec.proofs.PlaceLemmas.{position, between_join, same_short, head_then, head_lies, head_breaks, TakesBytes, bytes_taken, bytes_short}
use Rattle.mp_codec.proofs.PassingLemmas.{LieAll, passed_value, values_break, break_values, one_of}
use Rattle.mp_codec.proofs.UniqueLemmas.{SameLie, lies_same}
use Rattle.mp_codec.proofs.JudgingLemmas.{StandBehind, Breaks-behind, no_breaks, Refuses, JudgesOne, lies_whole}

-- ---- the head of a value that lies somewhere

-- the head of a value
abbrev pub head_of : Value → Head
head_of (value h payload parts) = h

-- the head that stands where a value lies
pub record StartsWith (v : Value) (here : Position) : Type 0 where
  pub mid : Position
  pub head : head_from here ≡ Ok (head_of v, mid)

pub lies_starts : (v : Value) (here there : Position) → Lies v here there → StartsWith v here
lies_starts (value h payload parts) here there l = starts l.spelled.0 l.spelled.1 l.spelled.2.head l.spelled.4
  where
    starts : (front body : List ℕ) → SpellsHead h front → l.bytes ≡ front ++ (payload ++ body) → StartsWith (value h payload parts) here
    starts front body s is =
        let rest : List ℕ = (payload ++ body) ++ there.left in
        let left : here.left ≡ front ++ rest = l.between.left ∙ ap (λ (t : List ℕ). t ++ there.left) is ∙ append_assoc front (payload ++ body) there.left in
        record { mid = position (here.at + length front) rest; head = ap (λ (t : List ℕ). head_from (position here.at t)) left ∙ head_then here.at h front rest s }

-- what a head says is what the value's own head says
pub head_is : (v : Value) (here there mid : Position) (h : Head) → Lies v here there → head_from here ≡ Ok (h, mid) → head_of v ≡ h
head_is v here there mid h l e =
    let s : StartsWith v here = lies_starts v here there l in
    let both : ◌≡◌ {A = Result (Head × Position) FormatFault} (Ok (head_of v, s.mid)) (Ok (h, mid)) = sym s.head ∙ e in
    ok_first both

-- ---- behind a head

-- a head takes a byte at least
pub head_longer : (here mid : Position) (h : Head) → head_from here ≡ Ok (h, mid) → here.at < mid.at
head_longer here mid h e =
    let l : HeadLies h here mid = head_lies here h mid e in
    let some = head_len l.bytes h (length l.bytes) l.spelled in
    let one : 1 ≤ length l.bytes = some.0 in
    let at : mid.at ≡ here.at + length l.bytes = l.between.at in
    omega arith

-- a value takes a byte at least
pub value_longer : (v : Value) (here there : Position) → Lies v here there → here.at < there.at
value_longer (value h payload parts) here there l = longer l.spelled.0 l.spelled.1 l.spelled.2.head l.spelled.4
  where
    longer : (front body : List ℕ) → SpellsHead h front → l.bytes ≡ front ++ (payload ++ body) → here.at < there.at
    longer front body s is =
        let some = head_len front h (length front) s in
        let one : 1 ≤ length front = some.0 in
        let at : there.at ≡ here.at + length l.bytes = l.between.at in
        let len : length l.bytes ≡ length (front ++ (payload ++ body)) = ap length is in
        omega (arith, length-append front (payload ++ body))

pub all_longer : (here there : Position) → LieAll 1 here there → here.at < there.at
all_longer here there l = let v = one_of here there l in value_longer v.0 here there v.1

lies_head_at : (here mid : Position) (h : Head) → (l : HeadLies h here mid) → head_at here.left ≡ Ok (h, length l.bytes)
lies_head_at here mid h l = ap head_at l.between.left ∙ head_more l.bytes mid.left h (length l.bytes) l.spelled

-- where a head stands, a value breaks off behind it
behind_head : {n : ℕ} {here : Position} {g : FormatFault} (mid : Position) (h : Head) → HeadLies h here mid → n ≡ 1 → Breaks n here g → here.at < g.at
behind_head {here = here} mid h l one (short_head bad) =
    absurd (let both : ◌≡◌ {A = Result (Head × ℕ) FaultKind} (Err kind.Short) (Ok (h, length l.bytes)) = sym bad ∙ lies_head_at here mid h l in cc)
behind_head {here = here} mid h l one (reserved_head bad) =
    absurd (let both : ◌≡◌ {A = Result (Head × ℕ) FaultKind} (Err kind.Reserved) (Ok (h, length l.bytes)) = sym bad ∙ lies_head_at here mid h l in cc)
behind_head {here = here} mid h l one (short_payload is lt) =
    let some = head_len l.bytes h (length l.bytes) l.spelled in
    let byte : 1 ≤ length l.bytes = some.0 in
    let left : length here.left ≡ length (l.bytes ++ mid.left) = ap length l.between.left in
    omega (arith, length-append l.bytes mid.left)
behind_head {here = here} mid h l one (in_part {there = there} {f = f} {h = k} {payload = payload} n b) =
    let some = head_len n.front k (length n.front) n.head in
    let byte : 1 ≤ length n.front = some.0 in
    let at : there.at ≡ here.at + length (n.front ++ payload) = n.between.at in
    let le : there.at ≤ f.at = Breaks-behind b in
    omega (arith, length-append n.front payload)
behind_head {here = here} mid h l one (in_later {n = n} {there = there} {f = f} m b) =
    let none : n ≡ 0 = omega arith in
    absurd (no_breaks (subst (λ (k : ℕ). Breaks k there f) none b))

pub breaks_later : (here mid : Position) (h : Head) (g : FormatFault) → head_from here ≡ Ok (h, mid) → Breaks 1 here g → here.at < g.at
breaks_later here mid h g e b = behind_head mid h (head_lies here h mid e) refl b

-- ---- refusals

-- two breaks at one position are one
pub one_break : {n : ℕ} {here : Position} {f g : FormatFault} → Breaks n here f → Breaks n here g → f ≡ g
one_break {f = f} {g = g} b c = let both : ◌≡◌ {A = Result Position FormatFault} (Err f) (Err g) = sym (break_values b) ∙ break_values c in cc

-- a value that breaks off, where nothing else is wrong before
pub refuses_break : (faults : Faults) (here : Position) (f : FormatFault) → Breaks 1 here f → ((g : FormatFault) → faults here g → Before f g) → Refuses faults 1 here f
refuses_break faults here f b before = record {
  stands = inr b;
  first = λ g. elim [ inl p ↦ before g p | inr c ↦ inr (let same : f ≡ g = one_break b c in (ap (λ (f : FormatFault). f.at) same, inr same)) ];
  ends = λ there l. absurd (let v = one_of here there l in lies_whole here there v.0 f v.1 b);
}

-- a fault at the head of a value, where nothing else is wrong at the head
pub refuses_here : (faults : Faults) (k : FaultKind) (here mid : Position) (h : Head) → head_from here ≡ Ok (h, mid) → faults here (fault_here k here)
    → ((g : FormatFault) → faults here g → g ≡ fault_here k here) → Refuses faults 1 here (fault_here k here)
refuses_here faults k here mid h e stands only = record {
  stands = inl stands;
  first = λ g. elim [
    | inl p ↦ inr (let same : g ≡ fault_here k here = only g p in (ap (λ (f : FormatFault). f.at) (sym same), inr (sym same)))
    | inr b ↦ inl (breaks_later here mid h g e b)
  ];
  ends = λ there l. inl (all_longer here there l);
}

-- ---- what is skipped

pub skipped_judged : {X : Type 0} (x : X) (Means : X → Value → Type 0) (here : Position) → ((v : Value) (there : Position) → Lies v here there → Means x v) → JudgesOne no_fault Means here (skipped x here)
skipped_judged x Means here means = go (values_from 1 here) refl
  where
    go : (r : Result Position FormatFault) → values_from 1 here ≡ r → JudgesOne no_fault Means here (r >>= λ there. Ok (x, there))
    go (Ok there) e = let v = passed_value here there e in record { value = v.0; lies = v.1; means = means v.0 there v.1; none = λ g p. p }
    go (Err f) e = refuses_break no_fault here f (values_break 1 here f e) (λ g p. absurd p)

-- ---- a head with a payload and no parts

-- a value of a head and a payload
pub leaf_lies : (h : Head) (payload : List ℕ) (here mid there : Position) → head_from here ≡ Ok (h, mid) → payload_len h ≡ length payload → part_count h ≡ 0
    → Between payload mid there → Lies (value h payload none) here there
leaf_lies h payload here mid there e len parts b =
    let l : HeadLies h here mid = head_lies here h mid e in
    record {
      bytes = l.bytes ++ (payload ++ []);
      spelled = (l.bytes, [], record { head = l.spelled; payload_len = sym len; part_count = sym parts }, refl, refl);
      between = subst (λ (t : List ℕ). Between t here there) (ap (λ (t : List ℕ). l.bytes ++ t) (sym (append-nil payload))) (between_join l.bytes payload here mid there l.between b);
    }

-- a payload that is cut breaks the value off
pub payload_breaks : (h : Head) (here mid : Position) (f : FormatFault) → head_from here ≡ Ok (h, mid) → bytes_from (payload_len h) mid ≡ Err f → Breaks 1 here f
payload_breaks h here mid f e cut =
    let l : HeadLies h here mid = head_lies here h mid e in
    let s = bytes_short (payload_len h) mid f cut in
    let room : length mid.left < payload_len h = s.0 in
    let left : length here.left ≡ length (l.bytes ++ mid.left) = ap length l.between.left in
    let head : head_at here.left ≡ Ok (h, length l.bytes) = ap head_at l.between.left ∙ head_more l.bytes mid.left h (length l.bytes) l.spelled in
    subst (λ (g : FormatFault). Breaks 1 here g) (sym (s.1 ∙ same_short l.bytes here mid l.between))
    (short_payload head (omega (arith, length-append l.bytes mid.left)))

-- ---- a str

-- a head that is a str's
record IsStr (h : Head) (n : ℕ) : Type 0 where
  payload : payload_len h ≡ n
  parts : part_count h ≡ 0
  bytes : (payload : List ℕ) → str_of (value h payload none) ≡ Some payload

is_str : (h : Head) (n : ℕ) → str_len h ≡ Some n → IsStr h n
is_str (head.Str m) n e = record { payload = (cc); parts = refl; bytes = λ payload. refl }
is_str head.Nil n e = absurd (cc)
is_str (head.Bool b) n e = absurd (cc)
is_str (head.Int i) n e = absurd (cc)
is_str head.Float n e = absurd (cc)
is_str (head.Bin m) n e = absurd (cc)
is_str (head.Array m) n e = absurd (cc)
is_str (head.Map m) n e = absurd (cc)
is_str (head.Ext m) n e = absurd (cc)

-- a value with a head that is no str's is no str
no_bytes : (v : Value) → str_len (head_of v) ≡ None → str_of v ≡ None
no_bytes (value (head.Str m) payload parts) e = absurd (cc)
no_bytes (value head.Nil payload parts) e = refl
no_bytes (value (head.Bool b) payload parts) e = refl
no_bytes (value (head.Int i) payload parts) e = refl
no_bytes (value head.Float payload parts) e = refl
no_bytes (value (head.Bin m) payload parts) e = refl
no_bytes (value (head.Array m) payload parts) e = refl
no_bytes (value (head.Map m) payload parts) e = refl
no_bytes (value (head.Ext m) payload parts) e = refl

abbrev pub HasStr : Option (List ℕ) → Value → Type 0
HasStr o v = str_of v ≡ o

-- where no head is read nothing but the break is there
pub head_err_only : (here mid : Position) (h : Head) (f : FormatFault) → head_from here ≡ Err f → head_from here ≡ Ok (h, mid) → ⊥
head_err_only here mid h f e is = let both : ◌≡◌ {A = Result (Head × Position) FormatFault} (Err f) (Ok (h, mid)) = sym e ∙ is in absurd (cc)

pub str_judged : (here : Position) → JudgesOne no_fault HasStr here (str_from here)
unfolding str_from
str_judged here = go (head_from here) refl
  where
    bytes : (h : Head) (mid : Position) (n : ℕ) → head_from here ≡ Ok (h, mid) → IsStr h n → (r : Read (List ℕ)) → bytes_from n mid ≡ r → JudgesOne no_fault HasStr here (r >>= λ s. Ok (Some s.0, s.1))
    bytes h mid n e is (Ok x) t =
        let taken : TakesBytes n x.0 mid x.1 = bytes_taken n mid x.0 x.1 t in
        record { value = value h x.0 none; lies = leaf_lies h x.0 here mid x.1 e (is.payload ∙ sym taken.len) is.parts taken.between; means = is.bytes x.0; none = λ g p. p }
    bytes h mid n e is (Err f) t = refuses_break no_fault here f (payload_breaks h here mid f e (ap (λ (k : ℕ). bytes_from k mid) is.payload ∙ t)) (λ g p. absurd p)

    by_kind : (h : Head) (mid : Position) → head_from here ≡ Ok (h, mid) → (o : Option ℕ) → str_len h ≡ o → JudgesOne no_fault HasStr here (bytes_or_skipped o here mid)
    by_kind h mid e (Some n) is = bytes h mid n e (is_str h n is) (bytes_from n mid) refl
    by_kind h mid e None is = skipped_judged None HasStr here (λ v there l. no_bytes v (ap str_len (head_is v here there mid h l e) ∙ is))

    go : (r : Result (Head × Position) FormatFault) → head_from here ≡ r → JudgesOne no_fault HasStr here (r >>= λ h. bytes_or_skipped (str_len h.0) here h.1)
    go (Ok x) e = by_kind x.0 x.1 e (str_len x.0) refl
    go (Err f) e = refuses_break no_fault here f (head_breaks 0 here f e) (λ g p. absurd p)

-- ---- a whole number

record IsWhole (h : Head) (n : ℕ) : Type 0 where
  payload : payload_len h ≡ 0
  parts : part_count h ≡ 0

is_whole : (h : Head) (n : ℕ) → whole h ≡ Some n → IsWhole h n
is_whole (head.Int i) n e = record { payload = refl; parts = refl }
is_whole (head.Str m) n e = absurd (cc)
is_whole head.Nil n e = absurd (cc)
is_whole (head.Bool b) n e = absurd (cc)
is_whole head.Float n e = absurd (cc)
is_whole (head.Bin m) n e = absurd (cc)
is_whole (head.Array m) n e = absurd (cc)
is_whole (head.Map m) n e = absurd (cc)
is_whole (head.Ext m) n e = absurd (cc)

number_head : (v : Value) → number_of v ≡ whole (head_of v)
number_head (value h payload parts) = refl

abbrev pub HasNumber : Option ℕ → Value → Type 0
HasNumber o v = number_of v ≡ o

pub number_judged : (here : Position) → JudgesOne no_fault HasNumber here (number_from here)
unfolding number_from
number_judged here = go (head_from here) refl
  where
    by_kind : (h : Head) (mid : Position) → head_from here ≡ Ok (h, mid) → (o : Option ℕ) → whole h ≡ o → JudgesOne no_fault HasNumber here (number_or_skipped o here mid)
    by_kind h mid e (Some n) is =
        let w : IsWhole h n = is_whole h n is in
        record { value = value h [] none; lies = leaf_lies h [] here mid mid e w.payload w.parts (record { left = refl; at = omega arith }); means = is; none = λ g p. p }
    by_kind h mid e None is = skipped_judged None HasNumber here (λ v there l. number_head v ∙ ap whole (head_is v here there mid h l e) ∙ is)

    go : (r : Result (Head × Position) FormatFault) → head_from here ≡ r → JudgesOne no_fault HasNumber here (r >>= λ h. number_or_skipped (whole h.0) here h.1)
    go (Ok x) e = by_kind x.0 x.1 e (whole x.0) refl
    go (Err f) e = refuses_break no_fault here f (head_breaks 0 here f e) (λ g p. absurd p)

-- ---- a text that must stand there

-- the value is this text
abbrev pub IsText : List ℕ → Value → Type 0
IsText t v = (str_of v ≡ Some t) × (is_utf8 t ≡ true)

-- the kinds of fault that a text may have, with what is known of each
data TextWrong (here : Position) (g : FormatFault) : Type 0 where
  by_head : {there : Position} {h : Head} → head_from here ≡ Ok (h, there) → str_len h ≡ None → g ≡ fault_here kind.Wrong here → TextWrong here g
  by_bytes : {there : Position} {v : Value} {payload : List ℕ} → Lies v here there → str_of v ≡ Some payload → is_utf8 payload ≡ false → g ≡ fault_here kind.NotText here → TextWrong here g

text_wrong : {here : Position} {g : FormatFault} → TextFault here g → TextWrong here g
text_wrong (no_str e is) = by_head e is refl
text_wrong (not_text l is bad) = by_bytes l is bad refl

-- a text that stands here has no fault of a text
pub text_clean : (v : Value) (t : List ℕ) (here there : Position) → Lies v here there → str_of v ≡ Some t → is_utf8 t ≡ true → (f : FormatFault) → TextFault here f → ⊥
text_clean v t here there l s u f p = elim (text_wrong p) [
  | by_head {there = mid} {h = h} e lacks w ↦
      let nothing : ◌≡◌ {A = Option (List ℕ)} (Some t) None = sym s ∙ no_bytes v (ap str_len (head_is v here there mid h l e) ∙ lacks) in absurd (cc)
  | by_bytes {there = next} {v = other} {payload = payload} m is bad w ↦
      let same : SameLie v other there next = lies_same v other here there next l m in
      let both : ◌≡◌ {A = Option (List ℕ)} (Some t) (Some payload) = sym s ∙ ap str_of same.value ∙ is in
      let text : t ≡ payload = cc in
      let wrong : true ≡ false = sym u ∙ ap is_utf8 text ∙ bad in absurd (cc)
]

pub text_judged : (here : Position) → JudgesOne TextFault IsText here (text_from here)
unfolding text_from
text_judged here = go (head_from here) refl
  where
    -- a fault of a str whose head is there: it isn't UTF-8
    of_str : (h : Head) (mid : Position) (n : ℕ) → head_from here ≡ Ok (h, mid) → str_len h ≡ Some n → (g : FormatFault) → TextFault here g
        → (v : Value) × (there : Position) × (payload : List ℕ) × Lies v here there × (str_of v ≡ Some payload) × (is_utf8 payload ≡ false) × (g ≡ fault_here kind.NotText here)
    of_str h mid n e is g p = elim (text_wrong p) [
      | by_head {there = there} {h = k} f lacks w ↦ absurd (
          let both : ◌≡◌ {A = Result (Head × Position) FormatFault} (Ok (h, mid)) (Ok (k, there)) = sym e ∙ f in
          let same : h ≡ k = ok_first both in
          let wrong : ◌≡◌ {A = Option ℕ} (Some n) None = sym is ∙ ap str_len same ∙ lacks in cc)
      | by_bytes {there = there} {v = v} {payload = payload} l s bad w ↦ (v, there, payload, l, s, bad, w)
    ]

    utf8 : (h : Head) (mid : Position) (n : ℕ) → head_from here ≡ Ok (h, mid) → str_len h ≡ Some n → (t : List ℕ) (there : Position) → Lies (value h t none) here there → str_of (value h t none) ≡ Some t
        → (b : Bool) → is_utf8 t ≡ b → JudgesOne TextFault IsText here (cond {A = Read (List ℕ)} b (Ok (t, there)) (Err (fault_here kind.NotText here)))
    utf8 h mid n e len t there l s true is = record {
      value = value h t none;
      lies = l;
      means = (s, is);
      none = λ g p. let w = of_str h mid n e len g p in
          let same : SameLie (value h t none) w.0 there w.1 = lies_same (value h t none) w.0 here there w.1 l w.3 in
          let both : ◌≡◌ {A = Option (List ℕ)} (Some t) (Some w.2) = sym s ∙ ap str_of same.value ∙ w.4 in
          let text : t ≡ w.2 = cc in
          let wrong : true ≡ false = sym is ∙ ap is_utf8 text ∙ w.5 in absurd (cc);
    }
    utf8 h mid n e len t there l s false is = refuses_here TextFault kind.NotText here mid h e (not_text l s is) (λ g p. (of_str h mid n e len g p).6)

    bytes : (h : Head) (mid : Position) (n : ℕ) → head_from here ≡ Ok (h, mid) → str_len h ≡ Some n → IsStr h n → (r : Read (List ℕ)) → bytes_from n mid ≡ r
        → JudgesOne TextFault IsText here (r >>= λ text. cond (is_utf8 text.0) (Ok text) (Err (fault_here kind.NotText here)))
    bytes h mid n e len is (Ok x) t =
        let taken : TakesBytes n x.0 mid x.1 = bytes_taken n mid x.0 x.1 t in
        utf8 h mid n e len x.0 x.1 (leaf_lies h x.0 here mid x.1 e (is.payload ∙ sym taken.len) is.parts taken.between) (is.bytes x.0) (is_utf8 x.0) refl
    bytes h mid n e len is (Err f) t =
        let b : Breaks 1 here f = payload_breaks h here mid f e (ap (λ (k : ℕ). bytes_from k mid) is.payload ∙ t) in
        refuses_break TextFault here f b (λ g p. let w = of_str h mid n e len g p in absurd (lies_whole here w.1 w.0 f w.3 b))

    other : (h : Head) (mid : Position) → head_from here ≡ Ok (h, mid) → str_len h ≡ None → (g : FormatFault) → TextFault here g → g ≡ fault_here kind.Wrong here
    other h mid e is g p = elim (text_wrong p) [
      | by_head f lacks w ↦ w
      | by_bytes {there = there} {v = v} {payload = payload} l s bad w ↦ absurd (
          let nothing : str_of v ≡ None = no_bytes v (ap str_len (head_is v here there mid h l e) ∙ is) in
          let wrong : ◌≡◌ {A = Option (List ℕ)} (Some payload) None = sym s ∙ nothing in cc)
    ]

    by_kind : (h : Head) (mid : Position) → head_from here ≡ Ok (h, mid) → (o : Option ℕ) → str_len h ≡ o → JudgesOne TextFault IsText here (text_or_wrong o here mid)
    by_kind h mid e (Some n) is = bytes h mid n e is (is_str h n is) (bytes_from n mid) refl
    by_kind h mid e None is = refuses_here TextFault kind.Wrong here mid h e (no_str e is) (other h mid e is)

    wrong_head : (f : FormatFault) → head_from here ≡ Err f → (g : FormatFault) → TextFault here g → Before f g
    wrong_head f e g p = elim (text_wrong p) [
      | by_head {there = there} {h = k} is lacks w ↦ absurd (head_err_only here there k f e is)
      | by_bytes {there = there} {v = v} l s bad w ↦ absurd (let st : StartsWith v here = lies_starts v here there l in head_err_only here st.mid (head_of v) f e st.head)
    ]

    go : (r : Result (Head × Position) FormatFault) → head_from here ≡ r → JudgesOne TextFault IsText here (r >>= λ h. text_or_wrong (str_len h.0) here h.1)
    go (Ok x) e = by_kind x.0 x.1 e (str_len x.0) refl
    go (Err f) e = refuses_break TextFault here f (head_breaks 0 here f e) (wrong_head f e)

-- a text's faults stand at its head
pub text_behind : StandBehind TextFault
text_behind here f (no_str e is) = omega arith
text_behind here f (not_text l is bad) = omega arith
