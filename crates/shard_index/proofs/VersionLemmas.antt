-- The version of an index is read right.
use Rattle.std.proofs.Common.{◌≡◌, refl, sym, ◌∙◌, ap, ℕ, eqb, Bool, true, false, cond, [], arith}
use Rattle.std.specs.Prelude.{Result, Ok, Err, Option, Some, None}
use Rattle.gateway_words.specs.Places.{Position}
use Rattle.gateway_words.specs.Reading.{◌>>=◌}
use Rattle.mp_codec.specs.declared.fault.FormatFault.{FormatFault}
use Rattle.mp_codec.specs.declared.fault.FaultKind.TheVariants as kind
use Rattle.mp_codec.specs.declared.head.Head.{Head}
use Rattle.mp_codec.specs.declared.head.Head.TheVariants as head
use Rattle.mp_codec.specs.Format.{payload_len, part_count}
use Rattle.mp_codec.specs.Value.{Value, value, none, whole}
use Rattle.mp_codec.specs.Reading.{head_from}
use Rattle.mp_codec.specs.Fault.{Before, fault_here}
use Rattle.mp_codec.specs.Maps.{Read}
use Rattle.mp_codec.proofs.HeadLemmas.{ok_first}
use Rattle.mp_codec.proofs.PlaceLemmas.{head_breaks}
use Rattle.mp_codec.proofs.JudgingLemmas.{StandBehind, JudgesOne}
use Rattle.mp_codec.proofs.LeafLemmas.{head_err_only, refuses_here, refuses_break, leaf_lies}
use Rattle.shard_index.specs.Version.{VersionFault, no_number, other_number, version_behind, version_from}

-- nothing is said of a version
abbrev pub IsVersion : ℕ → Value → Type 0
IsVersion n v = Unit {0}

-- what is wrong with a version, taken apart
data VersionWrong (here : Position) (g : FormatFault) : Type 0 where
  by_kind : {there : Position} {h : Head} → head_from here ≡ Ok (h, there) → whole h ≡ None → g ≡ fault_here kind.Wrong here → VersionWrong here g
  by_number : {there : Position} {h : Head} {n : ℕ} → head_from here ≡ Ok (h, there) → whole h ≡ Some n → eqb n 1 ≡ false → g ≡ fault_here kind.Version here → VersionWrong here g

version_wrong : {here : Position} {g : FormatFault} → VersionFault here g → VersionWrong here g
version_wrong (no_number e is) = by_kind e is refl
version_wrong (other_number e is other) = by_number e is other refl

pub version_stands : StandBehind VersionFault
version_stands here f p = elim (version_wrong p) [
  | by_kind {there = there} {h = h} e is w ↦ let at : f.at ≡ here.at = ap (λ (f : FormatFault). f.at) w in omega arith
  | by_number {there = there} {h = h} {n = n} e is other w ↦ let at : f.at ≡ here.at = ap (λ (f : FormatFault). f.at) w in omega arith
]

-- the head of a number is all of it
record IsBare (h : Head) : Type 0 where
  payload : payload_len h ≡ 0
  parts : part_count h ≡ 0

is_bare : (h : Head) (n : ℕ) → whole h ≡ Some n → IsBare h
is_bare (head.Int i) n e = record { payload = refl; parts = refl }
is_bare (head.Str m) n e = absurd (cc)
is_bare head.Nil n e = absurd (cc)
is_bare (head.Bool b) n e = absurd (cc)
is_bare head.Float n e = absurd (cc)
is_bare (head.Bin m) n e = absurd (cc)
is_bare (head.Array m) n e = absurd (cc)
is_bare (head.Map m) n e = absurd (cc)
is_bare (head.Ext m) n e = absurd (cc)

pub version_judged : (here : Position) → JudgesOne VersionFault IsVersion here (version_from here)
unfolding version_from
version_judged here = go (head_from here) refl
  where
    same_head : (h k : Head) (mid there : Position) → head_from here ≡ Ok (h, mid) → head_from here ≡ Ok (k, there) → whole h ≡ whole k
    same_head h k mid there e f =
        let both : ◌≡◌ {A = Result (Head × Position) FormatFault} (Ok (h, mid)) (Ok (k, there)) = sym e ∙ f in
        let same : h ≡ k = ok_first both in ap whole same

    -- a fault of a whole number is that it isn't 1
    of_number : (h : Head) (mid : Position) (n : ℕ) → head_from here ≡ Ok (h, mid) → whole h ≡ Some n → (g : FormatFault) → VersionFault here g → (eqb n 1 ≡ false) × (g ≡ fault_here kind.Version here)
    of_number h mid n e is g p = elim (version_wrong p) [
      | by_kind {there = there} {h = k} f lacks w ↦ absurd (let wrong : ◌≡◌ {A = Option ℕ} (Some n) None = sym is ∙ same_head h k mid there e f ∙ lacks in cc)
      | by_number {there = there} {h = k} {n = m} f some other w ↦
          let both : ◌≡◌ {A = Option ℕ} (Some n) (Some m) = sym is ∙ same_head h k mid there e f ∙ some in
          let same : n ≡ m = cc in
          (ap (λ (n : ℕ). eqb n 1) same ∙ other, w)
    ]

    of_kind : (h : Head) (mid : Position) → head_from here ≡ Ok (h, mid) → whole h ≡ None → (g : FormatFault) → VersionFault here g → g ≡ fault_here kind.Wrong here
    of_kind h mid e is g p = elim (version_wrong p) [
      | by_kind f lacks w ↦ w
      | by_number {there = there} {h = k} {n = m} f some other w ↦ absurd (let wrong : ◌≡◌ {A = Option ℕ} None (Some m) = sym is ∙ same_head h k mid there e f ∙ some in cc)
    ]

    number : (h : Head) (mid : Position) (n : ℕ) → head_from here ≡ Ok (h, mid) → whole h ≡ Some n → (b : Bool) → eqb n 1 ≡ b → JudgesOne VersionFault IsVersion here (cond {A = Read ℕ} b (Ok (n, mid)) (Err (fault_here kind.Version here)))
    number h mid n e is true one =
        let bare : IsBare h = is_bare h n is in
        record {
          value = value h [] none;
          lies = leaf_lies h [] here mid mid e bare.payload bare.parts (record { left = refl; at = omega arith });
          means = tt;
          none = λ g p. let w = of_number h mid n e is g p in let wrong : true ≡ false = sym one ∙ w.0 in absurd (cc);
        }
    number h mid n e is false other = refuses_here VersionFault kind.Version here mid h e (other_number e is other) (λ g p. (of_number h mid n e is g p).1)

    by_whole : (h : Head) (mid : Position) → head_from here ≡ Ok (h, mid) → (o : Option ℕ) → whole h ≡ o → JudgesOne VersionFault IsVersion here (version_behind o here mid)
    by_whole h mid e (Some n) is = number h mid n e is (eqb n 1) refl
    by_whole h mid e None is = refuses_here VersionFault kind.Wrong here mid h e (no_number e is) (of_kind h mid e is)

    wrong_head : (f : FormatFault) → head_from here ≡ Err f → (g : FormatFault) → VersionFault here g → Before f g
    wrong_head f e g p = elim (version_wrong p) [
      | by_kind {there = there} {h = k} is lacks w ↦ absurd (head_err_only here there k f e is)
      | by_number {there = there} {h = k} is some other w ↦ absurd (head_err_only here there k f e is)
    ]

    go : (r : Result (Head × Position) FormatFault) → head_from here ≡ r → JudgesOne VersionFault IsVersion here (r >>= λ h. version_behind (whole h.0) here h.1)
    go (Ok x) e = by_whole x.0 x.1 e (whole x.0) refl
    go (Err f) e = refuses_break VersionFault here f (head_breaks 0 here f e) (wrong_head f e)
