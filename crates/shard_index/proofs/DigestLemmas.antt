-- A digest is read right.
use Rattle.std.proofs.Common.{◌≡◌, refl, sym, ◌∙◌, ap, ℕ, Bool, true, false, cond, List, arith}
use Rattle.std.specs.Prelude.{Result, Ok, Err, Option, Some, None}
use Rattle.digest_gate.specs.declared.digest.Digest.{Digest}
use Rattle.gateway_words.specs.Places.{Position}
use Rattle.gateway_words.specs.Reading.{◌>>=◌}
use Rattle.mp_codec.specs.declared.fault.FormatFault.{FormatFault}
use Rattle.mp_codec.specs.declared.fault.FaultKind.TheVariants as kind
use Rattle.mp_codec.specs.declared.head.Head.{Head}
use Rattle.mp_codec.specs.declared.head.Head.TheVariants as head
use Rattle.mp_codec.specs.Format.{payload_len, part_count}
use Rattle.mp_codec.specs.Value.{Value, value, none}
use Rattle.mp_codec.specs.Spelling.{Lies, Breaks}
use Rattle.mp_codec.specs.Reading.{head_from, bytes_from}
use Rattle.mp_codec.specs.Fault.{Before, fault_here}
use Rattle.mp_codec.specs.Maps.{Read}
use Rattle.mp_codec.proofs.HeadLemmas.{ok_first}
use Rattle.mp_codec.proofs.PlaceLemmas.{head_breaks, TakesBytes, bytes_taken}
use Rattle.mp_codec.proofs.UniqueLemmas.{SameLie, lies_same}
use Rattle.mp_codec.proofs.JudgingLemmas.{StandBehind, JudgesOne, lies_whole}
use Rattle.mp_codec.proofs.LeafLemmas.{StartsWith, lies_starts, head_of, head_err_only, refuses_here, refuses_break, leaf_lies, payload_breaks}
use Rattle.shard_index.specs.Digests.{is_digest_head, digest_by_head, digest_of, DigestFault, other_head, no_digits, digest_or_wrong, digest_behind, digest_from}

-- the value is this digest
abbrev pub IsDigest : Digest → Value → Type 0
IsDigest digest v = digest_of v ≡ Some digest

-- what is wrong with a digest, taken apart
data DigestWrong (here : Position) (g : FormatFault) : Type 0 where
  by_head : {there : Position} {h : Head} → head_from here ≡ Ok (h, there) → is_digest_head h ≡ false → g ≡ fault_here kind.Wrong here → DigestWrong here g
  by_payload : {there : Position} {v : Value} → Lies v here there → digest_of v ≡ None → g ≡ fault_here kind.Wrong here → DigestWrong here g

digest_wrong : {here : Position} {g : FormatFault} → DigestFault here g → DigestWrong here g
digest_wrong (other_head e is) = by_head e is refl
digest_wrong (no_digits l is) = by_payload l is refl

-- all faults of a digest are one
one_fault : (here : Position) (g : FormatFault) → DigestFault here g → g ≡ fault_here kind.Wrong here
one_fault here g p = elim (digest_wrong p) [
  | by_head {there = there} {h = h} e is w ↦ w
  | by_payload {there = there} {v = v} l is w ↦ w
]

pub digest_stands : StandBehind DigestFault
digest_stands here f p = let at : f.at ≡ here.at = ap (λ (f : FormatFault). f.at) (one_fault here f p) in omega arith

-- the head of a digest has no parts
no_parts : (h : Head) → is_digest_head h ≡ true → part_count h ≡ 0
no_parts (head.Bin n) e = refl
no_parts (head.Str n) e = refl
no_parts head.Nil e = refl
no_parts (head.Bool b) e = refl
no_parts (head.Int i) e = refl
no_parts head.Float e = refl
no_parts (head.Array n) e = absurd (cc)
no_parts (head.Map n) e = absurd (cc)
no_parts (head.Ext n) e = refl

pub digest_judged : (here : Position) → JudgesOne DigestFault IsDigest here (digest_from here)
unfolding digest_from
digest_judged here = go (head_from here) refl
  where
    -- a fault behind the head of a digest: there is a whole value that is none
    behind : (h : Head) (mid : Position) → head_from here ≡ Ok (h, mid) → is_digest_head h ≡ true → (g : FormatFault) → DigestFault here g → (v : Value) × (there : Position) × Lies v here there × (digest_of v ≡ None)
    behind h mid e is g p = elim (digest_wrong p) [
      | by_head {there = there} {h = k} f lacks w ↦ absurd (
          let both : ◌≡◌ {A = Result (Head × Position) FormatFault} (Ok (h, mid)) (Ok (k, there)) = sym e ∙ f in
          let same : h ≡ k = ok_first both in
          let wrong : true ≡ false = sym is ∙ ap is_digest_head same ∙ lacks in cc)
      | by_payload {there = there} {v = v} l lacks w ↦ (v, there, l, lacks)
    ]

    given : (h : Head) (mid : Position) → head_from here ≡ Ok (h, mid) → is_digest_head h ≡ true → (payload : List ℕ) (there : Position) → Lies (value h payload none) here there
        → (o : Option Digest) → digest_by_head h payload ≡ o → JudgesOne DigestFault IsDigest here (digest_or_wrong o here there)
    given h mid e is payload there l (Some digest) d = record {
      value = value h payload none;
      lies = l;
      means = d;
      none = λ g p. let w = behind h mid e is g p in
          let same : SameLie (value h payload none) w.0 there w.1 = lies_same (value h payload none) w.0 here there w.1 l w.2 in
          let wrong : ◌≡◌ {A = Option Digest} (Some digest) None = sym d ∙ ap digest_of same.value ∙ w.3 in absurd (cc);
    }
    given h mid e is payload there l None d = refuses_here DigestFault kind.Wrong here mid h e (no_digits l d) (one_fault here)

    taken : (h : Head) (mid : Position) → head_from here ≡ Ok (h, mid) → is_digest_head h ≡ true → (r : Read (List ℕ)) → bytes_from (payload_len h) mid ≡ r
        → JudgesOne DigestFault IsDigest here (r >>= λ s. digest_or_wrong (digest_by_head h s.0) here s.1)
    taken h mid e is (Ok x) t =
        let b : TakesBytes (payload_len h) x.0 mid x.1 = bytes_taken (payload_len h) mid x.0 x.1 t in
        given h mid e is x.0 x.1 (leaf_lies h x.0 here mid x.1 e (sym b.len) (no_parts h is) b.between) (digest_by_head h x.0) refl
    taken h mid e is (Err f) t =
        let b : Breaks 1 here f = payload_breaks h here mid f e t in
        refuses_break DigestFault here f b (λ g p. let w = behind h mid e is g p in absurd (lies_whole here w.1 w.0 f w.2 b))

    by_test : (h : Head) (mid : Position) → head_from here ≡ Ok (h, mid) → (b : Bool) → is_digest_head h ≡ b
        → JudgesOne DigestFault IsDigest here (cond {A = Read Digest} b (bytes_from (payload_len h) mid >>= λ s. digest_or_wrong (digest_by_head h s.0) here s.1) (Err (fault_here kind.Wrong here)))
    by_test h mid e true is = taken h mid e is (bytes_from (payload_len h) mid) refl
    by_test h mid e false is = refuses_here DigestFault kind.Wrong here mid h e (other_head e is) (one_fault here)

    wrong_head : (f : FormatFault) → head_from here ≡ Err f → (g : FormatFault) → DigestFault here g → Before f g
    wrong_head f e g p = elim (digest_wrong p) [
      | by_head {there = there} {h = k} is lacks w ↦ absurd (head_err_only here there k f e is)
      | by_payload {there = there} {v = v} l lacks w ↦ absurd (let st : StartsWith v here = lies_starts v here there l in head_err_only here st.mid (head_of v) f e st.head)
    ]

    go : (r : Result (Head × Position) FormatFault) → head_from here ≡ r → JudgesOne DigestFault IsDigest here (r >>= λ h. digest_behind h.0 here h.1)
    go (Ok x) e = by_test x.0 x.1 e (is_digest_head x.0) refl
    go (Err f) e = refuses_break DigestFault here f (head_breaks 0 here f e) (wrong_head f e)
