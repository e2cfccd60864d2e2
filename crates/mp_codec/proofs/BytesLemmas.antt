-- All of some bytes: what one value says, and nothing behind it.
use Rattle.std.proofs.Common.{◌≡◌, refl, sym, ◌∙◌, ap, subst, ℕ, zero, suc, ◌<◌, inl, inr, Bool, true, false, cond, eqb, List, [], ◌∷◌, ◌++◌, length, arith, append-nil}
use Rattle.std.specs.Prelude.{Result, Ok, Err}
use Rattle.std.proofs.lemmas.Bool.Decides.{Decides-eqb}
use Rattle.gateway_words.specs.Places.{Position, start_of}
use Rattle.gateway_words.specs.Reading.{◌>>=◌}
use Rattle.mp_codec.specs.declared.fault.FormatFault.{FormatFault}
use Rattle.mp_codec.specs.declared.fault.FaultKind.TheVariants as kind
use Rattle.mp_codec.specs.Value.{Value}
use Rattle.mp_codec.specs.Spelling.{Spells, Lies}
use Rattle.mp_codec.specs.Fault.{IsFirstFault, Faults, fault_here, BytesFault, in_value, trailing}
use Rattle.mp_codec.specs.Maps.{Read, ended, all_from}
use Rattle.mp_codec.proofs.JudgingLemmas.{Ends-Before, Reads, Refuses, JudgesOne, lies_whole, one_lies}
use Rattle.mp_codec.proofs.UniqueLemmas.{SameLie, lies_same}

-- all of the bytes are a value that means this, and nothing is wrong with them
pub record ReadsBytes {Y : Type 0} (faults : Faults) (Means : Y → Value → Type 0) (bytes : List ℕ) (y : Y) : Type 0 where
  pub value : Value
  pub spelled : Spells value bytes
  pub means : Means y value
  pub none : (f : FormatFault) → BytesFault faults bytes f → ⊥

abbrev pub JudgesBytes : {Y : Type 0} → Faults → (Y → Value → Type 0) → List ℕ → Result Y FormatFault → Type 0
JudgesBytes faults Means bytes (Ok y) = ReadsBytes faults Means bytes y
JudgesBytes faults Means bytes (Err f) = IsFirstFault (BytesFault faults bytes) f

-- a fault of all the bytes, taken apart
data Wrong (faults : Faults) (bytes : List ℕ) (f : FormatFault) : Type 0 where
  inside : faults (start_of bytes) f → Wrong faults bytes f
  cut : Rattle.mp_codec.specs.Spelling.Breaks 1 (start_of bytes) f → Wrong faults bytes f
  behind : (v : Value) (there : Position) → Lies v (start_of bytes) there → 0 < length there.left → f ≡ fault_here kind.Trailing there → Wrong faults bytes f

wrong_of : {faults : Faults} {bytes : List ℕ} {f : FormatFault} → BytesFault faults bytes f → Wrong faults bytes f
wrong_of (in_value (inl p)) = inside p
wrong_of (in_value (inr b)) = cut b
wrong_of (trailing {v = v} {there = there} l lt) = behind v there l lt refl

-- bytes that are a spelling with nothing left behind it are the spelling
spells_all : (v : Value) (bytes : List ℕ) (there : Position) → Lies v (start_of bytes) there → length there.left ≡ 0 → Spells v bytes
spells_all v bytes there l e = go there.left e l.between.left
  where
    go : (left : List ℕ) → length left ≡ 0 → bytes ≡ l.bytes ++ left → Spells v bytes
    go [] e is = subst (λ (t : List ℕ). Spells v t) (sym (is ∙ append-nil l.bytes)) l.spelled
    go (x ∷ xs) e is = absurd (omega arith)

module _ {Y : Type 0} (faults : Faults) (Means : Y → Value → Type 0) (bytes : List ℕ) where
  ended_judged : (x : Y × Position) → Reads faults Means (start_of bytes) x.0 x.1 → (b : Bool) → eqb (length x.1.left) 0 ≡ b → JudgesBytes faults Means bytes (cond b (Ok x.0) (Err (fault_here kind.Trailing x.1)))
  ended_judged x j true is =
      let whole : length x.1.left ≡ 0 = (Decides-eqb (length x.1.left) 0).0 is in
      record {
        value = j.value;
        spelled = spells_all j.value bytes x.1 j.lies whole;
        means = j.means;
        none = λ f p. elim (wrong_of p) [
          | inside q ↦ j.none f q
          | cut b ↦ lies_whole (start_of bytes) x.1 j.value f j.lies b
          | behind v there l lt w ↦
              let same : SameLie j.value v x.1 there = lies_same j.value v (start_of bytes) x.1 there j.lies l in
              let left : length x.1.left ≡ length there.left = ap (λ (q : Position). length q.left) same.place in
              absurd (omega arith)
        ];
      }
  ended_judged x j false is =
      let some : 0 < length x.1.left = longer (length x.1.left) is in
      record {
        stands = trailing j.lies some;
        first = λ f p. elim (wrong_of p) [
          | inside q ↦ absurd (j.none f q)
          | cut b ↦ absurd (lies_whole (start_of bytes) x.1 j.value f j.lies b)
          | behind v there l lt w ↦
              let same : SameLie j.value v x.1 there = lies_same j.value v (start_of bytes) x.1 there j.lies l in
              let is : fault_here kind.Trailing x.1 ≡ f = ap (fault_here kind.Trailing) same.place ∙ sym w in
              inr (ap (λ (f : FormatFault). f.at) is, inr is)
        ];
      }
    where
      longer : (n : ℕ) → eqb n 0 ≡ false → 0 < n
      longer zero e = absurd (let yes : eqb 0 0 ≡ true = refl in cc)
      longer (suc n) e = omega arith

  refused : (f : FormatFault) → Refuses faults 1 (start_of bytes) f → IsFirstFault (BytesFault faults bytes) f
  refused f r = record {
    stands = in_value r.stands;
    first = λ g p. elim (wrong_of p) [
      | inside q ↦ r.first g (inl q)
      | cut b ↦ r.first g (inr b)
      | behind v there l lt w ↦
          let at : g.at ≡ there.at = ap (λ (f : FormatFault). f.at) w in
          Ends-Before f g there (r.ends there (one_lies (start_of bytes) v there l)) (omega arith)
    ];
  }

  -- the law: a reading of one value, and then the test that nothing is left, judges all of the bytes
  pub bytes_judged : (read : Position → Read Y) → JudgesOne faults Means (start_of bytes) (read (start_of bytes)) → JudgesBytes faults Means bytes (all_from read bytes)
  unfolding all_from
  bytes_judged read j = go (read (start_of bytes)) j
    where
      go : (r : Read Y) → JudgesOne faults Means (start_of bytes) r → JudgesBytes faults Means bytes (r >>= ended)
      go (Ok x) j = ended_judged x j (eqb (length x.1.left) 0) refl
      go (Err f) j = refused f j
