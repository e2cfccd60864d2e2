-- What stands behind whole values of some bytes says what stands in all of them.
use Rattle.std.proofs.Common.{◌≡◌, refl, ◌∙◌, ℕ, suc, ◌<◌, List, [], ◌∷◌, length, arith}
use Rattle.gateway_words.specs.Places.{Position, start_of, end_of}
use Rattle.mp_codec.specs.declared.fault.FormatFault.{FormatFault}
use Rattle.mp_codec.specs.Value.{Value, none, more}
use Rattle.mp_codec.specs.Spelling.{Lies, Breaks, in_later}
use Rattle.mp_codec.proofs.PlaceLemmas.{same_end}
use Rattle.mp_codec.proofs.LeafLemmas.{value_longer}
use Rattle.bench_tool.specs.Walk.{AreValues, BreakOff}

-- whole values stand in front of this position
pub record IsBehindValues (bytes : List ℕ) (here : Position) : Type 0 where
  pub end : end_of here ≡ length bytes
  pub values : AreValues here.left → AreValues bytes
  pub fault : (n : ℕ) (f : FormatFault) → Breaks n here f → BreakOff bytes f

pub at_start : (bytes : List ℕ) → IsBehindValues bytes (start_of bytes)
at_start bytes = record { end = omega arith; values = λ vs. vs; fault = λ n f b. (n, b) }

-- one value more stands in front of the position behind it
pub behind_one : (bytes : List ℕ) (v : Value) (here there : Position) → Lies v here there → IsBehindValues bytes here → IsBehindValues bytes there
behind_one bytes v here there l w = record {
  end = same_end l.bytes here there l.between ∙ w.end;
  values = λ vs. w.values (more v vs.0, (l.bytes, there.left, l.spelled, vs.1, l.between.left));
  fault = λ n f b. w.fault (suc n) f (in_later l b);
}

-- and fewer bytes are left there
pub fewer_left : (v : Value) (here there : Position) → Lies v here there → length there.left < length here.left
fewer_left v here there l =
    let longer : here.at < there.at = value_longer v here there l in
    let same : end_of there ≡ end_of here = same_end l.bytes here there l.between in
    omega arith

-- where nothing is left, the bytes are values
pub at_end : (bytes : List ℕ) (here : Position) → length here.left ≡ 0 → IsBehindValues bytes here → AreValues bytes
at_end bytes here zero w = w.values (none, empty here.left zero)
  where
    empty : (left : List ℕ) → length left ≡ 0 → left ≡ []
    empty [] e = refl
    empty (x ∷ xs) e = absurd (omega arith)
