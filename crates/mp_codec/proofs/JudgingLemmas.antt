-- A reader of one value and then of what follows answers the first fault of both.
use Rattle.std.proofs.Common.{◌≡◌, refl, sym, ap, subst, ℕ, zero, suc, ◌<◌, ◌≤◌, ◌⊎◌, inl, inr, [], ◌++◌, arith, append-nil}
use Rattle.std.specs.Prelude.{Result, Ok, Err}
use Rattle.std.proofs.lemmas.Bool.{cases_lt}
use Rattle.gateway_words.specs.Places.{Position}
use Rattle.gateway_words.specs.Reading.{◌>>=◌}
use Rattle.mp_codec.specs.declared.fault.FormatFault.{FormatFault}
use Rattle.mp_codec.specs.declared.fault.FaultKind.TheVariants as kind
use Rattle.mp_codec.specs.Value.{Value, Values, none, more}
use Rattle.mp_codec.specs.Spelling.{Lies, Breaks, short_head, reserved_head, short_payload, in_part, in_later}
use Rattle.mp_codec.specs.Fault.{Before, Faults, Then}
use Rattle.mp_codec.proofs.PlaceLemmas.{between_join, between_le}
use Rattle.mp_codec.proofs.PassingLemmas.{LieAll, LieApart, lie_apart, one_of, breaks_in, value_or_break, lies_value}
use Rattle.mp_codec.proofs.UniqueLemmas.{SameLie, lies_same}

-- a fault that stands before this position, or is a want that is noticed there
abbrev pub Ends : FormatFault → Position → Type 0
Ends f there = (f.at < there.at) ⊎ ((f.at ≡ there.at) × (f.kind ≡ kind.Missing))

pub Ends-Before : (f g : FormatFault) (there : Position) → Ends f there → there.at ≤ g.at → Before f g
Ends-Before f g there (inl lt) le = inl (omega arith)
Ends-Before f g there (inr e) le = elim (cases f.at g.at (let at : f.at ≡ there.at = e.0 in omega arith)) [ inl lt ↦ inl lt | inr is ↦ inr (is, inl e.1) ]
  where
    cases : (m n : ℕ) → m ≤ n → (m < n) ⊎ (m ≡ n)
    cases m n le = elim (cases_lt m n) [ inl lt ↦ inl lt | inr ge ↦ inr (omega arith) ]

pub Ends-later : (f : FormatFault) (there last : Position) → Ends f there → there.at ≤ last.at → Ends f last
Ends-later f there last (inl lt) le = inl (omega arith)
Ends-later f there last (inr e) le =
    let at : f.at ≡ there.at = e.0 in
    elim (cases_lt there.at last.at) [ inl lt ↦ inl (omega arith) | inr ge ↦ inr (omega arith, e.1) ]

-- these faults stand where the values begin, or behind
abbrev pub StandBehind : Faults → Type 0
StandBehind faults = (here : Position) (f : FormatFault) → faults here f → here.at ≤ f.at

pub Breaks-behind : {n : ℕ} {here : Position} {f : FormatFault} → Breaks n here f → here.at ≤ f.at
Breaks-behind (short_head {here = here} e) = omega arith
Breaks-behind (reserved_head {here = here} e) = omega arith
Breaks-behind (short_payload {here = here} e lt) = omega arith
Breaks-behind (in_part {here = here} {there = there} {payload = payload} g b) = omega (arith, between_le (g.front ++ payload) here there g.between, Breaks-behind b)
Breaks-behind (in_later {here = here} {there = there} l b) = omega (arith, between_le l.bytes here there l.between, Breaks-behind b)

pub no_breaks : {here : Position} {f : FormatFault} → Breaks zero here f → ⊥
no_breaks b = elim b [ ]

pub Breaks-more : {here : Position} {f : FormatFault} (m : ℕ) → Breaks (suc zero) here f → Breaks (suc m) here f
Breaks-more m (short_head e) = short_head e
Breaks-more m (reserved_head e) = reserved_head e
Breaks-more m (short_payload e lt) = short_payload e lt
Breaks-more m (in_part g b) = in_part g b
Breaks-more m (in_later l b) = absurd (no_breaks b)

-- ---- what a reading of values says

-- it took a value that means this, and nothing is wrong with it
pub record Reads {X : Type 0} (faults : Faults) (Means : X → Value → Type 0) (here : Position) (x : X) (there : Position) : Type 0 where
  pub value : Value
  pub lies : Lies value here there
  pub means : Means x value
  pub none : (g : FormatFault) → faults here g → ⊥

-- it took so many values that mean this, and nothing is wrong with them
pub record ReadsAll {X : Type 0} (faults : Faults) (n : ℕ) (Means : X → Values → Type 0) (here : Position) (x : X) (there : Position) : Type 0 where
  pub lie : LieAll n here there
  pub means : Means x lie.values
  pub none : (g : FormatFault) → faults here g → ⊥

-- it refused so many values by their first fault
pub record Refuses (faults : Faults) (n : ℕ) (here : Position) (f : FormatFault) : Type 0 where
  pub stands : faults here f ⊎ Breaks n here f
  pub first : (g : FormatFault) → faults here g ⊎ Breaks n here g → Before f g
  pub ends : (there : Position) → LieAll n here there → Ends f there

abbrev pub JudgesOne : {X : Type 0} → Faults → (X → Value → Type 0) → Position → Result (X × Position) FormatFault → Type 0
JudgesOne faults Means here (Ok x) = Reads faults Means here x.0 x.1
JudgesOne faults Means here (Err f) = Refuses faults 1 here f

abbrev pub JudgesAll : {X : Type 0} → Faults → ℕ → (X → Values → Type 0) → Position → Result (X × Position) FormatFault → Type 0
JudgesAll faults n Means here (Ok x) = ReadsAll faults n Means here x.0 x.1
JudgesAll faults n Means here (Err f) = Refuses faults n here f

-- ---- one value, and what follows it

pub lie_all_le : (n : ℕ) (here there : Position) → LieAll n here there → here.at ≤ there.at
lie_all_le n here there l = between_le l.bytes here there l.between

-- the first value, and the others
pub record Parts (n : ℕ) (here there : Position) : Type 0 where
  pub mid : Position
  pub first : Value
  pub lies : Lies first here mid
  pub rest : LieAll n mid there

pub parts : (n : ℕ) (here there : Position) → LieAll (suc n) here there → Parts n here there
parts n here there l =
    let p : LieApart 1 n here there = lie_apart 1 n here there (subst (λ (k : ℕ). LieAll k here there) (omega arith) l) in
    let v = one_of here p.mid p.first in
    record { mid = p.mid; first = v.0; lies = v.1; rest = p.rest }

-- one value as a list of one
pub one_lies : (here : Position) (v : Value) (there : Position) → Lies v here there → LieAll 1 here there
one_lies here v there l = record { values = more v none; counted = refl; bytes = l.bytes; spelled = (l.bytes, [], l.spelled, refl, sym (append-nil l.bytes)); between = l.between }

-- a position with a value has no break
pub lies_whole : (here there : Position) (v : Value) (f : FormatFault) → Lies v here there → Breaks 1 here f → ⊥
lies_whole here there v f l b = value_or_break here there f (lies_value v here there l) b

module _ {X Y : Type 0} (P : Faults) (Q : Value → Faults) (m : ℕ) (Means : X → Value → Type 0) (Whole : Y → Values → Type 0) (here : Position) (behind_all : (v : Value) → StandBehind (Q v)) where
  same_rest : (v w : Value) (there next : Position) (g : FormatFault) → Lies v here there → Lies w here next → Q w next g → Q v there g
  same_rest v w there next g l r q =
      let same : SameLie v w there next = lies_same v w here there next l r in
      subst (λ (p : Position). Q v p g) (sym same.place) (subst (λ (u : Value). Q u next g) (sym same.value) q)

  -- a break among all the values, when the first one is whole
  later_break : (v : Value) (there : Position) (g : FormatFault) → Lies v here there → Breaks (suc m) here g → Breaks m there g
  later_break v there g l b =
      elim (breaks_in 1 m b (omega arith)) [
        | inl x ↦ absurd (lies_whole here there v g l x)
        | inr x ↦
            let w = one_of here x.0 x.1 in
            subst (λ (p : Position). Breaks m p g) (sym (lies_same v w.0 here there x.0 l w.1).place) x.2
      ]

  then_ok : (v : Value) (there : Position) → Lies v here there → ((g : FormatFault) → P here g → ⊥)
      → (s : Result (Y × Position) FormatFault) → JudgesAll (Q v) m (λ y vs. Whole y (more v vs)) there s → JudgesAll (Then P Q) (suc m) Whole here s
  then_ok v there l clean (Ok y) r = record {
    lie = record {
      values = more v r.lie.values;
      counted = ap suc r.lie.counted;
      bytes = l.bytes ++ r.lie.bytes;
      spelled = (l.bytes, r.lie.bytes, l.spelled, r.lie.spelled, refl);
      between = between_join l.bytes r.lie.bytes here there y.1 l.between r.lie.between;
    };
    means = r.means;
    none = λ g. elim [ inl p ↦ clean g p | inr q ↦ r.none g (same_rest v q.0 there q.1 g l q.2 q.3) ];
  }
  then_ok v there l clean (Err f) r = record {
    stands = elim r.stands [ inl q ↦ inl (inr (v, there, l, q)) | inr b ↦ inr (in_later l b) ];
    first = λ g. elim [
      | inl (inl p) ↦ absurd (clean g p)
      | inl (inr q) ↦ r.first g (inl (same_rest v q.0 there q.1 g l q.2 q.3))
      | inr b ↦ r.first g (inr (later_break v there g l b))
    ];
    ends = λ last all.
        let p : Parts m here last = parts m here last all in
        r.ends last (subst (λ (q : Position). LieAll m q last) (sym (lies_same v p.first here there p.mid l p.lies).place) p.rest);
  }

  then_err : (f : FormatFault) → Refuses P 1 here f → Refuses (Then P Q) (suc m) here f
  then_err f r = record {
    stands = elim r.stands [ inl p ↦ inl (inl p) | inr b ↦ inr (Breaks-more m b) ];
    first = λ g. elim [
      | inl (inl p) ↦ r.first g (inl p)
      | inl (inr q) ↦ Ends-Before f g q.1 (r.ends q.1 (one_lies here q.0 q.1 q.2)) (behind_all q.0 q.1 g q.3)
      | inr b ↦ elim (breaks_in 1 m b (omega arith)) [
        | inl x ↦ r.first g (inr x)
        | inr x ↦ Ends-Before f g x.0 (r.ends x.0 x.1) (Breaks-behind x.2)
      ]
    ];
    ends = λ last all.
        let p : Parts m here last = parts m here last all in
        Ends-later f p.mid last (r.ends p.mid (one_lies here p.first p.mid p.lies)) (lie_all_le m p.mid last p.rest);
  }

  -- the law: the reading of the first value and then of the rest is judged by both sets of faults
  pub judge_then : (r : Result (X × Position) FormatFault) (k : X × Position → Result (Y × Position) FormatFault) → JudgesOne P Means here r
      → ((x : X × Position) (v : Value) → Lies v here x.1 → Means x.0 v → JudgesAll (Q v) m (λ y vs. Whole y (more v vs)) x.1 (k x))
      → JudgesAll (Then P Q) (suc m) Whole here (r >>= k)
  judge_then (Ok x) k j rest = then_ok j.value x.1 j.lies j.none (k x) (rest x j.value j.lies j.means)
  judge_then (Err f) k j rest = then_err f j
