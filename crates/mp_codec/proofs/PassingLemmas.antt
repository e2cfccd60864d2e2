-- Passing over values: what is spelled is passed, what is passed is spelled, and an error is where a value breaks off.
use Rattle.std.proofs.Common.{◌≡◌, refl, sym, ◌∙◌, ap, subst, ℕ, zero, suc, ◌+◌, ◌-◌, ◌<◌, ◌≤◌, ◌⊎◌, inl, inr, List, [], ◌++◌, length, take, drop, arith, length-append, length-drop, append_assoc, append-nil}
use Rattle.std.proofs.Math.Seq.{take-append_seam}
use Rattle.std.specs.Prelude.{Result, Ok, Err}
use Rattle.gateway_words.specs.Places.{Position, Between, behind}
use Rattle.gateway_words.specs.Reading.{◌>>=◌}
use Rattle.mp_codec.specs.declared.fault.FormatFault.{FormatFault}
use Rattle.mp_codec.specs.declared.fault.FaultKind.{FaultKind}
use Rattle.mp_codec.specs.declared.fault.FaultKind.TheVariants.{Short, Reserved}
use Rattle.mp_codec.specs.declared.head.Head.{Head}
use Rattle.mp_codec.specs.Format.{head_at, payload_len, part_count}
use Rattle.mp_codec.specs.Value.{Value, value, Values, none, more, count}
use Rattle.mp_codec.specs.Spelling.{Spells, SpellsAll, Begins, Lies, Breaks, short, reserved, short_head, reserved_head, short_payload, in_part, in_later}
use Rattle.mp_codec.specs.Reading.{head_from, head_fault, placed_head, bytes_from, node_from, pass, values_from}
use Rattle.mp_codec.proofs.BindLemmas.{BoundOk, bound_ok, bound_err, bind_ok, bind_err}
use Rattle.mp_codec.proofs.HeadLemmas.{head_len}
use Rattle.mp_codec.proofs.PlaceLemmas.{position, between_here, between_there, between_join, between_take, same_short, node_begins, begins_node, node_shrinks, node_breaks, bytes_end}

abbrev Node : Type 0
Node = Head × List ℕ × Position

abbrev Passed : Type 0
Passed = Result Position FormatFault

-- ---- without fuel

next : ℕ → ℕ → Node → Passed
next fuel owed node = pass fuel (part_count node.0 + owed) node.2

same_fuel : (a b owed : ℕ) (here : Position) → length here.left < a → length here.left < b → pass a owed here ≡ pass b owed here
unfolding pass next
same_fuel zero b owed here la lb = absurd (omega arith)
same_fuel (suc a) zero owed here la lb = absurd (omega arith)
same_fuel (suc a) (suc b) zero here la lb = refl
same_fuel (suc a) (suc b) (suc owed) here la lb = go (node_from here) refl (λ k there. same_fuel a b k there)
  where
    go : (r : Result Node FormatFault) → node_from here ≡ r
        → ((k : ℕ) (there : Position) → length there.left < a → length there.left < b → pass a k there ≡ pass b k there) → (r >>= next a owed) ≡ (r >>= next b owed)
    go (Err f) is same = refl
    go (Ok x) is same =
        let shrinks : length x.2.left < length here.left = node_shrinks x.0 x.1 here x.2 (begins_node here x is) in
        same (part_count x.0 + owed) x.2 (omega arith) (omega arith)

-- one value more is a node, and then its parts and the others
pub values_step : (owed : ℕ) (here : Position) → values_from (suc owed) here ≡ (node_from here >>= λ node. values_from (part_count node.0 + owed) node.2)
unfolding pass next
values_step owed here = go (node_from here) refl
  where
    go : (r : Result Node FormatFault) → node_from here ≡ r → (r >>= next (length here.left) owed) ≡ (r >>= λ node. values_from (part_count node.0 + owed) node.2)
    go (Err f) is = refl
    go (Ok x) is =
        let shrinks : length x.2.left < length here.left = node_shrinks x.0 x.1 here x.2 (begins_node here x is) in
        same_fuel (length here.left) (suc (length x.2.left)) (part_count x.0 + owed) x.2 (omega arith) (omega arith)

pub values_none : (here : Position) → values_from 0 here ≡ Ok here
unfolding pass
values_none here = refl

pub values_node : (owed : ℕ) (here : Position) (h : Head) (payload : List ℕ) (there : Position) → Begins h payload here there → values_from (suc owed) here ≡ values_from (part_count h + owed) there
values_node owed here h payload there g =
    values_step owed here ∙ bind_ok (node_from here) (λ node. values_from (part_count node.0 + owed) node.2) (h, payload, there) (node_begins here h payload there g)

-- ---- what is spelled is passed

-- so many values that stand here one behind the other, and there is the position behind them
pub record LieAll (n : ℕ) (here there : Position) : Type 0 where
  pub values : Values
  pub counted : count values ≡ n
  pub bytes : List ℕ
  pub spelled : SpellsAll values bytes
  pub between : Between bytes here there

mutual
  pub spelled_passes : (v : Value) (bytes : List ℕ) (p owed : ℕ) (x : List ℕ) → Spells v bytes
      → values_from (suc owed) (position p (bytes ++ x)) ≡ values_from owed (position (p + length bytes) x)
  spelled_passes (value h payload parts) bytes p owed x s =
      let front = s.0 in
      let body = s.1 in
      let node = s.2 in
      let start : Position = position p (front ++ payload ++ body ++ x) in
      let mid : Position = position (p + length front + length payload) (body ++ x) in
      let is : bytes ++ x ≡ front ++ payload ++ body ++ x = ap (λ (t : List ℕ). t ++ x) (s.4 ∙ sym (append_assoc front payload body)) in
      let g : Begins h payload start mid = record {
        front = front;
        head = node.head;
        payload_len = node.payload_len;
        between = record { left = append_assoc (front ++ payload) body x; at = omega (arith, length-append front payload) };
      } in
      let parts_are : count parts ≡ part_count h = node.part_count in
      let len : length bytes ≡ length (front ++ (payload ++ body)) = ap length s.4 in
      ap (λ (t : List ℕ). values_from (suc owed) (position p t)) is
      ∙ values_node owed start h payload mid g
      ∙ ap (λ (k : ℕ). values_from (k + owed) mid) (sym parts_are)
      ∙ all_pass parts body (p + length front + length payload) owed x s.3
      ∙ ap (λ (k : ℕ). values_from owed (position k x)) (omega (arith, length-append front (payload ++ body), length-append payload body))

  pub all_pass : (vs : Values) (bytes : List ℕ) (p owed : ℕ) (x : List ℕ) → SpellsAll vs bytes
      → values_from (count vs + owed) (position p (bytes ++ x)) ≡ values_from owed (position (p + length bytes) x)
  all_pass none bytes p owed x s =
      let none_left : bytes ++ x ≡ x = ap (λ (t : List ℕ). t ++ x) s in
      let len : length bytes ≡ 0 = ap length s in
      ap (λ (k : ℕ). values_from k (position p (bytes ++ x))) (omega arith)
      ∙ ap (λ (t : List ℕ). values_from owed (position p t)) none_left
      ∙ ap (λ (k : ℕ). values_from owed (position k x)) (omega arith)
  all_pass (more v vs) bytes p owed x s =
      let one = s.0 in
      let others = s.1 in
      let is : bytes ++ x ≡ one ++ (others ++ x) = ap (λ (t : List ℕ). t ++ x) s.4 ∙ append_assoc one others x in
      let len : length bytes ≡ length (one ++ others) = ap length s.4 in
      ap (λ (k : ℕ). values_from k (position p (bytes ++ x))) (omega arith)
      ∙ ap (λ (t : List ℕ). values_from (suc (count vs + owed)) (position p t)) is
      ∙ spelled_passes v one p (count vs + owed) (others ++ x) s.2
      ∙ all_pass vs others (p + length one) owed x s.3
      ∙ ap (λ (k : ℕ). values_from owed (position k x)) (omega (arith, length-append one others))

-- a value that lies here is passed
pub lies_passes : (v : Value) (owed : ℕ) (here there : Position) → Lies v here there → values_from (suc owed) here ≡ values_from owed there
lies_passes v owed here there l =
    ap (values_from (suc owed)) (between_here l.bytes here there l.between)
    ∙ spelled_passes v l.bytes here.at owed there.left l.spelled
    ∙ ap (values_from owed) (sym (between_there l.bytes here there l.between))

pub lies_value : (v : Value) (here there : Position) → Lies v here there → values_from 1 here ≡ Ok there
lies_value v here there l = lies_passes v 0 here there l ∙ values_none there

-- ---- what is passed is spelled

-- some values in two parts
record SplitValues (m n : ℕ) (bytes : List ℕ) : Type 0 where
  first : Values
  first_count : count first ≡ m
  first_bytes : List ℕ
  first_spelled : SpellsAll first first_bytes
  rest : Values
  rest_count : count rest ≡ n
  rest_bytes : List ℕ
  rest_spelled : SpellsAll rest rest_bytes
  joined : bytes ≡ first_bytes ++ rest_bytes

split_values : (m n : ℕ) (vs : Values) (bytes : List ℕ) → count vs ≡ m + n → SpellsAll vs bytes → SplitValues m n bytes
split_values zero n vs bytes c s = record {
  first = none;
  first_count = refl;
  first_bytes = [];
  first_spelled = refl;
  rest = vs;
  rest_count = omega arith;
  rest_bytes = bytes;
  rest_spelled = s;
  joined = refl;
}
split_values (suc m) n none bytes c s = absurd (omega arith)
split_values (suc m) n (more v vs) bytes c s =
    let r : SplitValues m n s.1 = split_values m n vs s.1 (omega arith) s.3 in
    record {
      first = more v r.first;
      first_count = ap suc r.first_count;
      first_bytes = s.0 ++ r.first_bytes;
      first_spelled = (s.0, r.first_bytes, s.2, r.first_spelled, refl);
      rest = r.rest;
      rest_count = r.rest_count;
      rest_bytes = r.rest_bytes;
      rest_spelled = r.rest_spelled;
      joined = s.4 ∙ ap (λ (t : List ℕ). s.0 ++ t) r.joined ∙ sym (append_assoc s.0 r.first_bytes r.rest_bytes);
    }

-- the position between the first m values and the others
pub record LieApart (m n : ℕ) (here there : Position) : Type 0 where
  pub mid : Position
  pub first : LieAll m here mid
  pub rest : LieAll n mid there

pub lie_apart : (m n : ℕ) (here there : Position) → LieAll (m + n) here there → LieApart m n here there
lie_apart m n here there l =
    let s : SplitValues m n l.bytes = split_values m n l.values l.bytes l.counted l.spelled in
    let mid : Position = position (here.at + length s.first_bytes) (s.rest_bytes ++ there.left) in
    let at : there.at ≡ here.at + length l.bytes = l.between.at in
    let len : length l.bytes ≡ length (s.first_bytes ++ s.rest_bytes) = ap length s.joined in
    record {
      mid = mid;
      first = record {
        values = s.first;
        counted = s.first_count;
        bytes = s.first_bytes;
        spelled = s.first_spelled;
        between = record { left = l.between.left ∙ ap (λ (t : List ℕ). t ++ there.left) s.joined ∙ append_assoc s.first_bytes s.rest_bytes there.left; at = refl };
      };
      rest = record {
        values = s.rest;
        counted = s.rest_count;
        bytes = s.rest_bytes;
        spelled = s.rest_spelled;
        between = record { left = refl; at = omega (arith, length-append s.first_bytes s.rest_bytes) };
      };
    }

pub lie_none : (here : Position) → LieAll 0 here here
lie_none here = record { values = none; counted = refl; bytes = []; spelled = refl; between = record { left = refl; at = omega arith } }

-- a value in front of others
pub lie_more : (v : Value) (n : ℕ) (here mid there : Position) → Lies v here mid → LieAll n mid there → LieAll (suc n) here there
lie_more v n here mid there l all = record {
  values = more v all.values;
  counted = ap suc all.counted;
  bytes = l.bytes ++ all.bytes;
  spelled = (l.bytes, all.bytes, l.spelled, all.spelled, refl);
  between = between_join l.bytes all.bytes here mid there l.between all.between;
}

-- the node and the parts of a value make it
pub node_lies : (h : Head) (payload : List ℕ) (here mid there : Position) → Begins h payload here mid → (all : LieAll (part_count h) mid there) → Lies (value h payload all.values) here there
node_lies h payload here mid there g all = record {
  bytes = g.front ++ (payload ++ all.bytes);
  spelled = (g.front, all.bytes, record { head = g.head; payload_len = g.payload_len; part_count = all.counted }, all.spelled, refl);
  between = subst (λ (t : List ℕ). Between t here there) (append_assoc g.front payload all.bytes)
      (between_join (g.front ++ payload) all.bytes here mid there g.between all.between);
}

passed_lie : (fuel n : ℕ) (here there : Position) → pass fuel n here ≡ Ok there → LieAll n here there
unfolding pass next
passed_lie zero zero here there e = let same : here ≡ there = cc in subst (λ (q : Position). LieAll 0 here q) same (lie_none here)
passed_lie (suc fuel) zero here there e = let same : here ≡ there = cc in subst (λ (q : Position). LieAll 0 here q) same (lie_none here)
passed_lie zero (suc owed) here there e = absurd (cc)
passed_lie (suc fuel) (suc owed) here there e =
    let b : BoundOk (node_from here) (next fuel owed) there = bound_ok (node_from here) (next fuel owed) there e in
    let g : Begins b.value.0 b.value.1 here b.value.2 = begins_node here b.value b.first in
    let a : LieApart (part_count b.value.0) owed b.value.2 there = lie_apart (part_count b.value.0) owed b.value.2 there (passed_lie fuel (part_count b.value.0 + owed) b.value.2 there b.rest) in
    lie_more (value b.value.0 b.value.1 a.first.values) owed here a.mid there (node_lies b.value.0 b.value.1 here b.value.2 a.mid g a.first) a.rest

-- values that are passed lie there
pub passed_values : (n : ℕ) (here there : Position) → values_from n here ≡ Ok there → LieAll n here there
passed_values n here there e = passed_lie (suc (length here.left)) n here there e

-- the one value of a list of one
pub one_of : (here there : Position) → LieAll 1 here there → (v : Value) × Lies v here there
one_of here there l = one l.values l.counted l.bytes l.spelled l.between
  where
    one : (vs : Values) → count vs ≡ 1 → (bytes : List ℕ) → SpellsAll vs bytes → Between bytes here there → (v : Value) × Lies v here there
    one none e bytes s b = absurd (omega arith)
    one (more v none) e bytes s b = (v, record { bytes = s.0; spelled = s.2; between = subst (λ (t : List ℕ). Between t here there) (s.4 ∙ ap (λ (t : List ℕ). s.0 ++ t) s.3 ∙ append-nil s.0) b })
    one (more v (more w vs)) e bytes s b = absurd (omega arith)

pub passed_value : (here there : Position) → values_from 1 here ≡ Ok there → (v : Value) × Lies v here there
passed_value here there e = one_of here there (passed_values 1 here there e)

-- ---- where values break off

-- a break among m + n values is among the first m, or behind them
pub breaks_in : (m n : ℕ) {k : ℕ} {here : Position} {f : FormatFault} → Breaks k here f → k ≡ m + n → Breaks m here f ⊎ ((mid : Position) × LieAll m here mid × Breaks n mid f)
breaks_in zero n {here = here} {f = f} b e = let same : _ ≡ n = omega arith in inr (here, lie_none here, subst (λ (j : ℕ). Breaks j here f) same b)
breaks_in (suc m) n (short_head e) k = inl (short_head e)
breaks_in (suc m) n (reserved_head e) k = inl (reserved_head e)
breaks_in (suc m) n (short_payload e lt) k = inl (short_payload e lt)
breaks_in (suc m) n (in_part g b) k = inl (in_part g b)
breaks_in (suc m) n (in_later {here = here} {there = there} {v = v} l b) k =
    elim (breaks_in m n b (omega arith)) [
      | inl x ↦ inl (in_later l x)
      | inr x ↦ inr (x.0, lie_more v m here there x.0 l x.1, x.2)
    ]

pass_breaks : (fuel n : ℕ) (here : Position) (f : FormatFault) → length here.left < fuel → pass fuel n here ≡ Err f → Breaks n here f
unfolding pass next
pass_breaks zero n here f lt e = absurd (omega arith)
pass_breaks (suc fuel) zero here f lt e = absurd (cc)
pass_breaks (suc fuel) (suc owed) here f lt e =
    elim (bound_err (node_from here) (next fuel owed) f e) [
      | inl first ↦ node_breaks owed here f first
      | inr b ↦ later b.value b.first (λ less. pass_breaks fuel (part_count b.value.0 + owed) b.value.2 f less b.rest)
    ]
  where
    later : (x : Node) → node_from here ≡ Ok x → (length x.2.left < fuel → Breaks (part_count x.0 + owed) x.2 f) → Breaks (suc owed) here f
    later x is rest =
        let g : Begins x.0 x.1 here x.2 = begins_node here x is in
        let shrinks : length x.2.left < length here.left = node_shrinks x.0 x.1 here x.2 g in
        elim (breaks_in (part_count x.0) owed (rest (omega arith)) refl) [
          | inl b ↦ in_part g b
          | inr b ↦ in_later (node_lies x.0 x.1 here x.2 b.0 g b.1) b.2
        ]

-- an error is where one of the values breaks off
pub values_break : (n : ℕ) (here : Position) (f : FormatFault) → values_from n here ≡ Err f → Breaks n here f
values_break n here f e = pass_breaks (suc (length here.left)) n here f (omega arith) e

-- an error among the first values is one of all of them
pub more_err : (fuel m n : ℕ) (here : Position) (f : FormatFault) → pass fuel m here ≡ Err f → pass fuel (m + n) here ≡ Err f
unfolding pass next
more_err zero zero n here f e = absurd (cc)
more_err (suc fuel) zero n here f e = absurd (cc)
more_err zero (suc m) n here f e = ap (λ (k : ℕ). pass zero k here) (suc_sum m n) ∙ e
  where
    suc_sum : (m n : ℕ) → suc m + n ≡ suc (m + n)
    suc_sum m n = omega arith
more_err (suc fuel) (suc m) n here f e =
    ap (λ (k : ℕ). pass (suc fuel) k here) (let sum : suc m + n ≡ suc (m + n) = omega arith in sum) ∙ go (node_from here) e (λ k there. more_err fuel k n there f)
  where
    go : (r : Result Node FormatFault) → (r >>= next fuel m) ≡ Err f
        → ((k : ℕ) (there : Position) → pass fuel k there ≡ Err f → pass fuel (k + n) there ≡ Err f) → (r >>= next fuel (m + n)) ≡ Err f
    go (Err g) e again = e
    go (Ok x) e again =
        ap (λ (k : ℕ). pass fuel k x.2) (let sum : part_count x.0 + (m + n) ≡ (part_count x.0 + m) + n = omega arith in sum)
        ∙ again (part_count x.0 + m) x.2 e

head_err : (here : Position) (kind : FaultKind) → head_at here.left ≡ Err kind → node_from here ≡ Err (head_fault kind here)
unfolding head_from node_from
head_err here kind e =
    bind_err (head_from here) (λ head. bytes_from (payload_len head.0) head.1 >>= λ payload. Ok (head.0, payload.0, payload.1)) (head_fault kind here)
    (ap (λ (r : Result (Head × ℕ) FaultKind). placed_head r here) e)

payload_err : (here : Position) (h : Head) (k : ℕ) → head_at here.left ≡ Ok (h, k) → length here.left < k + payload_len h → node_from here ≡ Err (short here)
unfolding head_from node_from
payload_err here h k e lt =
    let len = head_len here.left h k e in
    let le : k ≤ length here.left = len.1 in
    let left : length (drop k here.left) ≡ length here.left - k = length-drop k here.left in
    bind_ok (head_from here) (λ head. bytes_from (payload_len head.0) head.1 >>= λ payload. Ok (head.0, payload.0, payload.1)) (h, behind k here) (ap (λ (r : Result (Head × ℕ) FaultKind). placed_head r here) e)
    ∙ bind_err (bytes_from (payload_len h) (behind k here)) (λ payload. Ok (h, payload.0, payload.1)) (short (behind k here)) (bytes_end (payload_len h) (behind k here) (omega arith))
    ∙ ap (λ (f : FormatFault). Err f) (same_short (take k here.left) here (behind k here) (between_take k here le))

pub values_err : (n : ℕ) (here : Position) (f : FormatFault) → node_from here ≡ Err f → values_from (suc n) here ≡ Err f
values_err n here f e = values_step n here ∙ bind_err (node_from here) (λ node. values_from (part_count node.0 + n) node.2) f e

-- where one of the values breaks off, that is the error
pub break_values : {n : ℕ} {here : Position} {f : FormatFault} → Breaks n here f → values_from n here ≡ Err f
break_values (short_head {n = n} {here = here} e) = values_err n here (short here) (head_err here Short e)
break_values (reserved_head {n = n} {here = here} e) = values_err n here (reserved here) (head_err here Reserved e)
break_values (short_payload {n = n} {here = here} {h = h} {k = k} e lt) = values_err n here (short here) (payload_err here h k e lt)
break_values (in_part {n = n} {here = here} {there = there} {f = f} {h = h} {payload = payload} g b) =
    values_node n here h payload there g ∙ more_err (suc (length there.left)) (part_count h) n there f (break_values b)
break_values (in_later {n = n} {here = here} {there = there} {v = v} l b) = lies_passes v n here there l ∙ break_values b

-- ---- a position has a value or a break, and never both

pub value_or_break : (here there : Position) (f : FormatFault) → values_from 1 here ≡ Ok there → Breaks 1 here f → ⊥
value_or_break here there f e b = let wrong : ◌≡◌ {A = Passed} (Ok there) (Err f) = sym e ∙ break_values b in absurd (cc)

pub value_or_break_at : (here : Position) → ((v : Value) × (there : Position) × Lies v here there) ⊎ ((f : FormatFault) × Breaks 1 here f)
value_or_break_at here = go (values_from 1 here) refl
  where
    go : (r : Passed) → values_from 1 here ≡ r → ((v : Value) × (there : Position) × Lies v here there) ⊎ ((f : FormatFault) × Breaks 1 here f)
    go (Ok there) e = let v = passed_value here there e in inl (v.0, there, v.1)
    go (Err f) e = inr (f, values_break 1 here f e)

-- ---- no spelling is a proper prefix of another

pub one_spelling : (v w : Value) (a b x y : List ℕ) → Spells v a → Spells w b → a ++ x ≡ b ++ y → a ≡ b
one_spelling v w a b x y s t e =
    let one : values_from 1 (position 0 (a ++ x)) ≡ Ok (position (0 + length a) x) = spelled_passes v a 0 0 x s ∙ values_none (position (0 + length a) x) in
    let two : values_from 1 (position 0 (b ++ y)) ≡ Ok (position (0 + length b) y) = spelled_passes w b 0 0 y t ∙ values_none (position (0 + length b) y) in
    let same : ◌≡◌ {A = Passed} (Ok (position (0 + length a) x)) (Ok (position (0 + length b) y)) = sym one ∙ ap (λ (t : List ℕ). values_from 1 (position 0 t)) e ∙ two in
    let places : position (0 + length a) x ≡ position (0 + length b) y = cc in
    let at : 0 + length a ≡ 0 + length b = ap (λ (q : Position). q.at) places in
    sym (take-append_seam a x) ∙ ap (λ (t : List ℕ). take (length a) t) e ∙ ap (λ (k : ℕ). take k (b ++ y)) (let n : length a ≡ length b = omega arith in n) ∙ take-append_seam b y
