-- Places behind some bytes, and heads, payloads and nodes that stand at a place.
use Rattle.std.proofs.Common.{◌≡◌, refl, sym, ◌∙◌, ap, subst, ℕ, suc, ◌+◌, ◌<◌, ◌≤◌, ◌⊎◌, inl, inr, Bool, true, false, cond, ltb, List, ◌++◌, length, take, arith, length-append, append_assoc}
use Rattle.std.specs.Prelude.{Result, Ok, Err}
use Rattle.std.proofs.lemmas.Bool.{ltb-true, ltb-false}
use Rattle.std.proofs.lemmas.List.{length-take-le, take-append-drop}
use Rattle.std.proofs.Math.Seq.{take-append_seam, drop-append_seam}
use Rattle.gateway_words.specs.Places.{Position, Between, behind, end_of}
use Rattle.gateway_words.specs.Reading.{◌>>=◌}
use Rattle.mp_codec.specs.declared.fault.FaultKind.{FaultKind}
use Rattle.mp_codec.specs.declared.fault.FaultKind.TheVariants.{Short, Reserved}
use Rattle.mp_codec.specs.declared.fault.FormatFault.{FormatFault}
use Rattle.mp_codec.specs.declared.head.Head.{Head}
use Rattle.mp_codec.specs.Format.{head_at, payload_len}
use Rattle.mp_codec.specs.Spelling.{SpellsHead, HeadLies, Begins, Breaks, short, short_head, reserved_head, short_payload}
use Rattle.mp_codec.specs.Reading.{head_fault, placed_head, head_from, bytes_from, node_from}
use Rattle.mp_codec.proofs.BindLemmas.{bound_ok, bound_err, bind_ok}
use Rattle.mp_codec.proofs.HeadLemmas.{ok_first, ok_second, head_more, head_len, head_front, head_kinds}

-- ---- places

abbrev pub position : ℕ → List ℕ → Position
position at left = record { at = at; left = left }

-- where bytes stand between two positions, the first is their place with them and the rest
pub between_here : (bytes : List ℕ) (here there : Position) → Between bytes here there → here ≡ position here.at (bytes ++ there.left)
between_here bytes here there b = ap (λ (t : List ℕ). position here.at t) b.left

-- and the second is the place behind them
pub between_there : (bytes : List ℕ) (here there : Position) → Between bytes here there → there ≡ position (here.at + length bytes) there.left
between_there bytes here there b = ap (λ (k : ℕ). position k there.left) b.at

pub between_join : (a b : List ℕ) (here mid there : Position) → Between a here mid → Between b mid there → Between (a ++ b) here there
between_join a b here mid there p q = record {
  left = p.left ∙ ap (λ (t : List ℕ). a ++ t) q.left ∙ sym (append_assoc a b there.left);
  at = let pa : mid.at ≡ here.at + length a = p.at in let qa : there.at ≡ mid.at + length b = q.at in omega (arith, length-append a b);
}

pub between_le : (b : List ℕ) (here there : Position) → Between b here there → here.at ≤ there.at
between_le b here there h = let at : there.at ≡ here.at + length b = h.at in omega arith

-- the bytes end at one place, whichever position one counts from
pub same_end : (b : List ℕ) (here there : Position) → Between b here there → end_of there ≡ end_of here
same_end b here there h =
    let at : there.at ≡ here.at + length b = h.at in
    let left : length here.left ≡ length (b ++ there.left) = ap length h.left in
    omega (arith, length-append b there.left)

pub same_short : (b : List ℕ) (here there : Position) → Between b here there → short there ≡ short here
same_short b here there h = ap (λ (k : ℕ). record { at = k; kind = Short }) (same_end b here there h)

-- the bytes up to a place that is not behind their end
pub between_take : (k : ℕ) (here : Position) → k ≤ length here.left → Between (take k here.left) here (behind k here)
between_take k here le = record {
  left = sym (take-append-drop k here.left);
  at = ap (λ (n : ℕ). here.at + n) (sym (length-take-le k here.left le));
}

ltb_no : (m n : ℕ) → n ≤ m → ltb m n ≡ false
ltb_no m n le = go (ltb m n) refl
  where
    go : (b : Bool) → ltb m n ≡ b → ltb m n ≡ false
    go true is = absurd (let lt : m < n = ltb-true m n is in omega arith)
    go false is = is

ltb_yes : (m n : ℕ) → m < n → ltb m n ≡ true
ltb_yes m n lt = go (ltb m n) refl
  where
    go : (b : Bool) → ltb m n ≡ b → ltb m n ≡ true
    go true is = is
    go false is = absurd (let le : n ≤ m = ltb-false m n is in omega arith)

-- ---- a head

pub head_then : (p : ℕ) (h : Head) (b x : List ℕ) → SpellsHead h b → head_from (position p (b ++ x)) ≡ Ok (h, position (p + length b) x)
unfolding head_from
head_then p h b x s =
    ap (λ (r : Result (Head × ℕ) FaultKind). placed_head r (position p (b ++ x))) (head_more b x h (length b) s)
    ∙ ap (λ (t : List ℕ). Ok (h, position (p + length b) t)) (drop-append_seam b x)

-- a head that stands here is read
pub lies_head : (h : Head) (here there : Position) → HeadLies h here there → head_from here ≡ Ok (h, there)
lies_head h here there l =
    ap head_from (between_here l.bytes here there l.between) ∙ head_then here.at h l.bytes there.left l.spelled
    ∙ ap (λ (q : Position). Ok (h, q)) (sym (between_there l.bytes here there l.between))

-- a head that is read stands here
pub head_lies : (here : Position) (h : Head) (there : Position) → head_from here ≡ Ok (h, there) → HeadLies h here there
unfolding head_from
head_lies here h there e = go (head_at here.left) refl e
  where
    go : (r : Result (Head × ℕ) FaultKind) → head_at here.left ≡ r → placed_head r here ≡ Ok (h, there) → HeadLies h here there
    go (Err k) is e = absurd (cc)
    go (Ok x) is e =
        let len = head_len here.left x.0 x.1 is in
        let le : x.1 ≤ length here.left = len.1 in
        let same : x.0 ≡ h = ok_first e in
        let place : behind x.1 here ≡ there = ok_second e in
        let spelled : head_at (take x.1 here.left) ≡ Ok (x.0, length (take x.1 here.left)) = head_front here.left x.0 x.1 is ∙ ap (λ (n : ℕ). Ok (x.0, n)) (sym (length-take-le x.1 here.left le)) in
        subst (λ (g : Head). HeadLies g here there) same
        (subst (λ (q : Position). HeadLies x.0 here q) place (record { bytes = take x.1 here.left; spelled = spelled; between = between_take x.1 here le }))

-- where no head is read the value breaks off
pub head_breaks : (n : ℕ) (here : Position) (f : FormatFault) → head_from here ≡ Err f → Breaks (suc n) here f
unfolding head_from
head_breaks n here f e = go (head_at here.left) refl e
  where
    kind : (k : FaultKind) → head_at here.left ≡ Err k → (k ≡ Short) ⊎ (k ≡ Reserved) → placed_head (Err k) here ≡ Err f → Breaks (suc n) here f
    kind k is (inl s) e =
        let placed : placed_head (Err Short) here ≡ Err f = subst (λ (k : FaultKind). placed_head (Err k) here ≡ Err f) s e in
        let same : short here ≡ f = cc in
        subst (λ (f : FormatFault). Breaks (suc n) here f) same (short_head (is ∙ ap (λ (k : FaultKind). Err k) s))
    kind k is (inr s) e =
        let placed : placed_head (Err Reserved) here ≡ Err f = subst (λ (k : FaultKind). placed_head (Err k) here ≡ Err f) s e in
        let same : head_fault Reserved here ≡ f = cc in
        subst (λ (f : FormatFault). Breaks (suc n) here f) same (reserved_head (is ∙ ap (λ (k : FaultKind). Err k) s))

    go : (r : Result (Head × ℕ) FaultKind) → head_at here.left ≡ r → placed_head r here ≡ Err f → Breaks (suc n) here f
    go (Ok x) is e = absurd (cc)
    go (Err k) is e = kind k is (head_kinds here.left k is) e

-- ---- so many bytes

pub bytes_then : (p n : ℕ) (b x : List ℕ) → length b ≡ n → bytes_from n (position p (b ++ x)) ≡ Ok (b, position (p + length b) x)
unfolding bytes_from
bytes_then p n b x len =
    ap (λ (t : Bool). cond {A = Result (List ℕ × Position) FormatFault} t (Err (short (position p (b ++ x)))) (Ok (take n (b ++ x), behind n (position p (b ++ x))))) (ltb_no (length (b ++ x)) n (omega (arith, length-append b x)))
    ∙ subst (λ (k : ℕ). ◌≡◌ {A = Result (List ℕ × Position) FormatFault} (Ok (take k (b ++ x), behind k (position p (b ++ x)))) (Ok (b, position (p + length b) x))) len
    (ap (λ (t : List ℕ). Ok (t, behind (length b) (position p (b ++ x)))) (take-append_seam b x) ∙ ap (λ (t : List ℕ). Ok (b, position (p + length b) t)) (drop-append_seam b x))

-- the bytes that were taken stand here
pub record TakesBytes (n : ℕ) (b : List ℕ) (here there : Position) : Type 0 where
  pub len : length b ≡ n
  pub between : Between b here there

pub bytes_taken : (n : ℕ) (here : Position) (b : List ℕ) (there : Position) → bytes_from n here ≡ Ok (b, there) → TakesBytes n b here there
unfolding bytes_from
bytes_taken n here b there e = go (ltb (length here.left) n) refl e
  where
    go : (t : Bool) → ltb (length here.left) n ≡ t → cond {A = Result (List ℕ × Position) FormatFault} t (Err (short here)) (Ok (take n here.left, behind n here)) ≡ Ok (b, there) → TakesBytes n b here there
    go true is e = absurd (cc)
    go false is e =
        let le : n ≤ length here.left = ltb-false _ _ is in
        let same : take n here.left ≡ b = ok_first e in
        let place : behind n here ≡ there = ok_second e in
        let taken : TakesBytes n (take n here.left) here (behind n here) = record { len = length-take-le n here.left le; between = between_take n here le } in
        subst (λ (q : Position). TakesBytes n b here q) place (subst (λ (t : List ℕ). TakesBytes n t here (behind n here)) same taken)

-- where they were not taken, the bytes end first
pub bytes_short : (n : ℕ) (here : Position) (f : FormatFault) → bytes_from n here ≡ Err f → (length here.left < n) × (f ≡ short here)
unfolding bytes_from
bytes_short n here f e = go (ltb (length here.left) n) refl e
  where
    go : (t : Bool) → ltb (length here.left) n ≡ t → cond {A = Result (List ℕ × Position) FormatFault} t (Err (short here)) (Ok (take n here.left, behind n here)) ≡ Err f → (length here.left < n) × (f ≡ short here)
    go true is e = (ltb-true _ _ is, (cc))
    go false is e = absurd (cc)

pub bytes_end : (n : ℕ) (here : Position) → length here.left < n → bytes_from n here ≡ Err (short here)
unfolding bytes_from
bytes_end n here lt = ap (λ (t : Bool). cond {A = Result (List ℕ × Position) FormatFault} t (Err (short here)) (Ok (take n here.left, behind n here))) (ltb_yes (length here.left) n lt)

-- ---- a head and its payload

abbrev Node : Type 0
Node = Head × List ℕ × Position

pub node_begins : (here : Position) (h : Head) (payload : List ℕ) (there : Position) → Begins h payload here there → node_from here ≡ Ok (h, payload, there)
unfolding node_from
node_begins here h payload there g =
    let front = g.front in
    let left : here.left ≡ front ++ (payload ++ there.left) = g.between.left ∙ append_assoc front payload there.left in
    let at : there.at ≡ here.at + length (front ++ payload) = g.between.at in
    let there_is : position (here.at + length front + length payload) there.left ≡ there = ap (λ (k : ℕ). position k there.left) (omega (arith, length-append front payload)) in
    let first : head_from here ≡ Ok (h, position (here.at + length front) (payload ++ there.left)) =
    ap (λ (t : List ℕ). head_from (position here.at t)) left ∙ head_then here.at h front (payload ++ there.left) g.head in
    bind_ok (head_from here) (λ head. bytes_from (payload_len head.0) head.1 >>= λ payload. Ok (head.0, payload.0, payload.1)) (h, position (here.at + length front) (payload ++ there.left)) first
    ∙ bind_ok (bytes_from (payload_len h) (position (here.at + length front) (payload ++ there.left))) (λ payload. Ok (h, payload.0, payload.1)) (payload, position (here.at + length front + length payload) there.left)
    (bytes_then (here.at + length front) (payload_len h) payload there.left g.payload_len)
    ∙ ap (λ (q : Position). Ok (h, payload, q)) there_is

pub begins_node : (here : Position) (x : Node) → node_from here ≡ Ok x → Begins x.0 x.1 here x.2
unfolding node_from
begins_node here x e =
    let one = bound_ok (head_from here) (λ head. bytes_from (payload_len head.0) head.1 >>= λ payload. Ok (head.0, payload.0, payload.1)) x e in
    let two = bound_ok (bytes_from (payload_len one.value.0) one.value.1) (λ payload. Ok (one.value.0, payload.0, payload.1)) x one.rest in
    let head : HeadLies one.value.0 here one.value.1 = head_lies here one.value.0 one.value.1 one.first in
    let taken : TakesBytes (payload_len one.value.0) two.value.0 one.value.1 two.value.1 = bytes_taken (payload_len one.value.0) one.value.1 two.value.0 two.value.1 two.first in
    let node : Begins one.value.0 two.value.0 here two.value.1 = record { front = head.bytes; head = head.spelled; payload_len = taken.len; between = between_join head.bytes two.value.0 here one.value.1 two.value.1 head.between taken.between } in
    along x one.value.0 two.value.0 two.value.1 two.rest node
  where
    node_or : Node → Result Node FormatFault → Node
    node_or d (Ok x) = x
    node_or d (Err f) = d

    along : (x : Node) (h : Head) (payload : List ℕ) (there : Position) → ◌≡◌ {A = Result Node FormatFault} (Ok (h, payload, there)) (Ok x) → Begins h payload here there → Begins x.0 x.1 here x.2
    along x h payload there e g = let same : ◌≡◌ {A = Node} (h, payload, there) x = ap (node_or x) e in subst (λ (n : Node). Begins n.0 n.1 here n.2) same g

-- a node takes a byte at least
pub node_shrinks : (h : Head) (payload : List ℕ) (here there : Position) → Begins h payload here there → length there.left < length here.left
node_shrinks h payload here there g =
    let len = head_len g.front h (length g.front) g.head in
    let some : 1 ≤ length g.front = len.0 in
    let left : length here.left ≡ length ((g.front ++ payload) ++ there.left) = ap length g.between.left in
    omega (arith, length-append (g.front ++ payload) there.left, length-append g.front payload)

-- where no node is read the value breaks off
pub node_breaks : (n : ℕ) (here : Position) (f : FormatFault) → node_from here ≡ Err f → Breaks (suc n) here f
unfolding node_from
node_breaks n here f e =
    elim (bound_err (head_from here) (λ head. bytes_from (payload_len head.0) head.1 >>= λ payload. Ok (head.0, payload.0, payload.1)) f e) [
      | inl first ↦ head_breaks n here f first
      | inr b ↦ elim (bound_err (bytes_from (payload_len b.value.0) b.value.1) (λ payload. Ok (b.value.0, payload.0, payload.1)) f b.rest) [
        | inl bytes ↦ payload b.value.0 b.value.1 (head_lies here b.value.0 b.value.1 b.first) (bytes_short (payload_len b.value.0) b.value.1 f bytes)
        | inr c ↦ absurd (let wrong = c.rest in cc)
      ]
    ]
  where
    payload : (h : Head) (there : Position) → HeadLies h here there → (length there.left < payload_len h) × (f ≡ short there) → Breaks (suc n) here f
    payload h there l s =
        let left : length here.left ≡ length (l.bytes ++ there.left) = ap length l.between.left in
        let room : length there.left < payload_len h = s.0 in
        let head : head_at here.left ≡ Ok (h, length l.bytes) = ap head_at l.between.left ∙ head_more l.bytes there.left h (length l.bytes) l.spelled in
        subst (λ (g : FormatFault). Breaks (suc n) here g) (sym (s.1 ∙ same_short l.bytes here there l.between))
        (short_payload head (omega (arith, length-append l.bytes there.left)))
