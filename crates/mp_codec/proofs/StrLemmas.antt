-- A str that stands whole at a position is read there, and so is a number.
use Rattle.std.proofs.Common.{◌≡◌, refl, sym, subst, ◌∙◌, ap, ℕ, pos, ◌+◌, ◌-◌, ◌^◌, ◌<◌, ◌≤◌, lt-ltb, Bool, true, false, List, length, take, drop, arith}
use Rattle.std.specs.Prelude.{Result, Ok, Err, Option, Some, None, is_some, unwrap_or, MatchOption, nat_lt, if◌then◌else◌, slice_range}
use Rattle.std.specs.Borrow.{Bor}
use Rattle.std.specs.Str.{is_utf8}
use Rattle.std.proofs.lemmas.Bool.{le-ltb}
use Rattle.std.proofs.lemmas.List.{drop-drop, length-drop}
use Rattle.gateway_words.specs.Places.{Position, behind}
use Rattle.gateway_words.specs.Reading.{◌>>=◌}
use Rattle.mp_codec.specs.declared.fault.FormatFault.{FormatFault}
use Rattle.mp_codec.specs.declared.fault.FaultKind.{FaultKind}
use Rattle.mp_codec.specs.declared.fault.FaultKind.TheVariants as kind
use Rattle.mp_codec.specs.declared.head.Head.{Head}
use Rattle.mp_codec.specs.declared.head.Head.TheVariants as head
use Rattle.mp_codec.specs.Format.{head_at, node_size, part_count, payload_len}
use Rattle.mp_codec.specs.Value.{str_len, whole}
use Rattle.mp_codec.specs.Spelling.{short}
use Rattle.mp_codec.specs.Fault.{fault_here}
use Rattle.mp_codec.specs.Reading.{NodePasses, placed_head, head_from, bytes_from, node_from}
use Rattle.mp_codec.specs.Maps.{IsStr, text_or_wrong, text_from, bytes_or_skipped, str_from, number_or_skipped, number_from}
use Rattle.mp_codec.proofs.BindLemmas.{bind_ok}
use Rattle.mp_codec.proofs.PlaceLemmas.{position}

-- two steps are one step
step_twice : (k n : ℕ) (here : Position) → behind n (behind k here) ≡ behind (k + n) here
step_twice k n here =
    let at : here.at + k + n ≡ here.at + (k + n) = omega arith in
    ap (λ (m : ℕ). position m (drop n (drop k here.left))) at ∙ ap (λ (left : List ℕ). position (here.at + (k + n)) left) (drop-drop n k here.left)

-- where the head of a str stands, and behind it its bytes
pub str_here : (bytes : List ℕ) (n k : ℕ) (here : Position) → head_at here.left ≡ Ok (head.Str n, k) → k + n ≤ length here.left → bytes ≡ slice_range here.left k (k + n) → length bytes ≡ n
    → IsStr bytes here (behind (k + n) here)
unfolding head_from bytes_from
str_here bytes n k here at fits are len =
    let mid : Position = behind k here in
    let rest : length (drop k here.left) ≡ length here.left - k = length-drop k here.left in
    let enough : nat_lt (length (drop k here.left)) n ≡ false = le-ltb (length (drop k here.left)) n (omega arith) in
    let size : k + n - k ≡ n = omega arith in
    let taken : take n (drop k here.left) ≡ bytes = ap (λ (m : ℕ). take m (drop k here.left)) (sym size) ∙ sym are in
    let read : bytes_from n mid ≡ Ok (bytes, behind (k + n) here) =
    ap (λ (b : Bool). if b then Err (short mid) else Ok (take n mid.left, behind n mid)) enough
    ∙ ap (λ (t : List ℕ). Ok (t, behind n mid)) taken ∙ ap (λ (p : Position). Ok (bytes, p)) (step_twice k n here) in
    record {
      mid = mid;
      head = ap (λ (r : Result (Head × ℕ) FaultKind). placed_head r here) at ∙ ap (λ (m : ℕ). Ok (head.Str m, mid)) (sym len);
      payload = ap (λ (m : ℕ). bytes_from m mid) len ∙ read;
    }

-- it is read as a str
pub str_read : (bytes : List ℕ) (here there : Position) → IsStr bytes here there → str_from here ≡ Ok (Some bytes, there)
unfolding str_from
str_read bytes here there s =
    bind_ok (head_from here) (λ h. bytes_or_skipped (str_len h.0) here h.1) (head.Str (length bytes), s.mid) s.head
    ∙ bind_ok (bytes_from (length bytes) s.mid) (λ t. Ok (Some t.0, t.1)) (bytes, there) s.payload

-- and as text, where it is text
pub text_read : (bytes : List ℕ) (here there : Position) → IsStr bytes here there → is_utf8 bytes ≡ true → text_from here ≡ Ok (bytes, there)
unfolding text_from
text_read bytes here there s u =
    bind_ok (head_from here) (λ h. text_or_wrong (str_len h.0) here h.1) (head.Str (length bytes), s.mid) s.head
    ∙ bind_ok (bytes_from (length bytes) s.mid) (λ t. if is_utf8 t.0 then Ok t else Err (fault_here kind.NotText here)) (bytes, there) s.payload
    ∙ ap (λ (b : Bool). if b then Ok (bytes, there) else Err (fault_here kind.NotText here)) u

-- what is found to be text is text
pub text_there : (bytes : List ℕ) (o : Option (Bor (List ℕ))) → MatchOption o (is_utf8 bytes ≡ false) (λ t. (is_utf8 bytes ≡ true) × (t.now ≡ bytes)) → is_some o ≡ true → is_utf8 bytes ≡ true
text_there bytes (Some t) m some = m.0
text_there bytes None m some = absurd (cc)

-- ---- numbers

-- a number without a sign that stands at a position is read there
pub number_read : (n len : ℕ) (here : Position) → n < 2 ^ 64 → head_at here.left ≡ Ok (head.Int (pos n), len) → number_from here ≡ Ok (Some n, behind len here)
unfolding head_from number_from
number_read n len here small at =
    bind_ok (head_from here) (λ h. number_or_skipped (whole h.0) here h.1) (head.Int (pos n), behind len here) (ap (λ (r : Result (Head × ℕ) FaultKind). placed_head r here) at)
    ∙ ap (λ (b : Bool). number_or_skipped (if b then Some n else None) here (behind len here)) (lt-ltb n (2 ^ 64) small)

-- a node whose size is known by its head, and which is there whole, is passed over
pub sized_node : (len parts : ℕ) (here : Position) → node_size (head_at here.left) ≡ Some (len, parts) → len ≤ length here.left → NodePasses (Ok parts) (behind len here) (node_from here)
unfolding head_from bytes_from node_from
sized_node len parts here sized fits = go (head_at here.left) refl sized
  where
    go : (r : Result (Head × ℕ) FaultKind) → head_at here.left ≡ r → node_size r ≡ Some (len, parts) → NodePasses (Ok parts) (behind len here) (node_from here)
    go (Err k) at e = absurd (let no : ◌≡◌ {A = Option (ℕ × ℕ)} None (Some (len, parts)) = e in cc)
    go (Ok x) at e =
        let n : ℕ = payload_len x.0 in
        let mid : Position = behind x.1 here in
        let size : x.1 + n ≡ len = ap (λ (o : Option (ℕ × ℕ)). (unwrap_or o (0, 0)).0) e in
        let count : part_count x.0 ≡ parts = ap (λ (o : Option (ℕ × ℕ)). (unwrap_or o (0, 0)).1) e in
        let rest : length (drop x.1 here.left) ≡ length here.left - x.1 = length-drop x.1 here.left in
        let enough : nat_lt (length (drop x.1 here.left)) n ≡ false = le-ltb (length (drop x.1 here.left)) n (omega arith) in
        let read : bytes_from n mid ≡ Ok (take n mid.left, behind len here) =
        ap (λ (b : Bool). if b then Err (short mid) else Ok (take n mid.left, behind n mid)) enough
        ∙ ap (λ (p : Position). Ok (take n mid.left, p)) (step_twice x.1 n here ∙ ap (λ (m : ℕ). behind m here) size) in
        let node : node_from here ≡ Ok (x.0, take n mid.left, behind len here) =
        bind_ok (head_from here) (λ h. bytes_from (payload_len h.0) h.1 >>= λ p. Ok (h.0, p.0, p.1)) (x.0, mid) (ap (λ (r : Result (Head × ℕ) FaultKind). placed_head r here) at)
        ∙ bind_ok (bytes_from n mid) (λ p. Ok (x.0, p.0, p.1)) (take n mid.left, behind len here) read in
        subst (λ (r : Result (Head × List ℕ × Position) FormatFault). NodePasses (Ok parts) (behind len here) r) (sym node) (sym count, refl)
