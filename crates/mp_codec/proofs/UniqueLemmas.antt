-- No bytes spell two values, and no two values lie at one position.
use Rattle.std.proofs.Common.{◌≡◌, refl, sym, ◌∙◌, ap, ℕ, List, [], ◌++◌, length, take, drop, arith, append_assoc}
use Rattle.std.specs.Prelude.{Result, Ok}
use Rattle.std.proofs.Math.Seq.{take-append_seam, drop-append_seam}
use Rattle.gateway_words.specs.Places.{Position}
use Rattle.mp_codec.specs.declared.fault.FaultKind.{FaultKind}
use Rattle.mp_codec.specs.declared.fault.FormatFault.{FormatFault}
use Rattle.mp_codec.specs.declared.head.Head.{Head}
use Rattle.mp_codec.specs.Format.{head_at, payload_len, part_count}
use Rattle.mp_codec.specs.Value.{Value, value, Values, none, more, count}
use Rattle.mp_codec.specs.Spelling.{SpellsHead, Spells, SpellsAll, Lies}
use Rattle.mp_codec.proofs.HeadLemmas.{ok_first, ok_second, head_more}
use Rattle.mp_codec.proofs.PassingLemmas.{one_spelling, lies_value}

-- fronts of one length are equal, and so is what follows
same_split : (a b x y : List ℕ) → length a ≡ length b → a ++ x ≡ b ++ y → (a ≡ b) × (x ≡ y)
same_split a b x y len e = (
  sym (take-append_seam a x) ∙ ap (λ (t : List ℕ). take (length a) t) e ∙ ap (λ (k : ℕ). take k (b ++ y)) len ∙ take-append_seam b y,
  sym (drop-append_seam a x) ∙ ap (λ (t : List ℕ). drop (length a) t) e ∙ ap (λ (k : ℕ). drop k (b ++ y)) len ∙ drop-append_seam b y,
)

-- two heads at the front of the same bytes
same_heads : (h g : Head) (a b x y : List ℕ) → SpellsHead h a → SpellsHead g b → a ++ x ≡ b ++ y → (h ≡ g) × (length a ≡ length b)
same_heads h g a b x y s t e =
    let both : ◌≡◌ {A = Result (Head × ℕ) FaultKind} (Ok (h, length a)) (Ok (g, length b)) = sym (head_more a x h (length a) s) ∙ ap head_at e ∙ head_more b y g (length b) t in
    (ok_first both, ok_second both)

mutual
  same_value : (v w : Value) (a b x y : List ℕ) → Spells v a → Spells w b → a ++ x ≡ b ++ y → v ≡ w
  same_value (value h payload parts) (value g load others) a b x y s t e =
      let left : a ++ x ≡ s.0 ++ (payload ++ (s.1 ++ x)) = ap (λ (r : List ℕ). r ++ x) s.4 ∙ append_assoc s.0 (payload ++ s.1) x ∙ ap (λ (r : List ℕ). s.0 ++ r) (append_assoc payload s.1 x) in
      let right : b ++ y ≡ t.0 ++ (load ++ (t.1 ++ y)) = ap (λ (r : List ℕ). r ++ y) t.4 ∙ append_assoc t.0 (load ++ t.1) y ∙ ap (λ (r : List ℕ). t.0 ++ r) (append_assoc load t.1 y) in
      let whole : s.0 ++ (payload ++ (s.1 ++ x)) ≡ t.0 ++ (load ++ (t.1 ++ y)) = sym left ∙ e ∙ right in
      let heads = same_heads h g s.0 t.0 (payload ++ (s.1 ++ x)) (load ++ (t.1 ++ y)) s.2.head t.2.head whole in
      let head : h ≡ g = heads.0 in
      let behind_head = same_split s.0 t.0 (payload ++ (s.1 ++ x)) (load ++ (t.1 ++ y)) heads.1 whole in
      let len : length payload ≡ length load = s.2.payload_len ∙ ap payload_len head ∙ sym t.2.payload_len in
      let behind_payload = same_split payload load (s.1 ++ x) (t.1 ++ y) len behind_head.1 in
      let same_payload : payload ≡ load = behind_payload.0 in
      let counts : count parts ≡ count others = s.2.part_count ∙ ap part_count head ∙ sym t.2.part_count in
      let same_parts : parts ≡ others = same_values parts others s.1 t.1 x y counts s.3 t.3 behind_payload.1 in
      cc

  same_values : (vs ws : Values) (a b x y : List ℕ) → count vs ≡ count ws → SpellsAll vs a → SpellsAll ws b → a ++ x ≡ b ++ y → vs ≡ ws
  same_values none none a b x y c s t e = refl
  same_values none (more w ws) a b x y c s t e = absurd (omega arith)
  same_values (more v vs) none a b x y c s t e = absurd (omega arith)
  same_values (more v vs) (more w ws) a b x y c s t e =
      let left : a ++ x ≡ s.0 ++ (s.1 ++ x) = ap (λ (r : List ℕ). r ++ x) s.4 ∙ append_assoc s.0 s.1 x in
      let right : b ++ y ≡ t.0 ++ (t.1 ++ y) = ap (λ (r : List ℕ). r ++ y) t.4 ∙ append_assoc t.0 t.1 y in
      let whole : s.0 ++ (s.1 ++ x) ≡ t.0 ++ (t.1 ++ y) = sym left ∙ e ∙ right in
      let first : v ≡ w = same_value v w s.0 t.0 (s.1 ++ x) (t.1 ++ y) s.2 t.2 whole in
      let front : s.0 ≡ t.0 = one_spelling v w s.0 t.0 (s.1 ++ x) (t.1 ++ y) s.2 t.2 whole in
      let behind = same_split s.0 t.0 (s.1 ++ x) (t.1 ++ y) (ap length front) whole in
      let others : vs ≡ ws = same_values vs ws s.1 t.1 x y (omega arith) s.3 t.3 behind.1 in
      cc

-- no bytes spell two values
pub one_value : (v w : Value) (bytes : List ℕ) → Spells v bytes → Spells w bytes → v ≡ w
one_value v w bytes s t = same_value v w bytes bytes [] [] s t refl

-- two values that lie at one position are one
pub record SameLie (v w : Value) (there next : Position) : Type 0 where
  pub value : v ≡ w
  pub place : there ≡ next

pub lies_same : (v w : Value) (here there next : Position) → Lies v here there → Lies w here next → SameLie v w there next
lies_same v w here there next l m =
    let both : ◌≡◌ {A = Result Position FormatFault} (Ok there) (Ok next) = sym (lies_value v here there l) ∙ lies_value w here next m in
    record {
      value = same_value v w l.bytes m.bytes there.left next.left l.spelled m.spelled (sym l.between.left ∙ m.between.left);
      place = cc;
    }
