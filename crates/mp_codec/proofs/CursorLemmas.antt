-- What a cursor's calls give, in terms of what lies between two positions.
use Rattle.std.proofs.Common.{◌≡◌, refl, sym, ◌∙◌, ap, subst, ℕ, zero, suc, ◌+◌, ◌-◌, ◌<◌, List, length, arith}
use Rattle.std.specs.Prelude.{Result, Ok, Err, IsOk, IfOk, IfErr, OnOk, IsErrOf}
use Rattle.std.specs.Borrow.{Bor}
use Rattle.gateway_words.specs.Places.{Position, Between}
use Rattle.mp_codec.specs.declared.fault.FormatFault.{FormatFault}
use Rattle.mp_codec.specs.declared.head.Head.{Head}
use Rattle.mp_codec.specs.Format.{part_count}
use Rattle.mp_codec.specs.Value.{Value}
use Rattle.mp_codec.specs.Spelling.{HeadLies, Begins, Lies, Breaks, short}
use Rattle.mp_codec.specs.Reading.{Steps, Passes, NodePasses, head_from, bytes_from, node_from, values_from}
use Rattle.mp_codec.proofs.HeadLemmas.{ok_first, ok_second}
use Rattle.mp_codec.proofs.PlaceLemmas.{lies_head, head_lies, head_breaks, TakesBytes, bytes_taken, bytes_short, begins_node, node_shrinks}
use Rattle.mp_codec.proofs.PassingLemmas.{lies_value, passed_value, values_break, break_values, values_node, values_err}

abbrev Heads : Type 0
Heads = Result (Head × Position) FormatFault

-- ---- head

pub head_found : (old new : Position) (r : Result Head FormatFault) → Steps (λ h. h) old new r (head_from old) → IfOk r (λ h. HeadLies h old new)
head_found old new (Ok h) s = head_lies old h new s
head_found old new (Err f) s = tt

pub head_only : (old new : Position) (r : Result Head FormatFault) → Steps (λ h. h) old new r (head_from old) → (h : Head) (there : Position) → HeadLies h old there → (r ≡ Ok h) × (new ≡ there)
head_only old new (Ok g) s h there l =
    let both : ◌≡◌ {A = Heads} (Ok (g, new)) (Ok (h, there)) = sym s ∙ lies_head h old there l in
    (ap (λ (h : Head). Ok h) (ok_first both), ok_second both)
head_only old new (Err f) s h there l = absurd (let both : ◌≡◌ {A = Heads} (Err f) (Ok (h, there)) = sym s.0 ∙ lies_head h old there l in cc)

pub head_fault_breaks : (old new : Position) (r : Result Head FormatFault) → Steps (λ h. h) old new r (head_from old) → IfErr r (λ f. Breaks 1 old f)
head_fault_breaks old new (Ok h) s = tt
head_fault_breaks old new (Err f) s = head_breaks 0 old f s.0

-- ---- take

pub take_found : (n : ℕ) (old new : Position) (r : Result (Bor (List ℕ)) FormatFault) → Steps (λ s. s.now) old new r (bytes_from n old) → IfOk r (λ s. (length s.now ≡ n) × Between s.now old new)
take_found n old new (Ok s) e = let t : TakesBytes n s.now old new = bytes_taken n old s.now new e in (t.len, t.between)
take_found n old new (Err f) e = tt

pub take_fault : (n : ℕ) (old new : Position) (r : Result (Bor (List ℕ)) FormatFault) → Steps (λ s. s.now) old new r (bytes_from n old) → IfErr r (λ f. (length old.left < n) × (f ≡ short old))
take_fault n old new (Ok s) e = tt
take_fault n old new (Err f) e = bytes_short n old f e.0

-- ---- skip

pub skip_found : (old new : Position) (r : Result Unit FormatFault) → Passes old new r (values_from 1 old) → OnOk r ((v : Value) × Lies v old new)
skip_found old new (Ok u) e = passed_value old new e
skip_found old new (Err f) e = tt

pub skip_only : (old new : Position) (r : Result Unit FormatFault) → Passes old new r (values_from 1 old) → (v : Value) (there : Position) → Lies v old there → IsOk r × (new ≡ there)
skip_only old new (Ok u) e v there l = (refl, (let both : ◌≡◌ {A = Result Position FormatFault} (Ok new) (Ok there) = sym e ∙ lies_value v old there l in cc))
skip_only old new (Err f) e v there l = absurd (let both : ◌≡◌ {A = Result Position FormatFault} (Err f) (Ok there) = sym e.0 ∙ lies_value v old there l in cc)

pub skip_fault : (old new : Position) (r : Result Unit FormatFault) → Passes old new r (values_from 1 old) → IfErr r (λ f. Breaks 1 old f)
skip_fault old new (Ok u) e = tt
skip_fault old new (Err f) e = values_break 1 old f e.0

pub skip_broken : (old new : Position) (r : Result Unit FormatFault) → Passes old new r (values_from 1 old) → (f : FormatFault) → Breaks 1 old f → IsErrOf r f
skip_broken old new (Ok u) e f b = absurd (let both : ◌≡◌ {A = Result Position FormatFault} (Ok new) (Err f) = sym e ∙ break_values b in cc)
skip_broken old new (Err g) e f b = let both : ◌≡◌ {A = Result Position FormatFault} (Err g) (Err f) = sym e.0 ∙ break_values b in cc

-- ---- the loop over the values that are owed

-- a node was passed, with so many values in it
pub record PassedNode (old new : Position) (parts : ℕ) : Type 0 where
  pub shrinks : length new.left < length old.left
  pub goes_on : (owed : ℕ) → 0 < owed → values_from owed old ≡ values_from (owed - 1 + parts) new

pub passed_node : (old new : Position) (parts : ℕ) → NodePasses (Ok parts) new (node_from old) → PassedNode old new parts
passed_node old new parts p = go (node_from old) refl p
  where
    step : (h : Head) (payload : List ℕ) → Begins h payload old new → parts ≡ part_count h → (owed : ℕ) → 0 < owed → values_from owed old ≡ values_from (owed - 1 + parts) new
    step h payload g same zero lt = absurd (omega arith)
    step h payload g same (suc owed) lt = values_node owed old h payload new g ∙ ap (λ (k : ℕ). values_from k new) (omega arith)

    go : (r : Result (Head × List ℕ × Position) FormatFault) → node_from old ≡ r → NodePasses (Ok parts) new r → PassedNode old new parts
    go (Ok x) is p =
        let g : Begins x.0 x.1 old new = subst (λ (q : Position). Begins x.0 x.1 old q) (sym p.1) (begins_node old x is) in
        record { shrinks = node_shrinks x.0 x.1 old new g; goes_on = step x.0 x.1 g p.0 }
    go (Err f) is p = absurd p

pub failed_node : (old new : Position) (f : FormatFault) → NodePasses (Err f) new (node_from old) → (owed : ℕ) → 0 < owed → values_from owed old ≡ Err f
failed_node old new f p zero lt = absurd (omega arith)
failed_node old new f p (suc owed) lt = go (node_from old) refl p
  where
    go : (r : Result (Head × List ℕ × Position) FormatFault) → node_from old ≡ r → NodePasses (Err f) new r → values_from (suc owed) old ≡ Err f
    go (Ok x) is p = absurd (cc)
    go (Err g) is p = values_err owed old f (is ∙ p)
