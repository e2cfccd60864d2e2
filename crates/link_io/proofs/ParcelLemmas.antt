-- What is known of a parcel stays known where bytes came.
use Rattle.std.proofs.Common.{◌≡◌, ℕ, ◌≤◌, List, ◌++◌, length, length-append, take, Option, None, Some, IfSome, sym, ◌∙◌, ap, subst, arith}
use Rattle.std.specs.Io.KnownBytes.{append_known}
use Rattle.std.proofs.lemmas.List.{take_all}
use Rattle.link_io.specs.declared.conn.Step.TheVariants as stepping
use Rattle.link_io.specs.Conn.{LinkFacts, IsFront}
use Rattle.link_io.specs.Parcel.{Packed, IsParcel, StepsBehind}

-- a piece behind the bytes that are told
received : (told later : Option (List ℕ)) (before piece now : List ℕ) → later ≡ append_known told piece → now ≡ before ++ piece
    → IfSome told (λ g. g ≡ before) → IfSome later (λ g. g ≡ now)
received None later before piece now given is known = subst (λ (o : Option (List ℕ)). IfSome o (λ g. g ≡ now)) (sym given) tt
received (Some g) later before piece now given is known =
    subst (λ (o : Option (List ℕ)). IfSome o (λ g. g ≡ now)) (sym given) (ap (λ (l : List ℕ). l ++ piece) known ∙ sym is)

-- nothing follows what is all that there is
nothing-follows : (g piece rest : List ℕ) → g ≡ (g ++ piece) ++ rest → 1 ≤ length piece → ⊥
nothing-follows g piece rest same some =
    omega (arith, ap length same, length-append (g ++ piece) rest, length-append g piece, some)

-- so bytes don't come behind the end
no-more : (told later whole all : Option (List ℕ)) (piece : List ℕ) → later ≡ append_known told piece → 1 ≤ length piece
    → IfSome whole (λ w. all ≡ Some w) → IsFront later all → IfSome told (λ g. whole ≡ Some g) → IfSome later (λ g. all ≡ Some g)
no-more None later whole all piece given some same front ended = subst (λ (o : Option (List ℕ)). IfSome o (λ g. all ≡ Some g)) (sym given) tt
no-more (Some g) later whole all piece given some same front ended =
    let still : all ≡ Some g = subst (λ (o : Option (List ℕ)). IfSome o (λ w. all ≡ Some w)) ended same in
    let parts : (rest : List ℕ) × (g ≡ (g ++ piece) ++ rest) =
    subst (λ (o : Option (List ℕ)). IfSome o (λ w. (rest : List ℕ) × (w ≡ (g ++ piece) ++ rest))) still
    (subst (λ (o : Option (List ℕ)). IsFront o all) given front) in
    absurd (nothing-follows g piece parts.0 parts.1 some)

-- a parcel to which bytes came is one
pub got-is-parcel : {L : Type 0} (facts : L → LinkFacts) (p : Packed L) (link : L) (now : List ℕ) (room n : ℕ) → IsParcel facts p
    → StepsBehind room (facts p.link) (facts link) p.received now (stepping.Got n) → IsFront (facts link).given (facts link).whole
    → IsParcel facts (record p { link = link; received = now })
got-is-parcel facts p link now room n known stepped front =
    let behind = stepped.behind in
    let all : take n behind.0 ≡ behind.0 = take_all n behind.0 (omega (arith, behind.2)) in
    let given : (facts link).given ≡ append_known (facts p.link).given behind.0 = behind.4.given ∙ ap (append_known (facts p.link).given) all in
    record {
      target = stepped.same.target ∙ known.target;
      received = received (facts p.link).given (facts link).given p.received behind.0 now given behind.1 known.received;
      ended = λ end. no-more (facts p.link).given (facts link).given (facts p.link).whole (facts link).whole behind.0 given (omega (arith, behind.4.some, behind.2)) stepped.same.whole front (known.ended end);
      broken = λ failed. omega (arith, known.broken failed, stepped.same.faults);
    }
