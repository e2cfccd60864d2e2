-- A parcel over a connection that tells its bytes.
use Rattle.std.proofs.Common.{◌≡◌, ℕ, Bool, true, false, List, ◌++◌, Option, None, Some, refl, sym, ◌∙◌, ap, subst}
use Rattle.std.specs.Prelude.{IfSome, is_some}
use Rattle.link_io.specs.Conn.{IsFront}
use Rattle.http_head.specs.declared.reply.Reply.{Reply}
use Rattle.http_head.specs.Reply.{HasBody, IsDecidedAs}
use Rattle.http_head.proofs.ReplyLemmas.{fronts-have-body}

-- what was received, once it is decided, has the body of the whole reply
module _ (received reply body : List ℕ) (whole_has : HasBody reply true body) where
  by-end : (ended : Bool) (given rest : List ℕ) (r : Reply) → given ≡ received → reply ≡ given ++ rest → (ended ≡ true → Some reply ≡ Some given)
      → IsDecidedAs received ended r → HasBody received ended body
  by-end true given rest r same split all decided =
      let is : reply ≡ received = cc (all refl, same) in
      subst (λ (l : List ℕ). HasBody l true body) is whole_has
  by-end false given rest r same split all decided =
      let parts : reply ≡ received ++ rest = split ∙ ap (λ (l : List ℕ). l ++ rest) same in
      fronts-have-body received rest body r (subst (λ (l : List ℕ). HasBody l true body) parts whole_has) decided

  pub told-body : (ended : Bool) (given whole : Option (List ℕ)) (r : Reply) → is_some given ≡ true → IfSome given (λ g. g ≡ received) → whole ≡ Some reply
      → IsFront given whole → (ended ≡ true → IfSome given (λ g. whole ≡ Some g)) → IsDecidedAs received ended r → HasBody received ended body
  told-body ended None whole r told same is front all decided = absurd (cc)
  told-body ended (Some given) whole r told same is front all decided =
      let split : (rest : List ℕ) × (reply ≡ given ++ rest) = subst (λ (o : Option (List ℕ)). IfSome o (λ w. (rest : List ℕ) × (w ≡ given ++ rest))) is front in
      by-end ended given split.0 r same split.1 (λ e. sym is ∙ all e) decided
