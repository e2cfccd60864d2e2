-- What a response with an answer replies.
use Rattle.std.proofs.Common.{◌≡◌, ◌⊎◌, inl, inr, ℕ, List, Option, Some, Result, Ok, sym, subst}
use Rattle.std.specs.Prelude.{IsSomeAnd, IsOkAnd}
use Rattle.http.specs.declared.response.Response.{Response}
use Rattle.http_body_util.specs.declared.full.Full.{Full}
use Rattle.shard_server.specs.Answer.{Answer}
use Rattle.shard_service.specs.Reply.{Gives, IsRefusal, IsAnswer, Replies}

-- a response that says an answer, or that memory ran out, replies to what the answer is to
pub replied : (method path : List ℕ) (answer : Answer) (response : Response (Full (List ℕ))) → IsAnswer method path answer
    → Gives answer.status answer.body response ⊎ IsRefusal response → Replies method path response
replied method path answer response is (inl gives) = inl (answer, is, gives)
replied method path answer response is (inr refused) = inr refused

-- a response that replies to a method and a path as they are shown replies to them as they were asked
pub called : {E : Type 0} (given : Option (Result (Response (Full (List ℕ))) E)) (response : Response (Full (List ℕ))) (method shown path read : List ℕ)
    → given ≡ Some (Ok response) → shown ≡ method → read ≡ path → Replies shown read response
    → IsSomeAnd given (λ answer. IsOkAnd answer (Replies method path))
called given response method shown path read given_is method_is path_is replies =
    subst (λ g. IsSomeAnd g (λ answer. IsOkAnd answer (Replies method path))) (sym given_is)
    (subst (λ m. Replies m path response) method_is (subst (λ p. Replies shown p response) path_is replies))
