-- What a response says of an answer of the server, and which requests it may answer.
use Rattle.std.specs.Prelude.{◌≡◌, ◌==◌, ◌⊎◌, ℕ, ◌≤◌, List, [], length, Option, Some, None, if◌then◌else◌}
use Rattle.http.specs.declared.response.Response.{Response}
use Rattle.http.specs.Response.{head_of, body_of}
use Rattle.http_body_util.specs.declared.full.Full.{Full}
use Rattle.channel_store.specs.Store.{Files}
use Rattle.shard_server.specs.Answer.{Answer, Answers}

-- what a response has as its body, of these bytes: one piece, or nothing where there are none
abbrev pub piece_of : List ℕ → Option (List ℕ)
piece_of bytes = if length bytes == 0 then None else Some bytes

-- a response has this status and this body
pub record Gives (status : ℕ) (bytes : List ℕ) (response : Response (Full (List ℕ))) : Type 0 where
  pub status_is : (head_of response).status ≡ status
  pub body_is : (body_of response).buf ≡ piece_of bytes

-- a response says that memory ran out, without a body
abbrev pub IsRefusal : Response (Full (List ℕ)) → Type 0
IsRefusal = Gives 500 []

-- an answer to a method and a path, by the files that the store told, and by its count of faults before and behind
abbrev pub IsAnswer : List ℕ → List ℕ → Answer → Type 0
IsAnswer method path answer = (files : Option Files) × (before : ℕ) × (now : ℕ) × Answers method path files before now answer

-- a response to a method and a path: an answer by the files of the store, or a refusal for want of memory
abbrev pub Replies : List ℕ → List ℕ → Response (Full (List ℕ)) → Type 0
Replies method path response =
    ((answer : Answer) × IsAnswer method path answer × Gives answer.status answer.body response) ⊎ IsRefusal response
