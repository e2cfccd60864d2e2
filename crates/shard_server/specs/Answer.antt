-- What a server answers by its files (docs/FORMATS.md, "Served paths"; RFC 9110, sections 9.3.1, 9.3.2 and 15).
use Rattle.std.specs.Prelude.{◌≡◌, ◌≢◌, ℕ, ◌||◌, Bool, true, false, List, [], length, Option, Some, None, IfSome, if◌then◌else◌, codes}
use Rattle.std.specs.Str.{bytes_eq}
use Rattle.gateway_words.specs.Causes.{Rose}
use Rattle.gateway_words.specs.Limits.{most_served_bytes}
use Rattle.channel_store.specs.Names.{served_path}
use Rattle.channel_store.specs.Store.{Files, Found, absent, whole, long, found_in}

-- an answer: its status, its body, and how many bytes the file has that it gives
pub record Answer : Type 0 where
  pub status : ℕ
  pub body : List ℕ
  pub size : ℕ

-- ---- statuses

-- a file is given
abbrev pub status_ok : ℕ
status_ok = 200

-- there is no such file, or none that is served
abbrev pub status_not_found : ℕ
status_not_found = 404

-- the method is neither GET nor HEAD
abbrev pub status_method_not_allowed : ℕ
status_method_not_allowed = 405

-- the store failed
abbrev pub status_unavailable : ℕ
status_unavailable = 503

-- ---- the order of decisions

-- the method asks for a file with its bytes
abbrev pub is_get : List ℕ → Bool
is_get method = bytes_eq method (codes "GET")

-- the method asks for what GET answers, without a body
abbrev pub is_head : List ℕ → Bool
is_head method = bytes_eq method (codes "HEAD")

-- the method is one of the two that are served
abbrev pub is_served_method : List ℕ → Bool
is_served_method method = is_get method || is_head method

-- an answer of this status without a body
abbrev pub empty : ℕ → Answer
empty status = record { status = status; body = []; size = 0 }

-- the answer with what is found under a name: the file, or that it is absent or too long
abbrev pub answer_of_found : List ℕ → Found → Answer
answer_of_found method absent = empty status_not_found
answer_of_found method long = empty status_not_found
answer_of_found method (whole bytes) = record { status = status_ok; body = if is_get method then bytes else []; size = length bytes }

-- the answer with the file of a name, or that the path names none
abbrev pub answer_of_name : Files → List ℕ → Option (List ℕ) → Answer
answer_of_name files method None = empty status_not_found
answer_of_name files method (Some name) = answer_of_found method (found_in files name most_served_bytes)

-- the answer to a method and a path over some files: first by the method, then by the path, then by the file
abbrev pub answer_over : Files → List ℕ → List ℕ → Answer
answer_over files method path =
    if is_served_method method then answer_of_name files method (served_path path) else empty status_method_not_allowed

-- ---- what an answer says

-- an answer to a method and a path, by the files that the store tells, and by its count of faults before and behind
pub record Answers (method path : List ℕ) (files : Option Files) (before now : ℕ) (answer : Answer) : Type 0 where
  -- it is that over the files, or the store failed
  pub over : IfSome files (λ told. answer.status ≢ status_unavailable → answer ≡ answer_over told method path)
  -- the store failed
  pub unavailable : answer.status ≡ status_unavailable → (Rose before now × (answer ≡ empty status_unavailable))
  -- whatever the store tells: a method and a path that are not served, and no others, are refused for that
  pub wrong_method : is_served_method method ≡ false → answer ≡ empty status_method_not_allowed
  pub right_method : is_served_method method ≡ true → answer.status ≢ status_method_not_allowed
  pub wrong_path : is_served_method method ≡ true → served_path path ≡ None → answer ≡ empty status_not_found
  -- whatever the store tells: a body is that of a file which is given to a GET
  pub body : answer.body ≢ [] → (answer.status ≡ status_ok) × (is_get method ≡ true)
