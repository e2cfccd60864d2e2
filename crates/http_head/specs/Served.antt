-- The reply with which a server of this project gives a file.
use Rattle.std.specs.Prelude.{ℕ, ◌≤◌, List, ◌++◌, codes, decimal, length, true}
use Rattle.gateway_words.specs.Ascii.{crlf}
use Rattle.gateway_words.specs.Limits.{most_served_bytes}
use Rattle.http_head.specs.Reply.{HasBody}

-- the head of a reply with a body of n bytes
abbrev pub served_head : ℕ → List ℕ
served_head n = codes "HTTP/1.1 200 OK" ++ crlf ++ codes "Content-Length: " ++ decimal n ++ crlf ++ crlf

-- a file that is given so is the body of its reply
abbrev pub ServedHasBody : Type 0
ServedHasBody = (body : List ℕ) → length body ≤ most_served_bytes → HasBody (served_head (length body) ++ body) true body
