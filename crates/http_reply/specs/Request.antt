-- The request for an address (RFC 9112, sections 3 and 5; docs/FORMATS.md, "Requests").
use Rattle.std.specs.Prelude.{ℕ, List, ◌++◌, codes}
use Rattle.gateway_words.specs.Ascii.{crlf}
use Rattle.link_io.specs.Address.{authority_of, path_of}

-- the bytes of the request for an address
unfoldable pub request_bytes : List ℕ → List ℕ
request_bytes url =
    codes "GET " ++ path_of url ++ codes " HTTP/1.0" ++ crlf
    ++ codes "Host: " ++ authority_of url ++ crlf
    ++ codes "Accept: */*" ++ crlf
    ++ codes "Connection: close" ++ crlf ++ crlf
