-- The pieces of a request, one behind the other.
use Rattle.std.proofs.Common.{◌≡◌, ◌+◌, ◌-◌, ◌≤◌, ◌==◌, refl, sym, ℕ, Bool, true, false, cond, not, Some, None, List, ◌++◌, codes, take, drop, length, length-append, take-append-drop, append_assoc, ◌∙◌, ap, arith, nat_lt}
use Rattle.std.specs.Prelude.{if◌then◌else◌}
use Rattle.std.specs.List.{position_or_len}
use Rattle.std.proofs.lemmas.List.{length-drop}
use Rattle.std.proofs.lemmas.Bool.Decides.{nat_tests}
use Rattle.gateway_words.specs.Ascii.{crlf, slash}
use Rattle.link_io.specs.declared.address.UrlFault.TheVariants as fault
use Rattle.link_io.specs.Address.{most_of_address, authority_of, path_of, behind_scheme, has_scheme, is_place, address_fault}
use Rattle.http_reply.specs.Request.{request_bytes}

-- what stands between the path and the host
abbrev pub middle : List ℕ
middle = codes " HTTP/1.0" ++ crlf ++ codes "Host: "

-- what stands behind the host
abbrev pub last : List ℕ
last = crlf ++ codes "Accept: */*" ++ crlf ++ codes "Connection: close" ++ crlf ++ crlf

-- pieces one by one are pieces in groups
grouped : (g p a b c h d e : List ℕ) → g ++ p ++ a ++ b ++ c ++ h ++ b ++ d ++ b ++ e ++ b ++ b ≡ g ++ p ++ (a ++ b ++ c) ++ h ++ (b ++ d ++ b ++ e ++ b ++ b)
grouped g p a b c h d e = simp append_assoc

-- the pieces that are appended are the request
pub pieces_are : (url first second third fourth fifth : List ℕ) → first ≡ codes "GET " → second ≡ first ++ path_of url → third ≡ second ++ middle
    → fourth ≡ third ++ authority_of url → fifth ≡ fourth ++ last → fifth ≡ request_bytes url
unfolding request_bytes
pieces_are url first second third fourth fifth a b c d e =
    e ∙ ap (λ (xs : List ℕ). xs ++ last) (d ∙ ap (λ (xs : List ℕ). xs ++ authority_of url) (c ∙ ap (λ (xs : List ℕ). xs ++ middle) (b ∙ ap (λ (xs : List ℕ). xs ++ path_of url) a)))
    ∙ sym (grouped (codes "GET ") (path_of url) (codes " HTTP/1.0") crlf (codes "Host: ") (authority_of url) (codes "Accept: */*") (codes "Connection: close"))

five : (a b c d e : List ℕ) → length ((((a ++ b) ++ c) ++ d) ++ e) ≡ length a + length b + length c + length d + length e
five a b c d e = omega (arith, length-append (((a ++ b) ++ c) ++ d) e, length-append ((a ++ b) ++ c) d, length-append (a ++ b) c, length-append a b)

-- the first elements and those behind them are all
parts : (k : ℕ) (l : List ℕ) → length (take k l) + length (drop (length (take k l)) l) ≡ length l
parts k l = omega (arith, length-drop (length (take k l)) l, length-append (take k l) (drop k l), ap length (take-append-drop k l))

-- how long the request is
pub size_is : (url : List ℕ) → length (request_bytes url) ≡ 57 + (length url - 7)
size_is url =
    let pieces : (((codes "GET " ++ path_of url) ++ middle) ++ authority_of url) ++ last ≡ request_bytes url = pieces_are url _ _ _ _ _ refl refl refl refl refl in
    let sizes : (length (codes "GET ") ≡ 4) × (length middle ≡ 17) × (length last ≡ 36) = (refl, refl, refl) in
    let behind : length (authority_of url) + length (path_of url) ≡ length (behind_scheme url) = parts (position_or_len (λ b. b == slash) (behind_scheme url)) (behind_scheme url) in
    omega (arith, ap length pieces, five (codes "GET ") (path_of url) middle (authority_of url) last, sizes, behind, length-drop 7 url)

-- how long an address is
pub is_short : (url : List ℕ) → address_fault url ≡ None → length url ≤ most_of_address
is_short url right = by (nat_lt most_of_address (length url)) refl right
  where
    by : (b : Bool) → nat_lt most_of_address (length url) ≡ b
        → cond b (Some fault.TooLong) (if not (has_scheme url) then Some fault.Scheme else if not (is_place (behind_scheme url)) then Some fault.Url else None) ≡ None
        → length url ≤ most_of_address
    by true t e = absurd (cc)
    by false t e = grind (arith, nat_tests)
