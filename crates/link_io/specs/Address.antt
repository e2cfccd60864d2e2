-- Addresses: `http://`, an authority and a path (RFC 9112, section 3.2; docs/FORMATS.md, "Addresses").
use Rattle.std.specs.Prelude.{ℕ, List, length, take, drop, Bool, not, ◌&&◌, ◌==◌, nat_lt, nat_le, codes, Option, Some, None, Result, Ok, Err, if◌then◌else◌}
use Rattle.std.specs.List.{list_all, list_any, before_first}
use Rattle.std.specs.Str.{bytes_eq}
use Rattle.gateway_words.specs.Ascii.{slash, question_mark, number_sign, commercial_at}
use Rattle.link_io.specs.declared.address.UrlFault.{UrlFault}
use Rattle.link_io.specs.declared.address.UrlFault.TheVariants as fault
use Rattle.link_io.specs.declared.address.UrlRefusal.{UrlRefusal}
use Rattle.link_io.specs.declared.address.UrlRefusal.TheVariants as refusal

-- the most bytes of an address
abbrev pub most_of_address : ℕ
most_of_address = 2048

-- what an address begins with
abbrev pub scheme_text : List ℕ
scheme_text = codes "http://"

-- what stands behind the scheme
abbrev pub behind_scheme : List ℕ → List ℕ
behind_scheme text = drop 7 text

-- what stands before the first `/` of a text
abbrev pub before_slash : List ℕ → List ℕ
before_slash text = before_first (λ b. b == slash) text

-- the authority of an address: what stands behind the scheme before the next `/`
abbrev pub authority_of : List ℕ → List ℕ
authority_of text = before_slash (behind_scheme text)

-- the path of an address, which begins with that `/`
abbrev pub path_of : List ℕ → List ℕ
path_of text = drop (length (authority_of text)) (behind_scheme text)

-- a byte that an address may have: 21 to 7e but `?` and `#`
abbrev pub is_address_byte : ℕ → Bool
is_address_byte b = nat_le 0x21 b && (nat_le b 0x7e && (not (b == question_mark) && not (b == number_sign)))

-- the text begins as an address does
abbrev pub has_scheme : List ℕ → Bool
has_scheme text = bytes_eq (take 7 text) scheme_text

-- an authority that isn't empty and has no `@`
abbrev pub is_authority : List ℕ → Bool
is_authority text = nat_lt 0 (length text) && not (list_any (λ b. b == commercial_at) text)

-- what stands behind the scheme is an authority and a path, and of address bytes
abbrev pub is_place : List ℕ → Bool
is_place text =
    is_authority (before_slash text) && (nat_lt (length (before_slash text)) (length text) && list_all is_address_byte text)

-- the text has the form of an address, whatever its length
abbrev pub is_address_form : List ℕ → Bool
is_address_form text = has_scheme text && is_place (behind_scheme text)

-- what is wrong with a text as an address, the first of it
abbrev pub address_fault : List ℕ → Option UrlFault
address_fault text =
    if nat_lt most_of_address (length text) then Some fault.TooLong
    else if not (has_scheme text) then Some fault.Scheme
    else if not (is_place (behind_scheme text)) then Some fault.Url
    else None

-- the address that a text is, or what is wrong with it
abbrev pub address_in : List ℕ → Result (List ℕ) UrlFault
address_in text = result_of (address_fault text)
  where
    result_of : Option UrlFault → Result (List ℕ) UrlFault
    result_of None = Ok text
    result_of (Some f) = Err f

-- the number of a fault, as it is printed
abbrev pub number_of_fault : UrlFault → ℕ
number_of_fault fault.Url = 1
number_of_fault fault.Scheme = 2
number_of_fault fault.TooLong = 3

-- the fault of a refusal, unless memory ran out
abbrev pub url_fault_of : UrlRefusal → Option UrlFault
url_fault_of (refusal.Fault f) = Some f
url_fault_of refusal.Memory = None
