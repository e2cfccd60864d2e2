-- A list of texts, where a value is one.
use Rattle.std.specs.Prelude.{ℕ, zero, suc, List, [], ◌∷◌, Option, Some, None, Ok, Err, if◌then◌else◌}
use Rattle.std.specs.Str.{is_utf8}
use Rattle.gateway_words.specs.Places.{Position}
use Rattle.gateway_words.specs.Reading.{◌>>=◌}
use Rattle.mp_codec.specs.Value.{Value, value, Values, none, more, str_of, array_len}
use Rattle.mp_codec.specs.Reading.{head_from}
use Rattle.mp_codec.specs.Maps.{Read, skipped, text_from}

-- bytes that are text
abbrev pub text_in : Option (List ℕ) → Option (List ℕ)
text_in (Some bytes) = if is_utf8 bytes then Some bytes else None
text_in None = None

-- the text that a value is, if it is one
abbrev pub text_of : Value → Option (List ℕ)
text_of v = text_in (str_of v)

-- a text and more of them, if all are there
abbrev pub both : Option (List ℕ) → Option (List (List ℕ)) → Option (List (List ℕ))
both (Some t) (Some ts) = Some (t ∷ ts)
both (Some t) None = None
both None ts = None

-- the texts of some values, if each is one
abbrev pub texts_in : Values → Option (List (List ℕ))
texts_in none = Some []
texts_in (more v vs) = both (text_of v) (texts_in vs)

-- the texts of the elements of an array, and none of another value's parts
abbrev pub texts_if : Option ℕ → Values → Option (List (List ℕ))
texts_if (Some n) parts = texts_in parts
texts_if None parts = None

-- the texts of a value that is an array of texts
abbrev pub texts_of : Value → Option (List (List ℕ))
texts_of (value h payload parts) = texts_if (array_len h) parts

-- ---- reading them

-- so many things, each by the same reading
unfoldable pub each_from : {X : Type 0} → (Position → Read X) → ℕ → Position → Read (List X)
each_from read zero here = Ok ([], here)
each_from read (suc n) here = read here >>= λ x. each_from read n x.1 >>= λ xs. Ok (x.0 ∷ xs.0, xs.1)

-- what was tried, or else the value that stands here is skipped
abbrev pub tried : {X : Type 0} → Read X → Position → Read (Option X)
tried (Ok x) here = Ok (Some x.0, x.1)
tried (Err f) here = skipped None here

-- what is read of the elements of an array that begin there, if that is what stands here and each can be read
abbrev pub listed_or_skipped : {X : Type 0} → (Position → Read X) → Option ℕ → Position → Position → Read (Option (List X))
listed_or_skipped read (Some n) here there = tried (each_from read n there) here
listed_or_skipped read None here there = skipped None here

-- what is read of the elements of an array, or none of a value of another kind
unfoldable pub listed_from : {X : Type 0} → (Position → Read X) → Position → Read (Option (List X))
listed_from read here = head_from here >>= λ h. listed_or_skipped read (array_len h.0) here h.1

-- so many texts
abbrev pub texts_at : ℕ → Position → Read (List (List ℕ))
texts_at = each_from text_from

-- a list of texts, or none of a value of another kind
abbrev pub texts_from : Position → Read (Option (List (List ℕ)))
texts_from = listed_from text_from
