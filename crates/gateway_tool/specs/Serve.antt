-- The command serve: its words, and what it says of the connections that it was given.
use Rattle.std.specs.Prelude.{◌≡◌, ◌↔◌, ℕ, ◌^◌, ◌≤◌, ◌==◌, ◌&&◌, ◌||◌, not, nat_lt, Bool, false, List, [], ◌∷◌, length, codes, Option, Some, None, IfSome, if◌then◌else◌}
use Rattle.std.specs.Option.{option_map, option_and_then}
use Rattle.std.specs.Str.{bytes_eq}
use Rattle.byte_text.specs.Decimal.{are_digits, decimal_from, digit_zero}
use Rattle.store_closure.specs.Options.{option_of, value_of}
use Rattle.shard_service.specs.Serving.{raised}
use Rattle.shard_service.specs.declared.serve.ServeEnd.{ServeEnd}
use Rattle.shard_service.specs.declared.serve.ServeEnd.TheVariants as «end»
use Rattle.gateway_tool.specs.Words.{is_option}
use Rattle.gateway_tool.specs.Status.{status_ok, status_usage, status_out_of_memory, status_listen_fault, IsOneOf, HasStatusCause}

-- ---- words

-- what the words of serve ask for: the address at which it listens, and how many connections it serves, or that it serves without end
pub record Wanted : Type 0 where
  pub addr : List ℕ
  pub connections : Option ℕ

-- the most bytes of an address
abbrev pub most_address_bytes : ℕ
most_address_bytes = 255

-- the address that a word is: 1 to 255 bytes, and no option
abbrev pub addr_word : List ℕ → Option (List ℕ)
addr_word word = if is_option word || length word == 0 || nat_lt most_address_bytes (length word) then None else Some word

-- a number of connections, from 1 to 2^64 - 1
abbrev pub count_within : ℕ → Option ℕ
count_within n = if nat_lt 0 n && nat_lt n (2 ^ 64) then Some n else None

-- the digits begin with a zero
abbrev pub has_leading_zero : List ℕ → Bool
has_leading_zero [] = false
has_leading_zero (b ∷ bs) = b == digit_zero

-- the number of connections that decimal digits without a leading zero are
abbrev pub count_of : List ℕ → Option ℕ
count_of text = if are_digits text && not (has_leading_zero text) then count_within (decimal_from 0 text) else None

-- the number of connections that a word says, --connections=n
abbrev pub connections_word : List ℕ → Option ℕ
connections_word word = if bytes_eq (option_of word) (codes "--connections") then count_of (value_of word) else None

-- what an address and an option say
abbrev pub wanted_by : List ℕ → List ℕ → Option Wanted
wanted_by addr option =
    option_and_then (λ a. option_map (λ n. record { addr = a; connections = Some n }) (connections_word option)) (addr_word addr)

-- what the words behind the name of serve ask for: an address, and the number of connections before or behind it or not at all
abbrev pub serve_words : List (List ℕ) → Option Wanted
serve_words (word ∷ []) = option_map (λ a. record { addr = a; connections = None }) (addr_word word)
serve_words (first ∷ second ∷ []) = if is_option first then wanted_by second first else wanted_by first second
serve_words words = None

-- what the words ask for, where they are those of serve
abbrev pub served_words : List (List ℕ) → Option Wanted
served_words (name ∷ words) = if bytes_eq name (codes "serve") then serve_words words else None
served_words [] = None

-- ---- what serve does

-- the status that says how serving ended
abbrev pub status_of : ServeEnd → ℕ
status_of «end».Limit = status_ok
status_of «end».Failed = status_listen_fault
status_of «end».Memory = status_out_of_memory

-- so many connections were given of those that are wanted, by the acceptor's counts before and behind, and the status says how serving ended
pub record DoesServe (wanted : Option ℕ) (accepted_before accepted_now faults_before faults_now status : ℕ) : Type 0 where
  -- how many connections were given
  pub given : ℕ
  pub counted : accepted_now ≡ raised given accepted_before
  pub within : IfSome wanted (λ most. given ≤ most)
  -- all that are wanted were given
  pub ok : (status ≡ status_ok) ↔ (wanted ≡ Some given)
  pub statuses : IsOneOf (status_ok ∷ status_out_of_memory ∷ status_listen_fault ∷ []) status

-- what words lead to: the answer of serve, or that they are not its words; and the acceptor's cause
pub record ServeAnswers (words : List (List ℕ)) (accepted_before accepted_now faults_before faults_now status : ℕ) : Type 0 where
  pub usage : (status ≡ status_usage) ↔ (served_words words ≡ None)
  pub does : IfSome (served_words words) (λ wanted. DoesServe wanted.connections accepted_before accepted_now faults_before faults_now status)
  pub listen_fault : HasStatusCause status_listen_fault faults_before faults_now status
