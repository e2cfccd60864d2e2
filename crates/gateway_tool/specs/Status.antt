-- The statuses with which the program ends, and what they say.
use Rattle.std.specs.Prelude.{◌≡◌, ℕ, ◌≤◌, ◌==◌, List, [], ◌∷◌, Option, codes, IsTrue}
use Rattle.std.specs.Option.{option_map}
use Rattle.std.specs.List.{find, list_any}
use Rattle.gateway_words.specs.Causes.{Rose}

-- the statuses: the numbers with which the program ends (docs/FORMATS.md, "Statuses")
abbrev pub status_ok : ℕ
status_ok = 0

-- a line of the input was refused
abbrev pub status_not_answered : ℕ
status_not_answered = 1

-- the words are not those of a command
abbrev pub status_usage : ℕ
status_usage = 2

-- a read of the input failed
abbrev pub status_read_fault : ℕ
status_read_fault = 3

-- a write of the output failed
abbrev pub status_write_fault : ℕ
status_write_fault = 4

-- memory ran out
abbrev pub status_out_of_memory : ℕ
status_out_of_memory = 5

-- the input has more bytes than its limit
abbrev pub status_too_much_input : ℕ
status_too_much_input = 6

-- a call of the store failed
abbrev pub status_store_fault : ℕ
status_store_fault = 7

-- a file is not what the command needs
abbrev pub status_bad_file : ℕ
status_bad_file = 8

-- the acceptor failed: the address is none or is taken, or no connection can come any more
abbrev pub status_listen_fault : ℕ
status_listen_fault = 10

-- the lines that are printed on standard error, with their statuses
abbrev pub status_lines : List (ℕ × List ℕ)
status_lines =
    (status_not_answered, codes "gateway: some requests were not answered") ∷ (status_usage, codes "gateway: usage") ∷ (status_read_fault, codes "gateway: read fault") ∷ (status_write_fault, codes "gateway: write fault")
    ∷ (status_out_of_memory, codes "gateway: out of memory") ∷ (status_too_much_input, codes "gateway: too much input") ∷ (status_store_fault, codes "gateway: store fault")
    ∷ (status_bad_file, codes "gateway: bad file") ∷ (status_listen_fault, codes "gateway: listen fault") ∷ []

-- the line of a status, if it has one
abbrev pub line_of : ℕ → Option (List ℕ)
line_of status = option_map (λ (line : ℕ × List ℕ). line.1) (find (λ line. line.0 == status) status_lines)

-- the status is one of these
abbrev pub IsOneOf : List ℕ → ℕ → Type 0
IsOneOf statuses status = IsTrue (list_any (λ s. s == status) statuses)

-- the statuses that have other causes than the bytes of the input: the words, a failed read, want of memory
abbrev pub apart_from_input : List ℕ
apart_from_input = status_usage ∷ status_read_fault ∷ status_out_of_memory ∷ []

-- the words were refused, unless memory ran out, and nothing was read or written
pub record RefusesWords {I O : Type 0} (status : ℕ) (input_before input_now : I) (out_before out_now : O) : Type 0 where
  pub refused : IsOneOf (status_usage ∷ status_out_of_memory ∷ []) status
  pub unread : input_now ≡ input_before
  pub unwritten : out_now ≡ out_before

-- a count of faults did not fall, and where the status reports such a fault it rose
pub record HasStatusCause (report before now status : ℕ) : Type 0 where
  pub later : before ≤ now
  pub failed : status ≡ report → Rose before now
