-- The lines of an input, cut at newlines.
use Rattle.std.proofs.Common.{◌≡◌, ℕ, ◌+◌, ◌-◌, ◌<◌, List, [], ◌∷◌, length, take, drop, Some, None, Bool, true, false, refl, sym, ap, subst, ◌∙◌, arith}
use Rattle.std.specs.Prelude.{◌==◌, nat_lt, cond, not}
use Rattle.std.proofs.Common.{ltb-false}
use Rattle.std.specs.List.{slice_split, position, position_or_len, before_first, after_first}
use Rattle.std.specs.Str.Lines.{lines_of_parts, strip_carriage_return}
use Rattle.std.proofs.lemmas.List.Splits.{slice_split_first, slice_split_none, length-slice_split}
use Rattle.std.proofs.lemmas.List.Sums.{fails_before_first, prefix_len-le-length}
use Rattle.std.proofs.lemmas.List.{take_all, length-drop}
use Rattle.gateway_words.specs.Ascii.{newline}
use Rattle.store_closure.specs.Lines.{input_lines}

-- a list has at least one part
some_part : (bytes : List ℕ) → slice_split (λ b. b == newline) bytes ≡ [] → ⊥
some_part bytes is =
    let size = length-slice_split (λ b. b == newline) bytes in
    let none : length (slice_split (λ b. b == newline) bytes) ≡ 0 = ap length is in
    omega arith

-- a part before others is a line
before_others : (x : List ℕ) (bytes : List ℕ) → lines_of_parts (x ∷ slice_split (λ b. b == newline) bytes) ≡ strip_carriage_return x ∷ lines_of_parts (slice_split (λ b. b == newline) bytes)
before_others x bytes = go (slice_split (λ b. b == newline) bytes) (some_part bytes)
  where
    go : (parts : List (List ℕ)) → (parts ≡ [] → ⊥) → lines_of_parts (x ∷ parts) ≡ strip_carriage_return x ∷ lines_of_parts parts
    go [] some = absurd (some refl)
    go (y ∷ more) some = refl

-- the first line ends at the first newline
module _ (bytes : List ℕ) (at : ℕ) (is : at ≡ position_or_len (λ b. b == newline) bytes) (low : at < length bytes) where
  pub first_line : input_lines bytes ≡ strip_carriage_return (take at bytes) ∷ input_lines (drop (at + 1) bytes)
  first_line =
      let within : position_or_len (λ b. b == newline) bytes < length bytes = omega arith in
      ap lines_of_parts (slice_split_first (λ b. b == newline) bytes 0 within)
      ∙ before_others (before_first (λ b. b == newline) bytes) (after_first (λ b. b == newline) bytes)
      ∙ ap (λ (n : ℕ). strip_carriage_return (take n bytes) ∷ input_lines (drop (n + 1) bytes)) (sym is)

-- where there is no newline there is one part
module _ (bytes : List ℕ) (all : position_or_len (λ b. b == newline) bytes ≡ length bytes) where
  pub one_part : slice_split (λ b. b == newline) bytes ≡ bytes ∷ []
  one_part = slice_split_none (λ b. b == newline) bytes (λ k d l. fails_before_first (λ b. b == newline) bytes k d (subst (λ n. k < n) (sym all) l))

-- where a newline has a place
found_at : (bytes : List ℕ) (at : ℕ) → position (λ b. b == newline) bytes ≡ Some at → at ≡ position_or_len (λ b. b == newline) bytes
found_at bytes at is = go (nat_lt (position_or_len (λ b. b == newline) bytes) (length bytes)) is
  where
    go : (b : Bool) → cond b (Some (position_or_len (λ c. c == newline) bytes)) None ≡ Some at → at ≡ position_or_len (λ c. c == newline) bytes
    go true e = cc
    go false e = absurd cc

-- where none has
found_none : (bytes : List ℕ) → position (λ b. b == newline) bytes ≡ None → position_or_len (λ b. b == newline) bytes ≡ length bytes
found_none bytes is = go (nat_lt (position_or_len (λ b. b == newline) bytes) (length bytes)) refl is
  where
    go : (b : Bool) → nat_lt (position_or_len (λ c. c == newline) bytes) (length bytes) ≡ b → cond b (Some (position_or_len (λ c. c == newline) bytes)) None ≡ None
        → position_or_len (λ c. c == newline) bytes ≡ length bytes
    go true low e = absurd cc
    go false low e =
        let past = ltb-false _ _ low in
        omega (arith, past, prefix_len-le-length (λ c. not (c == newline)) bytes)

-- the first line of an input
pub next_is : (bytes : List ℕ) (at : ℕ) (line : List ℕ) → position (λ b. b == newline) bytes ≡ Some at → at < length bytes
    → line ≡ strip_carriage_return (take at bytes) → input_lines bytes ≡ line ∷ input_lines (take (length bytes - (at + 1)) (drop (at + 1) bytes))
next_is bytes at line is low cut =
    first_line bytes at (found_at bytes at is) low
    ∙ ap (λ (x : List ℕ). x ∷ input_lines (drop (at + 1) bytes)) (sym cut)
    ∙ ap (λ (x : List ℕ). line ∷ input_lines x) (sym (take_all (length bytes - (at + 1)) (drop (at + 1) bytes) (omega (arith, length-drop (at + 1) bytes))))

-- an input without a newline, which isn't empty
pub last_is : (bytes : List ℕ) → position (λ b. b == newline) bytes ≡ None → (length bytes == 0) ≡ false → input_lines bytes ≡ bytes ∷ []
last_is bytes is some = ap lines_of_parts (one_part bytes (found_none bytes is)) ∙ ap (λ (b : Bool). cond b [] (bytes ∷ [])) some
