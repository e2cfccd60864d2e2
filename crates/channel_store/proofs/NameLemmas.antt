-- The names of the files of a place are store names.
use Rattle.std.proofs.Common.{◌≡◌, ℕ, ◌+◌, ◌<◌, ◌==◌, Bool, true, false, List, ◌∷◌, ◌++◌, length, take, drop, get_or, refl, ap, ◌∙◌, arith, append_assoc, length-append, length-drop, codes}
use Rattle.std.specs.List.{list_all, position_or_len, before_first, after_first}
use Rattle.std.proofs.Math.ListN.{get_or-append}
use Rattle.std.proofs.Math.Seq.{take-append_seam, drop-append-add, get_or-append_seam}
use Rattle.std.proofs.lemmas.Bool.{and_parts}
use Rattle.std.proofs.lemmas.List.Folds.{list_all_at}
use Rattle.std.proofs.lemmas.List.Sums.{position_or_len_is, split_at_first, passes_at_first}
use Rattle.gateway_words.specs.Ascii.{dot}
use Rattle.channel_store.specs.Names.{slash, is_subdir_byte, is_channel_byte, is_subdir_name, is_channel_name, is_place, channel_of, subdir_of, file_of, is_below_place, is_store_name, is_shard_file, is_shard_digit, is_msgpack_of_digits, are_shard_digits, input_name, index_name, shard_name}

-- what passes one test fails another
abbrev Excludes : (ℕ → Bool) → (ℕ → Bool) → Type 0
Excludes p q = (b : ℕ) → p b ≡ true → q b ≡ false

-- an element of a list that passes a test fails the other one
fails_within : (p q : ℕ → Bool) → Excludes p q → (xs : List ℕ) (k : ℕ) → list_all p xs ≡ true → k < length xs → q (get_or xs k 0) ≡ false
fails_within p q apart xs k all lt = by (p (get_or xs k 0)) refl where
  by : (b : Bool) → p (get_or xs k 0) ≡ b → q (get_or xs k 0) ≡ false
  by true h = apart (get_or xs k 0) h
  by false h = absurd (cc (list_all_at p xs k 0 lt h, all))

-- a list is cut at the first element that passes, behind elements that pass another test
module _ (p q : ℕ → Bool) (apart : Excludes p q) (xs : List ℕ) (c : ℕ) (ys : List ℕ) (all : list_all p xs ≡ true) (cut : q c ≡ true) where
  cut_place : position_or_len q (xs ++ c ∷ ys) ≡ length xs
  cut_place = position_or_len_is q (xs ++ c ∷ ys) (length xs) 0 (omega (arith, length-append xs (c ∷ ys)))
      (λ k lt. ap q (get_or-append xs (c ∷ ys) 0 k lt) ∙ fails_within p q apart xs k all lt)
      (λ _. ap q (get_or-append_seam xs c ys 0) ∙ cut)

  cut_before : before_first q (xs ++ c ∷ ys) ≡ xs
  cut_before = ap (λ n. take n (xs ++ c ∷ ys)) cut_place ∙ take-append_seam xs (c ∷ ys)

  cut_behind : after_first q (xs ++ c ∷ ys) ≡ ys
  cut_behind = ap (λ n. drop (n + 1) (xs ++ c ∷ ys)) cut_place ∙ drop-append-add xs (c ∷ ys) 1

-- a byte of a channel name is no slash, and a digit no dot
channel_slash : Excludes is_channel_byte (λ b. b == slash)
channel_slash b h = grind arith

subdir_slash : Excludes is_subdir_byte (λ b. b == slash)
subdir_slash b h = grind arith

digit_dot : Excludes is_shard_digit (λ b. b == dot)
digit_dot b h = grind arith

-- the bytes of names
channel_bytes : (name : List ℕ) → is_channel_name name ≡ true → list_all is_channel_byte name ≡ true
channel_bytes name h = grind arith

subdir_bytes : (name : List ℕ) → is_subdir_name name ≡ true → list_all is_subdir_byte name ≡ true
subdir_bytes name h = grind arith

-- a subdir name has a byte
subdir_some : (name : List ℕ) → is_subdir_name name ≡ true → 0 < length name
subdir_some name h = grind arith

-- a place is its channel, a slash and its subdir
module _ (place : List ℕ) (placed : is_place place ≡ true) where
  channel : is_channel_name (channel_of place) ≡ true
  channel = (and_parts _ _ placed).0

  subdir : is_subdir_name (subdir_of place) ≡ true
  subdir = (and_parts _ _ placed).1

  cut_within : position_or_len (λ b. b == slash) place < length place
  cut_within = omega (arith, subdir_some (subdir_of place) subdir, length-drop (position_or_len (λ b. b == slash) place + 1) place)

  slash_there : get_or place (position_or_len (λ b. b == slash) place) 0 ≡ slash
  slash_there = grind (arith, passes_at_first (λ b. b == slash) place 0 cut_within)

  parts : place ≡ channel_of place ++ slash ∷ subdir_of place
  parts = split_at_first (λ b. b == slash) place 0 cut_within ∙ ap (λ c. channel_of place ++ c ∷ subdir_of place) slash_there

  -- a file below the place
  module _ (file : List ℕ) where
    name_parts : place ++ slash ∷ file ≡ channel_of place ++ slash ∷ (subdir_of place ++ slash ∷ file)
    name_parts = ap (λ l. l ++ slash ∷ file) parts ∙ append_assoc (channel_of place) (slash ∷ subdir_of place) (slash ∷ file)

    below_channel : channel_of (place ++ slash ∷ file) ≡ channel_of place
    below_channel = ap channel_of name_parts ∙ cut_before is_channel_byte (λ b. b == slash) channel_slash (channel_of place) slash (subdir_of place ++ slash ∷ file) (channel_bytes (channel_of place) channel) refl

    below_rest : subdir_of (place ++ slash ∷ file) ≡ subdir_of place ++ slash ∷ file
    below_rest = ap subdir_of name_parts ∙ cut_behind is_channel_byte (λ b. b == slash) channel_slash (channel_of place) slash (subdir_of place ++ slash ∷ file) (channel_bytes (channel_of place) channel) refl

    below_subdir : channel_of (subdir_of (place ++ slash ∷ file)) ≡ subdir_of place
    below_subdir = ap channel_of below_rest ∙ cut_before is_subdir_byte (λ b. b == slash) subdir_slash (subdir_of place) slash file (subdir_bytes (subdir_of place) subdir) refl

    below_file : file_of (place ++ slash ∷ file) ≡ file
    below_file = ap subdir_of below_rest ∙ cut_behind is_subdir_byte (λ b. b == slash) subdir_slash (subdir_of place) slash file (subdir_bytes (subdir_of place) subdir) refl

    below : is_below_place (place ++ slash ∷ file) ≡ true
    below = rw (below_channel, below_subdir, channel, subdir) refl

  pub input_is_store_name : is_store_name (input_name place) ≡ true
  input_is_store_name = rw (below (codes "repodata.json"), below_file (codes "repodata.json")) refl

  pub index_is_store_name : is_store_name (index_name place) ≡ true
  index_is_store_name = rw (below (codes "repodata_shards.msgpack"), below_file (codes "repodata_shards.msgpack")) refl

  -- a shard of the place
  module _ (digits : List ℕ) (are : are_shard_digits digits ≡ true) where
    abbrev behind : List ℕ
    behind = codes "shards/" ++ (digits ++ codes ".msgpack")

    shard_parts : shard_name place digits ≡ place ++ slash ∷ behind
    shard_parts = append_assoc place (codes "/shards/") (digits ++ codes ".msgpack")

    digit_bytes : list_all is_shard_digit digits ≡ true
    digit_bytes = (and_parts _ _ are).1

    digits_before : before_first (λ b. b == dot) (digits ++ codes ".msgpack") ≡ digits
    digits_before = cut_before is_shard_digit (λ b. b == dot) digit_dot digits dot (codes "msgpack") digit_bytes refl

    digits_behind : after_first (λ b. b == dot) (digits ++ codes ".msgpack") ≡ codes "msgpack"
    digits_behind = cut_behind is_shard_digit (λ b. b == dot) digit_dot digits dot (codes "msgpack") digit_bytes refl

    digits_file : is_msgpack_of_digits (digits ++ codes ".msgpack") ≡ true
    digits_file = rw (digits_before, digits_behind, are) refl

    shard_behind : is_shard_file behind ≡ true
    shard_behind = digits_file

    pub shard_is_store_name : is_store_name (shard_name place digits) ≡ true
    shard_is_store_name = rw (shard_parts, below behind, below_file behind, shard_behind) refl
