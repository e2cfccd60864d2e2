-- Laws of addresses.
use Rattle.std.specs.Prelude.{◌≡◌, ℕ, ◌≤◌, List, length, Bool, true, not, ◌==◌, Ok}
use Rattle.std.specs.List.{list_all}
use Rattle.gateway_words.specs.Ascii.{slash}
use Rattle.channel_url.specs.Addresses.{most_of_channel_base, most_of_shards_base, is_slashed, channel_base, shards_base, index_url}

-- the text has no `/`
abbrev pub has_no_slash : List ℕ → Bool
has_no_slash text = list_all (λ b. not (b == slash)) text

-- two indexes below bases have one address only where their bases are one and their subdirs are one
abbrev pub IndexesAreApart : Type 0
IndexesAreApart = (a b s t : List ℕ) → is_slashed a ≡ true → is_slashed b ≡ true → has_no_slash s ≡ true → has_no_slash t ≡ true
    → index_url a s ≡ index_url b t → (a ≡ b) × (s ≡ t)

-- a base of at most so many bytes, which ends in `/`
pub record IsBase (most : ℕ) (base : List ℕ) : Type 0 where
  pub short : length base ≤ most
  pub slashed : is_slashed base ≡ true

-- what is read as the base of a channel has at most 1,900 bytes and ends in `/`
abbrev pub ChannelBasesAreBases : Type 0
ChannelBasesAreBases = (text base : List ℕ) → channel_base text ≡ Ok base → IsBase most_of_channel_base base

-- what is read as a base of shards has at most 1,976 bytes and ends in `/`
abbrev pub ShardsBasesAreBases : Type 0
ShardsBasesAreBases = (index text base : List ℕ) → shards_base index text ≡ Ok base → IsBase most_of_shards_base base
