-- The options by which channels of a store are asked (docs/FORMATS.md, "Options of requests").
use Rattle.std.specs.Prelude.{ℕ, ◌==◌, nat_lt, ◌&&◌, not, Bool, true, false, List, [], ◌∷◌, ◌++◌, length, codes, Option, Some, None, if◌then◌else◌}
use Rattle.std.specs.List.{list_any, before_first, after_first}
use Rattle.std.specs.Option.{option_map, option_and_then, unwrap_or}
use Rattle.std.specs.Str.{bytes_eq}
use Rattle.gateway_words.specs.Ascii.{equals_sign}
use Rattle.channel_store.specs.Names.{is_channel_name, is_subdir_name}
use Rattle.closure_request.specs.Options.{format_of, priority_of}
use Rattle.closure_request.specs.declared.options.Format.{Format}
use Rattle.closure_request.specs.declared.options.Format.TheVariants as format
use Rattle.closure_request.specs.declared.options.Priority.{Priority}
use Rattle.closure_request.specs.declared.options.Priority.TheVariants as priority
use Rattle.store_closure.specs.Asked.{Asked}
use Rattle.store_closure.specs.Pieces.{pieces}

-- ---- lists of names

-- the most channels, and the most subdirs
abbrev pub most_names : ℕ
most_names = 16

-- whether a text stands in a list
abbrev pub has_text : List (List ℕ) → List ℕ → Bool
has_text names text = list_any (λ name. bytes_eq name text) names

-- names with one more, where that is one, doesn't stand there already, and isn't one too many
abbrev pub with_name : (List ℕ → Bool) → List (List ℕ) → List ℕ → Option (List (List ℕ))
with_name test names text =
    if test text && not (has_text names text) && nat_lt (length names) most_names then Some (names ++ text ∷ []) else None

-- names with more of them
abbrev pub with_names : (List ℕ → Bool) → List (List ℕ) → List (List ℕ) → Option (List (List ℕ))
with_names test names [] = Some names
with_names test names (text ∷ texts) = option_and_then (λ more. with_names test more texts) (with_name test names text)

-- the names in a text, with `,` between them
abbrev pub names_in : (List ℕ → Bool) → List ℕ → Option (List (List ℕ))
names_in test text = with_names test [] (pieces text)

-- ---- options

-- the options that were met in words
pub record Met : Type 0 where
  pub channels : Option (List (List ℕ))
  pub subdirs : Option (List (List ℕ))
  pub flat : Bool
  pub format : Option Format
  pub priority : Option Priority

-- none was met
abbrev pub none_met : Met
none_met = record { channels = None; subdirs = None; flat = false; format = None; priority = None }

-- a value, where the option wasn't met before
abbrev pub unless_met : {A : Type 0} → Option A → Option A → Option A
unless_met None value = value
unless_met (Some x) value = None

-- the option of a word: what stands before its first `=`
abbrev pub option_of : List ℕ → List ℕ
option_of word = before_first (λ b. b == equals_sign) word

-- the value of a word: what stands behind its first `=`
abbrev pub value_of : List ℕ → List ℕ
value_of word = after_first (λ b. b == equals_sign) word

-- the channels more
abbrev pub with_channels : Met → Option (List (List ℕ)) → Option Met
with_channels m value = option_map (λ x. record m { channels = Some x }) (unless_met m.channels value)

-- the subdirs more
abbrev pub with_subdirs : Met → Option (List (List ℕ)) → Option Met
with_subdirs m value = option_map (λ x. record m { subdirs = Some x }) (unless_met m.subdirs value)

-- the format more
abbrev pub with_format : Met → Option Format → Option Met
with_format m value = option_map (λ x. record m { format = Some x }) (unless_met m.format value)

-- the priority more
abbrev pub with_priority : Met → Option Priority → Option Met
with_priority m value = option_map (λ x. record m { priority = Some x }) (unless_met m.priority value)

-- the flag more
abbrev pub with_flat : Met → Option Met
with_flat m = if m.flat then None else Some (record m { flat = true })

-- an option with this value more
abbrev pub with_option : Met → List ℕ → List ℕ → Option Met
with_option m option value =
    if bytes_eq option (codes "--channels") then with_channels m (names_in is_channel_name value)
    else if bytes_eq option (codes "--subdirs") then with_subdirs m (names_in is_subdir_name value)
    else if bytes_eq option (codes "--format") then with_format m (format_of value)
    else if bytes_eq option (codes "--priority") then with_priority m (priority_of value)
    else None

-- a word more
abbrev pub with_word : Met → List ℕ → Option Met
with_word m word =
    if bytes_eq word (codes "--flat") then with_flat m else with_option m (option_of word) (value_of word)

-- more words
abbrev pub with_words : Met → List (List ℕ) → Option Met
with_words m [] = Some m
with_words m (word ∷ words) = option_and_then (λ more. with_words more words) (with_word m word)

-- what is asked by options, which have channels and subdirs
abbrev pub asked_by : Option (List (List ℕ)) → Option (List (List ℕ)) → Met → Option Asked
asked_by (Some channels) (Some subdirs) m = Some (record {
  channels = channels;
  subdirs = subdirs;
  flat = m.flat;
  format = unwrap_or m.format format.PreferConda;
  priority = unwrap_or m.priority priority.Flexible;
})
asked_by channels subdirs m = None

-- what words ask for: options in any order, each at most once
abbrev pub closure_words : List (List ℕ) → Option Asked
closure_words words = option_and_then (λ m. asked_by m.channels m.subdirs m) (with_words none_met words)
