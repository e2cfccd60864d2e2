-- The words of options.
use Rattle.std.specs.Prelude.{ℕ, List, codes, Option, Some, None, if◌then◌else◌}
use Rattle.std.specs.Str.{bytes_eq}
use Rattle.closure_request.specs.declared.options.Format.{Format}
use Rattle.closure_request.specs.declared.options.Format.TheVariants as format
use Rattle.closure_request.specs.declared.options.Priority.{Priority}
use Rattle.closure_request.specs.declared.options.Priority.TheVariants as priority

-- the format of a word, if it is the word of one
abbrev pub format_of : List ℕ → Option Format
format_of word =
    if bytes_eq word (codes "prefer-conda") then Some format.PreferConda
    else if bytes_eq word (codes "all") then Some format.All
    else None

-- the priority of a word, if it is the word of one
abbrev pub priority_of : List ℕ → Option Priority
priority_of word =
    if bytes_eq word (codes "flexible") then Some priority.Flexible
    else if bytes_eq word (codes "strict") then Some priority.Strict
    else None
