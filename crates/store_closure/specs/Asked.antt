-- What is asked of the channels of a store.
use Rattle.std.specs.Prelude.{ℕ, Bool, List, [], ◌∷◌, ◌++◌, map, codes}
use Rattle.gateway_words.specs.Ascii.{slash}
use Rattle.closure_request.specs.declared.options.Format.{Format}
use Rattle.closure_request.specs.declared.options.Priority.{Priority}
use Rattle.closure_request.specs.Request.{Site, Asking}
use Rattle.closure_request.specs.Reading.{Read, request_of}

-- the channels and the subdirs, and the options of each request
pub record Asked : Type 0 where
  pub channels : List (List ℕ)
  pub subdirs : List (List ℕ)
  pub flat : Bool
  pub format : Format
  pub priority : Priority

-- the channel of a name; nothing is fetched from its address
abbrev pub site_of : List ℕ → Site
site_of name = record { name = name; base = (codes "http://store/" ++ name) ++ slash ∷ [] }

-- the request of a line
abbrev pub request_in : Asked → List ℕ → Read Asking
request_in a line = request_of (map site_of a.channels) a.subdirs a.flat a.format a.priority line
