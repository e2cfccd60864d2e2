-- What is asked of channels.
use Rattle.std.specs.Prelude.{ℕ, Bool, List, map}
use Rattle.match_spec.specs.Parts.{Meaning}
use Rattle.closure_request.specs.declared.options.Format.{Format}
use Rattle.closure_request.specs.declared.options.Priority.{Priority}

-- a channel: its name, and the address below which its subdirs stand
pub record Site : Type 0 where
  pub name : List ℕ
  pub base : List ℕ

-- a request: channels, subdirs, what packages have to match, whether what they depend on is left alone, and the options
pub record Asking : Type 0 where
  pub channels : List Site
  pub subdirs : List (List ℕ)
  pub specs : List Meaning
  pub flat : Bool
  pub format : Format
  pub priority : Priority

-- the names of specs
abbrev pub root_names_of : List Meaning → List (List ℕ)
root_names_of specs = map (λ (spec : Meaning). spec.name) specs

-- the names of a request's specs
abbrev pub root_names : Asking → List (List ℕ)
root_names r = root_names_of r.specs
