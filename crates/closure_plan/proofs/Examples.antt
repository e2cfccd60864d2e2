-- Worked rows, as computed equations.
use Rattle.std.proofs.Common.{◌≡◌, refl, ℕ, Bool, true, false, List, [], ◌∷◌, Option, Some, None, map}
use Rattle.std.specs.Prelude.{codes}
use Rattle.digest_gate.specs.declared.digest.Digest.{Digest}
use Rattle.match_spec.specs.Parts.{Meaning}
use Rattle.match_spec.specs.Matching.{matches}
use Rattle.shard_file.specs.Rows.{Row}
use Rattle.shard_index.specs.Index as indexes
use Rattle.closure_request.specs.declared.options.Format.{Format}
use Rattle.closure_request.specs.declared.options.Format.TheVariants as format
use Rattle.closure_request.specs.declared.options.Priority.{Priority}
use Rattle.closure_request.specs.declared.options.Priority.TheVariants as priority
use Rattle.closure_plan.specs.Names.{Name}
use Rattle.closure_request.specs.Request.{Asking, Site}
use Rattle.closure_plan.specs.Given.{Pins, LeafRows}
use Rattle.closure_plan.specs.Closure.{Found, closure}
use Rattle.closure_plan.specs.Needs.{the_index, the_shard, needs}

abbrev file_row : List ℕ → Bool → Name → List (List ℕ) → Row
file_row file conda name depends = record {
  file = file;
  conda = conda;
  fields = record {
    name = name;
    version = codes "1";
    build = codes "0";
    build_number = 0;
    depends = depends;
    constrains = [];
    subdir = None;
    md5 = None;
    sha256 = None;
    size = None;
    timestamp = None;
    license = None;
    noarch = None;
  };
}

abbrev spec_of : Name → Option (List ℕ) → Option (List ℕ) → Meaning
spec_of name channel file = record {
  name = name;
  parts = record {
    version = None;
    build = None;
    build_number = None;
    channel = channel;
    subdir = None;
    md5 = None;
    sha256 = None;
    file = file;
  };
}

abbrev site : List ℕ → Site
site name = record { name = name; base = name }

abbrev asked_of : List Site → Meaning → Format → Priority → Asking
asked_of channels spec f p = record { channels = channels; subdirs = codes "noarch" ∷ []; specs = spec ∷ []; flat = false; format = f; priority = p }

abbrev some_digest : ℕ → Digest
some_digest n = record { 0 = n ∷ [] }

-- the channel and the file of what is found
abbrev shown : Found → List ℕ × List ℕ
shown f = (f.channel, f.row.file)

abbrev index_of : indexes.Contents → ℕ → List Name → indexes.Contents
index_of empty d names = record empty { listed = map (λ n. record { name = n; digest = some_digest d }) names }

-- ---- x has two files in packages, of which one has a twin in packages.conda; its record depends on y

abbrev x_leaves : List LeafRows
x_leaves =
    record { slot = 0; name = codes "x"; rows = file_row (codes "x-1-0.conda") true (codes "x") [] ∷ file_row (codes "x-1-0.tar.bz2") false (codes "x") (codes "y" ∷ []) ∷ file_row (codes "x-2-0.tar.bz2") false (codes "X") [] ∷ [] }
    ∷ record { slot = 0; name = codes "y"; rows = file_row (codes "y-1-0.conda") true (codes "y") [] ∷ [] } ∷ []

abbrev x_pins : indexes.Contents → Pins
x_pins empty = Some (index_of empty 1 (codes "x" ∷ codes "y" ∷ [])) ∷ []

abbrev x_asked : Format → Asking
x_asked f = asked_of (site (codes "c") ∷ []) (spec_of (codes "x") None None) f priority.Flexible

pub preferred : (empty : indexes.Contents) → map shown (closure (x_asked format.PreferConda) (x_pins empty) x_leaves) ≡ (codes "c", codes "x-1-0.conda") ∷ (codes "c", codes "x-2-0.tar.bz2") ∷ []
unfolding matches
preferred empty = refl

pub preferred_needs : (empty : indexes.Contents) → needs (x_asked format.PreferConda) (x_pins empty) x_leaves ≡ the_index 0 ∷ the_shard 0 (codes "x") ∷ []
unfolding matches
preferred_needs empty = refl

pub all_formats : (empty : indexes.Contents) → map shown (closure (x_asked format.All) (x_pins empty) x_leaves)
    ≡ (codes "c", codes "x-1-0.conda") ∷ (codes "c", codes "x-1-0.tar.bz2") ∷ (codes "c", codes "x-2-0.tar.bz2") ∷ (codes "c", codes "y-1-0.conda") ∷ []
unfolding matches
all_formats empty = refl

-- ---- channels a and b list x; b alone lists y

abbrev two_leaves : List LeafRows
two_leaves =
    record { slot = 1; name = codes "y"; rows = file_row (codes "y-1-0.conda") true (codes "y") [] ∷ [] }
    ∷ record { slot = 0; name = codes "x"; rows = file_row (codes "x-1-0.conda") true (codes "x") [] ∷ [] }
    ∷ record { slot = 1; name = codes "x"; rows = file_row (codes "x-2-0.conda") true (codes "x") [] ∷ [] } ∷ []

abbrev two_pins : indexes.Contents → Pins
two_pins empty = Some (index_of empty 1 (codes "x" ∷ [])) ∷ Some (index_of empty 2 (codes "x" ∷ codes "y" ∷ [])) ∷ []

abbrev two_asked : Meaning → Priority → Asking
two_asked spec p = asked_of (site (codes "a") ∷ site (codes "b") ∷ []) spec format.PreferConda p

pub flexible : (empty : indexes.Contents) → map shown (closure (two_asked (spec_of (codes "x") None None) priority.Flexible) (two_pins empty) two_leaves) ≡ (codes "a", codes "x-1-0.conda") ∷ (codes "b", codes "x-2-0.conda") ∷ []
unfolding matches
flexible empty = refl

pub strict : (empty : indexes.Contents) → map shown (closure (two_asked (spec_of (codes "x") None None) priority.Strict) (two_pins empty) two_leaves) ≡ (codes "a", codes "x-1-0.conda") ∷ []
unfolding matches
strict empty = refl

pub strict_channel : (empty : indexes.Contents) → map shown (closure (two_asked (spec_of (codes "x") (Some (codes "b")) None) priority.Strict) (two_pins empty) two_leaves) ≡ []
unfolding matches
strict_channel empty = refl

pub strict_later : (empty : indexes.Contents) → map shown (closure (two_asked (spec_of (codes "y") None None) priority.Strict) (two_pins empty) two_leaves) ≡ (codes "b", codes "y-1-0.conda") ∷ []
unfolding matches
strict_later empty = refl

-- where the earlier channel isn't pinned yet, nothing is needed of the later one
pub strict_waits : (empty : indexes.Contents) → needs (two_asked (spec_of (codes "y") None None) priority.Strict) (None ∷ Some (index_of empty 2 (codes "x" ∷ codes "y" ∷ [])) ∷ []) [] ≡ the_index 0 ∷ the_index 1 ∷ []
unfolding matches
strict_waits empty = refl
