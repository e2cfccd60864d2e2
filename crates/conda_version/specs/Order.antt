-- The order of versions, and which versions start with another (docs/FORMATS.md, "Versions").
use Rattle.std.specs.Prelude.{ℕ, ◌==◌, ◌&&◌, ◌||◌, Bool, true, false, List, [], ◌∷◌, codes, nat_eq, if◌then◌else◌}
use Rattle.std.specs.Ordering.{is_eq, nat_cmp, on, ordering_then, then_cmp}
use Rattle.std.specs.declared.cmp.Ordering.{Ordering}
use Rattle.std.specs.declared.cmp.Ordering.TheVariants.{Equal}
use Rattle.std.specs.Cmp.Lexicographic.{pointwise, slice_cmp}
use Rattle.byte_text.specs.Text.{is_nil}
use Rattle.conda_version.specs.Version.{Run, number, word, Value}

-- ---- the order of two runs

-- where a word stands among the runs: `dev` below other words, those below numbers (2), `post` above
abbrev pub word_rank : List ℕ → ℕ
word_rank w = if pointwise nat_eq w (codes "dev") then 0 else if pointwise nat_eq w (codes "post") then 3 else 1

-- where a run stands: 0 `dev`, 1 other words, 2 numbers, 3 `post`
abbrev pub rank : Run → ℕ
rank (number n) = 2
rank (word w) = word_rank w

-- the value of a number, and 0 for a word
abbrev pub amount : Run → ℕ
amount (number n) = n
amount (word w) = 0

-- the bytes of a word, and none of a number
abbrev pub letters : Run → List ℕ
letters (number n) = []
letters (word w) = w

-- by rank, numbers by value, words by bytes
abbrev pub run_cmp : Run → Run → Ordering
run_cmp = then_cmp (on rank nat_cmp) (then_cmp (on amount nat_cmp) (on letters (slice_cmp nat_cmp)))

-- ---- the order of two versions

-- the order of two lists, place by place, in which what is missing counts as d
abbrev pub padded_cmp : {A : Type 0} → A → (A → A → Ordering) → List A → List A → Ordering
padded_cmp d cmp [] [] = Equal
padded_cmp d cmp [] (y ∷ ys) = ordering_then (cmp d y) (padded_cmp d cmp [] ys)
padded_cmp d cmp (x ∷ xs) [] = ordering_then (cmp x d) (padded_cmp d cmp xs [])
padded_cmp d cmp (x ∷ xs) (y ∷ ys) = ordering_then (cmp x y) (padded_cmp d cmp xs ys)

-- the order of two components, in which a missing run counts as 0
abbrev pub runs_cmp : List Run → List Run → Ordering
runs_cmp = padded_cmp (number 0) run_cmp

-- the order of two lists of components, in which a missing component has no runs
abbrev pub lists_cmp : List (List Run) → List (List Run) → Ordering
lists_cmp = padded_cmp [] runs_cmp

-- the order of two versions: by epoch and main components, then by local ones
unfoldable pub version_cmp : Value → Value → Ordering
version_cmp v w = ordering_then (lists_cmp v.release w.release) (lists_cmp v.local w.local)

-- ---- v starts with p

-- the first of a list, and d where there is none
abbrev pub first_or : {A : Type 0} → A → List A → A
first_or d [] = d
first_or d (x ∷ xs) = x

-- what follows the first of a list
abbrev pub others : {A : Type 0} → List A → List A
others [] = []
others (x ∷ xs) = xs

-- xs ties with ps at each place before the last of ps, and there `last` holds; what xs lacks counts as d
abbrev pub begins_by : {A : Type 0} → A → (A → A → Ordering) → (A → A → Bool) → List A → List A → Bool
begins_by d cmp last xs [] = true
begins_by d cmp last xs (p ∷ []) = last (first_or d xs) p
begins_by d cmp last xs (p ∷ q ∷ ps) = is_eq (cmp (first_or d xs) p) && begins_by d cmp last (others xs) (q ∷ ps)

-- whether a text begins with another
abbrev pub begins_with : List ℕ → List ℕ → Bool
begins_with xs [] = true
begins_with [] (y ∷ ys) = false
begins_with (x ∷ xs) (y ∷ ys) = x == y && begins_with xs ys

-- whether the run is p, or goes on behind it: of words other than `dev` and `post` (rank 1) p may be a prefix
abbrev pub run_begins : Run → Run → Bool
run_begins r p = is_eq (run_cmp r p) || (rank r == 1 && rank p == 1 && begins_with (letters r) (letters p))

-- whether a component begins with another: all runs but the last tie
abbrev pub runs_begin : List Run → List Run → Bool
runs_begin = begins_by (number 0) run_cmp run_begins

-- whether a list of components begins with another: all components but the last tie
abbrev pub lists_begin : List (List Run) → List (List Run) → Bool
lists_begin = begins_by [] runs_cmp runs_begin

-- v starts with p: by the first lists, and where p has a local part, by the local ones behind equal first lists
unfoldable pub version_starts_with : Value → Value → Bool
version_starts_with v p =
    if is_nil p.local then lists_begin v.release p.release
    else is_eq (lists_cmp v.release p.release) && lists_begin v.local p.local
