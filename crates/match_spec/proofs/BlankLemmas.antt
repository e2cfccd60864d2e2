-- A blank in front of a spec moves the places of its faults, and changes nothing else.
use Rattle.std.proofs.Common.{◌≡◌, ◌∙◌, ◌+◌, ◌-◌, ◌==◌, ℕ, zero, suc, List, [], ◌∷◌, Bool, true, false, length, map, refl, ap, arith}
use Rattle.std.specs.Prelude.{position, drop, Option, Some, None, Result, Ok, Err, if◌then◌else◌}
use Rattle.std.specs.Result.{result_ok}
use Rattle.hex.specs.Hex.{decode_sized}
use Rattle.gateway_words.specs.Ascii.{comma, space}
use Rattle.gateway_words.specs.Reading.{◌>>=◌}
use Rattle.conda_name.specs.Dependency.{name_run}
use Rattle.conda_name.specs.Name.{lower_case}
use Rattle.conda_version.specs.Constraint.{constraint_of}
use Rattle.byte_text.specs.Text.{before_last, cut_at, drop_blanks, is_nil, skip_blanks}
use Rattle.conda_version.specs.declared.fault.ConstraintFault.{ConstraintFault}
use Rattle.conda_version.proofs.BlankLemmas.{skip-within}
use Rattle.match_spec.specs.Blanks.{moved, moved_fault}
use Rattle.match_spec.specs.Bracket.{Entry, Halves, Value, bare, ends_in_bracket, ends_key, entries, entries_within, entry_by, entry_of, first_place, halves_by, halves_of, inside_of, is_equals_at, open_quote, open_value, opening_quote, quoted, quoted_entry, unclosed, unless_open, valued_by, valued_entry}
use Rattle.match_spec.specs.Key.{Key}
use Rattle.match_spec.specs.Key as key
use Rattle.match_spec.specs.Kept.{Placed, bytes_of, form_constraint, form_of, kept, place_of_last}
use Rattle.match_spec.specs.Number.{number_test}
use Rattle.match_spec.specs.Parts.{Meaning, Parts, no_parts, replaced}
use Rattle.match_spec.specs.Passage.{Passage, begun, behind, behind_by, beyond, ended, front, front_by, trimmed, until}
use Rattle.match_spec.specs.Reading.{Read, before_colons, bracket_of, build_or, constraint_or, has, is_build, key_of, may_follow, named, named_before, named_by, new_key, or_fault, outside_by, outside_of, place_by, place_of, slot_of, spec_in, spec_of, text_or, unless_refused, with_both, with_bracket, with_build, with_cut_value, with_entries, with_entry, with_form, with_kept, with_pair, with_rest, with_two, with_value, with_version, with_words}
use Rattle.match_spec.specs.Signs.{left_bracket, slash}
use Rattle.match_spec.specs.declared.fault.SpecFault.{SpecFault}
use Rattle.match_spec.specs.declared.fault.SpecFault.TheVariants as fault

-- one more in front of a sum
plus : (a n : ℕ) → suc a + n ≡ suc (a + n)
plus a n = omega arith

-- ---- passages and parts of a bracket, one byte further on

-- a passage, one byte further on
abbrev later : Passage → Passage
later p = record { at = suc p.at; text = p.text }

-- the same, where there is one
abbrev later_there : Option Passage → Option Passage
later_there None = None
later_there (Some p) = Some (later p)

-- what stands behind some bytes
behind-later : (n : ℕ) (p : Passage) → behind n (later p) ≡ later (behind n p)
behind-later n p = λ i. record { at = plus p.at n i; text = drop n p.text }

-- a passage without the blanks at its front
begun-later : (p : Passage) → begun (later p) ≡ later (begun p)
begun-later p = λ i. record { at = plus p.at (length p.text - length (skip_blanks p.text)) i; text = skip_blanks p.text }

-- and without those at its end
trimmed-later : (p : Passage) → trimmed (later p) ≡ later (trimmed p)
trimmed-later p = λ i. ended (begun-later p i)

-- what stands before a place
front-later : (o : Option ℕ) (p : Passage) → front_by o (later p) ≡ later (front_by o p)
front-later None p = refl
front-later (Some n) p = refl

-- what stands before a byte
until-later : (mark : ℕ) (p : Passage) → until mark (later p) ≡ later (until mark p)
until-later mark p = front-later (position (λ b. b == mark) p.text) p

-- what stands behind a place
past-later : (o : Option ℕ) (p : Passage) → behind_by o (later p) ≡ later_there (behind_by o p)
past-later None p = refl
past-later (Some n) p = ap Some (behind-later (n + 1) p)

-- what stands behind a byte
beyond-later : (mark : ℕ) (p : Passage) → beyond mark (later p) ≡ later_there (beyond mark p)
beyond-later mark p = past-later (position (λ b. b == mark) p.text) p

-- a value, one byte further on
abbrev later_value : Value → Value
later_value (bare p) = bare (later p)
later_value (quoted at p tail) = quoted (suc at) (later p) (later tail)
later_value (unclosed at) = unclosed (suc at)

-- the same, where there is one
abbrev value_there : Option Value → Option Value
value_there None = None
value_there (Some v) = Some (later_value v)

-- a part of a bracket, one byte further on
abbrev later_entry : Entry → Entry
later_entry e = record { key = later e.key; value = value_there e.value; rest = later_there e.rest }

-- a part with a value in quotes
quoted-later : (name : Passage) (at : ℕ) (body : Passage) (o : Option ℕ) → quoted_entry (later name) (suc at) (later body) o ≡ later_entry (quoted_entry name at body o)
quoted-later name at body None = refl
quoted-later name at body (Some n) =
    let tail : Passage = behind (n + 1) body in
    (λ i. record {
      key = later name;
      value = Some (quoted (suc at) (later (front n body)) (until comma (behind-later (n + 1) body i)));
      rest = beyond comma (behind-later (n + 1) body i);
    })
    ∙ (λ i. record { key = later name; value = Some (quoted (suc at) (later (front n body)) (until-later comma tail i)); rest = beyond-later comma tail i })

-- a part with a value
valued-later : (name here : Passage) (o : Option ℕ) → valued_by (later name) (later here) o ≡ later_entry (valued_by name here o)
valued-later name here None = λ i. record { key = later name; value = Some (bare (until-later comma here i)); rest = beyond-later comma here i }
valued-later name here (Some quote) =
    (λ i. quoted_entry (later name) (suc here.at) (behind-later 1 here i) (position (λ b. b == quote) (behind 1 here).text))
    ∙ quoted-later name here.at (behind 1 here) (position (λ b. b == quote) (behind 1 here).text)

-- a part whose key ends at a place
by-later : (p : Passage) (o : Option ℕ) (equals : Bool) → entry_by (later p) o equals ≡ later_entry (entry_by p o equals)
by-later p None equals = refl
by-later p (Some n) false = λ i. record { key = later (front n p); value = None; rest = Some (behind-later (n + 1) p i) }
by-later p (Some n) true =
    (λ i. valued_entry (later (front n p)) (begun (behind-later (n + 1) p i)))
    ∙ (λ i. valued_entry (later (front n p)) (begun-later (behind (n + 1) p) i))
    ∙ valued-later (front n p) (begun (behind (n + 1) p)) (opening_quote (begun (behind (n + 1) p)).text)

-- whether a `=` stands there
equals-later : (o : Option ℕ) (p : Passage) → is_equals_at o (later p) ≡ is_equals_at o p
equals-later None p = refl
equals-later (Some n) p = refl

-- a part
entry-later : (p : Passage) → entry_of (later p) ≡ later_entry (entry_of p)
unfolding entry_of
entry-later p =
    (λ i. entry_by (later p) (position ends_key p.text) (equals-later (position ends_key p.text) p i))
    ∙ by-later p (position ends_key p.text) (is_equals_at (position ends_key p.text) p)

-- several parts
within-later : (n : ℕ) (o : Option Passage) → entries_within n (later_there o) ≡ map later_entry (entries_within n o)
within-later zero None = refl
within-later (suc n) None = refl
within-later zero (Some p) = refl
within-later (suc n) (Some p) =
    (λ i. entry-later p i ∷ entries_within n (entry-later p i).rest)
    ∙ ap (λ es. later_entry (entry_of p) ∷ es) (within-later n (entry_of p).rest)

-- all parts
entries-later : (p : Passage) → entries (later p) ≡ map later_entry (entries p)
entries-later p = within-later (suc (length p.text)) (Some p)

-- a place, one further on, where there is one
abbrev place_there : Option ℕ → Option ℕ
place_there None = None
place_there (Some at) = Some (suc at)

-- the quote of a value that is open
open-value-later : (v : Option Value) → open_value (value_there v) ≡ place_there (open_value v)
open-value-later None = refl
open-value-later (Some (bare p)) = refl
open-value-later (Some (quoted at p tail)) = refl
open-value-later (Some (unclosed at)) = refl

-- the first of two places
first-later : (a b : Option ℕ) → first_place (place_there a) (place_there b) ≡ place_there (first_place a b)
first-later None b = refl
first-later (Some at) b = refl

-- the first quote that is open
open-later : (es : List Entry) → open_quote (map later_entry es) ≡ place_there (open_quote es)
open-later [] = refl
open-later (e ∷ es) =
    (λ i. first_place (open-value-later e.value i) (open-later es i)) ∙ first-later (open_value e.value) (open_quote es)

-- ---- readings, one byte further on

-- a fault, one byte further on
abbrev later_fault : SpecFault → SpecFault
later_fault fault.Empty = fault.Empty
later_fault fault.NoName = fault.NoName
later_fault (fault.Name at) = fault.Name (suc at)
later_fault (fault.Version at) = fault.Version (suc at)
later_fault (fault.Build at) = fault.Build (suc at)
later_fault (fault.Bracket at) = fault.Bracket (suc at)
later_fault (fault.Key at) = fault.Key (suc at)
later_fault (fault.Value at) = fault.Value (suc at)

-- a reading whose faults are moved, and what it gives
abbrev by_fault : {A B : Type 0} → (A → B) → Read A → Read B
by_fault g (Ok x) = Ok (g x)
by_fault g (Err f) = Err (later_fault f)

-- a reading whose faults are moved, and which gives the same
abbrev same : {A : Type 0} → Read A → Read A
same r = by_fault (λ x. x) r

-- readings one behind the other
bind-later : {A B C D : Type 0} (s : Read B) (r : Read A) (g : A → B) (f : B → Read D) (h : A → Read C) (k : C → D) → s ≡ by_fault g r
    → ((x : A) → f (g x) ≡ by_fault k (h x)) → (s >>= f) ≡ by_fault k (r >>= h)
bind-later s (Ok x) g f h k e on = (λ i. e i >>= f) ∙ on x
bind-later s (Err z) g f h k e on = (λ i. e i >>= f)

-- a reading that is refused where something isn't so
then-later : {A B : Type 0} (b : Bool) (s : Read B) (r : Read A) (g : A → B) (z : SpecFault) → s ≡ by_fault g r → (if b then s else Err (later_fault z)) ≡ by_fault g (if b then r else Err z)
then-later true s r g z e = e
then-later false s r g z e = refl

-- a reading that is refused where something is so
else-later : {A B : Type 0} (b : Bool) (s : Read B) (r : Read A) (g : A → B) (z : SpecFault) → s ≡ by_fault g r → (if b then Err (later_fault z) else s) ≡ by_fault g (if b then Err z else r)
else-later true s r g z e = refl
else-later false s r g z e = e

-- a reading that something spares
ok-else-later : {A B : Type 0} (b : Bool) (x : A) (s : Read B) (r : Read A) (g : A → B) → s ≡ by_fault g r → (if b then Ok (g x) else s) ≡ by_fault g (if b then Ok x else r)
ok-else-later true x s r g e = refl
ok-else-later false x s r g e = e

-- the halves of a spec, one byte further on
abbrev later_halves : Halves → Halves
later_halves h = record { outside = later h.outside; inside = later_there h.inside }

-- unless a quote is open
unless-later : (outer inner : Passage) (o : Option ℕ) → unless_open (later outer) (later inner) (place_there o) ≡ by_fault later_halves (unless_open outer inner o)
unless-later outer inner None = refl
unless-later outer inner (Some at) = refl

-- a spec that is cut at its bracket
halves-later : (p : Passage) (o : Option ℕ) (ends : Bool) → halves_by (later p) o ends ≡ by_fault later_halves (halves_by p o ends)
halves-later p None false = refl
halves-later p None true = ap (λ n. Err (fault.Bracket n)) (plus p.at (length p.text - 1))
halves-later p (Some n) false = ap (λ m. Err (fault.Bracket m)) (plus p.at n)
halves-later p (Some n) true =
    let outer : Passage = ended (front n p) in
    let inner : Passage = inside_of n p in
    let moves : inside_of n (later p) ≡ later inner = λ i. front (length p.text - (n + 1) - 1) (behind-later (n + 1) p i) in
    (λ i. unless_open (later outer) (moves i) (open_quote (entries (moves i))))
    ∙ (λ i. unless_open (later outer) (later inner) (open_quote (entries-later inner i)))
    ∙ (λ i. unless_open (later outer) (later inner) (open-later (entries inner) i))
    ∙ unless-later outer inner (open_quote (entries inner))

-- ---- the bracket

-- a constraint
constraint-later : (z : SpecFault) (t : List ℕ) → constraint_or (later_fault z) t ≡ same (constraint_or z t)
unfolding constraint_or
constraint-later z t = by (constraint_of t)
  where
    by : (r : Result (List ℕ) ConstraintFault) → unless_refused (later_fault z) r ≡ same (unless_refused z r)
    by (Ok c) = refl
    by (Err e) = refl

-- a build
build-later : (z : SpecFault) (t : List ℕ) → build_or (later_fault z) t ≡ same (build_or z t)
build-later z t = then-later (is_build t) (Ok t) (Ok t) (λ x. x) z refl

-- a text
text-later : (z : SpecFault) (t : List ℕ) → text_or (later_fault z) t ≡ same (text_or z t)
text-later z t = else-later (is_nil t) (Ok t) (Ok t) (λ x. x) z refl

-- what an option gives
option-later : {A : Type 0} (z : SpecFault) (o : Option A) → or_fault (later_fault z) o ≡ same (or_fault z o)
option-later z None = refl
option-later z (Some x) = refl

-- parts with one more
put-later : {A : Type 0} (s r : Read A) (put : A → Parts) → s ≡ same r → (s >>= λ x. Ok (put x)) ≡ same (r >>= λ x. Ok (put x))
put-later s r put e = bind-later s r (λ x. x) (λ x. Ok (put x)) (λ x. Ok (put x)) (λ x. x) e (λ x. refl)

-- a value of a key
value-later : (k : Key) (v : Passage) (parts : Parts) → with_value k (later v) parts ≡ same (with_value k v parts)
unfolding with_value
value-later key.version v parts = put-later _ _ (λ x. record parts { version = Some x }) (constraint-later (fault.Value v.at) v.text)
value-later key.build v parts = put-later _ _ (λ x. record parts { build = Some x }) (build-later (fault.Value v.at) v.text)
value-later key.build_number v parts = put-later _ _ (λ x. record parts { build_number = Some x }) (option-later (fault.Value v.at) (number_test v.text))
value-later key.channel v parts = put-later _ _ (λ x. record parts { channel = Some x }) (text-later (fault.Value v.at) v.text)
value-later key.subdir v parts = put-later _ _ (λ x. record parts { subdir = Some x }) (text-later (fault.Value v.at) v.text)
value-later key.md5 v parts = put-later _ _ (λ x. record parts { md5 = Some x }) (option-later (fault.Value v.at) (result_ok (decode_sized v.text 16)))
value-later key.sha256 v parts = put-later _ _ (λ x. record parts { sha256 = Some x }) (option-later (fault.Value v.at) (result_ok (decode_sized v.text 32)))
value-later key.file v parts = put-later _ _ (λ x. record parts { file = Some x }) (text-later (fault.Value v.at) v.text)

-- a value that was cut out
cut-later : (k : Key) (v : Value) (parts : Parts) → with_cut_value k (later_value v) parts ≡ same (with_cut_value k v parts)
cut-later k (bare v) parts = value-later k (ended v) parts
cut-later k (quoted at v tail) parts =
    then-later (is_nil (skip_blanks tail.text)) (with_value k (later v) parts) (with_value k v parts) (λ x. x) (fault.Value at) (value-later k v parts)
cut-later k (unclosed at) parts = refl

-- a key that is new
new-later : (z : SpecFault) (o : Option Key) (parts : Parts) → new_key (later_fault z) o parts ≡ same (new_key z o parts)
new-later z None parts = refl
new-later z (Some k) parts = else-later (has k parts) (Ok k) (Ok k) (λ x. x) z refl

-- a key with its value
pair-later : (k : Passage) (v : Option Value) (parts : Parts) → with_pair (later k) (value_there v) parts ≡ same (with_pair k v parts)
pair-later k None parts = refl
pair-later k (Some v) parts =
    bind-later (new_key (fault.Key (suc k.at)) (key_of k.text) parts) (new_key (fault.Key k.at) (key_of k.text) parts) (λ x. x)
    (λ x. with_cut_value x (later_value v) parts) (λ x. with_cut_value x v parts) (λ x. x) (new-later (fault.Key k.at) (key_of k.text) parts) (λ x. cut-later x v parts)

-- a part of a bracket that is read
part-later : (e : Entry) (parts : Parts) → with_entry (later_entry e) parts ≡ same (with_entry e parts)
unfolding with_entry
part-later e parts = (λ i. with_pair (trimmed-later e.key i) (value_there e.value) parts) ∙ pair-later (trimmed e.key) e.value parts

-- all parts of a bracket that are read
parts-later : (es : List Entry) (parts : Parts) → with_entries (map later_entry es) parts ≡ same (with_entries es parts)
parts-later [] parts = refl
parts-later (e ∷ es) parts =
    bind-later (with_entry (later_entry e) parts) (with_entry e parts) (λ x. x) (λ more. with_entries (map later_entry es) more) (λ more. with_entries es more) (λ x. x)
    (part-later e parts) (λ more. parts-later es more)

-- a bracket
bracket-later : (inside : Option Passage) → bracket_of (later_there inside) ≡ same (bracket_of inside)
bracket-later None = refl
bracket-later (Some p) =
    ok-else-later (is_nil (skip_blanks p.text)) no_parts (with_entries (entries (later p)) no_parts) (with_entries (entries p) no_parts) (λ x. x)
    ((λ i. with_entries (entries-later p i) no_parts) ∙ parts-later (entries p) no_parts)

-- ---- the version and the build

-- parts with a constraint
version-later : (parts : Parts) (z : SpecFault) (t : List ℕ) → with_version parts (later_fault z) t ≡ same (with_version parts z t)
version-later parts z t = put-later _ _ (λ x. record parts { version = Some x }) (constraint-later z t)

-- parts with a build
with-build-later : (z : SpecFault) (t : List ℕ) (parts : Parts) → with_build (later_fault z) t parts ≡ same (with_build z t parts)
with-build-later z t parts = put-later _ _ (λ x. record parts { build = Some x }) (build-later z t)

-- parts with both
both-later : (parts : Parts) (y : SpecFault) (v : List ℕ) (z : SpecFault) (b : List ℕ) → with_both parts (later_fault y) v (later_fault z) b ≡ same (with_both parts y v z b)
both-later parts y v z b =
    bind-later (with_version parts (later_fault y) v) (with_version parts y v) (λ x. x) (with_build (later_fault z) b) (with_build z b) (λ x. x) (version-later parts y v) (with-build-later z b)

-- two texts that a blank parts
two-later : (parts : Parts) (at end : ℕ) (ps : List Placed) (v b : List ℕ) (o : Option ℕ) → with_two parts (suc at) end ps v b o ≡ same (with_two parts at end ps v b o)
two-later parts at end ps v b (Some n) = ap (λ m. Err (fault.Build m)) (plus at (place_of_last (length b - n) end ps))
two-later parts at end ps v b None =
    (λ i. with_both parts (fault.Version (suc at)) v (fault.Build (plus at (place_of_last (length b) end ps) i)) b)
    ∙ both-later parts (fault.Version at) v (fault.Build (at + place_of_last (length b) end ps)) b

-- one text or two
words-later : (parts : Parts) (at end : ℕ) (ps : List Placed) (bytes : List ℕ) (o : Option (List ℕ × List ℕ)) → with_words parts (suc at) end ps bytes o ≡ same (with_words parts at end ps bytes o)
words-later parts at end ps bytes None = version-later parts (fault.Version at) bytes
words-later parts at end ps bytes (Some cut) = two-later parts at end ps cut.0 (skip_blanks cut.1) (position (λ b. b == space) (skip_blanks cut.1))

-- the form, or another one
form-later : (parts : Parts) (at end : ℕ) (ps : List Placed) (bytes : List ℕ) (o : Option (List ℕ × List ℕ)) → with_form parts (suc at) end ps bytes o ≡ same (with_form parts at end ps bytes o)
form-later parts at end ps bytes (Some form) =
    (λ i. with_both parts (fault.Version (suc at)) (form_constraint form.0) (fault.Build (plus at (place_of_last (length form.1) end ps) i)) form.1)
    ∙ both-later parts (fault.Version at) (form_constraint form.0) (fault.Build (at + place_of_last (length form.1) end ps)) form.1
form-later parts at end ps bytes None = words-later parts at end ps bytes (cut_at space bytes)

-- what stands behind a name
rest-later : (p : Passage) (parts : Parts) → with_rest (later p) parts ≡ same (with_rest p parts)
unfolding with_rest
rest-later p parts =
    ok-else-later (is_nil p.text) parts (with_kept parts (suc p.at) (length p.text) (kept p.text) (bytes_of (kept p.text))) (with_kept parts p.at (length p.text) (kept p.text) (bytes_of (kept p.text))) (λ x. x)
    (form-later parts p.at (length p.text) (kept p.text) (bytes_of (kept p.text)) (form_of (bytes_of (kept p.text))))

-- ---- the name and the channel

-- a name with what follows it
before-later : (run : List ℕ) (rest : Passage) (parts : Parts) → named_before run (later rest) parts ≡ same (named_before run rest parts)
before-later run rest parts =
    let as_spec : Parts → Read Meaning = λ x. Ok (record { name = lower_case run; parts = x }) in
    then-later (may_follow rest.text) (with_rest (trimmed (later rest)) parts >>= as_spec) (with_rest (trimmed rest) parts >>= as_spec) (λ x. x) (fault.Name rest.at)
    (bind-later (with_rest (trimmed (later rest)) parts) (with_rest (trimmed rest) parts) (λ x. x) as_spec as_spec (λ x. x)
    ((λ i. with_rest (trimmed-later rest i) parts) ∙ rest-later (trimmed rest) parts) (λ x. refl))

-- a name that is known
named-by-later : (p : Passage) (run : List ℕ) (parts : Parts) → named_by (later p) run parts ≡ same (named_by p run parts)
named-by-later p run parts =
    else-later (is_nil run) (named_before run (behind (length run) (later p)) parts) (named_before run (behind (length run) p) parts) (λ x. x) fault.NoName
    ((λ i. named_before run (behind-later (length run) p i) parts) ∙ before-later run (behind (length run) p) parts)

-- a name
named-later : (p : Passage) (parts : Parts) → named (later p) parts ≡ same (named p parts)
unfolding named
named-later p parts =
    (λ i. named_by (begun-later p i) (name_run (begun p).text) parts) ∙ named-by-later (begun p) (name_run (begun p).text) parts

-- a channel and a subdir
slot-later : (channel subdir : List ℕ) → slot_of channel subdir ≡ same (slot_of channel subdir)
slot-later channel subdir =
    let found : Read Parts = Ok (record no_parts { channel = Some channel; subdir = Some subdir }) in
    else-later (is_nil channel) (if is_nil subdir then Err fault.NoName else found) (if is_nil subdir then Err fault.NoName else found) (λ x. x) fault.NoName
    (else-later (is_nil subdir) found found (λ x. x) fault.NoName refl)

-- a channel, and perhaps a subdir
place-later : (t : List ℕ) (o : Option (List ℕ)) → place_by t o ≡ same (place_by t o)
place-later t None =
    let found : Read Parts = Ok (record no_parts { channel = Some t }) in
    else-later (is_nil t) found found (λ x. x) fault.NoName refl
place-later t (Some channel) = slot-later channel (drop (length channel + 1) t)

-- what stands outside the bracket
outside-later : (p : Passage) (o : Option (List ℕ)) → outside_by (later p) o ≡ same (outside_by p o)
outside-later p None = named-later p no_parts
outside-later p (Some channel) =
    bind-later (place_of channel) (place_of channel) (λ x. x) (named (behind (length channel + 2) (later p))) (named (behind (length channel + 2) p)) (λ x. x)
    (place-later channel (before_last slash channel))
    (λ parts. (λ i. named (behind-later (length channel + 2) p i) parts) ∙ named-later (behind (length channel + 2) p) parts)

-- ---- the whole

-- a bracket behind the rest
whole-later : (inside : Option Passage) (outer : Meaning) → with_bracket (later_there inside) outer ≡ same (with_bracket inside outer)
whole-later inside outer =
    bind-later (bracket_of (later_there inside)) (bracket_of inside) (λ x. x) (λ inner. Ok (record outer { parts = replaced inner outer.parts }))
    (λ inner. Ok (record outer { parts = replaced inner outer.parts })) (λ x. x) (bracket-later inside) (λ x. refl)

-- a spec
spec-later : (p : Passage) → spec_in (later p) ≡ same (spec_in p)
unfolding halves_of outside_of
spec-later p =
    else-later (is_nil p.text) (halves_of (later p) >>= λ h. (outside_of h.outside >>= with_bracket h.inside)) (halves_of p >>= λ h. (outside_of h.outside >>= with_bracket h.inside)) (λ x. x) fault.Empty
    (bind-later (halves_of (later p)) (halves_of p) later_halves (λ h. outside_of h.outside >>= with_bracket h.inside) (λ h. outside_of h.outside >>= with_bracket h.inside) (λ x. x)
    (halves-later p (position (λ b. b == left_bracket) p.text) (ends_in_bracket p.text))
    (λ h. bind-later (outside_of (later h.outside)) (outside_of h.outside) (λ x. x) (with_bracket (later_there h.inside)) (with_bracket h.inside) (λ x. x)
    (outside-later h.outside (before_colons h.outside.text)) (whole-later h.inside)))

-- as it is defined
fault-moved : (f : SpecFault) → later_fault f ≡ moved_fault f
fault-moved fault.Empty = refl
fault-moved fault.NoName = refl
fault-moved (fault.Name at) = ap fault.Name (omega arith)
fault-moved (fault.Version at) = ap fault.Version (omega arith)
fault-moved (fault.Build at) = ap fault.Build (omega arith)
fault-moved (fault.Bracket at) = ap fault.Bracket (omega arith)
fault-moved (fault.Key at) = ap fault.Key (omega arith)
fault-moved (fault.Value at) = ap fault.Value (omega arith)

-- a reading
read-moved : (r : Read Meaning) → same r ≡ moved r
read-moved (Ok spec) = refl
read-moved (Err f) = ap (λ g. Err g) (fault-moved f)

-- a blank in front of a spec
pub spec-moved : (t : List ℕ) → spec_of (space ∷ t) ≡ moved (spec_of t)
unfolding spec_of
spec-moved t =
    let place : 0 + (length (space ∷ t) - length (skip_blanks t)) ≡ suc (0 + (length t - length (skip_blanks t))) = omega (arith, skip-within t) in
    (λ i. spec_in (record { at = place i; text = drop_blanks (skip_blanks t) }))
    ∙ spec-later (trimmed (record { at = 0; text = t }))
    ∙ read-moved (spec_in (trimmed (record { at = 0; text = t })))
