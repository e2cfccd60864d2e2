-- Parts of a bracket without a fault may change places.
use Rattle.std.proofs.Common.{◌≡◌, ◌∙◌, List, [], ◌∷◌, ◌++◌, ℕ, false, refl, sym, ap}
use Rattle.std.specs.Prelude.{Option, Some, None, Ok, Err, if◌then◌else◌}
use Rattle.std.proofs.lemmas.Bool.{false≢true}
use Rattle.gateway_words.specs.Reading.{◌>>=◌}
use Rattle.byte_text.specs.Text.{is_nil, skip_blanks}
use Rattle.match_spec.specs.Bracket.{Entry, Value, bare, quoted, unclosed}
use Rattle.match_spec.specs.Key.{Key}
use Rattle.match_spec.specs.Key as key
use Rattle.match_spec.specs.Number.{NumberTest, number_test}
use Rattle.match_spec.specs.Parts.{Parts}
use Rattle.match_spec.specs.Passage.{Passage, ended, trimmed}
use Rattle.match_spec.specs.Reading.{Read, build_or, constraint_or, digest_or, has, key_of, new_key, or_fault, text_or, with_cut_value, with_entries, with_entry, with_pair, with_value}
use Rattle.match_spec.specs.declared.fault.SpecFault.{SpecFault}
use Rattle.match_spec.specs.declared.fault.SpecFault.TheVariants as fault
use Rattle.match_spec.proofs.LegalLemmas.{bind-ok, same-ok, unless-so, where-so}

-- what one part of a bracket changes
data Change : Type 0 where
  set_version : List ℕ → Change
  set_build : List ℕ → Change
  set_build_number : NumberTest → Change
  set_channel : List ℕ → Change
  set_subdir : List ℕ → Change
  set_md5 : List ℕ → Change
  set_sha256 : List ℕ → Change
  set_file : List ℕ → Change

-- the key of a change
abbrev changed : Change → Key
changed (set_version x) = key.version
changed (set_build x) = key.build
changed (set_build_number x) = key.build_number
changed (set_channel x) = key.channel
changed (set_subdir x) = key.subdir
changed (set_md5 x) = key.md5
changed (set_sha256 x) = key.sha256
changed (set_file x) = key.file

-- the parts behind a change
abbrev apply : Change → Parts → Parts
apply (set_version x) p = record p { version = Some x }
apply (set_build x) p = record p { build = Some x }
apply (set_build_number x) p = record p { build_number = Some x }
apply (set_channel x) p = record p { channel = Some x }
apply (set_subdir x) p = record p { subdir = Some x }
apply (set_md5 x) p = record p { md5 = Some x }
apply (set_sha256 x) p = record p { sha256 = Some x }
apply (set_file x) p = record p { file = Some x }

-- two changes of new keys, the other way round
record AreApart (c d : Change) (p : Parts) : Type 0 where
  pub later : has (changed d) p ≡ false
  pub first : has (changed c) (apply d p) ≡ false
  pub both : apply c (apply d p) ≡ apply d (apply c p)

-- changes of which the second finds its key new are of two keys, and may change places
apart : (c d : Change) (p : Parts) → has (changed d) (apply c p) ≡ false → has (changed c) p ≡ false → AreApart c d p
apart (set_version x) (set_version y) p e f = absurd (false≢true (sym e))
apart (set_version x) (set_build y) p e f = record { later = e; first = f; both = refl }
apart (set_version x) (set_build_number y) p e f = record { later = e; first = f; both = refl }
apart (set_version x) (set_channel y) p e f = record { later = e; first = f; both = refl }
apart (set_version x) (set_subdir y) p e f = record { later = e; first = f; both = refl }
apart (set_version x) (set_md5 y) p e f = record { later = e; first = f; both = refl }
apart (set_version x) (set_sha256 y) p e f = record { later = e; first = f; both = refl }
apart (set_version x) (set_file y) p e f = record { later = e; first = f; both = refl }
apart (set_build x) (set_version y) p e f = record { later = e; first = f; both = refl }
apart (set_build x) (set_build y) p e f = absurd (false≢true (sym e))
apart (set_build x) (set_build_number y) p e f = record { later = e; first = f; both = refl }
apart (set_build x) (set_channel y) p e f = record { later = e; first = f; both = refl }
apart (set_build x) (set_subdir y) p e f = record { later = e; first = f; both = refl }
apart (set_build x) (set_md5 y) p e f = record { later = e; first = f; both = refl }
apart (set_build x) (set_sha256 y) p e f = record { later = e; first = f; both = refl }
apart (set_build x) (set_file y) p e f = record { later = e; first = f; both = refl }
apart (set_build_number x) (set_version y) p e f = record { later = e; first = f; both = refl }
apart (set_build_number x) (set_build y) p e f = record { later = e; first = f; both = refl }
apart (set_build_number x) (set_build_number y) p e f = absurd (false≢true (sym e))
apart (set_build_number x) (set_channel y) p e f = record { later = e; first = f; both = refl }
apart (set_build_number x) (set_subdir y) p e f = record { later = e; first = f; both = refl }
apart (set_build_number x) (set_md5 y) p e f = record { later = e; first = f; both = refl }
apart (set_build_number x) (set_sha256 y) p e f = record { later = e; first = f; both = refl }
apart (set_build_number x) (set_file y) p e f = record { later = e; first = f; both = refl }
apart (set_channel x) (set_version y) p e f = record { later = e; first = f; both = refl }
apart (set_channel x) (set_build y) p e f = record { later = e; first = f; both = refl }
apart (set_channel x) (set_build_number y) p e f = record { later = e; first = f; both = refl }
apart (set_channel x) (set_channel y) p e f = absurd (false≢true (sym e))
apart (set_channel x) (set_subdir y) p e f = record { later = e; first = f; both = refl }
apart (set_channel x) (set_md5 y) p e f = record { later = e; first = f; both = refl }
apart (set_channel x) (set_sha256 y) p e f = record { later = e; first = f; both = refl }
apart (set_channel x) (set_file y) p e f = record { later = e; first = f; both = refl }
apart (set_subdir x) (set_version y) p e f = record { later = e; first = f; both = refl }
apart (set_subdir x) (set_build y) p e f = record { later = e; first = f; both = refl }
apart (set_subdir x) (set_build_number y) p e f = record { later = e; first = f; both = refl }
apart (set_subdir x) (set_channel y) p e f = record { later = e; first = f; both = refl }
apart (set_subdir x) (set_subdir y) p e f = absurd (false≢true (sym e))
apart (set_subdir x) (set_md5 y) p e f = record { later = e; first = f; both = refl }
apart (set_subdir x) (set_sha256 y) p e f = record { later = e; first = f; both = refl }
apart (set_subdir x) (set_file y) p e f = record { later = e; first = f; both = refl }
apart (set_md5 x) (set_version y) p e f = record { later = e; first = f; both = refl }
apart (set_md5 x) (set_build y) p e f = record { later = e; first = f; both = refl }
apart (set_md5 x) (set_build_number y) p e f = record { later = e; first = f; both = refl }
apart (set_md5 x) (set_channel y) p e f = record { later = e; first = f; both = refl }
apart (set_md5 x) (set_subdir y) p e f = record { later = e; first = f; both = refl }
apart (set_md5 x) (set_md5 y) p e f = absurd (false≢true (sym e))
apart (set_md5 x) (set_sha256 y) p e f = record { later = e; first = f; both = refl }
apart (set_md5 x) (set_file y) p e f = record { later = e; first = f; both = refl }
apart (set_sha256 x) (set_version y) p e f = record { later = e; first = f; both = refl }
apart (set_sha256 x) (set_build y) p e f = record { later = e; first = f; both = refl }
apart (set_sha256 x) (set_build_number y) p e f = record { later = e; first = f; both = refl }
apart (set_sha256 x) (set_channel y) p e f = record { later = e; first = f; both = refl }
apart (set_sha256 x) (set_subdir y) p e f = record { later = e; first = f; both = refl }
apart (set_sha256 x) (set_md5 y) p e f = record { later = e; first = f; both = refl }
apart (set_sha256 x) (set_sha256 y) p e f = absurd (false≢true (sym e))
apart (set_sha256 x) (set_file y) p e f = record { later = e; first = f; both = refl }
apart (set_file x) (set_version y) p e f = record { later = e; first = f; both = refl }
apart (set_file x) (set_build y) p e f = record { later = e; first = f; both = refl }
apart (set_file x) (set_build_number y) p e f = record { later = e; first = f; both = refl }
apart (set_file x) (set_channel y) p e f = record { later = e; first = f; both = refl }
apart (set_file x) (set_subdir y) p e f = record { later = e; first = f; both = refl }
apart (set_file x) (set_md5 y) p e f = record { later = e; first = f; both = refl }
apart (set_file x) (set_sha256 y) p e f = record { later = e; first = f; both = refl }
apart (set_file x) (set_file y) p e f = absurd (false≢true (sym e))

-- what a reading of a value changes, in any parts
record Gives (k : Key) (reads : Parts → Read Parts) (p q : Parts) : Type 0 where
  pub change : Change
  pub is_key : changed change ≡ k
  pub gives : q ≡ apply change p
  pub always : (r : Parts) → ◌≡◌ {A = Read Parts} (reads r) (Ok (apply change r))

-- parts with one more that was read
put-gives : {A : Type 0} (k : Key) (r : Read A) (change : A → Change) (p q : Parts) → ((x : A) → changed (change x) ≡ k)
    → (r >>= λ x. Ok (apply (change x) p)) ≡ Ok q → Gives k (λ s. r >>= λ x. Ok (apply (change x) s)) p q
put-gives k r change p q same e =
    let found = bind-ok r (λ x. Ok (apply (change x) p)) q e in
    record {
      change = change found.0;
      is_key = same found.0;
      gives = sym (same-ok (apply (change found.0) p) q found.2);
      always = λ s. λ i. found.1 i >>= λ x. Ok (apply (change x) s);
    }

-- a value of a key
value-gives : (k : Key) (v : Passage) (p q : Parts) → with_value k v p ≡ Ok q → Gives k (with_value k v) p q
unfolding with_value
value-gives key.version v p q e = put-gives key.version (constraint_or (fault.Value v.at) v.text) (λ x. set_version x) p q (λ x. refl) e
value-gives key.build v p q e = put-gives key.build (build_or (fault.Value v.at) v.text) (λ x. set_build x) p q (λ x. refl) e
value-gives key.build_number v p q e = put-gives key.build_number (or_fault (fault.Value v.at) (number_test v.text)) (λ x. set_build_number x) p q (λ x. refl) e
value-gives key.channel v p q e = put-gives key.channel (text_or (fault.Value v.at) v.text) (λ x. set_channel x) p q (λ x. refl) e
value-gives key.subdir v p q e = put-gives key.subdir (text_or (fault.Value v.at) v.text) (λ x. set_subdir x) p q (λ x. refl) e
value-gives key.md5 v p q e = put-gives key.md5 (digest_or 16 (fault.Value v.at) v.text) (λ x. set_md5 x) p q (λ x. refl) e
value-gives key.sha256 v p q e = put-gives key.sha256 (digest_or 32 (fault.Value v.at) v.text) (λ x. set_sha256 x) p q (λ x. refl) e
value-gives key.file v p q e = put-gives key.file (text_or (fault.Value v.at) v.text) (λ x. set_file x) p q (λ x. refl) e

-- a value that was cut out
cut-gives : (k : Key) (v : Value) (p q : Parts) → with_cut_value k v p ≡ Ok q → Gives k (with_cut_value k v) p q
cut-gives k (bare v) p q e = value-gives k (ended v) p q e
cut-gives k (quoted at v tail) p q e =
    let blank = where-so (is_nil (skip_blanks tail.text)) (fault.Value at) (with_value k v p) q e in
    let g = value-gives k v p q blank.1 in
    record {
      change = g.change;
      is_key = g.is_key;
      gives = g.gives;
      always = λ r. (λ i. if blank.0 i then with_value k v r else Err (fault.Value at)) ∙ g.always r;
    }
cut-gives k (unclosed at) p q e = cc e

-- a key that was new
new-found : (z : SpecFault) (o : Option Key) (p : Parts) (k : Key) → new_key z o p ≡ Ok k → (o ≡ Some k) × (has k p ≡ false)
new-found z None p k e = cc e
new-found z (Some j) p k e =
    let new = unless-so (has j p) z (Ok j) k e in
    let same = same-ok j k new.1 in
    (ap Some same, (λ i. has (sym same i) p) ∙ new.0)

-- what a part of a bracket changes, in any parts that lack its key
record Changes (reads : Parts → Read Parts) (p q : Parts) : Type 0 where
  pub change : Change
  pub new : has (changed change) p ≡ false
  pub gives : q ≡ apply change p
  pub always : (r : Parts) → has (changed change) r ≡ false → ◌≡◌ {A = Read Parts} (reads r) (Ok (apply change r))

-- a key with its value
pair-changes : (k : Passage) (v : Option Value) (p q : Parts) → with_pair k v p ≡ Ok q → Changes (with_pair k v) p q
pair-changes k None p q e = cc e
pair-changes k (Some v) p q e =
    let z : SpecFault = fault.Key k.at in
    let found = bind-ok (new_key z (key_of k.text) p) (λ x. with_cut_value x v p) q e in
    let new = new-found z (key_of k.text) p found.0 found.1 in
    let g = cut-gives found.0 v p q found.2 in
    record {
      change = g.change;
      new = (λ i. has (g.is_key i) p) ∙ new.1;
      gives = g.gives;
      always = λ r h. (λ i. new_key z (new.0 i) r >>= λ x. with_cut_value x v r)
          ∙ (λ i. (if (sym (λ j. has (g.is_key j) r) ∙ h) i then Err z else Ok found.0) >>= λ x. with_cut_value x v r)
          ∙ g.always r;
    }

-- a part of a bracket
entry-changes : (e : Entry) (p q : Parts) → with_entry e p ≡ Ok q → Changes (with_entry e) p q
unfolding with_entry
entry-changes e p q h = pair-changes (trimmed e.key) e.value p q h

-- two parts, one behind the other, and others behind them
two-swap : (a b : Entry) (after : List Entry) (p q : Parts) → with_entries (a ∷ b ∷ after) p ≡ Ok q → with_entries (b ∷ a ∷ after) p ≡ Ok q
two-swap a b after p q e =
    let first = bind-ok (with_entry a p) (λ m. with_entries (b ∷ after) m) q e in
    let second = bind-ok (with_entry b first.0) (λ m. with_entries after m) q first.2 in
    let c = entry-changes a p first.0 first.1 in
    let d = entry-changes b first.0 second.0 second.1 in
    let free = apart c.change d.change p ((λ i. has (changed d.change) (sym c.gives i)) ∙ d.new) c.new in
    let whole : apply c.change (apply d.change p) ≡ second.0 = free.both ∙ (λ i. apply d.change (sym c.gives i)) ∙ sym d.gives in
    (λ i. d.always p free.later i >>= λ m. with_entries (a ∷ after) m)
    ∙ (λ i. c.always (apply d.change p) free.first i >>= λ m. with_entries after m)
    ∙ (λ i. with_entries after (whole i))
    ∙ second.2

-- two parts anywhere
pub entries-swap : (before after : List Entry) (a b : Entry) (p q : Parts) → ◌≡◌ {A = Read Parts} (with_entries (before ++ (a ∷ b ∷ after)) p) (Ok q)
    → ◌≡◌ {A = Read Parts} (with_entries (before ++ (b ∷ a ∷ after)) p) (Ok q)
entries-swap [] after a b p q e = two-swap a b after p q e
entries-swap (x ∷ before) after a b p q e =
    let found = bind-ok (with_entry x p) (λ m. with_entries (before ++ (a ∷ b ∷ after)) m) q e in
    (λ i. found.1 i >>= λ m. with_entries (before ++ (b ∷ a ∷ after)) m) ∙ entries-swap before after a b found.0 q found.2
