-- How many keys of a record are written, and whether it can be.
use Rattle.std.proofs.Common.{◌≡◌, refl, ◌∙◌, ap, ℕ, ◌+◌, ◌<◌, ◌^◌, Bool, true, false, ◌&&◌, List, [], ◌∷◌, get_or, arith}
use Rattle.std.specs.Prelude.{Option, Some, None, is_some, drop, nat_lt, length, IfSome}
use Rattle.std.specs.Bool.{Decides}
use Rattle.std.specs.List.{list_all}
use Rattle.std.proofs.lemmas.Bool.{ltb-true}
use Rattle.std.proofs.lemmas.List.Sums.{AllPass-from_list_all, list_all-from_AllPass}
use Rattle.std.specs.Option.{option_map}
use Rattle.mp_codec.specs.Writing.{uint_bytes, str_bytes, bin_bytes, value_count}
use Rattle.conda_record.specs.Writing.{texts_if_any, values_of, count_if, key_count, IsShort, AreShort, IsWritable, can_be_said, can_be_said_if, can_all_be_said, are_required_short, are_optional_short, are_texts_short, are_lists_short}
use Rattle.conda_record.specs.Record.{Fields}

both_true : (a b : Bool) → (a && b) ≡ true → (a ≡ true) × (b ≡ true)
both_true true b e = (refl, e)
both_true false b e = absurd (cc)

both : (a b : Bool) → a ≡ true → b ≡ true → (a && b) ≡ true
both a b e g = ap (λ (t : Bool). t && b) e ∙ g

counted : (v : Option (List ℕ)) (vs : List (Option (List ℕ))) → value_count (v ∷ vs) ≡ count_if (is_some v) + value_count vs
counted None vs = omega arith
counted (Some bytes) vs = omega arith

mapped : {X : Type 0} (f : X → List ℕ) (o : Option X) (vs : List (Option (List ℕ))) → value_count (option_map f o ∷ vs) ≡ count_if (is_some o) + value_count vs
mapped f None vs = omega arith
mapped f (Some x) vs = omega arith

any_texts : (texts : List (List ℕ)) (vs : List (Option (List ℕ))) → value_count (texts_if_any texts ∷ vs) ≡ count_if (nat_lt 0 (length texts)) + value_count vs
any_texts [] vs = omega arith
any_texts (t ∷ ts) vs = grind arith

-- the keys that a record has beyond the five
pub keys_counted : (f : Fields) → key_count f
    ≡ 5 + count_if (nat_lt 0 (length f.constrains)) + count_if (is_some f.subdir) + count_if (is_some f.md5) + count_if (is_some f.sha256)
    + count_if (is_some f.size) + count_if (is_some f.timestamp) + count_if (is_some f.license) + count_if (is_some f.noarch)
unfolding key_count
keys_counted f =
    let constrains = any_texts f.constrains (drop 6 (values_of f)) in
    let subdir = mapped str_bytes f.subdir (drop 7 (values_of f)) in
    let md5 = mapped bin_bytes f.md5 (drop 8 (values_of f)) in
    let sha256 = mapped bin_bytes f.sha256 (drop 9 (values_of f)) in
    let size = mapped uint_bytes f.size (drop 10 (values_of f)) in
    let timestamp = mapped uint_bytes f.timestamp (drop 11 (values_of f)) in
    let license = mapped str_bytes f.license (drop 12 (values_of f)) in
    let noarch = mapped str_bytes f.noarch [] in
    omega arith

-- ---- whether a record can be written

said : {X : Type 0} (xs : List X) → Decides (can_be_said xs) (IsShort xs)
said xs = (λ e. ltb-true (length xs) (2 ^ 32) e, λ lt. below lt)
  where
    below : length xs < 2 ^ 32 → can_be_said xs ≡ true
    below lt = grind arith

said_if : (o : Option (List ℕ)) → Decides (can_be_said_if o) (IfSome o IsShort)
said_if (Some text) = said text
said_if None = (λ e. tt, λ p. refl)

all_said : (texts : List (List ℕ)) → Decides (can_all_be_said texts) (AreShort texts)
all_said texts = (
  λ e. let b = both_true (can_be_said texts) (list_all can_be_said texts) e in
      record { many = (said texts).0 b.0; each = λ k d lt. (said (get_or texts k d)).0 (AllPass-from_list_all can_be_said texts b.1 k d lt) },
  λ p. both (can_be_said texts) (list_all can_be_said texts) ((said texts).1 p.many) (list_all-from_AllPass can_be_said texts (λ k d lt. (said (get_or texts k d)).1 (p.each k d lt))),
)

pub writable_decides : (f : Fields) → Decides (are_texts_short f && are_lists_short f) (IsWritable f)
writable_decides f = (
  λ e.
      let parts = both_true (are_texts_short f) (are_lists_short f) e in
      let texts = both_true (are_required_short f) (are_optional_short f) parts.0 in
      let lists = both_true (can_all_be_said f.depends) (can_all_be_said f.constrains) parts.1 in
      let a = both_true (can_be_said f.name) (can_be_said f.version && can_be_said f.build) texts.0 in
      let b = both_true (can_be_said f.version) (can_be_said f.build) a.1 in
      let c = both_true (can_be_said_if f.subdir) (can_be_said_if f.license && can_be_said_if f.noarch) texts.1 in
      let d = both_true (can_be_said_if f.license) (can_be_said_if f.noarch) c.1 in
      record {
        name_short = (said f.name).0 a.0;
        version_short = (said f.version).0 b.0;
        build_short = (said f.build).0 b.1;
        depends_short = (all_said f.depends).0 lists.0;
        constrains_short = (all_said f.constrains).0 lists.1;
        subdir_short = (said_if f.subdir).0 c.0;
        license_short = (said_if f.license).0 d.0;
        noarch_short = (said_if f.noarch).0 d.1;
      },
  λ p.
      both (are_texts_short f) (are_lists_short f)
      (both (are_required_short f) (are_optional_short f)
      (both (can_be_said f.name) (can_be_said f.version && can_be_said f.build) ((said f.name).1 p.name_short) (both (can_be_said f.version) (can_be_said f.build) ((said f.version).1 p.version_short) ((said f.build).1 p.build_short)))
      (both (can_be_said_if f.subdir) (can_be_said_if f.license && can_be_said_if f.noarch) ((said_if f.subdir).1 p.subdir_short) (both (can_be_said_if f.license) (can_be_said_if f.noarch) ((said_if f.license).1 p.license_short) ((said_if f.noarch).1 p.noarch_short))))
      (both (can_all_be_said f.depends) (can_all_be_said f.constrains) ((all_said f.depends).1 p.depends_short) ((all_said f.constrains).1 p.constrains_short)),
)
