-- The fields of a head, one behind the other.
use Rattle.std.proofs.Common.{◌≡◌, ℕ, Bool, true, false, cond, not, ◌&&◌, ◌||◌, List, [], ◌∷◌, Option, Some, None, refl, sym, ◌∙◌, ap}
use Rattle.std.specs.List.{list_all, list_any}
use Rattle.std.specs.Str.{bytes_eq}
use Rattle.std.proofs.lemmas.Slice.Eq.{bytes_eq-Decides}
use Rattle.http_head.specs.declared.framing.Framing.{Framing}
use Rattle.http_head.specs.declared.framing.Framing.TheVariants as framing
use Rattle.http_head.specs.Framing.{Named, is_named, content_length, transfer_encoding, lengths_in, is_number, framing_by, framing_in, framing_of, found_in, framed, framing_from}
use Rattle.byte_text.specs.Decimal.{decimal_from}

-- the tests of the lengths, in one row
judged : (numbers same : Bool) (by : Framing) → Framing
judged numbers same by = cond (not numbers) framing.Bad (cond (not same) framing.Bad by)

not_numbers : (b c : Bool) (same : Bool) (by : Framing) → judged (b && (false && c)) same by ≡ framing.Bad
unfolding judged
not_numbers true c same by = refl
not_numbers false c same by = refl

not_same : (numbers : Bool) (c : Bool) (by : Framing) → judged numbers (false && c) by ≡ framing.Bad
unfolding judged
not_same true c by = refl
not_same false c by = refl

either : (any : Bool) (f : Framing) → f ≡ framing.Bad → framing.Bad ≡ cond any framing.Bad f
either true f bad = refl
either false f bad = sym bad

-- a second length that is no number
bad-number : (v w : List ℕ) (values : List (List ℕ)) → is_number w ≡ false → framing_in (v ∷ w ∷ values) ≡ framing.Bad
unfolding judged
bad-number v w values wrong =
    ap (λ (n : Bool). judged (is_number v && (n && list_all is_number values)) (bytes_eq v w && list_all (bytes_eq v) values) (framing_by (decimal_from 0 v))) wrong
    ∙ not_numbers (is_number v) (list_all is_number values) (bytes_eq v w && list_all (bytes_eq v) values) (framing_by (decimal_from 0 v))

-- a second length that is another text
other-number : (v w : List ℕ) (values : List (List ℕ)) → bytes_eq v w ≡ false → framing_in (v ∷ w ∷ values) ≡ framing.Bad
unfolding judged
other-number v w values wrong =
    ap (λ (s : Bool). judged (is_number v && (is_number w && list_all is_number values)) (s && list_all (bytes_eq v) values) (framing_by (decimal_from 0 v))) wrong
    ∙ not_same (is_number v && (is_number w && list_all is_number values)) (list_all (bytes_eq v) values) (framing_by (decimal_from 0 v))

-- a second length that is the same text
same-number : (v w : List ℕ) (values : List (List ℕ)) → is_number v ≡ true → bytes_eq v w ≡ true → framing_in (w ∷ values) ≡ framing_in (v ∷ w ∷ values)
unfolding judged
same-number v w values number same =
    let is : v ≡ w = (bytes_eq-Decides v w).0 same in
    ap (λ (u : List ℕ). judged (is_number w && list_all is_number values) (list_all (bytes_eq u) values) (framing_by (decimal_from 0 u))) (sym is)
    ∙ ap (λ (n : Bool). judged (n && (is_number w && list_all is_number values)) (list_all (bytes_eq v) values) (framing_by (decimal_from 0 v))) (sym number)
    ∙ ap (λ (s : Bool). judged (is_number v && (is_number w && list_all is_number values)) (s && list_all (bytes_eq v) values) (framing_by (decimal_from 0 v))) (sym same)

-- one field, behind a length that was found
one-field : (te cl number same any : Bool) (v w : List ℕ) (values : List (List ℕ)) (a b : Framing)
    → is_number v ≡ true → is_number w ≡ number → bytes_eq v w ≡ same
    → (number ≡ true → a ≡ cond any framing.Bad (framing_in (w ∷ values)))
    → b ≡ cond any framing.Bad (framing_in (v ∷ values))
    → cond te framing.Bad (cond cl (cond (number && same) a framing.Bad) b) ≡ cond (te || any) framing.Bad (framing_in (v ∷ cond cl (w ∷ values) values))
one-field true cl number same any v w values a b is_v is_w eq on past = refl
one-field false false number same any v w values a b is_v is_w eq on past = past
one-field false true true true any v w values a b is_v is_w eq on past = on refl ∙ ap (cond any framing.Bad) (same-number v w values is_v eq)
one-field false true true false any v w values a b is_v is_w eq on past = either any _ (other-number v w values eq)
one-field false true false same any v w values a b is_v is_w eq on past = either any _ (bad-number v w values is_w)

-- what the fields say behind the choice of one
spread : (te cl good : Bool) (a b : Option (Option (List ℕ))) (fields : List Named)
    → framed (found_in (cond te None (cond cl (cond good a None) b)) fields)
    ≡ cond te framing.Bad (cond cl (cond good (framed (found_in a fields)) framing.Bad) (framed (found_in b fields)))
spread true cl good a b fields = refl
spread false false good a b fields = refl
spread false true true a b fields = refl
spread false true false a b fields = refl

-- the fields behind a length that was found
behind-length : (v : List ℕ) (fields : List Named) → is_number v ≡ true
    → framing_from (Some v) fields ≡ cond (list_any (is_named transfer_encoding) fields) framing.Bad (framing_in (v ∷ lengths_in fields))
behind-length v [] number = ap (λ (n : Bool). cond (not (n && true)) framing.Bad (framing_by (decimal_from 0 v))) (sym number)
behind-length v (f ∷ fields) number =
    spread (is_named transfer_encoding f) (is_named content_length f) (is_number f.1 && bytes_eq v f.1) (Some (Some f.1)) (Some (Some v)) fields
    ∙ one-field (is_named transfer_encoding f) (is_named content_length f) (is_number f.1) (bytes_eq v f.1) (list_any (is_named transfer_encoding) fields) v f.1 (lengths_in fields)
    (framing_from (Some f.1) fields) (framing_from (Some v) fields) number refl refl (behind-length f.1 fields) (behind-length v fields number)

-- one field before any length
first-field : (te cl number any : Bool) (w : List ℕ) (values : List (List ℕ)) (a b : Framing)
    → is_number w ≡ number
    → (number ≡ true → a ≡ cond any framing.Bad (framing_in (w ∷ values)))
    → b ≡ cond any framing.Bad (framing_in values)
    → cond te framing.Bad (cond cl (cond (number && true) a framing.Bad) b) ≡ cond (te || any) framing.Bad (framing_in (cond cl (w ∷ values) values))
first-field true cl number any w values a b is_w on past = refl
first-field false false number any w values a b is_w on past = past
first-field false true true any w values a b is_w on past = on refl
first-field false true false any w values a b is_w on past =
    either any _ (ap (λ (n : Bool). cond (not (n && list_all is_number values)) framing.Bad (cond (not (list_all (bytes_eq w) values)) framing.Bad (framing_by (decimal_from 0 w)))) is_w)

-- field by field is what the fields say
pub by-fields : (fields : List Named) → framing_from None fields ≡ framing_of fields
by-fields [] = refl
by-fields (f ∷ fields) =
    spread (is_named transfer_encoding f) (is_named content_length f) (is_number f.1 && true) (Some (Some f.1)) (Some None) fields
    ∙ first-field (is_named transfer_encoding f) (is_named content_length f) (is_number f.1) (list_any (is_named transfer_encoding) fields) f.1 (lengths_in fields)
    (framing_from (Some f.1) fields) (framing_from None fields) refl (behind-length f.1 fields) (by-fields fields)
