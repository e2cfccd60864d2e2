-- The loop over the files of a map: what is left to read, step by step.
use Rattle.std.proofs.Common.{◌≡◌, refl, sym, ◌∙◌, ap, ℕ, ◌+◌, ◌-◌, ◌<◌, ◌≤◌, Bool, true, false, cond, ◌||◌, List, [], ◌∷◌, ◌++◌}
use Rattle.std.specs.Prelude.{Ok, Err}
use Rattle.std.specs.Str.{bytes_eq}
use Rattle.std.proofs.lemmas.List.Folds.{list_any-append}
use Rattle.gateway_words.specs.Places.{Position}
use Rattle.gateway_words.specs.Reading.{◌>>=◌}
use Rattle.mp_codec.specs.declared.fault.FormatFault.{FormatFault}
use Rattle.mp_codec.specs.declared.fault.FaultKind.TheVariants as kind
use Rattle.mp_codec.specs.Fault.{fault_here}
use Rattle.mp_codec.specs.Maps.{Read, text_from}
use Rattle.mp_codec.proofs.BindLemmas.{bind_ok, bind_err}
use Rattle.mp_codec.proofs.EntryLemmas.{goes_on, key_stops, value_stops, is_done}
use Rattle.conda_record.specs.Record.{Fields}
use Rattle.conda_record.specs.Reading.{record_from}
use Rattle.shard_file.specs.Rows.{Row}
use Rattle.mp_codec.specs.Names.{new_name_from}
use Rattle.mp_codec.proofs.NameMapLemmas.{same_met}
use Rattle.shard_file.specs.Reading.{has_file, file_key_from, file_value_from, file_end_from, files_after}

-- a new name is the text that stands here
pub name_read : (met : List ℕ → Bool) (here there : Position) (name : List ℕ) → new_name_from met here ≡ Ok (name, there) → text_from here ≡ Ok (name, there)
unfolding new_name_from
name_read met here there name e = go (text_from here) e
  where
    pick : (b : Bool) (t : List ℕ × Position) → cond {A = Read (List ℕ)} b (Err (fault_here kind.Repeated here)) (Ok (t.0, t.1)) ≡ Ok (name, there) → ◌≡◌ {A = Read (List ℕ)} (Ok t) (Ok (name, there))
    pick true t e = absurd (cc)
    pick false t e = e

    go : (r : Read (List ℕ)) → (r >>= λ t. cond {A = Read (List ℕ)} (met t.0) (Err (fault_here kind.Repeated here)) (Ok (t.0, t.1))) ≡ Ok (name, there) → r ≡ Ok (name, there)
    go (Ok t) e = pick (met t.0) t e
    go (Err f) e = absurd (cc)

-- the row of a file
abbrev pub file_row : Bool → List ℕ → Fields → Row
file_row conda name fields = record { file = name; conda = conda; fields = fields }

module _ (conda : Bool) (met : List ℕ → Bool) (rows : List Row) (known : (q : List ℕ) → met q ≡ has_file q rows) where
  pub file_goes_on : (n i : ℕ) (name : List ℕ) (fields : Fields) (here mid there : Position) → i < n → new_name_from met here ≡ Ok (name, mid) → record_from mid ≡ Ok (fields, there)
      → files_after conda (n - i) rows here ≡ files_after conda (n - (i + 1)) (rows ++ file_row conda name fields ∷ []) there
  unfolding file_value_from
  file_goes_on n i name fields here mid there lt at_name at_record =
      goes_on file_key_from (file_value_from conda) file_end_from n i rows (rows ++ file_row conda name fields ∷ []) name here mid there lt
      (sym (same_met met (λ q. has_file q rows) here known) ∙ at_name)
      (bind_ok (record_from mid) (λ r. Ok (rows ++ file_row conda name r.0 ∷ [], r.1)) (fields, there) at_record)

  pub name_stops : (n i : ℕ) (f : FormatFault) (here : Position) → i < n → new_name_from met here ≡ Err f → files_after conda (n - i) rows here ≡ Err f
  name_stops n i f here lt at_name = key_stops file_key_from (file_value_from conda) file_end_from n i rows f here lt (sym (same_met met (λ q. has_file q rows) here known) ∙ at_name)

  pub record_stops : (n i : ℕ) (name : List ℕ) (f : FormatFault) (here mid : Position) → i < n → new_name_from met here ≡ Ok (name, mid) → record_from mid ≡ Err f
      → files_after conda (n - i) rows here ≡ Err f
  unfolding file_value_from
  record_stops n i name f here mid lt at_name at_record =
      value_stops file_key_from (file_value_from conda) file_end_from n i rows name f here mid lt
      (sym (same_met met (λ q. has_file q rows) here known) ∙ at_name)
      (bind_err (record_from mid) (λ r. Ok (rows ++ file_row conda name r.0 ∷ [], r.1)) f at_record)

pub files_done : (conda : Bool) (n i : ℕ) (rows : List Row) (here : Position) → n ≤ i → files_after conda (n - i) rows here ≡ Ok (rows, here)
files_done conda n i rows here le = is_done file_key_from (file_value_from conda) file_end_from n i rows here le

-- a name was met where it is that of the row that was added, or was met before
pub has_file_more : (rows : List Row) (row : Row) (met : Bool) (q : List ℕ) → met ≡ has_file q rows → (bytes_eq row.file q || met) ≡ has_file q (rows ++ row ∷ [])
has_file_more rows row met q e = ap (λ (b : Bool). bytes_eq row.file q || b) e ∙ swap (bytes_eq row.file q) (has_file q rows) ∙ sym (list_any-append (λ r. bytes_eq r.file q) rows (row ∷ []))
  where
    swap : (a b : Bool) → (a || b) ≡ (b || (a || false))
    swap true true = refl
    swap true false = refl
    swap false true = refl
    swap false false = refl
