-- The files of a store in memory, name by name.
use Rattle.std.proofs.Common.{◌≡◌, ℕ, Bool, true, false, not, cond, List, [], ◌∷◌, ◌++◌, map, Option, Some, None, Vec, ◌+◌, ◌<◌, length, get_or, drop, drop-cons, add-one, suc, refl, sym, ap, ◌∙◌}
use Rattle.std.specs.declared.alloc.Global.{Global}
use Rattle.std.specs.declared.string.String.{String}
use Rattle.std.specs.Option.{option_map}
use Rattle.std.specs.String.{string_bytes}
use Rattle.std.specs.List.{filter}
use Rattle.std.specs.Str.{bytes_eq}
use Rattle.std.specs.Ordering.{nat_cmp, is_eq, eq_by_cmp}
use Rattle.std.proofs.lemmas.Cmp.{nat_list_eq_equiv}
use Rattle.std.specs.Cmp.Lexicographic.{slice_cmp, nat_list_cmp_total}
use Rattle.std.specs.BTreeMap.{BTreeMap, get_by_text}
use Rattle.std.specs.FinMap.{find, get, insert, remove, get-from_entries, get-insert, get-remove, same_map, nat_cmp-IsAntisymmetric, slice_cmp-IsAntisymmetric}
use Rattle.std.specs.FinMap.Entries.{where_key, find-where_key}
use Rattle.std.specs.declared.cmp.Ordering.TheVariants.{Equal}
use Rattle.std.proofs.lemmas.Map.Text.{is_eq-slice_cmp}
use Rattle.channel_store.specs.Store.{Files}
use Rattle.channel_store.specs.Memory.{first_file, later_file, files_of}

-- the first, or the second where there is no first
abbrev pub or_else : Option (List ℕ) → Option (List ℕ) → Option (List ℕ)
or_else (Some x) later = Some x
or_else None later = later

abbrev pub bytes_of : Vec ℕ Global → List ℕ
bytes_of v = v.items

pub find-behind : (q : List ℕ) (xs ys : List (List ℕ × List ℕ))
    → find (slice_cmp nat_cmp) q (xs ++ ys) ≡ or_else (find (slice_cmp nat_cmp) q xs) (find (slice_cmp nat_cmp) q ys)
find-behind q [] ys = refl
find-behind q (x ∷ xs) ys =
    elim (eq_by_cmp (slice_cmp nat_cmp) q x.0)
    as (λ b. cond b (Some x.1) (find (slice_cmp nat_cmp) q (xs ++ ys)) ≡ or_else (cond b (Some x.1) (find (slice_cmp nat_cmp) q xs)) (find (slice_cmp nat_cmp) q ys))
    [ true ↦ refl | false ↦ find-behind q xs ys ]

pub find-later : (q : List ℕ) (m : BTreeMap (String Global) (Vec ℕ Global))
    → find (slice_cmp nat_cmp) q (map later_file m.entries) ≡ option_map bytes_of (get_by_text m q)
find-later q m = go m.entries
  where
    go : (es : List (String Global × Vec ℕ Global))
        → find (slice_cmp nat_cmp) q (map later_file es) ≡ option_map bytes_of (Rattle.std.specs.Map.lookup (λ k. is_eq (slice_cmp nat_cmp q (string_bytes k))) es)
    go [] = refl
    go (e ∷ es) =
        elim (is_eq (slice_cmp nat_cmp q (string_bytes e.0)))
        as (λ b. cond b (Some e.1.items) (find (slice_cmp nat_cmp) q (map later_file es)) ≡ option_map bytes_of (cond b (Some e.1) (Rattle.std.specs.Map.lookup (λ k. is_eq (slice_cmp nat_cmp q (string_bytes k))) es)))
        [ true ↦ refl | false ↦ go es ]

-- what stands under a name: the file that was put, or the first one that the store was made of
pub get-files : (m : BTreeMap (String Global) (Vec ℕ Global)) (first : List (List ℕ × Vec ℕ Global)) (q : List ℕ)
    → get (files_of m.entries first) q ≡ or_else (option_map bytes_of (get_by_text m q)) (find (slice_cmp nat_cmp) q (map first_file first))
get-files m first q =
    get-from_entries nat_list_cmp_total (map later_file m.entries ++ map first_file first) q
    ∙ find-behind q (map later_file m.entries) (map first_file first)
    ∙ ap (λ o. or_else o (find (slice_cmp nat_cmp) q (map first_file first))) (find-later q m)

same_files : (a b : Files) → ((q : List ℕ) → get a q ≡ get b q) → a ≡ b
same_files a b = same_map nat_list_cmp_total (slice_cmp-IsAntisymmetric nat_cmp-IsAntisymmetric) a b

-- the test of a name, either way round
tests_alike : (q name : List ℕ) → eq_by_cmp (slice_cmp nat_cmp) q name ≡ bytes_eq name q
tests_alike q name = is_eq-slice_cmp q name ∙ nat_list_eq_equiv.symm q name

put_by : (b : Bool) (old : Option (Vec ℕ Global)) (bytes : Vec ℕ Global) (rest : Option (List ℕ))
    → or_else (option_map bytes_of (cond b (Some bytes) old)) rest ≡ cond b (Some bytes.items) (or_else (option_map bytes_of old) rest)
put_by true old bytes rest = refl
put_by false old bytes rest = refl

-- a file that is put stands under its name, and the others as they did
pub files-put : (old new : BTreeMap (String Global) (Vec ℕ Global)) (first : List (List ℕ × Vec ℕ Global)) (name : List ℕ) (bytes : Vec ℕ Global)
    → ((q : List ℕ) → get_by_text new q ≡ cond (bytes_eq name q) (Some bytes) (get_by_text old q))
    → files_of new.entries first ≡ insert (files_of old.entries first) name bytes.items
files-put old new first name bytes changed = same_files _ _ (λ q.
    get-files new first q
    ∙ ap (λ o. or_else (option_map bytes_of o) (find (slice_cmp nat_cmp) q (map first_file first))) (changed q)
    ∙ put_by (bytes_eq name q) (get_by_text old q) bytes _
    ∙ ap (cond (bytes_eq name q) (Some bytes.items)) (sym (get-files old first q))
    ∙ ap (λ b. cond b (Some bytes.items) (get (files_of old.entries first) q)) (sym (tests_alike q name))
    ∙ sym (get-insert nat_list_cmp_total (files_of old.entries first) name bytes.items q))

-- the files of another name
abbrev pub is_other : List ℕ → List ℕ × Vec ℕ Global → Bool
is_other name file = not (bytes_eq file.0 name)

others_first : (name : List ℕ) (files : List (List ℕ × Vec ℕ Global))
    → map first_file (filter (is_other name) files) ≡ where_key (slice_cmp nat_cmp) (λ k. not (bytes_eq k name)) (map first_file files)
others_first name [] = refl
others_first name (f ∷ fs) =
    elim (bytes_eq f.0 name)
    as (λ b. map first_file (cond (not b) (f ∷ filter (is_other name) fs) (filter (is_other name) fs)) ≡ cond (not b) (first_file f ∷ where_key (slice_cmp nat_cmp) (λ k. not (bytes_eq k name)) (map first_file fs)) (where_key (slice_cmp nat_cmp) (λ k. not (bytes_eq k name)) (map first_file fs)))
    [ true ↦ others_first name fs | false ↦ ap (λ rest. first_file f ∷ rest) (others_first name fs) ]

tied_alike : (name q x : List ℕ) → slice_cmp nat_cmp q x ≡ Equal → not (bytes_eq x name) ≡ not (bytes_eq q name)
tied_alike name q x tied = ap (λ k. not (bytes_eq k name)) (sym (slice_cmp-IsAntisymmetric nat_cmp-IsAntisymmetric q x tied))

taken_by : (b : Bool) (later : Option (Vec ℕ Global)) (first : Option (List ℕ))
    → or_else (option_map bytes_of (cond b None later)) (cond (not b) first None) ≡ cond b None (or_else (option_map bytes_of later) first)
taken_by true later first = refl
taken_by false later first = refl

-- a file that is taken away stands nowhere, and the others as they did
pub files-removed : (old new : BTreeMap (String Global) (Vec ℕ Global)) (first left : List (List ℕ × Vec ℕ Global)) (name : List ℕ)
    → ((q : List ℕ) → get_by_text new q ≡ cond (bytes_eq name q) None (get_by_text old q))
    → left ≡ filter (is_other name) first
    → files_of new.entries left ≡ remove (files_of old.entries first) name
files-removed old new first left name changed kept = same_files _ _ (λ q.
    get-files new left q
    ∙ ap (λ o. or_else (option_map bytes_of o) (find (slice_cmp nat_cmp) q (map first_file left))) (changed q)
    ∙ ap (λ l. or_else (option_map bytes_of (cond (bytes_eq name q) None (get_by_text old q))) (find (slice_cmp nat_cmp) q (map first_file l))) kept
    ∙ ap (λ l. or_else (option_map bytes_of (cond (bytes_eq name q) None (get_by_text old q))) (find (slice_cmp nat_cmp) q l)) (others_first name first)
    ∙ ap (or_else (option_map bytes_of (cond (bytes_eq name q) None (get_by_text old q))))
    (find-where_key (slice_cmp nat_cmp) (λ k. not (bytes_eq k name)) q (tied_alike name q) (map first_file first))
    ∙ ap (λ b. or_else (option_map bytes_of (cond (bytes_eq name q) None (get_by_text old q))) (cond (not b) (find (slice_cmp nat_cmp) q (map first_file first)) None)) (nat_list_eq_equiv.symm q name)
    ∙ taken_by (bytes_eq name q) (get_by_text old q) _
    ∙ ap (cond (bytes_eq name q) None) (sym (get-files old first q))
    ∙ ap (λ b. cond b None (get (files_of old.entries first) q)) (sym (tests_alike q name))
    ∙ sym (get-remove nat_list_cmp_total (files_of old.entries first) name q))

-- the first of some files is the one of this name, or it stands among the others
pub find-at : (q : List ℕ) (files : List (List ℕ × Vec ℕ Global)) (i : ℕ) (file : List ℕ × Vec ℕ Global)
    → i < length files → file ≡ get_or files i file
    → find (slice_cmp nat_cmp) q (map first_file (drop i files)) ≡ cond (bytes_eq file.0 q) (Some file.1.items) (find (slice_cmp nat_cmp) q (map first_file (drop (i + 1) files)))
find-at q files i file within is =
    let here : drop i files ≡ file ∷ drop (i + 1) files = rw (add-one) (drop-cons files i file within ∙ ap (λ f. f ∷ drop (suc i) files) (sym is)) in
    ap (λ l. find (slice_cmp nat_cmp) q (map first_file l)) here
    ∙ ap (λ b. cond b (Some file.1.items) (find (slice_cmp nat_cmp) q (map first_file (drop (i + 1) files)))) (tests_alike q file.0)
