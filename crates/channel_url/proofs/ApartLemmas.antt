-- Addresses of indexes are apart.
use Rattle.std.proofs.Common.{◌≡◌, ◌∙◌, ap, sym, ℕ, suc, ◌-◌, Bool, true, false, not, ◌&&◌, ◌==◌, List, [], ◌∷◌, ◌++◌, length, arith}
use Rattle.std.specs.Prelude.{slice_index, codes}
use Rattle.std.proofs.lemmas.List.{append_cancel_right}
use Rattle.std.proofs.lemmas.List.Folds.{list_all-append, list_all_at}
use Rattle.gateway_words.specs.Ascii.{slash}
use Rattle.channel_url.specs.Addresses.{is_slashed}
use Rattle.channel_url.specs.Law.{has_no_slash, IndexesAreApart}

-- a text that ends in `/` has one
has-slash : (b : ℕ) (text : List ℕ) → is_slashed (b ∷ text) ≡ true → has_no_slash (b ∷ text) ≡ false
has-slash b text ends =
    let last : not (slice_index (b ∷ text) (length (b ∷ text) - 1) == slash) ≡ false = ap not ends in
    list_all_at (λ c. not (c == slash)) (b ∷ text) (length (b ∷ text) - 1) 0 (omega arith) last

-- so it is no front of a text without one
no-front : (b : ℕ) (text rest : List ℕ) → is_slashed (b ∷ text) ≡ true → has_no_slash (b ∷ text ++ rest) ≡ true → ⊥
no-front b text rest ends none =
    let parts : has_no_slash (b ∷ text ++ rest) ≡ (has_no_slash (b ∷ text) && has_no_slash rest) = list_all-append (λ c. not (c == slash)) (b ∷ text) rest in
    let one : has_no_slash (b ∷ text) ≡ false = has-slash b text ends in
    let no : has_no_slash (b ∷ text ++ rest) ≡ false = parts ∙ ap (λ (x : Bool). x && has_no_slash rest) one in
    cc

-- the end of a text is that of its tail
tail-ends : (a c : ℕ) (text : List ℕ) → is_slashed (a ∷ c ∷ text) ≡ is_slashed (c ∷ text)
tail-ends a c text =
    let size : length (a ∷ c ∷ text) - 1 ≡ suc (length (c ∷ text) - 1) = omega arith in
    ap (λ (i : ℕ). slice_index (a ∷ c ∷ text) i == slash) size

-- two texts in front of two names
pub apart : (a b s t : List ℕ) → is_slashed a ≡ true → is_slashed b ≡ true → has_no_slash s ≡ true → has_no_slash t ≡ true
    → a ++ s ≡ b ++ t → (a ≡ b) × (s ≡ t)
apart [] b s t p q n m e = absurd (cc)
apart (x ∷ a) [] s t p q n m e = absurd (cc)
apart (x ∷ []) (y ∷ []) s t p q n m e = (let same : x ≡ y = cc in ap (λ (z : ℕ). z ∷ []) same, cc)
apart (x ∷ []) (y ∷ c ∷ b) s t p q n m e =
    let tail : s ≡ c ∷ b ++ t = cc in
    absurd (no-front c b t (sym (tail-ends y c b) ∙ q) (ap has_no_slash (sym tail) ∙ n))
apart (x ∷ d ∷ a) (y ∷ []) s t p q n m e =
    let tail : d ∷ a ++ s ≡ t = cc in
    absurd (no-front d a s (sym (tail-ends x d a) ∙ p) (ap has_no_slash tail ∙ m))
apart (x ∷ d ∷ a) (y ∷ c ∷ b) s t p q n m e =
    let head : x ≡ y = cc in
    let tail : d ∷ a ++ s ≡ c ∷ b ++ t = cc in
    let rest = apart (d ∷ a) (c ∷ b) s t (sym (tail-ends x d a) ∙ p) (sym (tail-ends y c b) ∙ q) n m tail in
    (ap (λ (z : ℕ). z ∷ d ∷ a) head ∙ ap (λ (l : List ℕ). y ∷ l) rest.0, rest.1)

pub indexes-apart : IndexesAreApart
indexes-apart a b s t p q n m e =
    apart a b s t p q n m (append_cancel_right (a ++ s) (b ++ t) (codes "/repodata_shards.msgpack") e)
