-- What is read as a base is short and ends in `/`.
use Rattle.std.proofs.Common.{◌≡◌, ◌∙◌, ap, refl, ℕ, ◌-◌, ◌≤◌, Bool, true, false, cond, not, ◌==◌, List, [], ◌∷◌, ◌++◌, length, Result, Ok, Err, arith, length-append, nat_lt}
use Rattle.std.specs.Prelude.{slice_index, codes}
use Rattle.std.specs.Str.{bytes_eq}
use Rattle.std.proofs.Math.Seq.{get_or-append_seam}
use Rattle.std.proofs.lemmas.Bool.Decides.{nat_tests}
use Rattle.url.specs.Parts.{Parts, serialize}
use Rattle.gateway_words.specs.Ascii.{slash}
use Rattle.gateway_words.specs.Reading.{◌>>=◌}
use Rattle.link_io.specs.declared.address.UrlFault.{UrlFault}
use Rattle.link_io.specs.declared.address.UrlFault.TheVariants as fault
use Rattle.link_io.specs.Address.{is_address_form}
use Rattle.channel_url.specs.Addresses.{most_of_channel_base, most_of_shards_base, is_slashed, slashed, has_more, base_in, base_by, short_text, parts_or_fault, parts_of, joined}
use Rattle.channel_url.specs.Law.{IsBase, ChannelBasesAreBases, ShardsBasesAreBases}

-- a text with a `/` behind it ends in `/`
added : (text : List ℕ) → is_slashed (text ++ slash ∷ []) ≡ true
added text =
    let size : length (text ++ slash ∷ []) - 1 ≡ length text = omega (arith, length-append text (slash ∷ [])) in
    ap (λ (i : ℕ). slice_index (text ++ slash ∷ []) i == slash) size ∙ ap (λ (b : ℕ). b == slash) (get_or-append_seam text slash [] 0)

pub slashed-ends : (text : List ℕ) → is_slashed (slashed text) ≡ true
slashed-ends text = by (is_slashed text) refl
  where
    by : (b : Bool) → is_slashed text ≡ b → is_slashed (cond b text (text ++ slash ∷ [])) ≡ true
    by true is = is
    by false is = added text

-- a text that is read as a base
read-base : (most : ℕ) (text base : List ℕ) → is_slashed text ≡ true → base_in most text ≡ Ok base → IsBase most base
read-base most text base ends is = by (is_address_form text) (nat_lt most (length text)) refl is
  where
    by : (form long : Bool) → nat_lt most (length text) ≡ long
        → ◌≡◌ {A = Result (List ℕ) UrlFault} (cond (not form) (Err fault.Url) (cond long (Err fault.TooLong) (Ok text))) (Ok base) → IsBase most base
    by false long t e = absurd (cc)
    by true true t e = absurd (cc)
    by true false t e =
        let same : text ≡ base = cc in
        let short : length text ≤ most = grind (arith, nat_tests) in
        record { short = rw (← same) short; slashed = rw (← same) ends }

parts-base : (most : ℕ) (parts : Parts) (base : List ℕ) → base_by most parts ≡ Ok base → IsBase most base
parts-base most parts base is = by (bytes_eq parts.scheme (codes "http")) (has_more parts) is
  where
    by : (http more : Bool)
        → ◌≡◌ {A = Result (List ℕ) UrlFault} (cond (not http) (Err fault.Scheme) (cond more (Err fault.Url) (base_in most (slashed (serialize parts))))) (Ok base) → IsBase most base
    by false more e = absurd (cc)
    by true true e = absurd (cc)
    by true false e = read-base most (slashed (serialize parts)) base (slashed-ends (serialize parts)) e

-- what a reading gives behind another one holds, where it holds behind each value
through : {A B E Q : Type 0} → (r : Result A E) (f : A → Result B E) (y : B) → ((x : A) → f x ≡ Ok y → Q) → (r >>= f) ≡ Ok y → Q
through (Ok x) f y k e = k x e
through (Err w) f y k e = absurd (cc)

pub channel-bases : ChannelBasesAreBases
channel-bases text base is =
    through (short_text text) (λ text. parts_or_fault (parts_of text) >>= base_by most_of_channel_base) base
    (λ text e. through (parts_or_fault (parts_of text)) (base_by most_of_channel_base) base (λ parts e. parts-base most_of_channel_base parts base e) e) is

pub shards-bases : ShardsBasesAreBases
shards-bases index text base is =
    through (short_text text) (λ text. parts_or_fault (joined index text) >>= base_by most_of_shards_base) base
    (λ text e. through (parts_or_fault (joined index text)) (base_by most_of_shards_base) base (λ parts e. parts-base most_of_shards_base parts base e) e) is
