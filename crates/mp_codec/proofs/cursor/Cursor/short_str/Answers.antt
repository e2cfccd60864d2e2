use Rattle.std.proofs.Common.{◌≡◌, sym, ◌∙◌, ap, subst, ℕ, ◌+◌, ◌≤◌, List, length, arith}
use Rattle.std.specs.Prelude.{Ok, slice_range}
use Rattle.gateway_words.specs.Places.{Position, behind}
use Rattle.mp_codec.specs.declared.head.Head.TheVariants as head
use Rattle.mp_codec.specs.Format.{head_at}
use Rattle.mp_codec.specs.Maps.{IsStr}
use Rattle.mp_codec.proofs.StrLemmas.{str_here}
use Rattle.mp_codec.proofs.cursor.Cursor.short_str.Goals as goal

pub returns-clause-exact : goal.returns-clause-exact
returns-clause-exact c =
    let here : Position = c.args.self.now in
    let bytes : List ℕ = c.in_ok-get.field-0.now in
    let n : ℕ = c.in_ok-len.len in
    let k : ℕ = c.in_ok-len.head in
    let got = c.in_ok-get.ensures.lookup.0 in
    let first : c.from.result ≡ k = c.from.ensures in
    let second : c.from-2.result ≡ n = c.from-2.ensures in
    let third : c.from-3.result ≡ k = c.from-3.ensures in
    let sum : k + n ≡ c.from.result + c.from-2.result = omega arith in
    let at : head_at here.left ≡ Ok (head.Str n, k) = ap head_at (sym c.rest-rest.ensures) ∙ c.in_ok-len.ensures in
    let below : c.from.result + c.from-2.result ≤ length c.rest-rest.result.now = got.1 in
    let rest : length c.rest-rest.result.now ≡ length here.left = ap length c.rest-rest.ensures in
    let are : bytes ≡ slice_range here.left k (k + n) =
    got.2 ∙ ap (λ (left : List ℕ). slice_range left c.from-3.result (c.from.result + c.from-2.result)) c.rest-rest.ensures
    ∙ ap (λ (m : ℕ). slice_range here.left m (c.from.result + c.from-2.result)) third ∙ ap (slice_range here.left k) (sym sum) in
    let size : length bytes + c.from-3.result ≡ c.from.result + c.from-2.result = got.3 in
    subst (λ (m : ℕ). IsStr bytes here (behind m here)) sum (str_here bytes n k here at (omega arith) are (omega arith))
