use Rattle.std.proofs.Common.{◌≡◌, ◌∙◌, ◌==◌, ap, rules, drop, length, List, ℕ, Bor}
use Rattle.std.specs.List.{position_or_len}
use Rattle.gateway_words.specs.Ascii.{slash}
use Rattle.link_io.specs.Address.{before_slash, behind_scheme}
use Rattle.link_io.proofs.AddressLemmas.{behind_front}
use Rattle.link_io.proofs.address.HttpUrl.path.Goals as goal

pub returns : goal.returns
returns c =
    let place = c.behind_scheme-place.result.now in
    let front = rw c.before_slash.ensures at c.strip_prefix.ensures.cases in
    let text : c.as_str.result.now ≡ c.args.self.now = search rules in
    ap (λ (b : Bor (List ℕ)). b.now) c.unwrap_or.ensures
    ∙ behind_front place (position_or_len (λ b. b == slash) place) c.strip_prefix.result _ front
    ∙ ap (λ (t : List ℕ). drop (length (before_slash t)) t) (c.behind_scheme-place.ensures ∙ ap behind_scheme text)
