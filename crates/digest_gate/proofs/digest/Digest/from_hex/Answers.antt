use Rattle.std.proofs.Common.{◌≡◌, ◌∙◌, rules}
use Rattle.digest_gate.specs.Digest.{digest_in}
use Rattle.digest_gate.proofs.DigestLemmas.{IfSome-Spells, IsSome-digest_in, digest_in-Spells}
use Rattle.digest_gate.proofs.digest.Digest.from_hex.Goals as goal

pub returns-clause-found : goal.returns-clause-found
returns-clause-found c =
    let read : c.map.result ≡ digest_in c.args.text.now = search rules in
    IfSome-Spells c.args.text.now c.map.result read

pub returns-clause-only : goal.returns-clause-only
returns-clause-only c =
    let read : c.map.result ≡ digest_in c.args.text.now = search rules in
    λ d is h. read ∙ digest_in-Spells c.args.text.now d is h

pub returns-clause-exact : goal.returns-clause-exact
returns-clause-exact c =
    let read : c.map.result ≡ digest_in c.args.text.now = search rules in
    rw read (IsSome-digest_in c.args.text.now)
