use Rattle.std.proofs.Common.{◌≡◌, sym, ◌∙◌, ap, true}
use Rattle.std.specs.Prelude.{◌&&◌}
use Rattle.std.specs.Ordering.{is_eq}
use Rattle.conda_version.specs.Version.{lists}
use Rattle.conda_version.specs.Order.{lists_begin, lists_cmp}
use Rattle.conda_version.proofs.StartLemmas.{index-eq, is-nil-length}
use Rattle.conda_version.proofs.VersionLemmas.{starts-local, starts-not, starts-plain}
use Rattle.conda_version.proofs.version.Version.starts_with.Goals as goal

pub returns-then-self-p : goal.returns-then-self-p
returns-then-self-p c = record { exact = sym (starts-not c.args.self c.args.p c.if-self-p.true) }

pub returns-then-is_empty : goal.returns-then-is_empty
returns-then-is_empty c =
    let none = is-nil-length c.args.p.local.now ∙ sym c.is_empty.ensures ∙ c.if-is_empty.true in
    record { exact = c.begins.ensures ∙ sym (starts-plain c.args.self c.args.p c.if-self-p.false none) }

pub returns-then-eq : goal.returns-then-eq
returns-then-eq c =
    let local = starts-local c.args.self c.args.p c.if-self-p.false (is-nil-length c.args.p.local.now ∙ sym c.is_empty.ensures ∙ c.if-is_empty.false) in
    let tie : is_eq (lists_cmp (lists c.args.self.main.now) (lists c.args.p.main.now)) ≡ true = ap is_eq (sym c.compare_parts.ensures) ∙ sym (index-eq c.compare_parts.result) ∙ sym c.eq.ensures ∙ c.if-eq.true in
    record { exact = c.begins-then-eq.ensures ∙ sym (local ∙ (λ i. tie i && lists_begin (lists c.args.self.local.now) (lists c.args.p.local.now))) }
