use Rattle.std.proofs.Common.{refl, ◌∙◌, ap, sym, List, ℕ, map}
use Rattle.link_io.specs.Script.{reply_for}
use Rattle.link_io.proofs.script.ScriptDialDial.dial.Goals as goal

pub returns-clause-from : goal.returns-clause-from
returns-clause-from c = (
  refl,
  c.in_ok-copied_reply.ensures
      ∙ ap (λ (u : List ℕ). reply_for u (map (λ p. (p.0, p.1.items)) c.deref.result.now)) (c.as_str.ensures.value ∙ sym (ap (λ t. t.url) c.in_ok-copy.ensures))
      ∙ ap (λ rs. reply_for c.in_ok-copy.field-0.url (map (λ p. (p.0, p.1.items)) rs)) c.deref.ensures.value
      ∙ ap (λ v. reply_for c.in_ok-copy.field-0.url v.world) c.self.view_is,
)
