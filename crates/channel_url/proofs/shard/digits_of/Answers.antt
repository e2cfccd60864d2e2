use Rattle.std.proofs.Common.{◌∙◌, ap, arith, length}
use Rattle.std.specs.List.{list_all}
use Rattle.std.proofs.lemmas.Result.{IfOk-weaker}
use Rattle.hex.proofs.HexLemmas.{length-encode_with}
use Rattle.hex.specs.Hex.{lower_digits}
use Rattle.link_io.specs.Address.{is_address_byte}
use Rattle.channel_url.proofs.DigitLemmas.{digits-fit}
use Rattle.channel_url.proofs.shard.digits_of.Goals as goal

pub returns-clause-size : goal.returns-clause-size
returns-clause-size c = IfOk-weaker c.encode.result _ _ (λ text is. ap length is ∙ length-encode_with lower_digits c.args.bytes.now) c.encode.ensures

pub returns-clause-fit : goal.returns-clause-fit
returns-clause-fit c =
    IfOk-weaker c.encode.result _ _ (λ text is. ap (list_all is_address_byte) is ∙ digits-fit c.args.bytes.now (λ i. omega (arith, c.type_inv.bytes i))) c.encode.ensures
