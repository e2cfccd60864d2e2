use Rattle.std.proofs.Common.{◌∙◌, ap}
use Rattle.hyper.specs.Request.{head_of}
use Rattle.hyper.specs.Uri.{uri_path}
use Rattle.shard_service.proofs.ReplyLemmas.{called}
use Rattle.shard_service.proofs.service.AnsweringServiceRequestIncoming.call.Goals as goal

pub returns-clause-called : goal.returns-clause-called
returns-clause-called g c =
    called c.ok.result.0 c.respond.result (head_of c.args.req).method c.as_str.result.now (uri_path (head_of c.args.req).uri) c.path-path.result.now
    c.ok.ensures (c.as_str.ensures.value ∙ c.method-method.ensures) (c.path-path.ensures.value ∙ ap uri_path c.uri.ensures) c.respond.ensures
