use Rattle.std.proofs.Common.{◌∙◌, map}
use Rattle.httparse.specs.Spans.{header_bytes}
use Rattle.http_head.proofs.FramingLemmas.{by-fields}
use Rattle.http_head.proofs.framing.framing_of.Goals as goal

pub returns : goal.returns
returns c = c.framing_from.ensures ∙ by-fields (map (header_bytes c.args.buf.now) c.args.headers.now)
