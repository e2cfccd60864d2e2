use Rattle.std.proofs.Common.{◌≡◌, sym}
use Rattle.std.specs.Prelude.{Ok}
use Rattle.gateway_words.specs.Places.{Position, behind}
use Rattle.mp_codec.specs.Maps.{text_from}
use Rattle.mp_codec.proofs.StrLemmas.{text_read, text_there}
use Rattle.mp_codec.proofs.SpanLemmas.{span_read}
use Rattle.mp_codec.proofs.cursor.Cursor.text_span.Goals as goal

pub returns : goal.returns
returns c =
    let here : Position = c.args.self.now in
    let there : Position = behind c.in-Some.len here in
    let read : text_from here ≡ Ok (c.in-Some.bytes.now, there) = text_read c.in-Some.bytes.now here there c.in-Some.ensures.exact (text_there c.in-Some.bytes.now c.utf8_text.result c.utf8_text.ensures (sym c.if-is_some.ensures)) in
    rw (c.span_before.ensures, c.pass.ensures) (span_read c.in-Some.bytes.now here there read)
