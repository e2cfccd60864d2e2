use Rattle.std.proofs.Common.{◌≡◌, length, map, None, Some}
use Rattle.std.specs.Prelude.{All, option_copied}
use Rattle.httparse.specs.Spans.{IsHeaderWithin, header_bytes}
use Rattle.http_head.specs.Framing.{found_in}
use Rattle.http_head.proofs.framing.framing_from.Given as goal

abbrev pub invariant-fields : goal.invariant-fields
invariant-fields l = record {
  within : All (IsHeaderWithin (length l.buf)) l.rest;
  same : found_in (Some (option_copied l.found)) (map (header_bytes l.buf) l.rest) ≡ found_in (Some None) (map (header_bytes l.buf) l.headers);
}

abbrev pub decreases-fields : goal.decreases-fields
decreases-fields l = length l.rest
