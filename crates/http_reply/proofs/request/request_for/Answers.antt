use Rattle.std.proofs.Common.{◌≡◌, ◌++◌, rules, codes}
use Rattle.link_io.specs.Address.{authority_of, path_of}
use Rattle.http_reply.proofs.RequestLemmas.{middle, last, pieces_are}
use Rattle.http_reply.proofs.request.request_for.Goals as goal

pub returns : goal.returns
returns c =
    let url = c.args.url.now in
    let first : c.extend_from_slice.new.self.items ≡ codes "GET " = search rules in
    let second : c.extend_from_slice-2.new.self.items ≡ c.extend_from_slice.new.self.items ++ path_of url = search rules in
    let third : c.extend_from_slice-3.new.self.items ≡ c.extend_from_slice-2.new.self.items ++ middle = c.in_ok-extend_from_slice-3.ensures.items in
    let fourth : c.extend_from_slice-4.new.self.items ≡ c.extend_from_slice-3.new.self.items ++ authority_of url = search rules in
    let fifth : c.extend_from_slice-5.new.self.items ≡ c.extend_from_slice-4.new.self.items ++ last = c.in_ok-extend_from_slice-5.ensures.items in
    pieces_are url _ _ _ _ _ first second third fourth fifth
