use Rattle.std.proofs.Common.{◌≡◌, ◌∙◌, ◌<◌, ◌≤◌, true, List, [], length, slice_index_or, sym, subst, ap, refl}
use Rattle.std.specs.List.{list_all}
use Rattle.std.proofs.lemmas.List.{get_or_default}
use Rattle.link_io.specs.Address.{is_address_byte}
use Rattle.channel_url.specs.Addresses.{is_slashed, most_of_channel_base}
use Rattle.closure_request.specs.Request.{Site}
use Rattle.gateway_core.specs.Sound.{no_site}
use Rattle.flight_table.specs.Doors.{Gate}
use Rattle.gateway_core.specs.declared.world.World.{World}
use Rattle.gateway_core.proofs.SoundLemmas.{keeps_stays}
use Rattle.gateway_core.proofs.applying.refreshes.Goals as goal

pub returns-clause-keeps : goal.returns-clause-keeps
returns-clause-keeps g c =
    let v : World _ _ _ = record { table = c.refresh-given_up.new.self; door = c.refresh-given_up.new.door; channels = c.args.world.now.channels; subdirs = c.args.world.now.subdirs; places = c.args.world.now.places } in
    keeps_stays g.D.Link.Conn.facts g.D.Link.Conn.from c.args.world.now v c.requires c.refresh-given_up.ensures.stays (ap (λ (z : Gate). z.weight) c.refresh-given_up.ensures.door.0) c.refresh-given_up.ensures.door.2 refl refl refl

pub index_url-requires-clause-slashed : goal.index_url-requires-clause-slashed
index_url-requires-clause-slashed g c =
    let n : length c.args.world.now.channels.items ≡ c.len.result = sym c.args.world.now.channels.ok.0 ∙ sym c.len.ensures in
    let o : length c.args.world.now.subdirs.items ≡ c.len-else-channel-len.result = sym c.args.world.now.subdirs.ok.0 ∙ sym c.len-else-channel-len.ensures in
    let l : c.args.channel < length c.args.world.now.channels.items = subst (λ z. c.args.channel < z) (sym n) c.if-channel-len.false in
    let m : c.args.subdir < length c.args.world.now.subdirs.items = subst (λ z. c.args.subdir < z) (sym o) c.if-subdir-len.false in
    let f = c.requires.formed c.args.channel c.args.subdir l m in
    let e : c.behind-world.inside.base ≡ (slice_index_or c.args.world.now.channels.items c.args.channel no_site).base = ap (λ (z : Site). z.base) (c.behind-world.view_is ∙ c.index.ensures ∙ get_or_default c.args.world.now.channels.items c.args.channel c.index.result.now no_site l) in
    subst (λ z. is_slashed z ≡ true) (sym e) f.base.slashed

pub index_url-requires-clause-short : goal.index_url-requires-clause-short
index_url-requires-clause-short g c =
    let n : length c.args.world.now.channels.items ≡ c.len.result = sym c.args.world.now.channels.ok.0 ∙ sym c.len.ensures in
    let o : length c.args.world.now.subdirs.items ≡ c.len-else-channel-len.result = sym c.args.world.now.subdirs.ok.0 ∙ sym c.len-else-channel-len.ensures in
    let l : c.args.channel < length c.args.world.now.channels.items = subst (λ z. c.args.channel < z) (sym n) c.if-channel-len.false in
    let m : c.args.subdir < length c.args.world.now.subdirs.items = subst (λ z. c.args.subdir < z) (sym o) c.if-subdir-len.false in
    let f = c.requires.formed c.args.channel c.args.subdir l m in
    let e : c.behind-world.inside.base ≡ (slice_index_or c.args.world.now.channels.items c.args.channel no_site).base = ap (λ (z : Site). z.base) (c.behind-world.view_is ∙ c.index.ensures ∙ get_or_default c.args.world.now.channels.items c.args.channel c.index.result.now no_site l) in
    subst (λ z. length z ≤ most_of_channel_base) (sym e) f.base.short

pub index_url-requires-clause-subdir : goal.index_url-requires-clause-subdir
index_url-requires-clause-subdir g c =
    let n : length c.args.world.now.channels.items ≡ c.len.result = sym c.args.world.now.channels.ok.0 ∙ sym c.len.ensures in
    let o : length c.args.world.now.subdirs.items ≡ c.len-else-channel-len.result = sym c.args.world.now.subdirs.ok.0 ∙ sym c.len-else-channel-len.ensures in
    let l : c.args.channel < length c.args.world.now.channels.items = subst (λ z. c.args.channel < z) (sym n) c.if-channel-len.false in
    let m : c.args.subdir < length c.args.world.now.subdirs.items = subst (λ z. c.args.subdir < z) (sym o) c.if-subdir-len.false in
    let f = c.requires.formed c.args.channel c.args.subdir l m in
    let e : c.as_str.result.now ≡ slice_index_or c.args.world.now.subdirs.items c.args.subdir [] = c.as_str.ensures ∙ c.index-2.ensures ∙ get_or_default c.args.world.now.subdirs.items c.args.subdir c.index-2.result.now [] m in
    subst (λ z. (length z ≤ 64) × (list_all is_address_byte z ≡ true)) (sym e) (f.short, f.allowed)
