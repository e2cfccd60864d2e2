use Rattle.std.proofs.Common.{arith}
use Rattle.shard_cache.proofs.LinkLemmas.{at_row, row_within, unlinked, shows}
use Rattle.shard_cache.proofs.links.Links.unlink.Goals as goal

-- src/links.rt:76:20
pub index-node-requires : goal.index-node-requires
index-node-requires c = let within = row_within c.args.self.now c.args.row c.requires.sound c.requires.listed in omega (arith, within, c.args.self.now.nodes.ok)

-- src/links.rt:77:9
pub set_older-requires : goal.set_older-requires
set_older-requires c x is =
    let at = at_row c.args.self.now c.args.row c.index-node.result.now c.requires.sound c.requires.listed c.index-node.ensures in
    let within = at.newer_within x is in omega (arith, within, c.args.self.now.nodes.ok)

-- src/links.rt:78:9
pub set_newer-requires : goal.set_newer-requires
set_newer-requires c x is =
    let at = at_row c.args.self.now c.args.row c.index-node.result.now c.requires.sound c.requires.listed c.index-node.ensures in
    let within = at.older_within x is in omega (arith, within, c.set_older.ensures.rows, c.args.self.now.nodes.ok)

-- src/links.rt:69:5
pub returns-clause-sound : goal.returns-clause-sound
returns-clause-sound c =
    let at = at_row c.args.self.now c.args.row c.index-node.result.now c.requires.sound c.requires.listed c.index-node.ensures in
    (shows _ _ (unlinked c.args.self.now c.set_older.new.self c.set_newer.new.self c.args.row c.index-node.result.now c.requires.sound at c.set_older.ensures.sets c.set_newer.ensures.sets).0).0

-- src/links.rt:69:5
pub returns-clause-order : goal.returns-clause-order
returns-clause-order c =
    let at = at_row c.args.self.now c.args.row c.index-node.result.now c.requires.sound c.requires.listed c.index-node.ensures in
    (shows _ _ (unlinked c.args.self.now c.set_older.new.self c.set_newer.new.self c.args.row c.index-node.result.now c.requires.sound at c.set_older.ensures.sets c.set_newer.ensures.sets).0).1

-- src/links.rt:69:5
pub returns-clause-size : goal.returns-clause-size
returns-clause-size c =
    let at = at_row c.args.self.now c.args.row c.index-node.result.now c.requires.sound c.requires.listed c.index-node.ensures in
    (unlinked c.args.self.now c.set_older.new.self c.set_newer.new.self c.args.row c.index-node.result.now c.requires.sound at c.set_older.ensures.sets c.set_newer.ensures.sets).2
