use Rattle.std.proofs.Common.{◌∷◌, Some, refl, arith}
use Rattle.shard_cache.specs.Linked.{order_of, IsInOrder}
use Rattle.shard_cache.proofs.LinkLemmas.{put_in_front, shows}
use Rattle.shard_cache.proofs.links.Links.put_first.Goals as goal

-- the links as the call leaves them are in the new order
holds : (c : goal.After-self-1) → IsInOrder record { nodes = c.set_newer.new.self.nodes; newest = Some c.args.row; oldest = c.set_newer.new.self.oldest } ((c.args.row, c.args.size) ∷ order_of c.args.self.now)
holds c =
    (put_in_front c.args.self.now c.write.new.self c.set_newer.new.self c.args.row c.args.size (order_of c.args.self.now) c.requires.sound c.requires.unlisted (omega (arith, c.requires.room, c.args.self.now.nodes.ok)) c.write.ensures.node c.write.ensures.newest c.write.ensures.oldest c.set_newer.ensures.sets _ refl refl refl).0

-- src/links.rt:83:5
pub returns-clause-sound : goal.returns-clause-sound
returns-clause-sound c = (shows _ _ (holds c)).0

-- src/links.rt:83:5
pub returns-clause-order : goal.returns-clause-order
returns-clause-order c = (shows _ _ (holds c)).1
