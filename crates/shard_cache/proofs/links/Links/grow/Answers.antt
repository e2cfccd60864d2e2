use Rattle.std.proofs.Common.{refl}
use Rattle.shard_cache.specs.Linked.{order_of}
use Rattle.shard_cache.proofs.LinkLemmas.{grown, shows}
use Rattle.shard_cache.proofs.links.Links.grow.Goals as goal

-- src/links.rt:114:5
pub returns-clause-sound : goal.returns-clause-sound
returns-clause-sound c = (shows _ _ (grown c.args.self.now _ _ c.requires.sound c.in_ok-push.ensures.items refl refl)).0

-- src/links.rt:114:5
pub returns-clause-order : goal.returns-clause-order
returns-clause-order c = (shows record { nodes = c.push.new.self; newest = c.args.self.now.newest; oldest = c.args.self.now.oldest } (order_of c.args.self.now) (grown c.args.self.now _ _ c.requires.sound c.in_ok-push.ensures.items refl refl)).1
