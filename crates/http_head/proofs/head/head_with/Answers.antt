use Rattle.std.proofs.Common.{◌∙◌, refl}
use Rattle.http_head.proofs.HeadLemmas.{found, headless}
use Rattle.http_head.proofs.head.head_with.Goals as goal

pub returns-in-Some : goal.returns-in-Some
returns-in-Some c = found c.args.received.now c.front_of-front.result.now c.head_in.new.headers c.in-Some.found _ c.front_of-front.ensures.value (c.head_in.ensures.room ∙ c.requires) c.in-Some.ensures.some refl refl c.framing_of.ensures

pub returns-in-None : goal.returns-in-None
returns-in-None c = headless c.args.received.now c.front_of-front.result.now c.front_of-front.ensures.value c.in-None.ensures.none
