use Rattle.std.proofs.Common.{◌≡◌, Some, rules}
use Rattle.channel_indexer.specs.Store.{stored_fault}
use Rattle.gateway_tool.proofs.LeadLemmas.{bad-leads}
use Rattle.gateway_tool.proofs.index.index.Goals as goal

pub returns-in-Err-clause-answers : goal.returns-in-Err-clause-answers
returns-in-Err-clause-answers g c =
    let stored : stored_fault c.in-Err.fault ≡ Some c.in-Err.fault = search rules in
    let leads = bad-leads (g.S.Store.files c.args.store.now) c.args.place.now c.in-Err.fault stored c.in-Err.ensures.broken c.in-Err.ensures.only in
    search rules
