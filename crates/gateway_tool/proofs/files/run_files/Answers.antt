use Rattle.std.proofs.Common.{refl, rules}
use Rattle.gateway_tool.specs.Command.{command_of}
use Rattle.gateway_tool.specs.Outside.{outside}
use Rattle.gateway_tool.proofs.AnswerLemmas.{closure_answers}
use Rattle.gateway_tool.proofs.WordLemmas.{nothing_is_done, index_answers}
use Rattle.gateway_tool.proofs.files.run_files.Goals as goal

pub returns-in-Err-Memory-clause-answers : goal.returns-in-Err-Memory-clause-answers
returns-in-Err-Memory-clause-answers g c =
    let same = outside (g.I.Source.left c.args.input.now) (g.O.Sink.written c.args.out.now) (g.S.Store.files c.args.store.now)
    (g.I.Source.faults c.args.input.now) (g.O.Sink.faults c.args.out.now) (g.S.Store.faults c.args.store.now) in
    let done = nothing_is_done (command_of c.args.words.now) same (c.in-Err-Memory.ensures.memory (search rules)) in
    search rules

pub returns-in-Ok-Index-clause-answers : goal.returns-in-Ok-Index-clause-answers
returns-in-Ok-Index-clause-answers g c =
    index_answers c.args.words.now c.in-Ok-Index.place.now (g.I.Source.left c.args.input.now) (g.I.Source.faults c.args.input.now) c.index.result.0 c.index.result.1 _ _ refl refl refl refl
    (search rules) c.index.ensures.answers c.index.ensures.write_fault c.index.ensures.store_fault

pub returns-in-Ok-Closure-clause-answers : goal.returns-in-Ok-Closure-clause-answers
returns-in-Ok-Closure-clause-answers g c =
    closure_answers c.args.words.now c.in-Ok-Closure.asked c.closure.result.0 c.closure.result.1 _ _
    (search rules) c.closure.ensures.answers c.closure.ensures.read_fault c.closure.ensures.write_fault c.closure.ensures.store_fault c.closure.ensures.stops
