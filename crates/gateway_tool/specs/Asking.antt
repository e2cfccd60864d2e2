-- What words of serve that were read ask for.
use Rattle.gateway_tool.specs.declared.serve_words.Asking.{Asking}
use Rattle.gateway_tool.specs.Serve.{Wanted}

-- what they ask for
abbrev pub wanted_in : Asking → Wanted
wanted_in asking = record { addr = asking.addr.now; connections = asking.connections }
