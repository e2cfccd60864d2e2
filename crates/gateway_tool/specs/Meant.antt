-- What a command that was read from words asks for.
use Rattle.std.specs.Prelude.{◌≡◌, true}
use Rattle.channel_store.specs.Names.{is_place}
use Rattle.gateway_tool.specs.declared.words.Command.{Command}
use Rattle.gateway_tool.specs.declared.words.Command.TheVariants as command
use Rattle.gateway_tool.specs.Command.{Task, Show, Index, Closure}

-- what the command asks for
abbrev pub meant : Command → Task
meant (command.Show spec) = Show spec
meant (command.Index place) = Index place.now
meant (command.Closure asked) = Closure asked

-- memory is taken for the words of what is asked
abbrev pub TakesMemory : Task → Type 0
TakesMemory (Show spec) = Unit
TakesMemory (Index place) = ⊥
TakesMemory (Closure asked) = Unit

-- the place of the command, if it has one, is one
abbrev pub HasPlace : Command → Type 0
HasPlace (command.Show spec) = Unit
HasPlace (command.Index place) = is_place place.now ≡ true
HasPlace (command.Closure asked) = Unit
