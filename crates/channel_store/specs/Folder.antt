-- How often the calls of a store on a folder failed.
use Rattle.std.specs.Prelude.{ℕ}
use Rattle.channel_store.specs.declared.folder.FolderStore.{FolderStore}

-- how many calls of a store on a folder failed
abbrev pub failed_calls : {R : Type 0} → FolderStore R → ℕ
failed_calls store = store.faults
