-- What is fetched, and from where.
use Rattle.std.specs.Prelude.{◌≡◌, ⊤}
use Rattle.link_io.specs.declared.target.Key.{Key}
use Rattle.link_io.specs.declared.target.Key.TheVariants as key
use Rattle.link_io.specs.declared.target.Target.{Target}

-- a target is plain: its key is a shard's, or is the index key of its own address
abbrev pub IsPlain : Target → Type 0
IsPlain target = fits target.key
  where
    fits : Key → Type 0
    fits (key.Index url) = url ≡ target.url
    fits (key.Shard _) = ⊤
