-- What the making of shards and of an index gives.
use Rattle.std.specs.Prelude.{◌≡◌, ℕ, List, [], ◌∷◌, ◌++◌, map, Result, MatchResult, IfSome}
use Rattle.std.specs.List.{All}
use Rattle.channel_store.specs.Names.{subdir_of}
use Rattle.shard_file.specs.Rows.{ShardOf}
use Rattle.shard_file.specs.Writing.{shard_bytes}
use Rattle.shard_index.specs.Index.{Listed, IndexOf}
use Rattle.shard_index.specs.Writing.{index_bytes, contents_written}
use Rattle.channel_indexer.specs.declared.fault.IndexFault.{IndexFault}
use Rattle.channel_indexer.specs.declared.fault.IndexFault.TheVariants as fault
use Rattle.channel_indexer.specs.declared.fault.Large.TheVariants as large
use Rattle.channel_indexer.specs.declared.shards.Made.{Made}
use Rattle.channel_indexer.specs.declared.shards.Prepared.{Prepared}
use Rattle.channel_indexer.specs.Input.{fault_of}
use Rattle.channel_indexer.specs.Groups.{Group}
use Rattle.channel_indexer.specs.Puts.{Put}
use Rattle.channel_indexer.specs.Shards.{shard_put, listed_of, index_put, IsFit, HasFitIndex, IsFirstLong}

-- each shard is read as the rows of its group, and the index as the names of the groups
pub record HaveReadings (place : List ℕ) (groups : List Group) : Type 0 where
  pub shards : All (λ g. ShardOf (shard_bytes g.rows) g.rows) groups
  pub index : IndexOf (index_bytes (subdir_of place) (map listed_of groups)) (contents_written (subdir_of place) (map listed_of groups))

-- the shard of a group and its entry are those of the group, which is fit
pub record IsMade (place : List ℕ) (g : Group) (made : Made) : Type 0 where
  pub fit : IsFit g
  pub reading : ShardOf (shard_bytes g.rows) g.rows
  pub put : made.put ≡ shard_put place g
  pub row : made.row ≡ listed_of g

-- the shard of a group is too long
pub record IsLong (g : Group) (f : IndexFault) : Type 0 where
  pub fault : f ≡ fault.TooLong (large.Shard g.name)
  pub unfit : IsFit g → ⊥

-- what the making of one shard gave
abbrev pub MakesShard : List ℕ → Group → Result Made IndexFault → Type 0
MakesShard place g result = MatchResult result (IsMade place g) (λ e. IfSome (fault_of e) (IsLong g))

-- the index is too long
pub record IsLongIndex (place : List ℕ) (listed : List Listed) (f : IndexFault) : Type 0 where
  pub fault : f ≡ fault.TooLong large.Index
  pub unfit : HasFitIndex place listed → ⊥

-- the index is that of some names, and it is fit
pub record IsIndex (place : List ℕ) (listed : List Listed) (made : Put) : Type 0 where
  pub fit : HasFitIndex place listed
  pub reading : IndexOf (index_bytes (subdir_of place) listed) (contents_written (subdir_of place) listed)
  pub put : made ≡ index_put place listed

-- what the making of the index gave
abbrev pub MakesIndex : List ℕ → List Listed → Result Put IndexFault → Type 0
MakesIndex place listed result = MatchResult result (IsIndex place listed) (λ e. IfSome (fault_of e) (IsLongIndex place listed))

-- all shards and the index are made, and none is too long
pub record ArePrepared (place : List ℕ) (groups : List Group) (prepared : Prepared) : Type 0 where
  pub fit : All IsFit groups
  pub index_fit : HasFitIndex place (map listed_of groups)
  pub readings : HaveReadings place groups
  pub shards : prepared.shards.items ≡ map (shard_put place) groups
  pub index : prepared.index ≡ index_put place (map listed_of groups)

-- why the puts of some groups can't be made: the least name whose shard is too long, or else the index
abbrev pub AreTooLong : List ℕ → List Group → IndexFault → Type 0
AreTooLong place groups (fault.TooLong (large.Shard name)) = IsFirstLong groups name
AreTooLong place groups (fault.TooLong large.Index) = All IsFit groups × (HasFitIndex place (map listed_of groups) → ⊥)
AreTooLong place groups _ = ⊥

-- what the making of all gave
abbrev pub Prepares : List ℕ → List Group → Result Prepared IndexFault → Type 0
Prepares place groups result = MatchResult result (ArePrepared place groups) (λ e. IfSome (fault_of e) (AreTooLong place groups))

-- the puts that were prepared: the shards, and behind them the index
abbrev pub puts_of : Prepared → List Put
puts_of prepared = prepared.shards.items ++ prepared.index ∷ []
