-- What is left of a query that was given up while it ran.
use Rattle.std.specs.Prelude.{ℕ, Bool}

-- its number, how many turns it did, and whether it had a parcel in hand
pub record Left : Type 0 where
  pub query : ℕ
  pub turns : ℕ
  pub has_parcel : Bool
