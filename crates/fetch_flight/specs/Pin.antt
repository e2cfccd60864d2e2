-- What is known of each value that a flight came to.
use Rattle.link_io.specs.Conn.{LinkFacts}
use Rattle.link_io.specs.Parcel.{IsParcel}
use Rattle.fetch_flight.specs.Made.{Pinned, Wrecked}
use Rattle.fetch_flight.specs.Pins.{IsPin}
use Rattle.fetch_flight.specs.Cause.{IsCause}

-- what is known of each pinned index
pub record IsPinOver {L : Type 0} (facts : L → LinkFacts) (made : Pinned L) : Type 0 where
  pub parcel : IsParcel facts made.parcel
  pub pin : IsPin made

-- what is known of each wreck
pub record IsWreckOver {L : Type 0} (facts : L → LinkFacts) (wreck : Wrecked L) : Type 0 where
  pub parcel : IsParcel facts wreck.parcel
  pub cause : IsCause wreck.parcel wreck.cause
