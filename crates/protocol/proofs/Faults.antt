-- The places at which a message that was read breaks a rule, in numbers and by the published tables.
use mathlib.Core.Path.{◌≡◌, refl}
use Rattle.laws.specs.Pick.{pick}
use Rattle.laws.specs.Result.{fault}
use Rattle.wire.specs.declared.Kind.TheVariants as kind
use Rattle.wire.specs.Layout.{length, cookie, increment, session_id, layout, item_place}
use Rattle.protocol.specs.Judge.{place_of, fault_of}

pub fault_25 : fault_of 25 ≡ fault 25 1
unfolding pick
fault_25 = refl

pub fault_26 : fault_of 26 ≡ fault 26 2
unfolding pick
fault_26 = refl

pub fault_27 : fault_of 27 ≡ fault 27 2
unfolding pick
fault_27 = refl

pub fault_28 : fault_of 28 ≡ fault 28 2
unfolding pick
fault_28 = refl

-- 25 is told at the session number, whichever type the message has
pub state_at_session : (place_of 25 ≡ item_place session_id (layout kind.IncrementRation)) × (place_of 25 ≡ item_place session_id (layout kind.Abort))
    × (place_of 25 ≡ item_place session_id (layout kind.Close)) × (place_of 25 ≡ item_place session_id (layout kind.Acknowledgment))
    × (place_of 25 ≡ item_place session_id (layout kind.Data))
unfolding pick item_place
state_at_session = (refl, refl, refl, refl, refl)

-- 26 at the length of a Data message, 27 at the increment, 28 at the cookie of a PingAck
pub data_at_length : place_of 26 ≡ item_place length (layout kind.Data)
unfolding pick item_place
data_at_length = refl

pub ration_at_increment : place_of 27 ≡ item_place increment (layout kind.IncrementRation)
unfolding pick item_place
ration_at_increment = refl

pub ping_at_cookie : place_of 28 ≡ item_place cookie (layout kind.PingAck)
unfolding pick item_place
ping_at_cookie = refl
