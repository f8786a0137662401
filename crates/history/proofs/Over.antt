-- What makes a connection over, as its account tells it, is what ends it, as the fates tell it: for every call and answer.
use mathlib.Core.Path.{◌≡◌, refl}
use mathlib.Core.Bool.{Bool, true, false, ◌||◌}
use Rattle.laws.specs.Result.{Result, ok, refused, violation}
use Rattle.protocol.specs.Message.{no_operation_of, shutdown_of, error_of, ping_of, ping_ack_of, Scope, whole, of_session, scope}
use Rattle.protocol.specs.Judge.{Report, done, served, header_received, message}
use Rattle.protocol.specs.Fate.{Ended, not_ended, by_shutdown, by_error, by_own_shutdown, by_lost_line}
use Rattle.history.specs.Log.{Call, start, open_session, put, finish, turn, grant, abort, close, ping, shutdown, lost, receive}
use Rattle.history.specs.Meaning.{Line, meaning}
use Rattle.history.specs.Account.{line_by_message, line_by_answer}
use Rattle.history.specs.Fates.{ended_by_message, end_told}

abbrev is_ended : Ended → Bool
is_ended not_ended = false
is_ended by_shutdown = true
is_ended by_error = true
is_ended by_own_shutdown = true
is_ended by_lost_line = true

stays : (b : Bool) → b ≡ (b || false)
stays true = refl
stays false = refl

ends_it : (b : Bool) → true ≡ (b || true)
ends_it true = refl
ends_it false = refl

module _ (l : Line) where
  by_call : (k : Call) → ((meaning k).line l).over ≡ (l.over || is_ended (meaning k).ended)
  by_call (start room) = stays l.over
  by_call (open_session n) = stays l.over
  by_call (put n bytes) = stays l.over
  by_call (finish n) = stays l.over
  by_call (turn room) = stays l.over
  by_call (grant n amount room) = stays l.over
  by_call (abort n partial room) = stays l.over
  by_call (close n room) = stays l.over
  by_call (ping cookie room) = stays l.over
  by_call (shutdown room) = ends_it l.over
  by_call lost = ends_it l.over
  by_call (receive input room) = stays l.over

  by_message : (z : Scope) → (line_by_message l z).over ≡ (l.over || is_ended (ended_by_message z))
  by_message (whole no_operation_of) = stays l.over
  by_message (whole shutdown_of) = ends_it l.over
  by_message (whole error_of) = ends_it l.over
  by_message (whole (ping_of k)) = stays l.over
  by_message (whole (ping_ack_of k)) = stays l.over
  by_message (of_session i m) = stays l.over

  pub over_told : (k : Call) (a : Result Report) → (line_by_answer l k a).over ≡ (l.over || is_ended (end_told k a))
  over_told k (ok done) = by_call k
  over_told k (ok (served n)) = stays l.over
  over_told k (ok (header_received far)) = stays l.over
  over_told k (ok (message m late)) = by_message (scope m)
  over_told k (refused n) = stays l.over
  over_told k (violation f) = ends_it l.over
