-- Runs, by computation, that fix in numbers and flags what could change together in a rule and in what the log tells of it.
use mathlib.Core.Path.{◌≡◌, refl}
use mathlib.Core.Bool.{true, false}
use mathlib.Core.List.{List, [], ◌∷◌, ◌++◌}
use Rattle.wire.specs.declared.Message.TheVariants as msg
use Rattle.state.specs.declared.Setup.{Setup}
use Rattle.state.specs.declared.Outcome.{Outcome}
use Rattle.state.specs.declared.Outcome.TheVariants as outcome
use Rattle.protocol.specs.Connection.{at}
use Rattle.protocol.specs.Judge.{done, served, message}
use Rattle.history.specs.Log.{Call, open_session, put, finish, grant, abort, ping, shutdown, lost, Entry, log, run}
use Rattle.runs.proofs.Played.{played, client, server, zeros, queue, starts, receives, turns, taken, took, refuses, breaks}

-- the call after these adds the entry
abbrev Adds : Setup → List Call → Entry → Type 0
Adds s calls e = log s queue (calls ++ (e.call ∷ [])) ≡ log s queue calls ++ (e ∷ [])

-- the outcome of session 5 after the calls
abbrev Becomes : Setup → List Call → Outcome → Type 0
Becomes s calls o = (at (run s queue calls).connection 5).outcome ≡ o

-- a client whose far header grants 256 has sent its open of 5
abbrev sent : List Call
sent =
    starts ∷ receives (0x4A ∷ 0x6D ∷ 0x75 ∷ 0x78 ∷ 0x01 ∷ 0x00 ∷ 0x01 ∷ 0x00 ∷ [])
    ∷ open_session 5
    ∷ turns
    ∷ []

-- a server has a client's open of 5
abbrev accepted : List Call
accepted =
    receives (0x4A ∷ 0x6D ∷ 0x75 ∷ 0x78 ∷ 0x01 ∷ 0x00 ∷ 0x08 ∷ 0x00 ∷ []) ∷ receives (0x90 ∷ 0x05 ∷ 0x00 ∷ 0x00 ∷ []) ∷ []

-- ---- fates

pub abort_may_be_retried : Becomes client (sent ++ (receives (0x20 ∷ 0x05 ∷ 0x00 ∷ 0x00 ∷ []) ∷ [])) outcome.MayRetry
unfolding played
abort_may_be_retried = refl

pub partial_must_not : Becomes client (sent ++ (receives (0x22 ∷ 0x05 ∷ 0x00 ∷ 0x00 ∷ []) ∷ [])) outcome.MustNotRetry
unfolding played
partial_must_not = refl

pub own_abort_must_not : Becomes client (sent ++ (abort 5 false (zeros 4) ∷ [])) outcome.MustNotRetry
unfolding played
own_abort_must_not = refl

-- a close flag, or a Close after eof, completes
pub close_flag_completes : Becomes client (sent ++ (receives (0x8C ∷ 0x05 ∷ 0x00 ∷ 0x00 ∷ []) ∷ [])) outcome.Complete
unfolding played
close_flag_completes = refl

pub close_completes : Becomes client (sent ++ (receives (0x84 ∷ 0x05 ∷ 0x00 ∷ 0x00 ∷ []) ∷ receives (0x30 ∷ 0x05 ∷ 0x00 ∷ 0x00 ∷ []) ∷ [])) outcome.Complete
unfolding played
close_completes = refl

-- ---- fates at the end of the connection

abbrev shutdown_received : List Call
shutdown_received = receives (0x02 ∷ 0x00 ∷ 0x00 ∷ 0x00 ∷ []) ∷ []

abbrev error_received : List Call
error_received = receives (0x08 ∷ 0x00 ∷ 0x00 ∷ 0x00 ∷ []) ∷ []

-- a message with a first byte that no message has
abbrev violation_found : List Call
violation_found = receives (0xFF ∷ 0x05 ∷ 0x00 ∷ 0x00 ∷ []) ∷ []

-- an open of 5 that is not sent
abbrev unsent : List Call
unsent = starts ∷ receives (0x4A ∷ 0x6D ∷ 0x75 ∷ 0x78 ∷ 0x01 ∷ 0x00 ∷ 0x01 ∷ 0x00 ∷ []) ∷ open_session 5 ∷ []

-- the server has announced its end
abbrev far_finished_lem : List Call
far_finished_lem = sent ++ (receives (0x84 ∷ 0x05 ∷ 0x00 ∷ 0x00 ∷ []) ∷ [])

-- we have announced ours
abbrev own_finished : List Call
own_finished = sent ++ (finish 5 ∷ turns ∷ [])

abbrev both_finished : List Call
both_finished = own_finished ++ (receives (0x84 ∷ 0x05 ∷ 0x00 ∷ 0x00 ∷ []) ∷ [])

-- the server has closed the session, and 5 is open again and unsent
abbrev again : List Call
again = own_finished ++ (receives (0x8C ∷ 0x05 ∷ 0x00 ∷ 0x00 ∷ []) ∷ open_session 5 ∷ [])

-- the server's end crosses our Abort
abbrev aborted : List Call
aborted = sent ++ (abort 5 false (zeros 4) ∷ receives (0x84 ∷ 0x05 ∷ 0x00 ∷ 0x00 ∷ []) ∷ [])

pub error_unsent : Becomes client (unsent ++ error_received) outcome.MayRetry
unfolding played
error_unsent = refl

pub error_sent : Becomes client (sent ++ error_received) outcome.MustNotRetry
unfolding played
error_sent = refl

pub error_own_finished : Becomes client (own_finished ++ error_received) outcome.MustNotRetry
unfolding played
error_own_finished = refl

pub error_far_finished : Becomes client (far_finished_lem ++ error_received) outcome.Complete
unfolding played
error_far_finished = refl

pub error_both_finished : Becomes client (both_finished ++ error_received) outcome.Complete
unfolding played
error_both_finished = refl

pub error_again : Becomes client (again ++ error_received) outcome.MayRetry
unfolding played
error_again = refl

pub error_aborted : Becomes client (aborted ++ error_received) outcome.MustNotRetry
unfolding played
error_aborted = refl

pub lost_unsent : Becomes client (unsent ++ (lost ∷ [])) outcome.MayRetry
unfolding played
lost_unsent = refl

pub lost_sent : Becomes client (sent ++ (lost ∷ [])) outcome.MustNotRetry
unfolding played
lost_sent = refl

pub lost_far_finished : Becomes client (far_finished_lem ++ (lost ∷ [])) outcome.MustNotRetry
unfolding played
lost_far_finished = refl

pub lost_both_finished : Becomes client (both_finished ++ (lost ∷ [])) outcome.MustNotRetry
unfolding played
lost_both_finished = refl

pub violation_unsent : Becomes client (unsent ++ violation_found) outcome.MayRetry
unfolding played
violation_unsent = refl

pub violation_far_finished : Becomes client (far_finished_lem ++ violation_found) outcome.MustNotRetry
unfolding played
violation_far_finished = refl

pub shutdown_unsent : Becomes client (unsent ++ shutdown_received) outcome.MayRetry
unfolding played
shutdown_unsent = refl

pub shutdown_sent : Becomes client (sent ++ shutdown_received) outcome.MayRetry
unfolding played
shutdown_sent = refl

pub shutdown_far_finished : Becomes client (far_finished_lem ++ shutdown_received) outcome.MayRetry
unfolding played
shutdown_far_finished = refl

pub shutdown_both_finished : Becomes client (both_finished ++ shutdown_received) outcome.MayRetry
unfolding played
shutdown_both_finished = refl

-- ---- pings

abbrev pinging : List Call
pinging = sent ++ (ping 1 (zeros 4) ∷ [])

pub second_ping : Adds client pinging (refuses (ping 2 (zeros 4)) 13)
unfolding played
second_ping = refl

pub ping_after_answer : Adds client (pinging ++ (receives (0x06 ∷ 0x00 ∷ 0x00 ∷ 0x01 ∷ []) ∷ [])) (taken (ping 2 (zeros 4)) done (0x04 ∷ 0x00 ∷ 0x00 ∷ 0x02 ∷ []))
unfolding played
ping_after_answer = refl

-- ---- checks in their order

pub shutdown_room_first : Adds client sent (refuses (shutdown (zeros 3)) 8)
unfolding played
shutdown_room_first = refl

pub shutdown_of_a_client : Adds client sent (refuses (shutdown (zeros 4)) 4)
unfolding played
shutdown_of_a_client = refl

pub grant_of_0 : Adds client sent (refuses (grant 5 0 (zeros 4)) 12)
unfolding played
grant_of_0 = refl

pub grant_of_65535 : Adds client sent (taken (grant 5 65_535 (zeros 4)) done (0x10 ∷ 0x05 ∷ 0xFF ∷ 0xFF ∷ []))
unfolding played
grant_of_65535 = refl

pub grant_of_65536 : Adds client sent (refuses (grant 5 65_536 (zeros 4)) 12)
unfolding played
grant_of_65536 = refl

pub number_127 : Adds client sent (taken (open_session 127) done [])
unfolding played
number_127 = refl

pub number_128 : Adds client sent (refuses (open_session 128) 3)
unfolding played
number_128 = refl

-- ---- what a turn sends

-- 255 bytes of 256 are spent, one is left
abbrev one_left : List Call
one_left = sent ++ (put 5 (zeros 255) ∷ turns ∷ put 5 (0x61 ∷ 0x62 ∷ []) ∷ [])

-- the last byte of the ration is sent, and then the number is not ready
pub last_byte_goes : Adds client one_left (taken turns (served 5) (0x80 ∷ 0x05 ∷ 0x00 ∷ 0x01 ∷ 0x61 ∷ []))
unfolding played
last_byte_goes = refl

pub then_none : Adds client (one_left ++ (turns ∷ [])) (refuses turns 9)
unfolding played
then_none = refl

-- 254 are spent, two are left of three that wait: both are sent
pub all_that_may_go : Adds client (sent ++ (put 5 (zeros 254) ∷ turns ∷ put 5 (0x61 ∷ 0x62 ∷ 0x63 ∷ []) ∷ [])) (taken turns (served 5) (0x80 ∷ 0x05 ∷ 0x00 ∷ 0x02 ∷ 0x61 ∷ 0x62 ∷ []))
unfolding played
all_that_may_go = refl

-- ---- what is received

-- an increment to our finished side is late
pub late_increment : Adds client (sent ++ (finish 5 ∷ turns ∷ [])) (took 4 (0x10 ∷ 0x05 ∷ 0x00 ∷ 0x01 ∷ []) (message (msg.IncrementRation 0 5 1) true) [])
unfolding played
late_increment = refl

-- a Close from a server that has not finished
pub close_too_early : Adds client sent (breaks (0x30 ∷ 0x05 ∷ 0x00 ∷ 0x00 ∷ []) 25 1)
unfolding played
close_too_early = refl

-- an Abort that our finished server gets is answered, with partial
pub abort_answered : Adds server (accepted ++ (finish 5 ∷ turns ∷ [])) (took 4 (0x20 ∷ 0x05 ∷ 0x00 ∷ 0x00 ∷ []) (message (msg.Abort false 5 0) false) (0x22 ∷ 0x05 ∷ 0x00 ∷ 0x00 ∷ []))
unfolding played
abort_answered = refl

-- an Acknowledgment from a client that has terminated the session
pub acknowledgment_after_the_end : Adds server (accepted ++ (receives (0x20 ∷ 0x05 ∷ 0x00 ∷ 0x00 ∷ []) ∷ [])) (breaks (0x40 ∷ 0x05 ∷ 0x00 ∷ 0x00 ∷ []) 25 1)
unfolding played
acknowledgment_after_the_end = refl

-- ---- what a client finds wrong, and where

-- a header whose reserved byte is 1; a Close whose last byte is 1; an Abort for a number that is not open; a PingAck with another cookie
pub client_bad_header : Adds client (starts ∷ []) (breaks (0x4A ∷ 0x6D ∷ 0x75 ∷ 0x78 ∷ 0x01 ∷ 0x00 ∷ 0x01 ∷ 0x01 ∷ []) 22 7)
unfolding played
client_bad_header = refl

pub client_reserved_bit : Adds client sent (breaks (0x30 ∷ 0x05 ∷ 0x00 ∷ 0x01 ∷ []) 21 3)
unfolding played
client_reserved_bit = refl

pub client_abort_of_idle : Adds client sent (breaks (0x20 ∷ 0x06 ∷ 0x00 ∷ 0x00 ∷ []) 25 1)
unfolding played
client_abort_of_idle = refl

pub client_other_cookie : Adds client pinging (breaks (0x06 ∷ 0x00 ∷ 0x00 ∷ 0x02 ∷ []) 28 2)
unfolding played
client_other_cookie = refl
