-- What each call decides. The order of the checks is 14, 2, 1, 8, 3, 4, 5, 12, then 6, 7, 13, 9, 10.
use Rattle.std.specs.Prelude.{ℕ, Bool, true, false, not, List, [], ◌∷◌, eqb, ltb, leb, Option, Some, None}
use Rattle.laws.specs.Result.{Result, ok, refused, violation}
use Rattle.laws.specs.Circle.{nearest}
use Rattle.wire.specs.declared.Role.{Role}
use Rattle.wire.specs.declared.Role.TheVariants as role
use Rattle.wire.specs.declared.Message.{Message}
use Rattle.wire.specs.declared.Message.TheVariants as msg
use Rattle.wire.specs.Message.{is_client, is_server, read_message}
use Rattle.wire.specs.Connection.{read_connection_header}
use Rattle.state.specs.declared.Stage.{Stage}
use Rattle.state.specs.declared.Stage.TheVariants as stage
use Rattle.state.specs.declared.Connection.{Connection}
use Rattle.protocol.specs.Slot.{queue_size, turn_room}
use Rattle.protocol.specs.Plan.{Plan, check, take, settle, and_then}
use Rattle.protocol.specs.Receipt.{Taken}
use Rattle.protocol.specs.Ask.{open_ask, put_ask, finish_ask, grant_ask, abort_ask, close_ask, turn_ask, ready_session}
use Rattle.protocol.specs.Connection.{own_shutdown, line_lost, at, other_end, role_of, exchanged, own_start, far_start, well_formed}
use Rattle.protocol.specs.Judge.{done, served, header_received, Output, header_out, sent, Effect, Decision, refuse, accept, setting_stage, setting_ping, setting_session, ends_by, breach, judge}

-- ---- the checks that calls share

-- 14 for a state that is not well formed, 2 for a connection that is over
abbrev pub running : {A : Type 0} → Connection → Plan A → Plan A
running c rest = check (not (well_formed c)) 14 (check c.over 2 rest)

-- 1 if the headers are not yet exchanged
abbrev pub up_and_running : {A : Type 0} → Connection → Plan A → Plan A
up_and_running c rest = running c (check (not (exchanged c.stage)) 1 rest)

-- 8 for less room than is needed, or a queue of another size
abbrev pub room_for : {A : Type 0} → ℕ → ℕ → Plan A → Plan A
room_for asked room rest = check (ltb room asked) 8 rest

abbrev pub queue_of : {A : Type 0} → ℕ → Plan A → Plan A
queue_of queue rest = check (not (eqb queue queue_size)) 8 rest

-- 3 for a number above 127
abbrev pub number_in : {A : Type 0} → ℕ → Plan A → Plan A
number_in n rest = check (leb 128 n) 3 rest

-- what is asked of one session
abbrev pub asking : Connection → ℕ → Plan Taken → Plan Effect
asking c n p = and_then (setting_session c n c.last done) p

-- ---- the local calls

abbrev pub is_fresh : Stage → Bool
is_fresh (stage.Fresh r) = true
is_fresh stage.Started = false
is_fresh (stage.Up r far) = false

-- for a client; 5 for a second start; writes our header
unfoldable pub start_rule : Connection → ℕ → Plan Effect
start_rule c room =
    running c
    (room_for 8 room
    (check (is_server (role_of c.stage)) 4
    (check (not (is_fresh c.stage)) 5 (take (setting_stage c stage.Started done (header_out c.own ∷ []))))))

unfoldable pub open_rule : Connection → ℕ → Plan Effect
open_rule c n = up_and_running c (number_in n (asking c n (open_ask (role_of c.stage) (at c n))))

unfoldable pub put_rule : Connection → ℕ → ℕ → ℕ → Plan Effect
put_rule c n bytes queue = up_and_running c (queue_of queue (number_in n (asking c n (put_ask (at c n) bytes))))

unfoldable pub finish_rule : Connection → ℕ → Plan Effect
finish_rule c n = up_and_running c (number_in n (asking c n (finish_ask (at c n))))

-- the first ready number after the last one served by a turn, going round
abbrev pub next_ready : Connection → ℕ
next_ready c = nearest (λ n. ready_session (at c n)) c.last

abbrev pub serving : Connection → ℕ → Plan Effect
serving c n = and_then (setting_session c n n (served n)) (turn_ask (own_start c) (far_start c) (at c n))

unfoldable pub turn_rule : Connection → ℕ → ℕ → Plan Effect
turn_rule c queue room = up_and_running c (room_for turn_room room (queue_of queue (serving c (next_ready c))))

unfoldable pub grant_rule : Connection → ℕ → ℕ → ℕ → Plan Effect
grant_rule c n amount room = up_and_running c (room_for 4 room (number_in n (asking c n (grant_ask (at c n) amount))))

unfoldable pub abort_rule : Connection → ℕ → Bool → ℕ → Plan Effect
abort_rule c n partial room =
    up_and_running c (room_for 4 room (number_in n (asking c n (abort_ask (role_of c.stage) (at c n) partial))))

unfoldable pub close_rule : Connection → ℕ → ℕ → Plan Effect
close_rule c n room = up_and_running c (room_for 4 room (number_in n (asking c n (close_ask (role_of c.stage) (at c n)))))

abbrev pub is_outstanding : Option ℕ → Bool
is_outstanding None = false
is_outstanding (Some k) = true

-- one ping may be outstanding
unfoldable pub ping_rule : Connection → ℕ → ℕ → Plan Effect
ping_rule c cookie room =
    up_and_running c
    (room_for 4 room
    (check (is_outstanding c.ping) 13 (take (setting_ping c (Some cookie) done (sent (msg.Ping cookie) ∷ [])))))

-- for a server
unfoldable pub shutdown_rule : Connection → ℕ → Plan Effect
shutdown_rule c room =
    up_and_running c
    (room_for 4 room (check (is_client (role_of c.stage)) 4 (take (ends_by c own_shutdown done (sent (msg.Shutdown 0) ∷ [])))))

unfoldable pub lost_rule : Connection → Plan Effect
lost_rule c = running c (take (ends_by c line_lost done []))

-- ---- receive

-- the reply to a good header: a server writes its own
abbrev pub answering : Role → ℕ → List Output
answering role.Client own = []
answering role.Server own = header_out own ∷ []

abbrev pub header_taken : Connection → Role → Result ℕ → Decision
header_taken c r (ok far) = accept (setting_stage c (stage.Up r far) (header_received far) (answering r c.own))
header_taken c r (refused n) = refuse n
header_taken c r (violation f) = breach c f

abbrev pub message_taken : Connection → Result Message → Decision
message_taken c (ok m) = judge c m
message_taken c (refused n) = refuse n
message_taken c (violation f) = breach c f

-- a connection header first, then messages from the other end
abbrev pub reading : Connection → List ℕ → Stage → Decision
reading c input (stage.Fresh r) = header_taken c r (read_connection_header input)
reading c input stage.Started = header_taken c role.Client (read_connection_header input)
reading c input (stage.Up r far) = message_taken c (read_message (other_end r) input)

-- 1 for a client that is not started
abbrev pub unstarted : Stage → Bool
unstarted (stage.Fresh r) = is_client r
unstarted stage.Started = false
unstarted (stage.Up r far) = false

abbrev pub receive_gate : Connection → ℕ → Plan Unit
receive_gate c room = running c (check (unstarted c.stage) 1 (room_for 12 room (take tt)))

unfoldable pub receive_rule : Connection → List ℕ → ℕ → Decision
receive_rule c input room = settle refuse (λ go. reading c input c.stage) (receive_gate c room)
