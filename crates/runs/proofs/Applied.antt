-- Claims applied to one step or one run: what each of their parts gives there, in numbers. A part that is taken out of a claim is missed here.
use mathlib.Core.Path.{◌≡◌, refl, ap}
use mathlib.Core.Bool.{true, false, true≢false}
use mathlib.Core.List.{List, [], ◌∷◌, ◌++◌}
use Prim.Native.Nat.{ℕ, ◌≤◌, ◌<◌, ◌+◌}
use native.Mathlib.Omega.{arith}
use lib.ListN.{length, drop}
use Rattle.laws.specs.Result.{fault, refused}
use Rattle.ration.specs.declared.Ration.TheVariants as ration
use Rattle.state.specs.declared.Side.TheVariants as side
use Rattle.protocol.specs.Connection.{at, well_formed}
use Rattle.protocol.specs.Queue.{slot}
use Rattle.protocol.specs.Slot.{turn_room}
use Rattle.protocol.specs.Fate.{fate_of, must_not_be_retried}
use Rattle.protocol.specs.Judge.{served}
use Rattle.protocol.specs.Observed.{sending}
use Rattle.history.specs.Log.{Call, open_session, put, finish, turn, ping, lost, receive, State, Entry, next, out, called, log, run, Proper}
use Rattle.history.specs.Held.{account_of}
use Rattle.history.specs.Account.{Account}
use Rattle.history.specs.Sums.{summed}
use Rattle.history.specs.Faults.{ReceiveFault}
use Rattle.history.specs.Claims.{OnlyOver, RestZero}
use Rattle.history.proofs.Leaves.{refused_leaves}
use Rattle.history.proofs.Ends.{over_leaves}
use Rattle.history.proofs.Never.{refuses_14}
use Rattle.history.proofs.Rooms.{room_behind}
use Rattle.history.proofs.Serving.{slots_served, state_told}
use Rattle.history.proofs.Outcomes.{fates_told}
use Rattle.history.proofs.Counting.{ration_ledger, put_stream}
use Rattle.runs.proofs.Played.{played, client, server, zeros, queue, starts, receives, turns, taken}

abbrev abc : List ℕ
abc = 0x61 ∷ 0x62 ∷ 0x63 ∷ []

abbrev de : List ℕ
de = 0x64 ∷ 0x65 ∷ []

-- a client opens 5 with "abc" to send, to a server that grants 256 bytes
abbrev before_abc : List Call
before_abc = starts ∷ receives (0x4A ∷ 0x6D ∷ 0x75 ∷ 0x78 ∷ 0x01 ∷ 0x00 ∷ 0x01 ∷ 0x00 ∷ []) ∷ open_session 5 ∷ put 5 abc ∷ []

-- a turn sends it, and "de" waits
abbrev waits_5 : List Call
waits_5 = before_abc ++ (turns ∷ put 5 de ∷ [])

abbrev there : State
there = run client queue waits_5

proper : Proper client
proper = omega arith

below : 5 < 128
below = omega arith

-- ---- in every state

-- a room of three bytes is too small
abbrev small : Call
small = ping 1 (7 ∷ 7 ∷ 7 ∷ [])

pub refusal_leaves : (8 < 20) × (next there small ≡ there) × ((out there small).wrote ≡ []) × ((called there small).2 ≡ 7 ∷ 7 ∷ 7 ∷ [])
unfolding played
refusal_leaves = (refused_leaves there small).refusal 8 refl

-- no first byte is odd
abbrev odd : Call
odd = receives (0x01 ∷ 0x00 ∷ 0x00 ∷ 0x00 ∷ [])

pub violation_leaves : (20 ≤ 20) × OnlyOver there.connection (next there odd).connection × ((next there odd).queue ≡ there.queue)
    × ((out there odd).wrote ≡ 0x08 ∷ 0x00 ∷ 0x00 ∷ 0x00 ∷ [])
unfolding played
violation_leaves = (refused_leaves there odd).violated (fault 20 0) refl

-- a server that has sent no header sends it before the Error
pub bad_header_writes : (out (run server queue []) (receives (zeros 8))).wrote
    ≡ 0x4A ∷ 0x6D ∷ 0x75 ∷ 0x78 ∷ 0x01 ∷ 0x00 ∷ 0x04 ∷ 0x00 ∷ 0x08 ∷ 0x00 ∷ 0x00 ∷ 0x00 ∷ []
unfolding played
bad_header_writes = ((refused_leaves (run server queue []) (receives (zeros 8))).violated (fault 22 0) refl).3

pub no_input_used : ((out there odd).used ≡ 0) × ((out there odd).start ≡ 0) × ((out there odd).end ≡ 0)
unfolding played
no_input_used = (refused_leaves there odd).unused refl

pub by_a_receive : (input room : List ℕ) × (odd ≡ receive input room) × ReceiveFault there.connection.stage input (fault 20 0)
unfolding played
by_a_receive = (refused_leaves there odd).receives (fault 20 0) refl

pub lost_leaves : OnlyOver there.connection (next there lost).connection × ((next there lost).queue ≡ there.queue)
unfolding played
lost_leaves = over_leaves there lost refl refl

pub ill_is_refused : (s : State) (k : Call) → well_formed s.connection ≡ false → (out s k).answer ≡ refused 14
ill_is_refused s k = (refuses_14 s k).1

pub refused_is_ill : (s : State) (k : Call) → (out s k).answer ≡ refused 14 → well_formed s.connection ≡ false
refused_is_ill s k = (refuses_14 s k).0

-- a Ping in a room of six bytes
abbrev wide : Call
wide = ping 1 (7 ∷ 7 ∷ 7 ∷ 7 ∷ 7 ∷ 7 ∷ [])

pub room_kept : ((called there wide).0.wrote ≡ 4) × (4 ≤ 6) × (length (called there wide).2 ≡ 6) × (drop 4 (called there wide).2 ≡ 7 ∷ 7 ∷ [])
unfolding played
room_kept = let r = room_behind there wide in (r.told, r.fits, r.size, r.behind)

-- ---- of a run

pub told_there : (account_of there 5).seen.sends ≡ sending false de (ration.Finite 253) false
unfolding played
told_there = ap (λ (a : Account). a.seen.sends) (state_told client proper queue waits_5 5 below)

pub fate_there : fate_of (at (run client queue (waits_5 ++ (lost ∷ []))).connection 5).outcome ≡ must_not_be_retried
unfolding played
fate_there = fates_told client 5 below proper queue (waits_5 ++ (lost ∷ []))

-- what we may send and what the far end may: what is left and what was spent are the start and what was granted
pub ledger_there : (253 + 3 ≡ 256 + 0) × (2_048 + 0 ≡ 2_048 + 0)
unfolding played
ledger_there =
    let l = ration_ledger client proper queue 5 below waits_5 in
    (l.outbound side.Open refl, l.inbound side.Open refl refl)

-- the Data message that was sent is within it
abbrev sent_abc : Entry
sent_abc = taken turns (served 5) (0x90 ∷ 0x05 ∷ 0x00 ∷ 0x03 ∷ abc)

pub sent_within : 0 + 3 ≤ 256 + 0
unfolding played
sent_within =
    (ration_ledger client proper queue 5 below (before_abc ++ (turns ∷ []))).written (log client queue before_abc) [] sent_abc [] [] true false false false 3
    refl refl

-- the bytes put are those sent and those that wait
pub stream_there : abc ++ de ≡ 0x61 ∷ 0x62 ∷ 0x63 ∷ 0x64 ∷ 0x65 ∷ []
unfolding played
stream_there = (put_stream client proper queue 5 below waits_5).kept false de (ration.Finite 253) false refl

-- with the eof, those sent are all
abbrev before_end : List Call
before_end = waits_5 ++ (finish 5 ∷ [])

abbrev sent_end : Entry
sent_end = taken turns (served 5) (0x84 ∷ 0x05 ∷ 0x00 ∷ 0x02 ∷ de)

pub stream_whole : (summed client 5 (log client queue before_end ++ (sent_end ∷ []))).totals.payloads ≡ 0x61 ∷ 0x62 ∷ 0x63 ∷ 0x64 ∷ 0x65 ∷ []
unfolding played
stream_whole = (put_stream client proper queue 5 below (before_end ++ (turns ∷ []))).whole (log client queue before_end) [] sent_end [] [] false false false 2 refl refl

-- a put and a turn zero the rest of the slot, and leave every other slot; a ping leaves the queue
pub put_zeroes : RestZero (next there (put 5 [])) 5
unfolding played
put_zeroes = (slots_served client proper queue waits_5).by_put 5 [] refl

pub turn_zeroes : RestZero (next there turns) 5
unfolding played
turn_zeroes = (slots_served client proper queue waits_5).by_turn (zeros turn_room) 5 refl

pub other_slot : slot 6 (next there (put 5 [])).queue ≡ slot 6 there.queue
unfolding played
other_slot = (slots_served client proper queue waits_5).others (put 5 []) 6 (omega arith) (λ e. omega (arith, e))

pub queue_left : (next there wide).queue ≡ there.queue
unfolding played
queue_left = (slots_served client proper queue waits_5).untouched wide (λ n bytes e. not_put e) (λ room e. not_turn e)
  where
    not_put : {n : ℕ} {bytes : List ℕ} → wide ≡ put n bytes → ⊥
    not_put e = true≢false cc

    not_turn : {room : List ℕ} → wide ≡ turn room → ⊥
    not_turn e = true≢false cc
