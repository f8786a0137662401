-- Case 6, whole: a client's run from a connection just made, and what its log tells, by computation.
use mathlib.Core.Path.{◌≡◌, refl}
use mathlib.Core.Bool.{true, false}
use mathlib.Core.List.{List, [], ◌∷◌, ◌++◌}
use Prim.Native.Nat.{ℕ, ◌≤◌}
use native.Mathlib.Omega.{arith}
use lib.ListN.{length}
use Rattle.laws.specs.Circle.{nearest}
use Rattle.laws.specs.Runs.{Every, gather, times}
use Rattle.laws.specs.Result.{ok, refused}
use Rattle.ration.specs.declared.Ration.TheVariants as ration
use Rattle.protocol.specs.Slot.{turn_room}
use Rattle.protocol.specs.Judge.{done, served, header_received}
use Rattle.protocol.specs.Observed.{silent, sending}
use Rattle.history.specs.Log.{Call, open_session, put, finish, Entry, log}
use Rattle.history.specs.Account.{observed}
use Rattle.history.specs.Claims.{ready, waits_on, data_written, last_served, Serves, NothingReady}
use Rattle.runs.proofs.Played.{played, client, zeros, queue, starts, receives, turns, taken, greets, refuses}
use Rattle.history.proofs.Bounded.{bounded_waiting}

-- "Jmux", version 1, header number 4
abbrev far_header : List ℕ
far_header = 0x4A ∷ 0x6D ∷ 0x75 ∷ 0x78 ∷ 0x01 ∷ 0x00 ∷ 0x04 ∷ 0x00 ∷ []

abbrev abc : List ℕ
abc = 0x61 ∷ 0x62 ∷ 0x63 ∷ []

-- the headers, open 5, open 2
abbrev opened : List Call
opened = starts ∷ receives far_header ∷ open_session 5 ∷ open_session 2 ∷ []

-- then put "abc" to 5, finish 5
abbrev asked : List Call
asked = opened ++ (put 5 abc ∷ finish 5 ∷ [])

-- then two turns
abbrev twice : List Call
twice = asked ++ (turns ∷ turns ∷ [])

abbrev entries : List Entry
entries =
    taken starts done (0x4A ∷ 0x6D ∷ 0x75 ∷ 0x78 ∷ 0x01 ∷ 0x00 ∷ 0x08 ∷ 0x00 ∷ [])
    ∷ greets far_header (header_received 4) []
    ∷ taken (open_session 5) done []
    ∷ taken (open_session 2) done []
    ∷ taken (put 5 abc) done []
    ∷ taken (finish 5) done []
    ∷ []

abbrev turned_2 : Entry
turned_2 = taken turns (served 2) (0x90 ∷ 0x02 ∷ 0x00 ∷ 0x00 ∷ [])

abbrev turned_5 : Entry
turned_5 = taken turns (served 5) (0x94 ∷ 0x05 ∷ 0x00 ∷ 0x03 ∷ 0x61 ∷ 0x62 ∷ 0x63 ∷ [])

-- turns write 90 02 00 00, then 94 05 00 03 61 62 63, then refuse with 9
pub case_6 : log client queue (asked ++ (turns ∷ turns ∷ turns ∷ [])) ≡ entries ++ (turned_2 ∷ turned_5 ∷ refuses turns 9 ∷ [])
unfolding played
case_6 = refl

-- ---- what the log tells as it grows

-- once opened, both are ready
pub opened_5 : ready client 5 (log client queue opened) ≡ true
unfolding played
opened_5 = refl

pub opened_2 : ready client 2 (log client queue opened) ≡ true
unfolding played
opened_2 = refl

-- before the turns: 5 has its three bytes waiting, the far start as ration and its end to announce; 2 has nothing waiting
pub asked_5 : (observed client 5 (log client queue asked)).seen.sends ≡ sending true abc (ration.Finite 1_024) true
unfolding played
asked_5 = refl

pub asked_2 : (observed client 2 (log client queue asked)).seen.sends ≡ sending true [] (ration.Finite 1_024) false
unfolding played
asked_2 = refl

-- 5 waits while 2 is served, and stays ready
pub waits_5 : Every (waits_on client 5) (turned_2 ∷ [])
unfolding played
waits_5 = (refl, tt)

pub once_5 : ready client 5 (log client queue (asked ++ (turns ∷ []))) ≡ true
unfolding played
once_5 = refl

-- 2 stays open, with nothing to send
pub once_2 : (observed client 2 (log client queue (asked ++ (turns ∷ [])))).seen.sends ≡ sending false [] (ration.Finite 1_024) false
unfolding played
once_2 = refl

-- 5 has announced its end
pub twice_5 : (observed client 5 (log client queue twice)).seen.sends ≡ silent
unfolding played
twice_5 = refl

-- no number is ready when the third turn is refused, as is claimed of every log
pub nothing_left : NothingReady client (length queue) (log client queue twice) (length (zeros turn_room))
unfolding played
nothing_left =
    ((bounded_waiting client (omega arith) queue (twice ++ (turns ∷ []))).turns (log client queue twice) [] (refuses turns 9) (zeros turn_room) refl refl
    ).refused_9.0 refl

pub nothing_left_says : (ready client 5 (log client queue twice) ≡ false) × (turn_room ≤ length (zeros turn_room))
unfolding played
nothing_left_says = (nothing_left.none 5 (omega arith), nothing_left.may.roomy)

-- ---- what is claimed of every log, of these turns

-- while 5 waits, 2 gets one Data message at most, and there are no more than 127
pub waits_claimed : (times 2 (gather (data_written client) (turned_2 ∷ [])) ≤ 1) × (length (gather (data_written client) (turned_2 ∷ [])) ≤ 127)
unfolding played
waits_claimed =
    let w =
    (bounded_waiting client (omega arith) queue (asked ++ (turns ∷ []))).waits (log client queue asked) (turned_2 ∷ []) [] refl 5 (omega arith) refl
    (refl, tt) in
    (w.each_once 2 (omega arith), w.at_most_127)

-- the turn that is taken serves one number, with one Data message
pub one_served : (k : ℕ) × (served 2 ≡ served k) × (data_written client turned_2 ≡ k ∷ []) × Serves client (log client queue asked) turned_2 k
unfolding played
one_served =
    ((bounded_waiting client (omega arith) queue (asked ++ (turns ∷ []))).turns (log client queue asked) [] turned_2 (zeros turn_room) refl refl).served_one
    (served 2) refl

-- where 5 is ready, a turn is taken
pub some_served : (k : ℕ) × (turned_2.answer ≡ ok (served k))
unfolding played
some_served =
    ((bounded_waiting client (omega arith) queue (asked ++ (turns ∷ []))).turns (log client queue asked) [] turned_2 (zeros turn_room) refl refl).served_some
    (record { not_over = refl; up = refl; roomy = omega arith; whole_queue = refl }) 5 (omega arith) refl

-- where nothing is ready, it is refused with 9
pub refused_with_9 : NothingReady client (length queue) (log client queue twice) (length (zeros turn_room)) → (refuses turns 9).answer ≡ refused 9
unfolding played
refused_with_9 =
    ((bounded_waiting client (omega arith) queue (twice ++ (turns ∷ []))).turns (log client queue twice) [] (refuses turns 9) (zeros turn_room) refl refl
    ).refused_9.1

-- the number served is the first that is ready, and its message is the one that is due, with the first bytes that wait
pub serves_5 : Serves client (log client queue (asked ++ (turns ∷ []))) turned_5 5
    → (5 ≡ nearest (λ n. ready client n (log client queue (asked ++ (turns ∷ [])))) (last_served client (log client queue (asked ++ (turns ∷ [])))))
    × (ready client 5 (log client queue (asked ++ (turns ∷ []))) ≡ true)
    × (turned_5.wrote ≡ 0x94 ∷ 0x05 ∷ 0x00 ∷ 0x03 ∷ abc)
unfolding played
serves_5 v = (v.first_ready, v.is_ready_now, v.message)
