-- What each call decides, written as one decision, and what a decision leaves: a call leaves what its decision does.
use Prim.Native.Nat.{ℕ}
use mathlib.Core.Path.{◌≡◌, refl, sym, ap, ◌∙◌}
use mathlib.Core.List.{List, [], map}
use lib.ListN.{length, take}
use lib.Seq.{take_at}
use Rattle.laws.specs.Room.{overlaid}
use Rattle.state.specs.declared.Connection.{Connection}
use Rattle.protocol.specs.Plan.{Plan, and_then}
use Rattle.protocol.specs.Connection.{at, role_of}
use Rattle.protocol.specs.Receipt.{Taken}
use Rattle.protocol.specs.Message.{SessionMessage, numbered}
use Rattle.protocol.specs.Ask.{open_ask, put_ask, finish_ask}
use Rattle.protocol.specs.Judge.{done, sent, Effect, Decision, refuse, violate, accept, setting_session}
use Rattle.protocol.specs.Queue.{slot, with_slot, put_slot}
use Rattle.protocol.specs.Call.{start_rule, open_rule, put_rule, finish_rule, turn_rule, grant_rule, abort_rule, close_rule, ping_rule, shutdown_rule, lost_rule, receive_rule}
use Rattle.protocol.specs.Result.{Given, given, decided, if_taken, turned, turn_payload, bytes_of_all, written_by, start_call, open_call, put_call, finish_call, turn_call, grant_call, abort_call, close_call, ping_call, shutdown_call, lost_call, receive_call}
use Rattle.protocol.proofs.Plans.{Takes, takes_then, takes_map, stops_all, settled}
use Rattle.protocol.proofs.Sends.{Sends, open_sends, put_sends, finish_sends}
use Rattle.history.specs.Log.{Call, start, open_session, put, finish, turn, grant, abort, close, shutdown, lost, receive, room_of, State, Entry, called, next, out}
use Rattle.history.specs.Log as log

abbrev pub decide : Connection → List ℕ → Call → Decision
decide c q (start room) = decided (start_rule c (length room))
decide c q (open_session n) = decided (open_rule c n)
decide c q (put n bytes) = decided (put_rule c n (length bytes) (length q))
decide c q (finish n) = decided (finish_rule c n)
decide c q (turn room) = decided (turn_rule c (length q) (length room))
decide c q (grant n amount room) = decided (grant_rule c n amount (length room))
decide c q (abort n partial room) = decided (abort_rule c n partial (length room))
decide c q (close n room) = decided (close_rule c n (length room))
decide c q (log.ping cookie room) = decided (ping_rule c cookie (length room))
decide c q (shutdown room) = decided (shutdown_rule c (length room))
decide c q lost = decided (lost_rule c)
decide c q (receive input room) = receive_rule c input (length room)

-- the bytes that follow a Data header: only a turn has some
abbrev pub payload_of : List ℕ → Call → Decision → List ℕ
payload_of q (start room) d = []
payload_of q (open_session n) d = []
payload_of q (put n bytes) d = []
payload_of q (finish n) d = []
payload_of q (turn room) d = turn_payload q d
payload_of q (grant n amount room) d = []
payload_of q (abort n partial room) d = []
payload_of q (close n room) d = []
payload_of q (log.ping cookie room) d = []
payload_of q (shutdown room) d = []
payload_of q lost d = []
payload_of q (receive input room) d = []

-- only put and turn touch the queue
abbrev pub queue_after : Connection → List ℕ → Call → Decision → List ℕ
queue_after c q (start room) d = q
queue_after c q (open_session n) d = q
queue_after c q (put n bytes) d = if_taken d (λ e. with_slot n (put_slot (at c n).waiting bytes (slot n q)) q) q
queue_after c q (finish n) d = q
queue_after c q (turn room) d = if_taken d (turned c q) q
queue_after c q (grant n amount room) d = q
queue_after c q (abort n partial room) d = q
queue_after c q (close n room) d = q
queue_after c q (log.ping cookie room) d = q
queue_after c q (shutdown room) d = q
queue_after c q lost d = q
queue_after c q (receive input room) d = q

abbrev pub gives : State → Call → Decision → Given
gives s k d = given s.connection (payload_of s.queue k d) d

abbrev pub next_by : State → Call → Decision → State
next_by s k d = record { connection = (gives s k d).connection; queue = queue_after s.connection s.queue k d }

abbrev pub out_by : State → Call → Decision → Entry
out_by s k d =
    record {
      call = k;
      answer = (gives s k d).answer;
      used = (gives s k d).used;
      start = (gives s k d).start;
      end = (gives s k d).end;
      wrote = written_by (payload_of s.queue k d) d;
    }

-- ---- a call that is lent no room writes nothing

abbrev pub Silent : Decision → Type 0
Silent d = written_by [] d ≡ []

silent : (p : Plan Effect) → Takes (λ e. Silent (accept e)) p → Silent (decided p)
silent p h = settled Silent refuse accept p (stops_all (λ n. refl) p) h

module _ (c : Connection) (n : ℕ) where
  says_nothing : (p : Plan Taken) → Takes (Sends []) p → Takes (λ e. Silent (accept e)) (and_then (setting_session c n c.last done) p)
  unfolding bytes_of_all
  says_nothing p h =
      takes_then (λ e. Silent (accept e)) (setting_session c n c.last done) p
      (takes_map (λ t q. ap (λ (ms : List SessionMessage). bytes_of_all [] (map (λ m. sent (numbered n m)) ms)) q) p h)

  pub open_silent : Silent (decided (open_rule c n))
  unfolding open_rule
  open_silent = silent _ (λ _ _ _ _. says_nothing (open_ask (role_of c.stage) (at c n)) (open_sends (role_of c.stage) (at c n)))

  pub put_silent : (bytes queue : ℕ) → Silent (decided (put_rule c n bytes queue))
  unfolding put_rule
  put_silent bytes queue = silent _ (λ _ _ _ _ _. says_nothing (put_ask (at c n) bytes) (put_sends (at c n) bytes))

  pub finish_silent : Silent (decided (finish_rule c n))
  unfolding finish_rule
  finish_silent = silent _ (λ _ _ _ _. says_nothing (finish_ask (at c n)) (finish_sends (at c n)))

pub lost_silent : (c : Connection) → Silent (decided (lost_rule c))
unfolding lost_rule bytes_of_all
lost_silent c = silent _ (λ _ _. refl)

-- ---- what a call leaves is what its decision leaves

-- as many bytes are written as are reported
given_wrote : (c : Connection) (payload : List ℕ) (d : Decision) → (given c payload d).wrote ≡ length (written_by payload d)
given_wrote c payload (refuse n) = refl
given_wrote c payload (violate b) = refl
given_wrote c payload (accept e) = refl

module _ (s : State) where
  -- what it gives, and the queue and the room after it
  abbrev leaves : Call → Decision → Given × List ℕ × List ℕ
  leaves k d = (gives s k d, queue_after s.connection s.queue k d, overlaid (out_by s k d).wrote (room_of k))

  no_room : {g : Given} {q w : List ℕ} → w ≡ [] → ◌≡◌ {A = Given × List ℕ × List ℕ} (g, q, []) (g, q, overlaid w [])
  no_room e = rw e

  pub called_is : (k : Call) → called s k ≡ leaves k (decide s.connection s.queue k)
  unfolding start_call open_call put_call finish_call turn_call grant_call abort_call close_call ping_call shutdown_call lost_call receive_call
  called_is (start room) = refl
  called_is (open_session n) = no_room (open_silent s.connection n)
  called_is (put n bytes) = no_room (put_silent s.connection n (length bytes) (length s.queue))
  called_is (finish n) = no_room (finish_silent s.connection n)
  called_is (turn room) = refl
  called_is (grant n amount room) = refl
  called_is (abort n partial room) = refl
  called_is (close n room) = refl
  called_is (log.ping cookie room) = refl
  called_is (shutdown room) = refl
  called_is lost = no_room (lost_silent s.connection)
  called_is (receive input room) = refl

  module _ (k : Call) where
    abbrev here : Decision
    here = decide s.connection s.queue k

    pub wrote_is : (gives s k here).wrote ≡ length (out_by s k here).wrote
    wrote_is = given_wrote s.connection (payload_of s.queue k here) here

    pub next_is : next s k ≡ next_by s k here
    unfolding next
    next_is = ap (λ (g : Given × List ℕ × List ℕ). record { connection = g.0.connection; queue = g.1 }) (called_is k)

    abbrev entry : Given → List ℕ → Entry
    entry g bytes = record { call = k; answer = g.answer; used = g.used; start = g.start; end = g.end; wrote = bytes }

    -- they are at the front of the room
    pub out_is : out s k ≡ out_by s k here
    unfolding out
    out_is =
        ap (λ (g : Given × List ℕ × List ℕ). entry g.0 (take g.0.wrote g.2)) (called_is k)
        ∙ ap (entry (gives s k here)) (take_at (out_by s k here).wrote _ (gives s k here).wrote (sym wrote_is))
