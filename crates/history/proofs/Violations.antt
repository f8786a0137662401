-- A violation as the log tells it: how it ends the connection, and what it means to write. What we find is as told, with its bytes.
use mathlib.Core.Path.{◌≡◌, refl, sym, ap, ◌∙◌, subst}
use mathlib.Core.Bool.{Bool, true, false, not, true≢false, false≢true}
use mathlib.Core.List.{List, [], ◌∷◌, ◌++◌}
use Prim.Native.Nat.{ℕ, ◌≤◌, ◌<◌}
use native.Mathlib.Omega.{arith}
use lib.ListN.{length}
use Rattle.laws.specs.Pick.{pick}
use Rattle.laws.specs.Result.{Fault, violation}
use Rattle.laws.specs.Runs.{Every, gather}
use Rattle.laws.proofs.Tests.{and_both}
use Rattle.wire.specs.declared.Role.{Role}
use Rattle.wire.specs.declared.Role.TheVariants as role
use Rattle.wire.specs.declared.Message.TheVariants as msg
use Rattle.wire.specs.FirstByte.{kind_of}
use Rattle.wire.specs.Message.{is_server, read_message, parse_header, typed, allowed}
use Rattle.wire.specs.Connection.{parse_connection_header, read_connection_header}
use Rattle.state.specs.declared.Stage.{Stage}
use Rattle.state.specs.declared.Stage.TheVariants as stage
use Rattle.state.specs.declared.Setup.{Setup}
use Rattle.protocol.specs.Connection.{role_of}
use Rattle.protocol.specs.Judge.{Output, header_out, sent, Breach, Decision, refuse, violate, accept, error_after, breach}
use Rattle.protocol.specs.Call.{unstarted}
use Rattle.protocol.specs.Result.{bytes_of_all}
use Rattle.protocol.specs.Observed.{Seen}
use Rattle.protocol.proofs.Views.{greeting_of}
use Rattle.protocol.proofs.Fates.{ended_by}
use Rattle.history.specs.Log.{Call, receive, State}
use Rattle.history.specs.Written.{written_up_to, all_written}
use Rattle.history.specs.Meaning.{Line, with_greeting}
use Rattle.history.specs.Account.{Account}
use Rattle.history.specs.Fates.{end_told}
use Rattle.history.specs.Meant.{ungreeted, meant_by, ReadInOrder, may_go}
use Rattle.history.specs.Claims.{data_number, data_written, error_bytes}
use Rattle.history.proofs.Decisions.{payload_of, out_by}
use Rattle.history.proofs.InOrder.{written_is}
use Rattle.history.proofs.Written.{sent_read_back, opening_read_back}
use Rattle.history.proofs.Good.{setup_of, account_of}

pub record Broken (s : State) (k : Call) (b : Breach) : Type 0 where
  pub ends_so : ended_by b.cause ≡ end_told k (violation b.fault)
  pub means : b.reply ≡ meant_by (setup_of s.connection) (account_of s 0) k (violation b.fault)

-- such a violation on a connection that is not over, and begun
pub record Found (s : State) (k : Call) (b : Breach) : Type 0 where
  pub told : Broken s k b
  pub live : s.connection.over ≡ false
  pub begun : unstarted s.connection.stage ≡ false

-- ---- what a violation means: a lost line, answered with Error

-- what we answer is what is told
error_means : (z : Setup) (l : Line) (v : Seen) (k : Call) (f : Fault) (st : Stage)
    → error_after st z.header ≡ meant_by z (record { line = with_greeting (greeting_of st) l; seen = v }) k (violation f)
unfolding pick
error_means z l v k f (stage.Fresh r) = refl
error_means z l v k f stage.Started = refl
error_means z l v k f (stage.Up r far) = refl

-- by cases: our header, if it was not sent, and Error; or Error alone
by_answer : (z : Setup) (a : Account) (k : Call) (f : Fault) (P : List Output → Type 0)
    → (ungreeted a.line.greeting ≡ true → P (header_out z.header ∷ sent (msg.Error 0) ∷ [])) → P (sent (msg.Error 0) ∷ []) → P (meant_by z a k (violation f))
unfolding pick
by_answer z a k f P opening alone = go (ungreeted a.line.greeting) refl
  where
    go : (u : Bool) → ungreeted a.line.greeting ≡ u → P (pick u (header_out z.header ∷ []) [] ++ (sent (msg.Error 0) ∷ []))
    go true q = opening q
    go false q = alone

abbrev pub Told : State → Call → Decision → Type 0
Told s k (refuse n) = Unit {0}
Told s k (violate b) = Broken s k b
Told s k (accept e) = Unit {0}

-- a violation that we find is as the log tells it
pub breach_told : (s : State) (input room : List ℕ) (f : Fault) → Told s (receive input room) (breach s.connection f)
breach_told s input room f =
    let a = account_of s 0 in
    record { ends_so = refl; means = error_means (setup_of s.connection) a.line a.seen (receive input room) f s.connection.stage }

-- ---- Error, and our header before it

error_read : (r : Role) (payload : List ℕ) → ReadInOrder r (bytes_of_all payload (sent (msg.Error 0) ∷ [])) (sent (msg.Error 0) ∷ [])
error_read r payload =
    sent_read_back r (msg.Error 0) payload
    (record { shift = omega arith; session = omega arith; number = omega arith; sender = refl; flags = refl; body = omega arith })

error_bytes_lem : (payload : List ℕ) (st : Stage) (own : ℕ) → bytes_of_all payload (error_after st own) ≡ error_bytes st own
unfolding bytes_of_all
error_bytes_lem payload (stage.Fresh r) own = refl
error_bytes_lem payload stage.Started own = refl
error_bytes_lem payload (stage.Up r far) own = refl

-- a client that is not started finds no violation
begun_server : (st : Stage) → ungreeted (greeting_of st) ≡ true → unstarted st ≡ false → is_server (role_of st) ≡ true
begun_server (stage.Fresh role.Client) u e = absurd (true≢false e)
begun_server (stage.Fresh role.Server) u e = refl
begun_server stage.Started u e = absurd (false≢true u)
begun_server (stage.Up r far) u e = absurd (false≢true u)

-- ---- what is written

violation_reads : (z : Setup) (a : Account) (k : Call) (f : Fault) (r : Role) (payload : List ℕ) → z.header < 65_536
    → ReadInOrder r (bytes_of_all payload (meant_by z a k (violation f))) (meant_by z a k (violation f))
violation_reads z a k f r payload h =
    by_answer z a k f (λ os. ReadInOrder r (bytes_of_all payload os) os) (λ _. opening_read_back r z.header payload (sent (msg.Error 0) ∷ []) h (error_read r payload)) (error_read r payload)

-- header and Error are read as two, Error alone as one
pub violation_written : (z : Setup) (a : Account) (k : Call) (f : Fault) (r : Role) (payload : List ℕ) → z.header < 65_536
    → all_written r (bytes_of_all payload (meant_by z a k (violation f))) ≡ meant_by z a k (violation f)
violation_written z a k f r payload h = written_is r (bytes_of_all payload (meant_by z a k (violation f))) (meant_by z a k (violation f)) (violation_reads z a k f r payload h)

module _ (s : State) (k : Call) (b : Breach) where
  abbrev meant : List Output
  meant = meant_by (setup_of s.connection) (account_of s 0) k (violation b.fault)

  abbrev payload : List ℕ
  payload = payload_of s.queue k (violate b)

  by_reply : Broken s k b → (P : List Output → Type 0)
      → (ungreeted (greeting_of s.connection.stage) ≡ true → P (header_out s.connection.own ∷ sent (msg.Error 0) ∷ [])) → P (sent (msg.Error 0) ∷ []) → P b.reply
  by_reply h P opening alone = subst P (sym h.means) (by_answer (setup_of s.connection) (account_of s 0) k b.fault P opening alone)

  pub broken_no_data : Broken s k b → data_written (setup_of s.connection) (out_by s k (violate b)) ≡ []
  unfolding gather bytes_of_all written_up_to read_message read_connection_header parse_connection_header parse_header typed allowed kind_of pick
  broken_no_data h = by_reply h (λ os. gather data_number (all_written (role_of s.connection.stage) (bytes_of_all payload os)) ≡ []) (λ _. refl) refl

  pub broken_fits : Broken s k b → length (bytes_of_all [] b.reply) ≤ 12
  unfolding bytes_of_all
  broken_fits h = by_reply h (λ os. length (bytes_of_all [] os) ≤ 12) (λ _. omega arith) (omega arith)

  pub broken_reads : Broken s k b → s.connection.own < 65_536 → ReadInOrder (role_of s.connection.stage) (out_by s k (violate b)).wrote meant
  broken_reads h own =
      let r = role_of s.connection.stage in
      subst (λ (os : List Output). ReadInOrder r (bytes_of_all payload os) meant) (sym h.means) (violation_reads (setup_of s.connection) (account_of s 0) k b.fault r payload own)

  -- what is meant may go
  pub found_goes : Found s k b → Every (may_go (setup_of s.connection) (account_of s 0) (out_by s k (violate b))) meant
  unfolding Every
  found_goes h =
      by_answer (setup_of s.connection) (account_of s 0) k b.fault (λ os. Every (may_go (setup_of s.connection) (account_of s 0) (out_by s k (violate b))) os)
      (λ fresh. (and_both (and_both (ap not h.live) fresh) (begun_server s.connection.stage fresh h.begun), (and_both (ap not h.live) refl, tt)))
      (and_both (ap not h.live) refl, tt)

  -- from what is told to bytes
  pub broken_bytes : Broken s k b → (out_by s k (violate b)).wrote ≡ error_bytes s.connection.stage s.connection.own
  broken_bytes h =
      let a = account_of s 0 in
      ap (bytes_of_all payload) (h.means ∙ sym (error_means (setup_of s.connection) a.line a.seen k b.fault s.connection.stage))
      ∙ error_bytes_lem payload s.connection.stage s.connection.own
