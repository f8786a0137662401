-- The rations balance: start plus granted is what is left plus what is spent, over legal events, one at a time.
use mathlib.Core.Path.{◌≡◌, refl, sym, ◌∙◌}
use mathlib.Core.Bool.{Bool, true, false, ◌&&◌, true≢false, false≢true, and-false}
use mathlib.Core.List.{List}
use Prim.Native.Nat.{ℕ}
use native.Mathlib.Omega.{arith}
use borrow.Author.Tests.{leb-true}
use Rattle.laws.proofs.Tests.{and_first, and_second}
use Rattle.ration.specs.declared.Ration.{Ration}
use Rattle.ration.specs.declared.Ration.TheVariants as ration
use Rattle.ration.specs.Ration.{allows, plus, minus}
use Rattle.wire.specs.declared.Role.{Role}
use Rattle.wire.specs.declared.Role.TheVariants as role
use Rattle.wire.specs.Message.{is_client, is_server, only_if, data_flags}
use Rattle.state.specs.declared.Side.{Side}
use Rattle.state.specs.declared.Side.TheVariants as side
use Rattle.protocol.specs.Message.{SessionMessage, data_of, increment_of, abort_of, close_of, acknowledgment_of}
use Rattle.protocol.specs.Observed.{Event, opens, finishes, aborts, puts, received, wrote, Sending, silent, sending, sends_after, Ends, unused, ends, ours as ours_to, theirs, ends_after, inbound_after, data_leaves, may_open, late_for, permits_ours, permits_theirs, Seen}
use Rattle.protocol.specs.Totals.{Ledger, blank_ledger, grants, spends, sending_after, receiving_after, Balanced, Covers}
use Rattle.protocol.proofs.Legal.{Legal, Writes}

-- ---- one ration

pub balanced_start : (q : Ration) → Balanced q blank_ledger q
balanced_start (ration.Finite k) = refl
balanced_start ration.Endless = tt

balanced_grant : (start : Ration) (l : Ledger) (q : Ration) (n : ℕ) → Balanced start l q → Balanced start (grants n l) (plus q n)
balanced_grant (ration.Finite k) l (ration.Finite q) n b = omega (arith, b)
balanced_grant (ration.Finite k) l ration.Endless n b = b
balanced_grant ration.Endless l (ration.Finite q) n b = b
balanced_grant ration.Endless l ration.Endless n b = tt

balanced_spend : (start : Ration) (l : Ledger) (q : Ration) (n : ℕ) → Balanced start l q → allows q n ≡ true → Balanced start (spends n l) (minus q n)
balanced_spend (ration.Finite k) l (ration.Finite q) n b e = let h = leb-true n q e in omega (arith, b)
balanced_spend (ration.Finite k) l ration.Endless n b e = b
balanced_spend ration.Endless l (ration.Finite q) n b e = b
balanced_spend ration.Endless l ration.Endless n b e = tt

-- a length that the ration allows is covered
pub balanced_covers : (start : Ration) (l : Ledger) (q : Ration) (n : ℕ) → Balanced start l q → allows q n ≡ true → Covers start l n
balanced_covers (ration.Finite k) l (ration.Finite q) n b e = let h = leb-true n q e in omega (arith, b)
balanced_covers (ration.Finite k) l ration.Endless n b e = absurd b
balanced_covers ration.Endless l q n b e = tt

-- ---- what we send

-- the far end has terminated what the number last named, or it was never used
abbrev pub Gone : Ends → Type 0
Gone unused = Unit {0}
Gone (ends o side.Open) = ⊥
Gone (ends o side.Finished) = ⊥
Gone (ends o side.Ended) = Unit {0}

-- our end is unfinished
abbrev pub Running : Ends → Type 0
Running unused = ⊥
Running (ends side.Open t) = Unit {0}
Running (ends side.Finished t) = ⊥
Running (ends side.Ended t) = ⊥

-- an unsent session has its start whole; one that is sent balances
abbrev pub OutFair : Ration → Ends → Sending → Ledger → Type 0
OutFair far st silent l = Unit {0}
OutFair far st (sending true w q f) l = (q ≡ far) × (l ≡ blank_ledger) × Gone st
OutFair far st (sending false w q f) l = Balanced far l q × Running st

-- a ration that we grant balances while our end is established and theirs unfinished
abbrev pub InFair : Ration → Ends → Ration → Ledger → Type 0
InFair own unused ib l = Unit {0}
InFair own (ends side.Ended t) ib l = Unit {0}
InFair own (ends side.Open side.Open) ib l = Balanced own l ib
InFair own (ends side.Open side.Finished) ib l = Unit {0}
InFair own (ends side.Open side.Ended) ib l = Unit {0}
InFair own (ends side.Finished side.Open) ib l = Balanced own l ib
InFair own (ends side.Finished side.Finished) ib l = Unit {0}
InFair own (ends side.Finished side.Ended) ib l = Unit {0}

in_gone : (own : Ration) (st : Ends) (ib : Ration) (l : Ledger) → InFair own (theirs side.Ended st) ib l
in_gone own unused ib l = tt
in_gone own (ends side.Open t) ib l = tt
in_gone own (ends side.Finished t) ib l = tt
in_gone own (ends side.Ended t) ib l = tt

in_ended : (own : Ration) (st : Ends) (ib : Ration) (l : Ledger) → InFair own (ours_to side.Ended st) ib l
in_ended own unused ib l = tt
in_ended own (ends o t) ib l = tt

in_grant : (own : Ration) (st : Ends) (ib : Ration) (l : Ledger) (n : ℕ) → InFair own st ib l → InFair own st (plus ib n) (grants n l)
in_grant own unused ib l n h = tt
in_grant own (ends side.Ended t) ib l n h = tt
in_grant own (ends side.Open side.Open) ib l n h = balanced_grant own l ib n h
in_grant own (ends side.Open side.Finished) ib l n h = tt
in_grant own (ends side.Open side.Ended) ib l n h = tt
in_grant own (ends side.Finished side.Open) ib l n h = balanced_grant own l ib n h
in_grant own (ends side.Finished side.Finished) ib l n h = tt
in_grant own (ends side.Finished side.Ended) ib l n h = tt

-- our end moves on
in_any : (own : Ration) (o t : Side) (ib : Ration) (l : Ledger) → InFair own (ends side.Open t) ib l → InFair own (ends o t) ib l
in_any own side.Open t ib l h = h
in_any own side.Finished side.Open ib l h = h
in_any own side.Finished side.Finished ib l h = tt
in_any own side.Finished side.Ended ib l h = tt
in_any own side.Ended t ib l h = tt

-- what is observed, with the ends given
abbrev pub seen_so : Ends → Sending → Ration → Seen
seen_so st sd ib = record { standing = st; sends = sd; inbound = ib }

module _ (r : Role) (own far : Ration) (p : List ℕ) where
  opens_gone : (q : Role) (st : Ends) (sd : Sending) (ib : Ration) → Legal q own far p (seen_so st sd ib) opens → Gone st
  opens_gone q unused sd ib h = tt
  opens_gone role.Client (ends o side.Open) sd ib h = absurd (false≢true h)
  opens_gone role.Client (ends o side.Finished) sd ib h = absurd (false≢true h)
  opens_gone role.Client (ends o side.Ended) sd ib h = tt
  opens_gone role.Server (ends o t) sd ib h = absurd (false≢true h)

  still_running : (t : Side) (st : Ends) → Running st → Running (theirs t st)
  still_running t unused h = h
  still_running t (ends side.Open u) h = tt
  still_running t (ends side.Finished u) h = h
  still_running t (ends side.Ended u) h = h

  still_gone : (st : Ends) → Gone st → Gone (theirs side.Ended st)
  still_gone unused h = tt
  still_gone (ends o t) h = tt

  -- the far end terminates: nothing changes for what we send
  terminated : (st : Ends) (sd : Sending) (l : Ledger) → OutFair far st sd l → OutFair far (theirs side.Ended st) sd l
  terminated st silent l h = tt
  terminated st (sending true w q f) l h = (h.0, h.1, still_gone st h.2)
  terminated st (sending false w q f) l h = (h.0, still_running side.Ended st h.1)

  -- no Data is written, and nothing arrives, after the far end has terminated
  gone_quiet : (st : Ends) (v : Seen) (m : SessionMessage) → Gone st → permits_theirs st v m ≡ true → ⊥
  gone_quiet unused v m g h = false≢true h
  gone_quiet (ends o side.Open) v m g h = g
  gone_quiet (ends o side.Finished) v m g h = g
  gone_quiet (ends o side.Ended) v (data_of n true close eof ack) g h = false≢true h
  gone_quiet (ends o side.Ended) v (data_of n false close eof ack) g h = false≢true h
  gone_quiet (ends o side.Ended) v (increment_of n) g h = false≢true h
  gone_quiet (ends o side.Ended) v (abort_of partial) g h = false≢true h
  gone_quiet (ends o side.Ended) v close_of g h = false≢true h
  gone_quiet (ends o side.Ended) v acknowledgment_of g h = false≢true h

  gone_silent : (st : Ends) (v : Seen) (n : ℕ) (close eof ack : Bool) → Gone st → permits_ours r st v (data_of n false close eof ack) ≡ true → ⊥
  gone_silent unused v n close eof ack g h = false≢true h
  gone_silent (ends o side.Open) v n close eof ack g h = g
  gone_silent (ends o side.Finished) v n close eof ack g h = g
  gone_silent (ends side.Open side.Ended) v n close eof ack g h = false≢true h
  gone_silent (ends side.Finished side.Ended) v n close eof ack g h = false≢true (and_second (only_if (is_server r) false) false h)
  gone_silent (ends side.Ended side.Ended) v n close eof ack g h = false≢true (and_second (only_if (is_server r) false) false h)

  out_received : (m : SessionMessage) (st : Ends) (sd : Sending) (ib : Ration) (l : Ledger) → Legal r own far p (seen_so st sd ib) (received m) → OutFair far st sd l
      → OutFair far (ends_after st (received m)) (sends_after far sd (received m)) (sending_after l (received m))
  out_received (data_of n true close eof ack) st sd ib l g h = (balanced_start far, tt)
  out_received (data_of n false close eof ack) st silent ib l g h = tt
  out_received (data_of n false close eof ack) st (sending true w q f) ib l g h = absurd (gone_quiet st (seen_so st (sending true w q f) ib) (data_of n false close eof ack) h.2 g)
  out_received (data_of n false close eof ack) st (sending false w q f) ib l g h = (h.0, still_running (data_leaves close eof) st h.1)
  out_received (increment_of n) st silent ib l g h = tt
  out_received (increment_of n) st (sending true w q f) ib l g h = absurd (gone_quiet st (seen_so st (sending true w q f) ib) (increment_of n) h.2 g)
  out_received (increment_of n) st (sending false w q f) ib l g h = (balanced_grant far l q n h.0, h.1)
  out_received (abort_of partial) st sd ib l g h = terminated st sd l h
  out_received close_of st sd ib l g h = terminated st sd l h
  out_received acknowledgment_of st sd ib l g h = h

  -- a Data message that does not end its side has no close flag
  not_closed : (q : Role) (b close ack : Bool) → data_flags q b close false ack ≡ true → close ≡ false
  not_closed q b true ack e = absurd (false≢true (sym (and-false (only_if b (is_client q) && only_if true (is_server q))) ∙ e))
  not_closed q b false ack e = refl

  -- what an unfinished end spends is allowed
  spends_allowed : (st : Ends) (w : List ℕ) (q ib : Ration) (f : Bool) (n : ℕ) (close eof ack : Bool) → Running st
      → permits_ours r st (seen_so st (sending false w q f) ib) (data_of n false close eof ack) ≡ true → allows q n ≡ true
  spends_allowed unused w q ib f n close eof ack g h = absurd g
  spends_allowed (ends side.Open side.Open) w q ib f n close eof ack g h = h
  spends_allowed (ends side.Open side.Finished) w q ib f n close eof ack g h = h
  spends_allowed (ends side.Open side.Ended) w q ib f n close eof ack g h = absurd (false≢true h)
  spends_allowed (ends side.Finished t) w q ib f n close eof ack g h = absurd g
  spends_allowed (ends side.Ended t) w q ib f n close eof ack g h = absurd g

  -- a running session is not opened anew
  running_stays : (q : Role) (st : Ends) → Running st → is_client q ≡ true → may_open q st ≡ true → ⊥
  running_stays q unused g c h = g
  running_stays role.Client (ends side.Open side.Open) g c h = false≢true h
  running_stays role.Client (ends side.Open side.Finished) g c h = false≢true h
  running_stays role.Client (ends side.Open side.Ended) g c h = false≢true h
  running_stays role.Client (ends side.Finished t) g c h = g
  running_stays role.Client (ends side.Ended t) g c h = g
  running_stays role.Server (ends o t) g c h = false≢true c

  opened_running : (close : Bool) → close ≡ false → Running (ends (data_leaves close false) side.Open)
  opened_running true e = absurd (true≢false e)
  opened_running false e = tt

  sent_running : (close : Bool) (st : Ends) → close ≡ false → Running st → Running (ours_to (data_leaves close false) st)
  sent_running true st e h = absurd (true≢false e)
  sent_running false unused e h = h
  sent_running false (ends side.Open t) e h = tt
  sent_running false (ends side.Finished t) e h = tt
  sent_running false (ends side.Ended t) e h = tt

  out_data : (b close ack : Bool) (n : ℕ) (st : Ends) (sd : Sending) (ib : Ration) (l : Ledger) → Writes r far p (seen_so st sd ib) (data_of n b close false ack) → OutFair far st sd l
      → OutFair far (ends_after st (wrote (data_of n b close false ack))) (sends_after far sd (wrote (data_of n b close false ack))) (spends n l)
  out_data b close ack n st silent ib l g h = tt
  out_data true close ack n st (sending true w q f) ib l g h = (
    rw (h.0, h.1) (balanced_spend far blank_ledger far n (balanced_start far) (and_second (is_client r && may_open r st) (allows far n) g.now)),
    opened_running close (not_closed r true close ack g.ours),
  )
  out_data true close ack n st (sending false w q f) ib l g h =
      let may = and_first (is_client r && may_open r st) (allows far n) g.now in
      absurd (running_stays r st h.1 (and_first (is_client r) (may_open r st) may) (and_second (is_client r) (may_open r st) may))
  out_data false close ack n st (sending true w q f) ib l g h =
      absurd (gone_silent st (seen_so st (sending true w q f) ib) n close false ack h.2 g.now)
  out_data false close ack n st (sending false w q f) ib l g h = (
    balanced_spend far l q n h.0 (spends_allowed st w q ib f n close false ack h.1 g.now),
    sent_running close st (not_closed r false close ack g.ours) h.1,
  )

  -- a Data message that may be written is covered by what was granted
  pub out_covers : (b close eof ack : Bool) (n : ℕ) (st : Ends) (sd : Sending) (ib : Ration) (l : Ledger)
      → Writes r far p (seen_so st sd ib) (data_of n b close eof ack) → OutFair far st sd l → Covers far l n
  out_covers b close eof ack n st silent ib l g h = absurd g.bears
  out_covers true close eof ack n st (sending true w q f) ib l g h =
      rw h.1 (balanced_covers far blank_ledger far n (balanced_start far) (and_second (is_client r && may_open r st) (allows far n) g.now))
  out_covers true close eof ack n st (sending false w q f) ib l g h =
      let may = and_first (is_client r && may_open r st) (allows far n) g.now in
      absurd (running_stays r st h.1 (and_first (is_client r) (may_open r st) may) (and_second (is_client r) (may_open r st) may))
  out_covers false close eof ack n st (sending true w q f) ib l g h =
      absurd (gone_silent st (seen_so st (sending true w q f) ib) n close eof ack h.2 g.now)
  out_covers false close eof ack n st (sending false w q f) ib l g h =
      balanced_covers far l q n h.0 (spends_allowed st w q ib f n close eof ack h.1 g.now)

  out_wrote : (m : SessionMessage) (st : Ends) (sd : Sending) (ib : Ration) (l : Ledger) → Writes r far p (seen_so st sd ib) m → OutFair far st sd l
      → OutFair far (ends_after st (wrote m)) (sends_after far sd (wrote m)) (sending_after l (wrote m))
  out_wrote (data_of n b close true ack) st silent ib l g h = tt
  out_wrote (data_of n b close true ack) st (sending u w q f) ib l g h = tt
  out_wrote (data_of n b close false ack) st sd ib l g h = out_data b close ack n st sd ib l g h
  out_wrote (increment_of n) st sd ib l g h = h
  out_wrote (abort_of partial) st sd ib l g h = tt
  out_wrote close_of st silent ib l g h = tt
  out_wrote close_of st (sending true w q f) ib l g h = (h.0, h.1, gone_on st h.2)
    where
      gone_on : (z : Ends) → Gone z → Gone (ours_to side.Ended z)
      gone_on unused k = tt
      gone_on (ends o side.Open) k = k
      gone_on (ends o side.Finished) k = k
      gone_on (ends o side.Ended) k = tt
  out_wrote close_of st (sending false w q f) ib l g h = absurd (unclosed st h.1 g.now)
    where
      unclosed : (z : Ends) → Running z → permits_ours r z (seen_so st (sending false w q f) ib) close_of ≡ true → ⊥
      unclosed unused k e = k
      unclosed (ends side.Open side.Open) k e = false≢true e
      unclosed (ends side.Open side.Finished) k e = false≢true e
      unclosed (ends side.Open side.Ended) k e = false≢true e
      unclosed (ends side.Finished t) k e = k
      unclosed (ends side.Ended t) k e = k
  out_wrote acknowledgment_of st sd ib l g h = h

  pub out_step : (e : Event) (st : Ends) (sd : Sending) (ib : Ration) (l : Ledger) → Legal r own far p (seen_so st sd ib) e → OutFair far st sd l
      → OutFair far (ends_after st e) (sends_after far sd e) (sending_after l e)
  out_step opens st sd ib l g h = (refl, refl, opens_gone r st sd ib g)
  out_step finishes st silent ib l g h = tt
  out_step finishes st (sending true w q f) ib l g h = h
  out_step finishes st (sending false w q f) ib l g h = h
  out_step aborts st sd ib l g h = tt
  out_step (puts bytes) st silent ib l g h = tt
  out_step (puts bytes) st (sending true w q f) ib l g h = h
  out_step (puts bytes) st (sending false w q f) ib l g h = h
  out_step (received m) st sd ib l g h = out_received m st sd ib l g h
  out_step (wrote m) st sd ib l g h = out_wrote m st sd ib l g h

  -- ---- what we receive

  -- whatever the far end is then
  in_moved : (t o : Side) (ib : Ration) (l : Ledger) → Balanced own l ib → InFair own (ends o t) ib l
  in_moved side.Open side.Open ib l h = h
  in_moved side.Open side.Finished ib l h = h
  in_moved side.Open side.Ended ib l h = tt
  in_moved side.Finished side.Open ib l h = tt
  in_moved side.Finished side.Finished ib l h = tt
  in_moved side.Finished side.Ended ib l h = tt
  in_moved side.Ended side.Open ib l h = tt
  in_moved side.Ended side.Finished ib l h = tt
  in_moved side.Ended side.Ended ib l h = tt

  in_received : (m : SessionMessage) (st : Ends) (sd : Sending) (ib : Ration) (l : Ledger) → Legal r own far p (seen_so st sd ib) (received m) → InFair own st ib l
      → InFair own (ends_after st (received m)) (inbound_after own st ib (received m)) (receiving_after st l (received m))
  in_received (data_of n true close eof ack) st sd ib l g h =
      in_moved (data_leaves close eof) side.Open (minus own n) (spends n blank_ledger)
      (balanced_spend own blank_ledger own n (balanced_start own) (and_second (is_server r && may_open r st) (allows own n) g))
  in_received (data_of n false close eof ack) unused sd ib l g h = tt
  in_received (data_of n false close eof ack) (ends side.Ended t) sd ib l g h = tt
  in_received (data_of n false close eof ack) (ends side.Open side.Open) sd ib l g h =
      in_moved (data_leaves close eof) side.Open (minus ib n) (spends n l) (balanced_spend own l ib n h g)
  in_received (data_of n false close eof ack) (ends side.Open side.Finished) sd ib l g h = absurd (false≢true g)
  in_received (data_of n false close eof ack) (ends side.Open side.Ended) sd ib l g h = absurd (false≢true g)
  in_received (data_of n false close eof ack) (ends side.Finished side.Open) sd ib l g h =
      in_moved (data_leaves close eof) side.Finished (minus ib n) (spends n l) (balanced_spend own l ib n h g)
  in_received (data_of n false close eof ack) (ends side.Finished side.Finished) sd ib l g h = absurd (false≢true g)
  in_received (data_of n false close eof ack) (ends side.Finished side.Ended) sd ib l g h = absurd (false≢true g)
  in_received (increment_of n) st sd ib l g h = h
  in_received (abort_of partial) st sd ib l g h = in_gone own st ib l
  in_received close_of st sd ib l g h = in_gone own st ib l
  in_received acknowledgment_of st sd ib l g h = h

  -- a Data message that may arrive, and is not late, is covered by what we granted
  pub in_covers : (close eof ack : Bool) (n : ℕ) (st : Ends) (sd : Sending) (ib : Ration) (l : Ledger)
      → Legal r own far p (seen_so st sd ib) (received (data_of n false close eof ack)) → late_for st (data_of n false close eof ack) ≡ false → InFair own st ib l → Covers own l n
  in_covers close eof ack n unused sd ib l g late h = absurd (false≢true g)
  in_covers close eof ack n (ends side.Open side.Open) sd ib l g late h = balanced_covers own l ib n h g
  in_covers close eof ack n (ends side.Open side.Finished) sd ib l g late h = absurd (false≢true g)
  in_covers close eof ack n (ends side.Open side.Ended) sd ib l g late h = absurd (false≢true g)
  in_covers close eof ack n (ends side.Finished side.Open) sd ib l g late h = balanced_covers own l ib n h g
  in_covers close eof ack n (ends side.Finished side.Finished) sd ib l g late h = absurd (false≢true g)
  in_covers close eof ack n (ends side.Finished side.Ended) sd ib l g late h = absurd (false≢true g)
  in_covers close eof ack n (ends side.Ended t) sd ib l g late h = absurd (true≢false late)

  pub open_covers : (close eof ack : Bool) (n : ℕ) (v : Seen) → Legal r own far p v (received (data_of n true close eof ack)) → Covers own blank_ledger n
  open_covers close eof ack n v g = balanced_covers own blank_ledger own n (balanced_start own) (and_second (is_server r && may_open r v.standing) (allows own n) g)

  in_wrote : (m : SessionMessage) (st : Ends) (sd : Sending) (ib : Ration) (l : Ledger) → Writes r far p (seen_so st sd ib) m → InFair own st ib l
      → InFair own (ends_after st (wrote m)) (inbound_after own st ib (wrote m)) (receiving_after st l (wrote m))
  in_wrote (data_of n true close eof ack) st sd ib l g h = in_moved side.Open (data_leaves close eof) own blank_ledger (balanced_start own)
  in_wrote (data_of n false close eof ack) unused sd ib l g h = tt
  in_wrote (data_of n false close eof ack) (ends side.Open t) sd ib l g h = in_any own (data_leaves close eof) t ib l h
  in_wrote (data_of n false close eof ack) (ends side.Finished side.Open) sd ib l g h = absurd (false≢true g.now)
  in_wrote (data_of n false close eof ack) (ends side.Finished side.Finished) sd ib l g h = absurd (false≢true g.now)
  in_wrote (data_of n false close eof ack) (ends side.Finished side.Ended) sd ib l g h = absurd (false≢true (and_second (only_if (is_server r) false) false g.now))
  in_wrote (data_of n false close eof ack) (ends side.Ended side.Open) sd ib l g h = absurd (false≢true g.now)
  in_wrote (data_of n false close eof ack) (ends side.Ended side.Finished) sd ib l g h = absurd (false≢true g.now)
  in_wrote (data_of n false close eof ack) (ends side.Ended side.Ended) sd ib l g h = absurd (false≢true (and_second (only_if (is_server r) false) false g.now))
  in_wrote (increment_of n) st sd ib l g h = in_grant own st ib l n h
  in_wrote (abort_of partial) st sd ib l g h = in_ended own st ib l
  in_wrote close_of st sd ib l g h = in_ended own st ib l
  in_wrote acknowledgment_of st sd ib l g h = h

  pub in_step : (e : Event) (st : Ends) (sd : Sending) (ib : Ration) (l : Ledger) → Legal r own far p (seen_so st sd ib) e → InFair own st ib l
      → InFair own (ends_after st e) (inbound_after own st ib e) (receiving_after st l e)
  in_step opens st sd ib l g h = h
  in_step finishes st sd ib l g h = h
  in_step aborts st sd ib l g h = h
  in_step (puts bytes) st sd ib l g h = h
  in_step (received m) st sd ib l g h = in_received m st sd ib l g h
  in_step (wrote m) st sd ib l g h = in_wrote m st sd ib l g h
