-- No byte is lost, doubled or made up, and the rations balance: what legal events add up to. From the step of each ledger.
use mathlib.Core.Path.{◌≡◌, refl, sym, ap, ◌∙◌}
use mathlib.Core.Bool.{Bool, true, false}
use mathlib.Core.List.{List, [], ◌∷◌, ◌++◌, append_assoc}
use Prim.Native.Nat.{ℕ}
use lib.ListN.{take, drop, take-append-drop}
use lib.Seq.{take-length}
use Rattle.laws.specs.Runs.{fold}
use Rattle.ration.specs.declared.Ration.{Ration}
use Rattle.wire.specs.declared.Role.{Role}
use Rattle.protocol.specs.Message.{SessionMessage, data_of, increment_of, abort_of, close_of, acknowledgment_of}
use Rattle.protocol.specs.Observed.{Event, opens, finishes, aborts, puts, received, wrote, Sending, silent, sending, sends_after, Ends, observe}
use Rattle.protocol.specs.Totals.{put_after, payload_after, Totals, add_up}
use Rattle.protocol.proofs.Legal.{BearsData, Legal, Writes, AllLegal}
use Rattle.protocol.proofs.Ledgers.{OutFair, InFair, seen_so, out_step, in_step}

-- the payloads, then what waits, are the bytes put
abbrev pub Flows : Sending → List ℕ → List ℕ → Type 0
Flows silent put sent = Unit {0}
Flows (sending u w q f) put sent = sent ++ w ≡ put

pub record Fair (own far : Ration) (t : Totals) : Type 0 where
  pub out : OutFair far t.seen.standing t.seen.sends t.sending
  pub into : InFair own t.seen.standing t.seen.inbound t.receiving
  pub flows : Flows t.seen.sends t.put t.payloads

module _ (r : Role) (own far : Ration) (p : List ℕ) where
  data_flows : (n : ℕ) (w put sent : List ℕ) → p ≡ take n w → sent ++ w ≡ put → (sent ++ p) ++ drop n w ≡ put
  data_flows n w put sent e h =
      ap (λ (z : List ℕ). (sent ++ z) ++ drop n w) e ∙ append_assoc sent (take n w) (drop n w) ∙ ap (λ (z : List ℕ). sent ++ z) (take-append-drop n w) ∙ h

  flow_wrote : (m : SessionMessage) (st : Ends) (sd : Sending) (ib : Ration) (put sent : List ℕ) → Writes r far p (seen_so st sd ib) m → Flows sd put sent
      → Flows (sends_after far sd (wrote m)) put (payload_after p sent (wrote m))
  flow_wrote (data_of n b close eof ack) st silent ib put sent g h = tt
  flow_wrote (data_of n b close true ack) st (sending u w q f) ib put sent g h = tt
  flow_wrote (data_of n b close false ack) st (sending u w q f) ib put sent g h = data_flows n w put sent g.bears.0 h
  flow_wrote (increment_of n) st sd ib put sent g h = h
  flow_wrote (abort_of partial) st sd ib put sent g h = tt
  flow_wrote close_of st sd ib put sent g h = h
  flow_wrote acknowledgment_of st sd ib put sent g h = h

  pub flow_step : (e : Event) (st : Ends) (sd : Sending) (ib : Ration) (put sent : List ℕ) → Legal r own far p (seen_so st sd ib) e → Flows sd put sent
      → Flows (sends_after far sd e) (put_after put e) (payload_after p sent e)
  flow_step opens st sd ib put sent g h = refl
  flow_step finishes st silent ib put sent g h = tt
  flow_step finishes st (sending u w q f) ib put sent g h = h
  flow_step aborts st sd ib put sent g h = tt
  flow_step (puts bytes) st silent ib put sent g h = tt
  flow_step (puts bytes) st (sending u w q f) ib put sent g h = sym (append_assoc sent w bytes) ∙ ap (λ (z : List ℕ). z ++ bytes) h
  flow_step (received (data_of n true close eof ack)) st sd ib put sent g h = refl
  flow_step (received (data_of n false close eof ack)) st sd ib put sent g h = h
  flow_step (received (increment_of n)) st silent ib put sent g h = tt
  flow_step (received (increment_of n)) st (sending u w q f) ib put sent g h = h
  flow_step (received (abort_of partial)) st sd ib put sent g h = h
  flow_step (received close_of) st sd ib put sent g h = h
  flow_step (received acknowledgment_of) st sd ib put sent g h = h
  flow_step (wrote m) st sd ib put sent g h = flow_wrote m st sd ib put sent g h

  -- at eof the payloads are all the bytes put
  pub eof_flows : (n : ℕ) (b close ack : Bool) (sd : Sending) (put sent : List ℕ) → BearsData p n true sd → Flows sd put sent → sent ++ p ≡ put
  eof_flows n b close ack silent put sent g h = absurd g
  eof_flows n b close ack (sending u w q f) put sent g h =
      ap (λ (z : List ℕ). sent ++ z) (g.0 ∙ ap (λ (k : ℕ). take k w) (g.1 refl) ∙ take-length w) ∙ h

  -- ---- all of it, over legal events

  pub fair_step : (t : Totals) (e : Event) → Legal r own far p t.seen e → Fair own far t → Fair own far (add_up own far p t e)
  fair_step t e g f =
      record {
        out = out_step r own far p e t.seen.standing t.seen.sends t.seen.inbound t.sending g f.out;
        into = in_step r own far p e t.seen.standing t.seen.sends t.seen.inbound t.receiving g f.into;
        flows = flow_step e t.seen.standing t.seen.sends t.seen.inbound t.put t.payloads g f.flows;
      }

  pub fair_all : (es : List Event) (t : Totals) → AllLegal r own far p t.seen es → Fair own far t → Fair own far (fold (add_up own far p) t es)
  unfolding fold
  fair_all [] t g f = f
  fair_all (e ∷ es) t g f = fair_all es (add_up own far p t e) g.1 (fair_step t e g.0 f)

-- what is observed is observed beside the totals too
pub seen_all : (own far : Ration) (p : List ℕ) (es : List Event) (t : Totals) → (fold (add_up own far p) t es).seen ≡ fold (observe own far) t.seen es
unfolding fold
seen_all own far p [] t = refl
seen_all own far p (e ∷ es) t = seen_all own far p es (add_up own far p t e)
