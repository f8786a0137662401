-- Which events end a wait and which do not, each constructor named: from the definition, by cases.
use mathlib.Core.Path.{◌≡◌, refl, sym}
use mathlib.Core.Bool.{true, false, true≢false}
use Rattle.protocol.specs.Message.{data_of, increment_of, abort_of, close_of, acknowledgment_of}
use Rattle.protocol.specs.Observed.{Event, opens, finishes, aborts, puts, received, wrote, lapses}
use Rattle.protocol.specs.Lapsing.{Lapsing, Lasting, abort_taken, abort_comes, close_comes, close_flag_comes}

-- a wait lapses in these four ways
pub lapses_by : {e : Event} → Lapsing e → lapses e ≡ true
lapses_by abort_taken = refl
lapses_by (abort_comes partial) = refl
lapses_by close_comes = refl
lapses_by (close_flag_comes n begins eof ack) = refl

-- and in no other
pub lapses_only : (e : Event) → lapses e ≡ true → Lapsing e
lapses_only opens h = absurd (true≢false (sym h))
lapses_only finishes h = absurd (true≢false (sym h))
lapses_only aborts h = abort_taken
lapses_only (puts bytes) h = absurd (true≢false (sym h))
lapses_only (received (data_of n begins true eof ack)) h = close_flag_comes n begins eof ack
lapses_only (received (data_of n begins false eof ack)) h = absurd (true≢false (sym h))
lapses_only (received (increment_of n)) h = absurd (true≢false (sym h))
lapses_only (received (abort_of partial)) h = abort_comes partial
lapses_only (received close_of) h = close_comes
lapses_only (received acknowledgment_of) h = absurd (true≢false (sym h))
lapses_only (wrote m) h = absurd (true≢false (sym h))

-- the others, one by one
pub lasts_over : Lasting
lasts_over =
    record {
      by_open = refl;
      by_finish = refl;
      by_put = λ bytes. refl;
      by_data = λ n begins eof ack. refl;
      by_increment = λ n. refl;
      by_acknowledgment = refl;
      by_data_written = λ n begins close eof ack. refl;
      by_increment_written = λ n. refl;
      by_abort_written = λ partial. refl;
      by_close_written = refl;
      by_acknowledgment_written = refl;
    }
