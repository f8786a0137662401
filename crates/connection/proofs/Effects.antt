-- A connection with one part set is what the effect that sets this part leaves.
use Rattle.std.specs.Prelude.{Option, ℕ}
use mathlib.Core.Path.{◌≡◌, sym, ap}
use mathlib.Core.List.{List}
use lib.Seq.{set-get_or}
use Rattle.state.specs.declared.Session.{Session}
use Rattle.state.specs.declared.Stage.{Stage}
use Rattle.state.specs.declared.Connection.{Connection}
use Rattle.state.specs.New.{blank}
use Rattle.protocol.specs.Connection.{Cause, ended}
use Rattle.protocol.specs.Judge.{Report, Output, setting_stage, setting_ping, ends_by, commit}
use Rattle.state.specs.With.{with_sessions, with_stage, with_ping}

module _ (c : Connection) (r : Report) (outs : List Output) where
  pub sets_stage : (s : Stage) → with_stage s c ≡ commit c (setting_stage c s r outs)
  sets_stage s = ap (λ (l : List Session). with_stage s (with_sessions l c)) (sym (set-get_or c.sessions 0 blank))

  pub sets_ping : (p : Option ℕ) → with_ping p c ≡ commit c (setting_ping c p r outs)
  sets_ping p = ap (λ (l : List Session). with_ping p (with_sessions l c)) (sym (set-get_or c.sessions 0 blank))

  pub sets_end : (cause : Cause) → ended cause c ≡ commit c (ends_by c cause r outs)
  sets_end cause = ap (λ (l : List Session). ended cause (with_sessions l c)) (sym (set-get_or c.sessions 0 blank))
