-- What a line asks.
use Rattle.std.specs.Prelude.{ℕ, Bool, true, false, not, List, Option, Some, None, if◌then◌else◌, option_and_then}
use Rattle.std.specs.Bool.{then_some}
use Rattle.std.specs.Option.{option_map}
use Rattle.wire.specs.declared.Role.{Role}
use Rattle.protocol.specs.Slot.{queue_size}
use Rattle.wire.specs.declared.Role.TheVariants as role
use Rattle.script_lines.specs.declared.Name.{Name}
use Rattle.script_lines.specs.declared.Name.TheVariants as name
use Rattle.script_lines.specs.declared.Call.{Call}
use Rattle.script_lines.specs.declared.Call.TheVariants as call
use Rattle.script_lines.specs.declared.Command.{Command}
use Rattle.script_lines.specs.declared.Command.TheVariants as command
use Rattle.script_lines.specs.declared.Beginning.{Beginning}
use Rattle.script_lines.specs.Names.{name_of}
use Rattle.laws.specs.Codes.{codes}
use Rattle.script_words.specs.Words.{head_of, tail_of, has_more, same}
use Rattle.script_words.specs.Numbers.{decimal_of, id_from, short_from, at_most}
use Rattle.script_words.specs.Hex.{is_bytes}

-- ---- the room

-- the room if the line names none, and the largest
abbrev pub usual_room : ℕ
usual_room = 600

abbrev pub largest_room : ℕ
largest_room = 66000

-- the room follows the first word of a text
abbrev pub with_room : Call → List ℕ → Option Command
with_room c s = if has_more s then option_map (λ n. command.Call c n) (at_most largest_room (decimal_of (tail_of s))) else Some (command.Call c usual_room)

-- nothing follows the first word of a text
abbrev pub alone : Command → List ℕ → Option Command
alone c s = then_some (not (has_more s)) c

-- ---- the words behind a call's name

-- what a session number that is the whole of a text asks
abbrev pub on_id : (ℕ → Command) → List ℕ → Option Command
on_id f s = option_map f (id_from (decimal_of s))

-- what a session number at the front of a text asks, with what follows it
abbrev pub session_command : (ℕ → List ℕ → Option Command) → List ℕ → Option Command
session_command f s = option_and_then (λ n. f n (tail_of s)) (id_from (decimal_of (head_of s)))

abbrev pub put_command : List ℕ → Option Command
put_command = session_command (λ n s. then_some (is_bytes 1024 s) (command.Call (call.Put n) usual_room))

abbrev pub grant_command : List ℕ → Option Command
grant_command = session_command (λ n s. option_and_then (λ a. with_room (call.Grant n a) s) (decimal_of (head_of s)))

abbrev pub is_partial : List ℕ → Option Bool
is_partial w = if same w (codes "whole") then Some false else if same w (codes "partial") then Some true else None

abbrev pub abort_command : List ℕ → Option Command
abort_command = session_command (λ n s. option_and_then (λ p. with_room (call.Abort n p) s) (is_partial (head_of s)))

abbrev pub close_command : List ℕ → Option Command
close_command s = option_and_then (λ n. with_room (call.Close n) s) (id_from (decimal_of (head_of s)))

abbrev pub ping_command : List ℕ → Option Command
ping_command s = option_and_then (λ n. with_room (call.Ping n) s) (short_from (decimal_of (head_of s)))

abbrev pub receive_command : List ℕ → Option Command
receive_command s = if is_bytes 66000 (head_of s) then with_room call.Receive s else None

-- ---- a line

-- a line by the name of its call, with what follows the name
abbrev pub command_as : Name → List ℕ → List ℕ → Option Command
command_as name.Start s rest = with_room call.Start s
command_as name.Open s rest = on_id (λ n. command.Call (call.Open n) usual_room) rest
command_as name.Put s rest = put_command rest
command_as name.Finish s rest = on_id (λ n. command.Call (call.Finish n) usual_room) rest
command_as name.Turn s rest = with_room call.Turn s
command_as name.Grant s rest = grant_command rest
command_as name.Abort s rest = abort_command rest
command_as name.Close s rest = close_command rest
command_as name.Ping s rest = ping_command rest
command_as name.Shutdown s rest = with_room call.Shutdown s
command_as name.Lost s rest = alone (command.Call call.Lost usual_room) s
command_as name.Receive s rest = receive_command rest
command_as name.State s rest = alone command.State s
command_as name.Queue s rest = on_id (λ n. command.Queue n) rest

-- what a line after the first asks
unfoldable pub command_of : List ℕ → Option Command
command_of s = option_and_then (λ n. command_as n s (tail_of s)) (name_of (head_of s))

-- the word that holds the bytes of a put or a receive: the third word of a put, the second of a receive
unfoldable pub bytes_word : List ℕ → List ℕ
bytes_word s = if same (head_of s) (codes "put") then tail_of (tail_of s) else head_of (tail_of s)

-- ---- the first line

abbrev pub role_named : List ℕ → Option Role
role_named w = if same w (codes "client") then Some role.Client else if same w (codes "server") then Some role.Server else None

-- the length of the queue follows the header number, or is the usual one
abbrev pub queue_length : List ℕ → Option ℕ
queue_length s =
    if has_more s then (if same (head_of (tail_of s)) (codes "queue") then at_most 70000 (decimal_of (tail_of (tail_of s))) else None) else Some queue_size

abbrev pub beginning_as : Role → List ℕ → Option Beginning
beginning_as r s = option_and_then (λ h. option_map (λ q. record { role = r; header = h; queue = q }) (queue_length s)) (short_from (decimal_of (head_of s)))

-- what the first line says
unfoldable pub beginning_of : List ℕ → Option Beginning
beginning_of s = option_and_then (λ r. beginning_as r (tail_of s)) (role_named (head_of s))
