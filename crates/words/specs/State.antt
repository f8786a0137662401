-- One end of a connection in 400 words: three columns of 128, and a head of 16.
use Rattle.std.specs.Prelude.{ℕ, ◌+◌, ◌*◌, ◌-◌, ◌/◌, ◌%◌, Bool, true, ◌&&◌, List, [], ◌∷◌, ◌++◌, map, get_or, take, drop, replicate, eqb, ltb, Option, Some, None}
use Rattle.laws.specs.Pick.{pick}
use Rattle.wire.specs.declared.Role.{Role}
use Rattle.wire.specs.declared.Role.TheVariants as role
use Rattle.state.specs.declared.Session.{Session}
use Rattle.state.specs.declared.Stage.{Stage}
use Rattle.state.specs.declared.Stage.TheVariants as stage
use Rattle.state.specs.declared.Connection.{Connection}
use Rattle.words.specs.Session.{flag_number, outbound_word, inbound_word, status_word, session_of}

-- ---- where each word is

abbrev pub inbound_at : ℕ
inbound_at = 128

abbrev pub status_at : ℕ
status_at = inbound_at + 128

abbrev pub head_at : ℕ
head_at = status_at + 128

abbrev pub stage_at : ℕ
stage_at = head_at

abbrev pub over_at : ℕ
over_at = head_at + 1

abbrev pub own_at : ℕ
own_at = head_at + 2

abbrev pub last_at : ℕ
last_at = head_at + 3

abbrev pub ping_at : ℕ
ping_at = head_at + 4

-- the words behind these are spare, and zero
abbrev pub spare_at : ℕ
spare_at = head_at + 5

abbrev pub spare_count : ℕ
spare_count = 11

abbrev pub word_count : ℕ
word_count = spare_at + spare_count

-- ---- the parts of a connection that are no sessions

abbrev pub role_number : Role → ℕ
role_number role.Client = 0
role_number role.Server = 1

unfoldable pub role_in : ℕ → Role
role_in n = pick (eqb n 0) role.Client role.Server

abbrev pub stage_number : Stage → ℕ
stage_number (stage.Fresh r) = role_number r
stage_number stage.Started = 2
stage_number (stage.Up r far) = 3 + (2 * far + role_number r)

unfoldable pub stage_of : ℕ → Stage
stage_of n = pick (ltb n 2) (stage.Fresh (role_in n)) (pick (eqb n 2) stage.Started (stage.Up (role_in ((n - 3) % 2)) ((n - 3) / 2)))

abbrev pub ping_number : Option ℕ → ℕ
ping_number None = 0
ping_number (Some cookie) = 1 + cookie

unfoldable pub ping_in : ℕ → Option ℕ
ping_in n = pick (eqb n 0) None (Some (n - 1))

-- how many numbers 16 bits have, and with them the stages and the pings
abbrev pub numbers16 : ℕ
numbers16 = 65_536

abbrev pub stage_cases : ℕ
stage_cases = 3 + 2 * numbers16

abbrev pub ping_cases : ℕ
ping_cases = 1 + numbers16

-- ---- the words of a connection, and the connection of words

abbrev pub head_words : Connection → List ℕ
head_words c =
    stage_number c.stage ∷ flag_number c.over ∷ c.own ∷ c.last ∷ ping_number c.ping ∷ replicate spare_count 0

unfoldable pub words_of : Connection → List ℕ
words_of c = map outbound_word c.sessions ++ (map inbound_word c.sessions ++ (map status_word c.sessions ++ head_words c))

abbrev pub zipped : List ℕ → List ℕ → List ℕ → List Session
zipped [] inbound status = []
zipped (a ∷ outbound) [] status = []
zipped (a ∷ outbound) (b ∷ inbound) [] = []
zipped (a ∷ outbound) (b ∷ inbound) (s ∷ status) = session_of a b s ∷ zipped outbound inbound status

abbrev pub sessions_of : List ℕ → List Session
sessions_of w = zipped (take 128 w) (take 128 (drop inbound_at w)) (take 128 (drop status_at w))

abbrev pub all_zero : List ℕ → Bool
all_zero [] = true
all_zero (x ∷ xs) = eqb x 0 && all_zero xs

-- each word of the head, but for the number served last, is one that some connection has
abbrev pub head_fits : ℕ → ℕ → ℕ → ℕ → List ℕ → Bool
head_fits st over own p spare = ltb st stage_cases && ltb over 2 && ltb own numbers16 && ltb p ping_cases && all_zero spare

unfoldable pub head_in_range : List ℕ → Bool
head_in_range w = head_fits (get_or w stage_at 0) (get_or w over_at 0) (get_or w own_at 0) (get_or w ping_at 0) (drop spare_at w)

-- the connection of any words: a head that no connection has is read as one with a number above 127 served last, which is not well formed
unfoldable pub connection_of : List ℕ → Connection
connection_of w =
    record {
      sessions = sessions_of w;
      stage = stage_of (get_or w stage_at 0);
      over = eqb (get_or w over_at 0) 1;
      own = get_or w own_at 0;
      last = pick (head_in_range w) (get_or w last_at 0) 128;
      ping = ping_in (get_or w ping_at 0);
    }
