-- `packed_items` meets its contract: the items are the message's words.
use Rattle.std.proofs.Common.{ℕ, ◌+◌, ◌*◌, List, get_or, ap}
use Rattle.capture_scan.proofs.packed_items.Goals as goal

pub returns : goal.returns
returns c =
    ap (λ (l : List ℕ). get_or l 0 0 + 16 * get_or l 1 0 + 256 * get_or l 2 0 + 65_536 * get_or l 3 0)
    c.items_of-items.ensures.0
