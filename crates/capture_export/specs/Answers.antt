-- The words that the values of the code hold, in the order in which a caller gets them.
use Rattle.std.specs.Prelude.{ℕ, ◌<◌, List, [], ◌∷◌}
use Rattle.capture_export.specs.declared.Items.{Items}
use Rattle.capture_export.specs.declared.Finding.{Finding}

-- the words of a message's items
abbrev pub item_words : Items → List ℕ
item_words i = i.kind ∷ i.flags ∷ i.session ∷ i.value ∷ []

-- items that fit into 4, 8, 8 and 16 bits
pub record Small (i : Items) : Type 0 where
  pub kind : i.kind < 16
  pub flags : i.flags < 256
  pub session : i.session < 256
  pub value : i.value < 65_536

-- the seven words of a place
abbrev pub found_words : Finding → List ℕ
found_words f = f.number ∷ f.fault ∷ f.next ∷ item_words f.items
