-- A list grows by the item that a step announces.
use Rattle.std.specs.Prelude.{◌≡◌, List, [], ◌∷◌, ◌++◌}
use mathlib.Core.Option.{Option, some, none}
use Rattle.sb_packet.specs.declared.item.Item.{Item}

-- the item that was announced, if one was, stands at the end of the list
abbrev pub IsAppended : Option Item → List Item → List Item → Type 0
IsAppended none before after = after ≡ before
IsAppended (some item) before after = after ≡ before ++ item ∷ []
