-- What one item more brings: its words.
use Rattle.std.proofs.Common.{◌≡◌, List, [], ◌∷◌, ◌++◌, ap, ◌∙◌, append-nil}
use Rattle.std.proofs.lemmas.Grind.{flat_map-append}
use Rattle.sb_packet.specs.Accesses.{Access, accesses_of_item}
use Rattle.sb_link.specs.Traffic.{item_accesses}
use Rattle.sb_packet.specs.declared.item.Item.{Item}

-- the words of items and of one more
pub item_more : (list : List Item) (item : Item) → item_accesses (list ++ item ∷ []) ≡ item_accesses list ++ accesses_of_item item
item_more list item = flat_map-append accesses_of_item list (item ∷ []) ∙ ap (λ (rest : List Access). item_accesses list ++ rest) (append-nil (accesses_of_item item))
