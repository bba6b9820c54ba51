-- What items say when one more comes to their end.
use Rattle.std.proofs.Common.{◌≡◌, List, [], ◌∷◌, ◌++◌, refl, ap, true}
use Rattle.std.specs.Prelude.{flat_map}
use Rattle.sb_packet.specs.Accesses.{Access, message_accesses, accesses_of}
use Rattle.sb_packet.specs.Messages.{Message, message_of}
use Rattle.sb_link.specs.Traffic.{has_close, item_accesses, item_messages}
use Rattle.sb_packet.specs.declared.packet.Packet.{Packet}
use Rattle.sb_packet.specs.declared.item.Item.{Item}
use Rattle.sb_packet.specs.declared.item.Item.TheVariants as items

-- a packet closes nothing
pub has_close-packet : (list : List Item) (p : Packet) → has_close (list ++ items.Packet p ∷ []) ≡ has_close list
has_close-packet [] p = refl
has_close-packet (items.Packet q ∷ rest) p = has_close-packet rest p
has_close-packet (items.Close ∷ rest) p = refl

-- a Close does
pub has_close-close : (list : List Item) → has_close (list ++ items.Close ∷ []) ≡ true
has_close-close [] = refl
has_close-close (items.Packet q ∷ rest) = has_close-close rest
has_close-close (items.Close ∷ rest) = refl

-- a packet adds its message
pub item_messages-packet : (list : List Item) (p : Packet) → item_messages (list ++ items.Packet p ∷ []) ≡ item_messages list ++ message_of p ∷ []
item_messages-packet [] p = refl
item_messages-packet (items.Packet q ∷ rest) p = ap (λ (more : List Message). message_of q ∷ more) (item_messages-packet rest p)
item_messages-packet (items.Close ∷ rest) p = item_messages-packet rest p

-- a Close adds none
pub item_messages-close : (list : List Item) → item_messages (list ++ items.Close ∷ []) ≡ item_messages list
item_messages-close [] = refl
item_messages-close (items.Packet q ∷ rest) = ap (λ (more : List Message). message_of q ∷ more) (item_messages-close rest)
item_messages-close (items.Close ∷ rest) = item_messages-close rest

-- the words of items are those of their messages
pub item_accesses-messages : (list : List Item) → item_accesses list ≡ flat_map message_accesses (item_messages list)
item_accesses-messages [] = refl
item_accesses-messages (items.Packet q ∷ rest) = ap (λ (more : List Access). accesses_of q ++ more) (item_accesses-messages rest)
item_accesses-messages (items.Close ∷ rest) = item_accesses-messages rest
