-- A host, a router and a device, with a script of three transactions, and what goes over their rings.
use Rattle.std.proofs.Common.{◌≡◌, lit≤, ℕ, replicate, refl, [], ◌∷◌, List, Some, None}
use Rattle.std.specs.Prelude.{codes}
use Rattle.sb_packet.specs.Networks.{NetHost, Network, at_host, at_router, at_device}
use Rattle.sb_packet.specs.Journals.{journal_accesses}
use Rattle.sb_link.specs.Traffic.{item_accesses}
use Rattle.sb_packet.specs.declared.entry.Entry.{Entry}
use Rattle.sb_packet.specs.declared.packet.Packet.{Packet}
use Rattle.sb_packet.specs.declared.item.Item.{Item}
use Rattle.sb_packet.specs.declared.item.Item.TheVariants as items
use Rattle.sb_packet.specs.declared.transaction.Kind.TheVariants.{Read, Write, Posted}
use Rattle.sb_word.specs.declared.command.Op.TheVariants.{ReqWrPosted, RespRd, RespWr}
use Rattle.sb_packet.proofs.ExampleRuns.{page_at, plain_read, plain_write}
use Rattle.sb_laws.specs.Flows.{device_answers}

-- eight bytes, and eight others
abbrev pub one_to_eight : List ℕ
one_to_eight = 1 ∷ 2 ∷ 3 ∷ 4 ∷ 5 ∷ 6 ∷ 7 ∷ 8 ∷ []

-- The host writes a word, posts a write of the next, and reads the first.
abbrev pub cpu : NetHost
cpu = record {
  name = codes "cpu";
  id = 0;
  qos = 0;
  prot = 0;
  script = record { kind = Write; size = 3; addr = 65536; count = 1; body = one_to_eight }
      ∷ record { kind = Posted; size = 3; addr = 65544; count = 1; body = replicate 8 9 }
      ∷ record { kind = Read; size = 3; addr = 65536; count = 1; body = [] } ∷ [];
}

-- link 0 leads from the host to the router, and link 1 from there to the device
abbrev pub small : Network
small = record {
  hosts = cpu ∷ [];
  routers = record { name = codes "r"; side = 0; routes = Some 1 ∷ [] } ∷ [];
  devices = page_at (codes "mem") 65536 ∷ [];
  links = record { name = codes "l0"; from = at_host 0; to = at_router 0; width = 32; capacity = 8 }
      ∷ record { name = codes "l1"; from = at_router 0; to = at_device 0; width = 32; capacity = 8 } ∷ [];
  wire = None;
}

-- the packets of the three transactions
abbrev pub write : Packet
write = record { cmd = plain_write; dst = 65536; src = 0; body = 1 ∷ 2 ∷ 3 ∷ 4 ∷ 5 ∷ 6 ∷ 7 ∷ 8 ∷ replicate 24 0; whole = refl; fits = lit≤ tt; dst_aligned = refl; src_aligned = refl; dst_in_range = lit≤ tt; src_in_range = lit≤ tt; padding = refl }

abbrev pub posted : Packet
posted = record { cmd = record plain_write { op = ReqWrPosted; atomic_type_fits = λ h. lit≤ tt }; dst = 65544; src = 2048; body = 9 ∷ 9 ∷ 9 ∷ 9 ∷ 9 ∷ 9 ∷ 9 ∷ 9 ∷ replicate 24 0; whole = refl; fits = lit≤ tt; dst_aligned = refl; src_aligned = refl; dst_in_range = lit≤ tt; src_in_range = lit≤ tt; padding = refl }

abbrev pub read : Packet
read = record { cmd = plain_read; dst = 65536; src = 4096; body = replicate 32 0; whole = refl; fits = lit≤ tt; dst_aligned = refl; src_aligned = refl; dst_in_range = lit≤ tt; src_in_range = lit≤ tt; padding = refl }

-- the answers to the first and to the third
abbrev pub written : Packet
written = record { cmd = record plain_write { op = RespWr; atomic_type_fits = λ h. lit≤ tt }; dst = 0; src = 65536; body = replicate 32 0; whole = refl; fits = lit≤ tt; dst_aligned = refl; src_aligned = refl; dst_in_range = lit≤ tt; src_in_range = lit≤ tt; padding = refl }

abbrev pub read_back : Packet
read_back = record { cmd = record plain_read { op = RespRd; atomic_type_fits = λ h. lit≤ tt }; dst = 4096; src = 65536; body = 1 ∷ 2 ∷ 3 ∷ 4 ∷ 5 ∷ 6 ∷ 7 ∷ 8 ∷ replicate 24 0; whole = refl; fits = lit≤ tt; dst_aligned = refl; src_aligned = refl; dst_in_range = lit≤ tt; src_in_range = lit≤ tt; padding = refl }

-- the journal of the device
abbrev pub steps : List Entry
steps = record { round = 1; device = 0; packet = write } ∷ record { round = 2; device = 0; packet = posted } ∷ record { round = 3; device = 0; packet = read } ∷ []

-- what requests and answers come to as items
abbrev pub asking : List Item
asking = items.Packet write ∷ items.Packet posted ∷ items.Packet read ∷ items.Close ∷ []

abbrev pub answering : List Item
answering = items.Packet written ∷ items.Packet read_back ∷ items.Close ∷ []

-- The journal has the words of the requests, and the device answers with those of the answers.
pub journal_of_small : journal_accesses steps 0 ≡ item_accesses asking
journal_of_small = refl

pub answers_of_small : device_answers small steps 0 ≡ item_accesses answering
answers_of_small = refl
