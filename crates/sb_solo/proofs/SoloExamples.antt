-- What `solo` makes of small scripts, computed.
use Rattle.std.proofs.Common.{◌≡◌, refl, [], ◌∷◌, List}
use Rattle.std.proofs.lemmas.List.Elements.{All-from_recursion}
use Rattle.sb_packet.specs.Answers.{host_outcomes}
use Rattle.sb_packet.specs.declared.transaction.Txn.{Txn}
use Rattle.sb_packet.specs.declared.transaction.Kind.TheVariants.{Read, Posted}
use Rattle.sb_packet.specs.declared.transaction.Code.TheVariants as the_codes
use Rattle.sb_packet.specs.declared.transaction.TxnState.TheVariants as the_states
use Rattle.sb_packet.specs.declared.transaction.TxnState.TheVariants.{Answered}
use Rattle.sb_packet.proofs.ExampleRuns.{read_packet, write_and_read, write_packet}
use Rattle.sb_solo.specs.Solo.{solo_host, solo_network, solo_packets, IsSoloJournal}

-- The journal of a write and a read at the memory of `solo` has a packet for each, in round 0 at device 0.
pub journal_of_a_write_and_a_read : IsSoloJournal write_and_read (record { round = 0; device = 0; packet = write_packet } ∷ record { round = 0; device = 0; packet = read_packet } ∷ [])
journal_of_a_write_and_a_read = record {
  packets = refl;
  first_round = All-from_recursion (λ e. e.round ≡ 0) (record { round = 0; device = 0; packet = write_packet } ∷ record { round = 0; device = 0; packet = read_packet } ∷ []) (refl, (refl, tt));
  one_device = All-from_recursion (λ e. e.device ≡ 0) (record { round = 0; device = 0; packet = write_packet } ∷ record { round = 0; device = 0; packet = read_packet } ∷ []) (refl, (refl, tt));
}

-- a script whose read and posted write lie behind the memory of `solo`, which ends at 65,536
abbrev behind_the_memory : List Txn
behind_the_memory =
    record { kind = Read; size = 1; addr = 65536; count = 2; body = [] }
    ∷ record { kind = Posted; size = 0; addr = 65540; count = 1; body = 9 ∷ [] } ∷ []

-- No device has the addresses, so the read is answered with code 3 and zeros, and the journal may be empty.
pub lost_outcomes : host_outcomes (solo_network behind_the_memory) [] (solo_host behind_the_memory) ≡
    record { state = Answered the_codes.NetErr; body = 0 ∷ 0 ∷ 0 ∷ 0 ∷ [] } ∷ record { state = the_states.Posted; body = [] } ∷ []
lost_outcomes = refl

-- No packet of it is aimed at the memory.
pub lost_packets : solo_packets behind_the_memory ≡ []
lost_packets = refl
