-- All words of a transaction are at one device, or none is.
use Rattle.sb_host.proofs.Offering.{asks_what_is_aimed}
use Rattle.sb_host.proofs.laws.hosts_ask_what_their_scripts_aim_at.Goals as goal

pub returns : goal.returns
returns c = record { words = asks_what_is_aimed }
