-- Reply addresses rise along a script, and their bits from 40 on tell the host.
use Rattle.sb_packet.proofs.ReplyAddresses.{reply_addresses_rise, reply_addresses_tell}
use Rattle.sb_packet.proofs.laws.reply_addresses_differ.Goals as goal

pub returns-clause-rise : goal.returns-clause-rise
returns-clause-rise c = λ host all. reply_addresses_rise host all

pub returns-clause-host : goal.returns-clause-host
returns-clause-host c = λ host all few. reply_addresses_tell host all few
