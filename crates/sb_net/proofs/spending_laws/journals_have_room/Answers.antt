-- A journal has no more entries than the scripts have words.
use Rattle.sb_net.proofs.JournalRoom.{journal_within}
use Rattle.sb_net.proofs.spending_laws.journals_have_room.Goals as goal

pub returns : goal.returns
returns g c = record { room = λ network joints journal nodes accepted stands linked recorded. journal_within network joints nodes stands linked accepted journal recorded }
