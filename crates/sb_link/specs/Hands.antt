-- What stays while items are handed over.
use Rattle.std.specs.Prelude.{◌≡◌, ◌++◌}
use Rattle.sb_link.specs.declared.serial_tx.SerialTx.{SerialTx}
use Rattle.sb_link.specs.declared.serial_rx.SerialRx.{SerialRx}

-- from the ends before the meeting to the ends during it
pub record IsHanding (tx : SerialTx) (rx : SerialRx) (tx_now : SerialTx) (rx_now : SerialRx) : Type 0 where
  pub tx_plan : tx_now.plan ≡ tx.plan
  pub rx_plan : rx_now.plan ≡ rx.plan
  pub tx_taken : tx_now.taken ≡ tx.taken
  pub rx_told : rx_now.told ≡ rx.told
  pub sent : tx_now.handed ++ tx_now.kept.items ≡ tx.handed ++ tx.kept.items
  pub received : rx_now.received ≡ rx.received
  pub handed : tx_now.handed ≡ rx_now.received ++ rx_now.waiting.items
