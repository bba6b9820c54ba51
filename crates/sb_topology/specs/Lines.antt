-- The scripts of a bundle's hosts, read line by line.
use Rattle.std.specs.Prelude.{ℕ, ◌+◌, List, [], ◌∷◌, ◌++◌, Option, Result, Ok, Err}
use Rattle.sb_packet.specs.Networks.{NetHost}
use Rattle.sb_packet.specs.declared.transaction.Txn.{Txn}
use Rattle.sb_text.specs.Sentences.{line_of, ◌>>=◌}
use Rattle.sb_text.specs.Scripts.{before}
use Rattle.sb_text.specs.declared.line_fault.LineFault.{LineFault}
use Rattle.sb_fields.specs.Written.{WrittenHost}
use Rattle.sb_fields.specs.declared.fault.LoadFault.{LoadFault}
use Rattle.sb_fields.specs.declared.fault.LoadFault.TheVariants as faults

-- what a line of a host's script says, or its fault with the line's number
abbrev pub said_by : ℕ → ℕ → Result (Option Txn) LineFault → Result (Option Txn) LoadFault
said_by host line (Ok txn) = Ok txn
said_by host line (Err fault) = Err (faults.Script host line fault)

-- the transactions of a host's lines, of which the first has that number, behind those that were read
abbrev pub script_by : ℕ → ℕ → List Txn → List (List ℕ) → Result (List Txn) LoadFault
script_by host number found [] = Ok found
script_by host number found (line ∷ lines) = do
  txn ← said_by host number (line_of line)
  script_by host (number + 1) (found ++ before txn []) lines

-- a host with its script, of which the lines are counted from 1
abbrev pub told_host : ℕ → WrittenHost → Result NetHost LoadFault
told_host number host = do
  script ← script_by number 1 [] host.script
  Ok (record { name = host.name; id = host.id; qos = host.qos; prot = host.prot; script = script })

-- the hosts from a number on, behind those that were read
abbrev pub hosts_by : ℕ → List NetHost → List WrittenHost → Result (List NetHost) LoadFault
hosts_by number found [] = Ok found
hosts_by number found (host ∷ hosts) = do
  told ← told_host number host
  hosts_by (number + 1) (found ++ told ∷ []) hosts
