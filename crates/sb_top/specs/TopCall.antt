-- What the top call did, by the status with which it ended.
use Rattle.std.specs.Prelude.{ℕ, ◌≡◌, ◌⊎◌, ◌<◌, ◌+◌, ◌^◌, Bool, true, false, List, [], length, drop, codes, Option, Some, None, IfSome, option_map, Ok}
use Rattle.sb_packet.specs.Journals.{IsLawful}
use Rattle.sb_packet.specs.Networks.{Network}
use Rattle.sb_packet.specs.declared.entry.Entry.{Entry}
use Rattle.sb_packet.specs.declared.transaction.Txn.{Txn}
use Rattle.sb_io.specs.Written.{Gains, GainsPart}
use Rattle.sb_flow.specs.Accepted.{IsAccepted}
use Rattle.sb_text.specs.Reports.{run_report}
use Rattle.sb_text.specs.Scripts.{script_of_text}
use Rattle.sb_topology.specs.Bundles.{bundle_of}
use Rattle.sb_words.specs.Commands.{command_in}
use Rattle.sb_words.specs.declared.command.Command.{Command}
use Rattle.sb_words.specs.declared.command.Command.TheVariants as commands
use Rattle.sb_gen.specs.Generated.{gen_network}
use Rattle.sb_gen.specs.Summary.{gen_text}
use Rattle.sb_top.specs.BundleRuns.{Effects, IsUntouched, RanNetwork}
use Rattle.sb_top.specs.Inputs.{HasRead, reads_input}
use Rattle.sb_top.specs.Judgements.{ApprovedReport, HasReport, RefusedReport, RejectedReport}
use Rattle.sb_top.specs.Refusals.{RefusedBundle, RefusedScript}
use Rattle.sb_solo.specs.Solo.{solo_network, IsSoloJournal}

-- A script was run: the input spells it; the journal is one legal history of it, packet by packet; and the text is that journal's report.
pub record RanScript (input : List ℕ) (journal : List Entry) (text : List ℕ) : Type 0 where
  pub script : List Txn
  pub spelled : script_of_text input ≡ Ok script
  pub packets : IsSoloJournal script journal
  pub lawful : IsLawful (solo_network script) journal
  pub printed : text ≡ run_report (solo_network script) journal false None

-- A bundle was run: the input spells one that is accepted, its network was run, and the text is the report of that run's journal.
pub record RanBundle (history : Bool) (input : List ℕ) (effects : Effects) (text : List ℕ) : Type 0 where
  pub network : Network
  pub spelled : bundle_of input ≡ Ok network
  pub accepted : IsAccepted network
  pub ran : RanNetwork network effects
  pub printed : text ≡ run_report network effects.journal history None

-- The bundle that a number generates was run, and the text is the summary of that bundle.
pub record RanGenerated (number : ℕ) (effects : Effects) (text : List ℕ) : Type 0 where
  pub accepted : IsAccepted (gen_network number)
  pub ran : RanNetwork (gen_network number) effects
  pub printed : text ≡ gen_text number

-- A command was done with an input. `solo` has no links, and makes no ring; `check` runs nothing.
abbrev pub Ran : Command → List ℕ → Effects → List ℕ → Type 0
Ran commands.Solo input effects text = RanScript input effects.journal text × (effects.made ≡ [])
Ran (commands.Replay order history) input effects text = RanBundle history input effects text
Ran (commands.Run workers history) input effects text = RanBundle history input effects text
Ran commands.Check input effects text = ApprovedReport input text × IsUntouched effects
Ran (commands.Gen number) input effects text = RanGenerated number effects text

-- A command refused an input.
abbrev pub Refused : Command → List ℕ → List ℕ → Type 0
Refused commands.Solo input text = RefusedScript input text
Refused (commands.Replay order history) input text = RefusedBundle input text
Refused (commands.Run workers history) input text = RefusedBundle input text
Refused commands.Check input text = RefusedReport input text
Refused (commands.Gen number) input text = ⊥

-- A command judged a report, and rejected it: no command does so but `check`.
abbrev pub Rejected : Command → List ℕ → List ℕ → Type 0
Rejected commands.Solo input text = ⊥
Rejected (commands.Replay order history) input text = ⊥
Rejected (commands.Run workers history) input text = ⊥
Rejected commands.Check input text = RejectedReport input text
Rejected (commands.Gen number) input text = ⊥

-- The words ask for a command, what it reads was read, and it was done.
pub record IsRun (words : List (List ℕ)) (before after : Option (List ℕ)) (effects : Effects) (text : List ℕ) : Type 0 where
  pub command : Command
  pub asked : command_in words ≡ Some command
  pub input : List ℕ
  pub read : HasRead command before after input
  pub ran : Ran command input effects text

-- The words ask for a command, what it reads was read, and it refused that.
pub record IsRefusal (words : List (List ℕ)) (before after : Option (List ℕ)) (effects : Effects) (text : List ℕ) : Type 0 where
  pub command : Command
  pub asked : command_in words ≡ Some command
  pub input : List ℕ
  pub read : HasRead command before after input
  pub refused : Refused command input text
  pub untouched : IsUntouched effects

-- The words ask for a command, what it reads was read, and it rejected the report in that.
pub record IsRejection (words : List (List ℕ)) (before after : Option (List ℕ)) (effects : Effects) (text : List ℕ) : Type 0 where
  pub command : Command
  pub asked : command_in words ≡ Some command
  pub input : List ℕ
  pub read : HasRead command before after input
  pub rejected : Rejected command input text
  pub untouched : IsUntouched effects

-- The words ask for no command, and nothing was read.
pub record IsUsage (words : List (List ℕ)) (before after : Option (List ℕ)) (effects : Effects) (text : List ℕ) : Type 0 where
  pub asked : command_in words ≡ None
  pub unread : after ≡ before
  pub untouched : IsUntouched effects
  pub printed : text ≡ codes "usage\n"

-- The words ask for a command that reads, the input has more than 2^26 bytes, and one more than these was read.
pub record IsTooLong (words : List (List ℕ)) (before after : Option (List ℕ)) (effects : Effects) (text : List ℕ) : Type 0 where
  pub command : Command
  pub asked : command_in words ≡ Some command
  pub reads : reads_input command ≡ true
  pub long : IfSome before (λ left. 2 ^ 26 < length left)
  pub taken : after ≡ option_map (drop (2 ^ 26 + 1)) before
  pub untouched : IsUntouched effects
  pub printed : text ≡ codes "too long\n"

-- a text of that kind was written
pub record Wrote (IsText : List ℕ → Type 0) (before after : Option (List ℕ)) : Type 0 where
  pub text : List ℕ
  pub is : IsText text
  pub gained : Gains before after text

-- a first part of a text of that kind was written
pub record WrotePart (IsText : List ℕ → Type 0) (before after : Option (List ℕ)) : Type 0 where
  pub text : List ℕ
  pub is : IsText text
  pub part : GainsPart before after text

-- a text that the call writes, whatever its status
abbrev pub IsAnyText : List (List ℕ) → Option (List ℕ) → Option (List ℕ) → Effects → List ℕ → Type 0
IsAnyText words before after effects text =
    IsUsage words before after effects text ⊎ (IsRun words before after effects text
    ⊎ (IsRefusal words before after effects text ⊎ (IsRejection words before after effects text
    ⊎ IsTooLong words before after effects text)))

-- An input has no fault: it spells a script, or a bundle that is accepted, and has a report where one is to be judged. What isn't read has none.
abbrev pub IsFaultless : Command → List ℕ → Type 0
IsFaultless commands.Solo input = (script : List Txn) × script_of_text input ≡ Ok script
IsFaultless (commands.Replay order history) input = (network : Network) × bundle_of input ≡ Ok network
IsFaultless (commands.Run workers history) input = (network : Network) × bundle_of input ≡ Ok network
IsFaultless commands.Check input = HasReport input
IsFaultless (commands.Gen number) input = Unit {0}
