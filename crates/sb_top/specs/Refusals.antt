-- Why an input was refused, and the line that says so: `refused`, the fault's name, and what it speaks of. This project's own.
use Rattle.std.specs.Prelude.{ℕ, ◌≡◌, List, [], ◌∷◌, codes, decimal, Err}
use Rattle.sb_flow.specs.declared.place.Place.{Place}
use Rattle.sb_flow.specs.declared.place.Place.TheVariants as places
use Rattle.sb_text.specs.Scripts.{script_of_text}
use Rattle.sb_text.specs.TextLines.{text_line}
use Rattle.sb_text.specs.declared.line_fault.LineFault.{LineFault}
use Rattle.sb_text.specs.declared.line_fault.LineFault.TheVariants as line_faults
use Rattle.sb_text.specs.declared.script_fault.ScriptFault.{ScriptFault}
use Rattle.sb_text.specs.declared.script_fault.ScriptFault.TheVariants as script_faults
use Rattle.sb_fields.specs.declared.fault.LoadFault.{LoadFault}
use Rattle.sb_fields.specs.declared.fault.LoadFault.TheVariants as load_faults
use Rattle.sb_topology.specs.Bundles.{bundle_of}

-- the name of a line's fault
abbrev pub line_fault_text : LineFault → List ℕ
line_fault_text line_faults.Verb = codes "verb"
line_fault_text line_faults.Number = codes "number"
line_fault_text line_faults.Size = codes "size"
line_fault_text line_faults.Data = codes "data"
line_fault_text line_faults.Length = codes "length"
line_fault_text line_faults.Aligned = codes "aligned"
line_fault_text line_faults.Page = codes "page"
line_fault_text line_faults.Range = codes "range"
line_fault_text line_faults.Memory = codes "memory"

-- what a place is, and its number
abbrev pub place_words : Place → List (List ℕ)
place_words (places.Host h) = codes "host" ∷ decimal h ∷ []
place_words (places.Router r) = codes "router" ∷ decimal r ∷ []
place_words (places.Device d) = codes "device" ∷ decimal d ∷ []

-- the words of a script's fault; want of memory is no fault of the script, and is never printed
abbrev pub script_fault_words : ScriptFault → List (List ℕ)
script_fault_words (script_faults.Lines count) = codes "lines" ∷ decimal count ∷ []
script_fault_words (script_faults.Line line fault) = codes "line" ∷ decimal line ∷ line_fault_text fault ∷ []
script_fault_words (script_faults.Words words) = codes "words" ∷ decimal words ∷ []
script_fault_words script_faults.Memory = codes "memory" ∷ []

-- the words of a bundle's fault; want of memory is no fault of the bundle, and is never printed
abbrev pub load_fault_words : LoadFault → List (List ℕ)
load_fault_words load_faults.Json = codes "json" ∷ []
load_fault_words (load_faults.Field path) = codes "field" ∷ path ∷ []
load_fault_words (load_faults.Count path) = codes "count" ∷ path ∷ []
load_fault_words (load_faults.Name path) = codes "name" ∷ path ∷ []
load_fault_words (load_faults.HostId host) = codes "hostid" ∷ decimal host ∷ []
load_fault_words (load_faults.Range device) = codes "range" ∷ decimal device ∷ []
load_fault_words (load_faults.Overlap device other) = codes "overlap" ∷ decimal device ∷ decimal other ∷ []
load_fault_words (load_faults.Image device bytes) = codes "image" ∷ decimal device ∷ decimal bytes ∷ []
load_fault_words (load_faults.Width link) = codes "width" ∷ decimal link ∷ []
load_fault_words (load_faults.End link) = codes "end" ∷ decimal link ∷ []
load_fault_words (load_faults.Backward link) = codes "backward" ∷ decimal link ∷ []
load_fault_words (load_faults.Unlinked place) = codes "unlinked" ∷ place_words place
load_fault_words (load_faults.Script host line fault) = codes "script" ∷ decimal host ∷ decimal line ∷ line_fault_text fault ∷ []
load_fault_words (load_faults.Route router device) = codes "route" ∷ decimal router ∷ decimal device ∷ []
load_fault_words (load_faults.Budget words) = codes "budget" ∷ decimal words ∷ []
load_fault_words load_faults.Memory = codes "memory" ∷ []

-- The line that says why an input was refused.
abbrev pub refusal_text : List (List ℕ) → List ℕ
refusal_text fault_words = text_line (codes "refused" ∷ fault_words)

-- The input is no script, and the text names its first fault.
pub record RefusedScript (input text : List ℕ) : Type 0 where
  pub fault : ScriptFault
  pub found : script_of_text input ≡ Err fault
  pub printed : text ≡ refusal_text (script_fault_words fault)

-- The input is no bundle that is accepted, and the text names its first fault.
pub record RefusedBundle (input text : List ℕ) : Type 0 where
  pub fault : LoadFault
  pub found : bundle_of input ≡ Err fault
  pub printed : text ≡ refusal_text (load_fault_words fault)
