-- The value that bytes spell, and the bundle that it writes. JSON is that of RFC 8259, as `serde_json` reads it.
use Rattle.std.specs.Prelude.{ℕ, List, if◌then◌else◌, Option, None, Result, Ok}
use Rattle.std.specs.Str.{is_utf8}
use Rattle.serde_json.specs.Data.{Data}
use Rattle.serde_json.specs.Read.{read}
use Rattle.sb_text.specs.Sentences.{◌>>=◌, some_or}
use Rattle.sb_fields.specs.Counts.{bundle_counts}
use Rattle.sb_fields.specs.Objects.{bundle_in}
use Rattle.sb_fields.specs.Written.{WrittenBundle}
use Rattle.sb_fields.specs.declared.fault.LoadFault.{LoadFault}
use Rattle.sb_fields.specs.declared.fault.LoadFault.TheVariants as faults

-- the value that bytes spell; none where they are no UTF-8, or no JSON
abbrev pub spelled : List ℕ → Option Data
spelled bytes = if is_utf8 bytes then read bytes else None

-- a bundle's fields, of which each number is in its range
abbrev pub written_in : Data → Result WrittenBundle LoadFault
written_in value = do
  written ← bundle_in value
  done ← bundle_counts written
  Ok written

-- What bytes write: Json comes first, then Field, then Count.
abbrev pub written_by : List ℕ → Result WrittenBundle LoadFault
written_by bytes = some_or (spelled bytes) faults.Json >>= written_in
