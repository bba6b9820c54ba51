-- The fields of an object, and the first of them that is missing, of another kind or unknown. This project's own.
use Rattle.std.specs.Prelude.{ℕ, List, Option, Some, None, Result, Ok, Err, bytes_eq, if◌then◌else◌, option_map, option_and_then}
use Rattle.std.specs.List.{list_any}
use Rattle.std.specs.Result.{result_ok}
use Rattle.hex.specs.Hex.{decode_of}
use Rattle.serde_json.specs.Data.{Data, Members, no_members, member}
use Rattle.serde_json.specs.Find.{get, as_number, as_object, as_str, as_u64}
use Rattle.sb_text.specs.Sentences.{◌>>=◌, some_or}
use Rattle.sb_text.specs.Numerals.{numeral_of}
use Rattle.sb_fields.specs.Paths.{member_of, shown_path}
use Rattle.sb_fields.specs.declared.fault.LoadFault.{LoadFault}
use Rattle.sb_fields.specs.declared.fault.LoadFault.TheVariants as faults

-- a value that is a whole number from 0 to 2^64 - 1, written without a point, an exponent or a sign
abbrev pub number_in : Data → Option ℕ
number_in value = option_and_then as_u64 (as_number value)

-- a value that is the text of a number as scripts write it
unfoldable pub numeral_in : Data → Option ℕ
numeral_in value = option_and_then numeral_of (as_str value)

-- the bytes of a value that is a text of hexadecimal digits, two for each byte
unfoldable pub bytes_in : Data → Option (List ℕ)
bytes_in value = option_and_then (λ text. result_ok (decode_of text)) (as_str value)

-- a field's value, as `read` has it
unfoldable pub required : {A : Type 0} → (Data → Option A) → List ℕ → List ℕ → Data → Result A LoadFault
required read at name value = some_or (option_and_then read (get name value)) (faults.Field (member_of at name))

-- the same of a value that is there or not
abbrev pub read_if_there : {A : Type 0} → (Data → Option A) → List ℕ → Option Data → Result (Option A) LoadFault
read_if_there read path None = Ok None
read_if_there read path (Some value) = some_or (option_map Some (read value)) (faults.Field path)

-- the same of a field that may be missing
unfoldable pub optional : {A : Type 0} → (Data → Option A) → List ℕ → List ℕ → Data → Result (Option A) LoadFault
optional read at name value = read_if_there read (member_of at name) (get name value)

-- the first name that isn't known, and so the least: an object's members stand in the order of their names' bytes
abbrev pub first_unknown : List (List ℕ) → Members → Option (List ℕ)
first_unknown known no_members = None
first_unknown known (member name value members) = if list_any (bytes_eq name) known then first_unknown known members else Some name

-- nothing is wrong where no name is unknown
abbrev pub unless_unknown : List ℕ → Option (List ℕ) → Result (Unit {0}) LoadFault
unless_unknown at None = Ok tt
unless_unknown at (Some name) = Err (faults.Field (member_of at name))

-- an object has no other fields than these
unfoldable pub only_fields : List (List ℕ) → List ℕ → Members → Result (Unit {0}) LoadFault
only_fields known at members = unless_unknown at (first_unknown known members)

-- a value that is an object
unfoldable pub an_object : List ℕ → Data → Result Members LoadFault
an_object at value = some_or (as_object value) (faults.Field (shown_path at))

-- an object that has the fields that are read, and no others than those of these names
unfoldable pub object_with : {A : Type 0} → List (List ℕ) → (List ℕ → Data → Result A LoadFault) → List ℕ → Data → Result A LoadFault
object_with names fields at value = do
  object ← an_object at value
  read ← fields at value
  done ← only_fields names at object
  Ok read
