-- The objects of a bundle, field by field: the first field that is missing or of another kind, and behind the known ones the least unknown.
use Rattle.std.specs.Prelude.{ℕ, false, List, [], ◌∷◌, codes, unwrap_or, Result, Ok}
use Rattle.serde_json.specs.Data.{Data}
use Rattle.serde_json.specs.Find.{as_bool, as_str}
use Rattle.sb_text.specs.Sentences.{◌>>=◌}
use Rattle.sb_fields.specs.Fields.{bytes_in, number_in, numeral_in, object_with, optional, required}
use Rattle.sb_fields.specs.FieldLists.{list_of, routes_of, text_item}
use Rattle.sb_fields.specs.Written.{WrittenBundle, WrittenDevice, WrittenHost, WrittenLink, WrittenRouter}
use Rattle.sb_fields.specs.declared.fault.LoadFault.{LoadFault}

abbrev pub host_names : List (List ℕ)
host_names = codes "name" ∷ codes "id" ∷ codes "qos" ∷ codes "prot" ∷ codes "script" ∷ []

-- a host: `qos` and `prot` are 0 where they are missing
unfoldable pub host_fields : List ℕ → Data → Result WrittenHost LoadFault
host_fields at value = do
  name ← required as_str at (codes "name") value
  id ← required number_in at (codes "id") value
  qos ← optional number_in at (codes "qos") value
  prot ← optional number_in at (codes "prot") value
  script ← list_of text_item at (codes "script") value
  Ok (record { name = name; id = id; qos = unwrap_or qos 0; prot = unwrap_or prot 0; script = script })

abbrev pub host_in : List ℕ → Data → Result WrittenHost LoadFault
host_in = object_with host_names host_fields

abbrev pub router_names : List (List ℕ)
router_names = codes "name" ∷ codes "side" ∷ codes "routes" ∷ []

-- a router: `side` is 0 where it is missing
unfoldable pub router_fields : List ℕ → Data → Result WrittenRouter LoadFault
router_fields at value = do
  name ← required as_str at (codes "name") value
  side ← optional number_in at (codes "side") value
  routes ← routes_of at value
  Ok (record { name = name; side = unwrap_or side 0; routes = routes })

abbrev pub router_in : List ℕ → Data → Result WrittenRouter LoadFault
router_in = object_with router_names router_fields

abbrev pub device_names : List (List ℕ)
device_names = codes "name" ∷ codes "base" ∷ codes "pages" ∷ codes "readonly" ∷ codes "image" ∷ []

-- a device: it is written to, and has no image, where nothing else is said
unfoldable pub device_fields : List ℕ → Data → Result WrittenDevice LoadFault
device_fields at value = do
  name ← required as_str at (codes "name") value
  base ← required numeral_in at (codes "base") value
  pages ← required number_in at (codes "pages") value
  readonly ← optional as_bool at (codes "readonly") value
  image ← optional bytes_in at (codes "image") value
  Ok (record { name = name; base = base; pages = pages; readonly = unwrap_or readonly false; image = unwrap_or image [] })

abbrev pub device_in : List ℕ → Data → Result WrittenDevice LoadFault
device_in = object_with device_names device_fields

abbrev pub link_names : List (List ℕ)
link_names = codes "name" ∷ codes "from" ∷ codes "to" ∷ codes "width" ∷ codes "capacity" ∷ []

-- a link
unfoldable pub link_fields : List ℕ → Data → Result WrittenLink LoadFault
link_fields at value = do
  name ← required as_str at (codes "name") value
  from ← required as_str at (codes "from") value
  to ← required as_str at (codes "to") value
  width ← required number_in at (codes "width") value
  capacity ← required number_in at (codes "capacity") value
  Ok (record { name = name; from = from; to = to; width = width; capacity = capacity })

abbrev pub link_in : List ℕ → Data → Result WrittenLink LoadFault
link_in = object_with link_names link_fields

abbrev pub bundle_names : List (List ℕ)
bundle_names = codes "version" ∷ codes "hosts" ∷ codes "routers" ∷ codes "devices" ∷ codes "links" ∷ codes "wire" ∷ []

-- a bundle: no link is the wire where nothing is said
unfoldable pub bundle_fields : List ℕ → Data → Result WrittenBundle LoadFault
bundle_fields at value = do
  version ← required number_in at (codes "version") value
  hosts ← list_of host_in at (codes "hosts") value
  routers ← list_of router_in at (codes "routers") value
  devices ← list_of device_in at (codes "devices") value
  links ← list_of link_in at (codes "links") value
  wire ← optional as_str at (codes "wire") value
  Ok (record { version = version; hosts = hosts; routers = routers; devices = devices; links = links; wire = wire })

abbrev pub bundle_in : Data → Result WrittenBundle LoadFault
bundle_in value = object_with bundle_names bundle_fields [] value
