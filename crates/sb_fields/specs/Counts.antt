-- The ranges of numbers and of lists' lengths. This project's own.
use Rattle.std.specs.Prelude.{ℕ, ◌+◌, List, [], ◌∷◌, codes, length, sum_by, Result, Ok}
use Rattle.sb_flow.specs.Accepted.{is_from_to}
use Rattle.sb_text.specs.Sentences.{◌>>=◌, unless}
use Rattle.sb_fields.specs.Paths.{member_of, item_of}
use Rattle.sb_fields.specs.Written.{WrittenBundle, WrittenDevice, WrittenHost, WrittenLink, WrittenRouter}
use Rattle.sb_fields.specs.declared.fault.LoadFault.{LoadFault}
use Rattle.sb_fields.specs.declared.fault.LoadFault.TheVariants as faults

-- a number that is the field of an object at a path is from one on up to another
unfoldable pub in_range : ℕ → ℕ → ℕ → List ℕ → List ℕ → Result (Unit {0}) LoadFault
in_range least most number at name = unless (is_from_to least most number) (faults.Count (member_of at name))

-- a test of each item of the list at a path, from a number on
abbrev pub each_item : {A : Type 0} → (List ℕ → A → Result (Unit {0}) LoadFault) → List ℕ → ℕ → List A → Result (Unit {0}) LoadFault
each_item test at number [] = Ok tt
each_item test at number (x ∷ xs) = test (item_of at number) x >>= (λ done. each_item test at (number + 1) xs)

-- a host's script has 65,536 lines at most, with comments and empty ones
unfoldable pub host_counts : List ℕ → WrittenHost → Result (Unit {0}) LoadFault
host_counts at host = do
  done ← in_range 0 31 host.id at (codes "id")
  done ← in_range 0 15 host.qos at (codes "qos")
  done ← in_range 0 3 host.prot at (codes "prot")
  in_range 0 65536 (length host.script) at (codes "script")

unfoldable pub router_counts : List ℕ → WrittenRouter → Result (Unit {0}) LoadFault
router_counts at router = in_range 0 1 router.side at (codes "side")

unfoldable pub device_counts : List ℕ → WrittenDevice → Result (Unit {0}) LoadFault
device_counts at device = in_range 1 256 device.pages at (codes "pages")

unfoldable pub link_counts : List ℕ → WrittenLink → Result (Unit {0}) LoadFault
link_counts at link = in_range 1 1024 link.capacity at (codes "capacity")

-- the list that is that field of the bundle has one item at least and so many at most, each of which passes a test
unfoldable pub list_counts : {A : Type 0} → (List ℕ → A → Result (Unit {0}) LoadFault) → ℕ → List ℕ → List A → Result (Unit {0}) LoadFault
list_counts test most name items = do
  done ← in_range 1 most (length items) [] name
  each_item test name 0 items

-- the pages of all devices together
abbrev pub all_pages : List WrittenDevice → ℕ
all_pages devices = sum_by (λ d. d.pages) devices

-- the devices: their number, then all pages together, then each of them
unfoldable pub devices_counts : List WrittenDevice → Result (Unit {0}) LoadFault
devices_counts devices = do
  done ← in_range 1 32 (length devices) [] (codes "devices")
  done ← in_range 0 4096 (all_pages devices) [] (codes "devices")
  each_item device_counts (codes "devices") 0 devices

-- All numbers of a bundle but the widths of links; a list's length stands before its items.
abbrev pub bundle_counts : WrittenBundle → Result (Unit {0}) LoadFault
bundle_counts bundle = do
  done ← in_range 1 1 bundle.version [] (codes "version")
  done ← list_counts host_counts 32 (codes "hosts") bundle.hosts
  done ← list_counts router_counts 32 (codes "routers") bundle.routers
  done ← devices_counts bundle.devices
  list_counts link_counts 128 (codes "links") bundle.links
