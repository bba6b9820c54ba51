-- A bundle as its text writes it: the values of all fields, before any of them is compared with another.
use Rattle.std.specs.Prelude.{ℕ, Bool, List, Option}

pub record WrittenHost : Type 0 where
  pub name : List ℕ
  pub id : ℕ
  pub qos : ℕ
  pub prot : ℕ
  -- the lines of its script
  pub script : List (List ℕ)

-- a route, from a device's name to a link's
pub record WrittenRoute : Type 0 where
  pub device : List ℕ
  pub link : List ℕ

pub record WrittenRouter : Type 0 where
  pub name : List ℕ
  pub side : ℕ
  -- in the order of the devices' names
  pub routes : List WrittenRoute

pub record WrittenDevice : Type 0 where
  pub name : List ℕ
  pub base : ℕ
  pub pages : ℕ
  pub readonly : Bool
  pub image : List ℕ

pub record WrittenLink : Type 0 where
  pub name : List ℕ
  pub from : List ℕ
  pub to : List ℕ
  pub width : ℕ
  pub capacity : ℕ

pub record WrittenBundle : Type 0 where
  pub version : ℕ
  pub hosts : List WrittenHost
  pub routers : List WrittenRouter
  pub devices : List WrittenDevice
  pub links : List WrittenLink
  -- the name of the link that can be carried over a wire
  pub wire : Option (List ℕ)
