-- A node of a network: what holds of it, by its kind.
use Rattle.std.specs.Prelude.{ℕ}
use Rattle.sb_link.specs.declared.answers.Turn.{Turn}
use Rattle.sb_host.specs.Hosts.{HostSide, IsHostTurn, IsKeptHost, IsWholeHost, kept_host_same, kept_host_then}
use Rattle.sb_host.specs.Rested.{IsRestedHost, rested_host_same, rested_host_then}
use Rattle.sb_router.specs.Routers.{IsKeptRouter, IsRestedRouter, IsRouterTurn, IsWholeRouter, RouterSide, kept_router_same, kept_router_then, rested_router_same, rested_router_then}
use Rattle.sb_device.specs.Sides.{DeviceSide}
use Rattle.sb_device.specs.Devices.{IsDeviceTurn, IsKeptDevice, IsWholeDevice, kept_device_same, kept_device_then}
use Rattle.sb_device.specs.Rested.{IsRestedDevice, rested_device_same, rested_device_then}
use Rattle.sb_member.specs.declared.member.Member.{Member}
use Rattle.sb_member.specs.declared.member.Member.TheVariants.{Host, Router, Device}

module _ {F T U : Type 0} where
  abbrev pub IsWholeMember : Member F T U → Type 0
  IsWholeMember (Host h) = IsWholeHost h
  IsWholeMember (Router r) = IsWholeRouter r
  IsWholeMember (Device d) = IsWholeDevice d

module _ (host : HostSide → HostSide → Type 0) (router : RouterSide → RouterSide → Type 0) (device : DeviceSide → DeviceSide → Type 0) {F T U : Type 0} where
  -- a relation for each kind, and none between nodes of two kinds
  abbrev pub ByKind : Member F T U → Member F T U → Type 0
  ByKind (Host x) (Host y) = host x y
  ByKind (Host x) (Router y) = ⊥
  ByKind (Host x) (Device y) = ⊥
  ByKind (Router x) (Host y) = ⊥
  ByKind (Router x) (Router y) = router x y
  ByKind (Router x) (Device y) = ⊥
  ByKind (Device x) (Host y) = ⊥
  ByKind (Device x) (Router y) = ⊥
  ByKind (Device x) (Device y) = device x y

  pub by_kind_same : ((x : HostSide) → host x x) → ((x : RouterSide) → router x x) → ((x : DeviceSide) → device x x) → (x : Member F T U) → ByKind x x
  by_kind_same host_same router_same device_same (Host x) = host_same x
  by_kind_same host_same router_same device_same (Router x) = router_same x
  by_kind_same host_same router_same device_same (Device x) = device_same x

module _ (host : HostSide → HostSide → Type 0) (router : RouterSide → RouterSide → Type 0) (device : DeviceSide → DeviceSide → Type 0)
    (host_then : (x y z : HostSide) → host x y → host y z → host x z)
    (router_then : (x y z : RouterSide) → router x y → router y z → router x z)
    (device_then : (x y z : DeviceSide) → device x y → device y z → device x z) {F T U : Type 0} where
  pub by_kind_then : (x y z : Member F T U) → ByKind host router device x y → ByKind host router device y z → ByKind host router device x z
  by_kind_then (Host x) (Host y) (Host z) a b = host_then x y z a b
  by_kind_then (Host x) (Host y) (Router z) a b = absurd b
  by_kind_then (Host x) (Host y) (Device z) a b = absurd b
  by_kind_then (Host x) (Router y) z a b = absurd a
  by_kind_then (Host x) (Device y) z a b = absurd a
  by_kind_then (Router x) (Host y) z a b = absurd a
  by_kind_then (Router x) (Router y) (Host z) a b = absurd b
  by_kind_then (Router x) (Router y) (Router z) a b = router_then x y z a b
  by_kind_then (Router x) (Router y) (Device z) a b = absurd b
  by_kind_then (Router x) (Device y) z a b = absurd a
  by_kind_then (Device x) (Host y) z a b = absurd a
  by_kind_then (Device x) (Router y) z a b = absurd a
  by_kind_then (Device x) (Device y) (Host z) a b = absurd b
  by_kind_then (Device x) (Device y) (Router z) a b = absurd b
  by_kind_then (Device x) (Device y) (Device z) a b = device_then x y z a b

module _ {F T U : Type 0} where
  abbrev pub IsKeptMember : ℕ → Member F T U → Member F T U → Type 0
  IsKeptMember round x y = ByKind (IsKeptHost round) IsKeptRouter (IsKeptDevice round) x y

  abbrev pub IsRestedMember : Member F T U → Member F T U → Type 0
  IsRestedMember x y = ByKind IsRestedHost IsRestedRouter IsRestedDevice x y

  abbrev pub IsMemberTurn : ℕ → Member F T U → Turn → Member F T U → Type 0
  IsMemberTurn round x answer y = ByKind (λ x y. IsHostTurn x round answer y) (λ x y. IsRouterTurn x answer y) (λ x y. IsDeviceTurn x answer y) x y

  pub kept_member_same : (round : ℕ) (x : Member F T U) → IsKeptMember round x x
  kept_member_same round x = by_kind_same (IsKeptHost round) IsKeptRouter (IsKeptDevice round) (kept_host_same round) kept_router_same (kept_device_same round) x

  pub kept_member_then : (round : ℕ) (x y z : Member F T U) → IsKeptMember round x y → IsKeptMember round y z → IsKeptMember round x z
  kept_member_then round x y z a b = by_kind_then (IsKeptHost round) IsKeptRouter (IsKeptDevice round) (kept_host_then round) kept_router_then (kept_device_then round) x y z a b

  pub rested_member_same : (x : Member F T U) → IsRestedMember x x
  rested_member_same x = by_kind_same IsRestedHost IsRestedRouter IsRestedDevice rested_host_same rested_router_same rested_device_same x

  pub rested_member_then : (x y z : Member F T U) → IsRestedMember x y → IsRestedMember y z → IsRestedMember x z
  rested_member_then x y z a b = by_kind_then IsRestedHost IsRestedRouter IsRestedDevice (λ x y z. rested_host_then) rested_router_then rested_device_then x y z a b
