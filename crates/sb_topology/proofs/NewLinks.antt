-- Links that are named one after another: they keep the limits, no two have one name, and they join what is there.
use Rattle.std.proofs.Common.{◌≡◌, ℕ, suc, ◌+◌, Bool, true, ◌&&◌, List, [], ◌∷◌, ◌++◌, codes, length, map, bytes_eq, refl, ap, sym, subst, ◌∙◌, append_assoc, Option, Some, None, Ok}
use Rattle.std.specs.Prelude.{nat_lt, option_map}
use Rattle.std.specs.List.{list_all, position_from}
use Rattle.std.specs.Option.{option_or}
use Rattle.std.proofs.lemmas.Bool.{and_parts}
use Rattle.std.proofs.lemmas.List.{append-nil}
use Rattle.sb_packet.specs.Networks.{NetLink, NetPlace, at_device, at_host, at_router}
use Rattle.sb_text.specs.Sentences.{◌>>=◌}
use Rattle.sb_flow.specs.Accepted.{clash_behind, is_limited_link}
use Rattle.sb_flow.proofs.Maps.{position_of_map}
use Rattle.sb_fields.specs.Paths.{item_of}
use Rattle.sb_fields.specs.Written.{WrittenLink}
use Rattle.sb_topology.specs.Names.{GivenNames, end_named, link_named, links_by, new_name, place_among, place_named}
use Rattle.sb_topology.proofs.Chains.{bind_ok, some_or_Some}
use Rattle.sb_topology.proofs.CountedLimits.{link_fits}
use Rattle.sb_topology.proofs.NewNames.{clash_cons, new_name_then, place_below}

-- there is a host, router or device at a place
abbrev pub is_placed : GivenNames → NetPlace → Bool
is_placed names (at_host h) = nat_lt h (length names.hosts)
is_placed names (at_router r) = nat_lt r (length names.routers)
is_placed names (at_device d) = nat_lt d (length names.devices)

abbrev pub has_ends : GivenNames → NetLink → Bool
has_ends names l = is_placed names l.from && is_placed names l.to

-- what is named is there
placed_by : (names : GivenNames) (name : List ℕ) (h r d : Option ℕ) (p : NetPlace) → place_among names.hosts name ≡ h → place_among names.routers name ≡ r → place_among names.devices name ≡ d
    → option_or (option_map at_host h) (option_or (option_map at_router r) (option_map at_device d)) ≡ Some p → is_placed names p ≡ true
placed_by names name (Some h) r d p eh er ed e = let is : at_host h ≡ p = cc in subst (λ (q : NetPlace). is_placed names q ≡ true) is (place_below names.hosts name h eh)
placed_by names name None (Some r) d p eh er ed e = let is : at_router r ≡ p = cc in subst (λ (q : NetPlace). is_placed names q ≡ true) is (place_below names.routers name r er)
placed_by names name None None (Some d) p eh er ed e = let is : at_device d ≡ p = cc in subst (λ (q : NetPlace). is_placed names q ≡ true) is (place_below names.devices name d ed)
placed_by names name None None None p eh er ed e = let no_way : ⊥ = cc in absurd no_way

named_there : (names : GivenNames) (name : List ℕ) (p : NetPlace) → place_named names name ≡ Some p → is_placed names p ≡ true
unfolding place_named
named_there names name p e = placed_by names name (place_among names.hosts name) (place_among names.routers name) (place_among names.devices name) p refl refl refl e

end_there : (names : GivenNames) (at field name : List ℕ) (p : NetPlace) → end_named names at field name ≡ Ok p → is_placed names p ≡ true
unfolding end_named
end_there names at field name p e = named_there names name p (some_or_Some (place_named names name) _ p e)

-- one link
pub record Linked (names : GivenNames) (earlier : List NetLink) (l : WrittenLink) (row : NetLink) : Type 0 where
  pub name : row.name ≡ l.name
  pub fits : link_fits l ≡ true → is_limited_link row ≡ true
  pub new : position_from (λ y. bytes_eq row.name y.name) 0 earlier ≡ None
  pub ends : has_ends names row ≡ true

link_then : (names : GivenNames) (i : ℕ) (earlier : List NetLink) (l : WrittenLink) (row : NetLink) → link_named names i earlier l ≡ Ok row → Linked names earlier l row
unfolding link_named
link_then names i earlier l row e =
    let at = item_of (codes "links") i in
    let made = λ (from to : NetPlace). (let link : NetLink = record { name = l.name; from = from; to = to; width = l.width; capacity = l.capacity } in link) in
    let new = bind_ok (new_name at (map (λ y. y.name) earlier) l.name) (λ done. end_named names at (codes "from") l.from >>= (λ from. end_named names at (codes "to") l.to >>= (λ to. Ok (made from to)))) row e in
    let from = bind_ok (end_named names at (codes "from") l.from) (λ from. end_named names at (codes "to") l.to >>= (λ to. Ok (made from to))) row new.2 in
    let to = bind_ok (end_named names at (codes "to") l.to) (λ to. Ok (made from.0 to)) row from.2 in
    let is : made from.0 to.0 ≡ row = cc to.2 in
    subst (Linked names earlier l) is (record {
      name = refl;
      fits = λ fits. fits;
      new = sym (position_of_map (bytes_eq l.name) (λ (y : NetLink). y.name) 0 earlier) ∙ new_name_then at (map (λ y. y.name) earlier) l.name new.0 new.1;
      ends = rw (end_there names at (codes "from") l.from from.0 from.1, end_there names at (codes "to") l.to to.0 to.1) refl;
    })

-- all links behind earlier ones
pub record LinkedBehind (names : GivenNames) (earlier : List NetLink) (ls : List WrittenLink) (all : List NetLink) : Type 0 where
  pub rows : List NetLink
  pub all_are : all ≡ earlier ++ rows
  pub many : length rows ≡ length ls
  pub fit : list_all link_fits ls ≡ true → list_all is_limited_link rows ≡ true
  pub new : clash_behind (λ x y. bytes_eq x.name y.name) earlier rows ≡ None
  pub ends : list_all (has_ends names) rows ≡ true

pub links_by_then : (names : GivenNames) (i : ℕ) (earlier : List NetLink) (ls : List WrittenLink) (all : List NetLink) → links_by names i earlier ls ≡ Ok all → LinkedBehind names earlier ls all
links_by_then names i earlier [] all e = let same : earlier ≡ all = cc in record { rows = []; all_are = sym same ∙ sym (append-nil earlier); many = refl; fit = λ h. refl; new = refl; ends = refl }
links_by_then names i earlier (l ∷ ls) all e =
    let parts = bind_ok (link_named names i earlier l) (λ named. links_by names (i + 1) (earlier ++ named ∷ []) ls) all e in
    let row = parts.0 in
    let one = link_then names i earlier l row parts.1 in
    let rest = links_by_then names (i + 1) (earlier ++ row ∷ []) ls all parts.2 in
    record {
      rows = row ∷ rest.rows;
      all_are = rest.all_are ∙ append_assoc earlier (row ∷ []) rest.rows;
      many = ap (λ (n : ℕ). suc n) rest.many;
      fit = λ h. (let both = and_parts (link_fits l) (list_all link_fits ls) h in rw (one.fits both.0, rest.fit both.1) refl);
      new = clash_cons (λ (x y : NetLink). bytes_eq x.name y.name) earlier row rest.rows one.new rest.new;
      ends = rw (one.ends, rest.ends) refl;
    }
