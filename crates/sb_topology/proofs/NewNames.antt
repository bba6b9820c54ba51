-- Names that are new one after another are all different, and what is named by one is there.
use Rattle.std.proofs.Common.{◌≡◌, ◌<◌, ℕ, ◌+◌, Bool, true, false, not, ◌&&◌, cond, List, [], ◌∷◌, ◌++◌, codes, length, map, bytes_eq, refl, sym, subst, ◌∙◌, arith, append_assoc, Option, Some, None, Ok}
use Rattle.std.specs.Prelude.{is_some, nat_lt, option_map, option_and_then}
use Rattle.std.specs.List.{find, list_all, position_from}
use Rattle.std.specs.Option.{option_map_or}
use Rattle.std.proofs.lemmas.Bool.{and_parts, lt-ltb}
use Rattle.std.proofs.lemmas.List.{append-nil}
use Rattle.sb_packet.specs.Names.{is_name}
use Rattle.sb_flow.specs.Accepted.{Clash, clash_behind}
use Rattle.sb_flow.proofs.Clashes.{option_or-None}
use Rattle.sb_fields.specs.Paths.{item_of}
use Rattle.sb_fields.specs.Written.{WrittenRoute, WrittenRouter}
use Rattle.sb_topology.specs.Names.{GivenNames, names_by, new_name, place_among, router_named, routers_by, routes_named, routes_path}
use Rattle.sb_topology.specs.Places.{route_to}
use Rattle.sb_topology.proofs.Chains.{bind_ok, unless_true}

absent : (o : Option ℕ) → not (is_some o) ≡ true → o ≡ None
absent None e = refl
absent (Some k) e = let no_way : ⊥ = cc in absurd no_way

-- a new name is none of the earlier ones
pub new_name_then : (at : List ℕ) (earlier : List (List ℕ)) (name : List ℕ) (u : Unit {0}) → new_name at earlier name ≡ Ok u → position_from (bytes_eq name) 0 earlier ≡ None
unfolding new_name place_among
new_name_then at earlier name u e =
    let tests = and_parts (is_name name) (not (is_some (position_from (bytes_eq name) 0 earlier))) (unless_true (is_name name && not (is_some (position_from (bytes_eq name) 0 earlier))) _ u e) in
    absent (position_from (bytes_eq name) 0 earlier) tests.1

-- an item that clashes with none before it
pub clash_cons : {A : Type 0} (clash : A → A → Bool) (before : List A) (x : A) (xs : List A) → position_from (λ y. clash x y) 0 before ≡ None → clash_behind clash (before ++ x ∷ []) xs ≡ None → clash_behind clash before (x ∷ xs) ≡ None
clash_cons clash before x xs here rest = rw (here, rest) refl

-- two lists one behind the other
pub clash_append : {A : Type 0} (clash : A → A → Bool) (before xs ys : List A) → clash_behind clash before xs ≡ None → clash_behind clash (before ++ xs) ys ≡ None → clash_behind clash before (xs ++ ys) ≡ None
clash_append {A} clash before [] ys h k = subst (λ (l : List A). clash_behind clash l ys ≡ None) (append-nil before) k
clash_append {A} clash before (x ∷ xs) ys h k =
    let parts = option_or-None (option_map {U = Clash} (λ earlier. record { at = length before; earlier = earlier }) (position_from (λ y. clash x y) 0 before)) (clash_behind clash (before ++ x ∷ []) xs) h in
    rw (parts.0, clash_append clash (before ++ x ∷ []) xs ys parts.1 (subst (λ (l : List A). clash_behind clash l ys ≡ None) (sym (append_assoc before (x ∷ []) xs)) k)) refl

-- the names of a list
pub names_by_new : (at : List ℕ) (i : ℕ) (earlier names all : List (List ℕ)) → names_by at i earlier names ≡ Ok all → (clash_behind bytes_eq earlier names ≡ None) × (all ≡ earlier ++ names)
names_by_new at i earlier [] all e = let same : earlier ≡ all = cc in (refl, sym same ∙ sym (append-nil earlier))
names_by_new at i earlier (name ∷ names) all e =
    let parts = bind_ok (new_name (item_of at i) earlier name) (λ done. names_by at (i + 1) (earlier ++ name ∷ []) names) all e in
    let rest = names_by_new at (i + 1) (earlier ++ name ∷ []) names all parts.2 in
    (clash_cons bytes_eq earlier name names (new_name_then (item_of at i) earlier name parts.0 parts.1) rest.0, rest.1 ∙ append_assoc earlier (name ∷ []) names)

-- those of routers
router_then : (names : GivenNames) (i : ℕ) (earlier : List (List ℕ)) (r : WrittenRouter) (u : Unit {0}) → router_named names i earlier r ≡ Ok u → position_from (bytes_eq r.name) 0 earlier ≡ None
unfolding router_named
router_then names i earlier r u e =
    let parts = bind_ok (new_name (item_of (codes "routers") i) earlier r.name) (λ done. routes_named names (routes_path i) r.routes) u e in
    new_name_then (item_of (codes "routers") i) earlier r.name parts.0 parts.1

pub routers_by_new : (names : GivenNames) (i : ℕ) (earlier : List (List ℕ)) (routers : List WrittenRouter) (all : List (List ℕ)) → routers_by names i earlier routers ≡ Ok all
    → (clash_behind bytes_eq earlier (map (λ r. r.name) routers) ≡ None) × (all ≡ earlier ++ map (λ r. r.name) routers)
routers_by_new names i earlier [] all e = let same : earlier ≡ all = cc in (refl, sym same ∙ sym (append-nil earlier))
routers_by_new names i earlier (r ∷ routers) all e =
    let parts = bind_ok (router_named names i earlier r) (λ done. routers_by names (i + 1) (earlier ++ r.name ∷ []) routers) all e in
    let rest = routers_by_new names (i + 1) (earlier ++ r.name ∷ []) routers all parts.2 in
    (clash_cons bytes_eq earlier r.name (map (λ r. r.name) routers) (router_then names i earlier r parts.0 parts.1) rest.0, rest.1 ∙ append_assoc earlier (r.name ∷ []) (map (λ r. r.name) routers))

-- a place that was found is one of the list
pub position_below : {A : Type 0} (p : A → Bool) (s k : ℕ) (xs : List A) → position_from p s xs ≡ Some k → k < s + length xs
position_below p s k [] e = let no_way : ⊥ = cc in absurd no_way
position_below p s k (x ∷ xs) e = by_test (p x) (position_from p (s + 1) xs) e (λ f. position_below p (s + 1) k xs f)
  where
    by_test : (b : Bool) (rest : Option ℕ) → cond b (Some s) rest ≡ Some k → (rest ≡ Some k → k < s + 1 + length xs) → k < s + length (x ∷ xs)
    by_test true rest f below = let here : s ≡ k = cc in omega arith
    by_test false rest f below = let there : k < s + 1 + length xs = below f in omega arith

pub place_below : (names : List (List ℕ)) (name : List ℕ) (k : ℕ) → place_among names name ≡ Some k → nat_lt k (length names) ≡ true
unfolding place_among
place_below names name k e = lt-ltb k (length names) (let h : k < 0 + length names = position_below (bytes_eq name) 0 k names e in omega arith)

-- so the link of a route is there
pub found_below : (names : List (List ℕ)) (name : List ℕ) (o : Option ℕ) → place_among names name ≡ o → option_map_or (λ k. nat_lt k (length names)) o true ≡ true
found_below names name None e = refl
found_below names name (Some k) e = place_below names name k e

route_there_by : (names : GivenNames) (o : Option WrittenRoute) → option_map_or (λ k. nat_lt k (length names.links)) (option_and_then (λ r. place_among names.links r.link) o) true ≡ true
route_there_by names None = refl
route_there_by names (Some r) = found_below names.links r.link (place_among names.links r.link) refl

pub route_there : (names : GivenNames) (routes : List WrittenRoute) (device : List ℕ) → option_map_or (λ k. nat_lt k (length names.links)) (route_to names routes device) true ≡ true
unfolding route_to
route_there names routes device = route_there_by names (find (λ r. bytes_eq device r.device) routes)

pub routes_there : (names : GivenNames) (routes : List WrittenRoute) (devices : List (List ℕ)) → list_all (λ o. option_map_or (λ k. nat_lt k (length names.links)) o true) (map (route_to names routes) devices) ≡ true
routes_there names routes [] = refl
routes_there names routes (d ∷ devices) = rw (route_there names routes d, routes_there names routes devices) refl
