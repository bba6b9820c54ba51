-- A table is filled entry by entry.
use Rattle.std.proofs.Common.{◌≡◌, ◌≤◌, ◌<◌, ℕ, ◌+◌, List, [], ◌∷◌, ◌++◌, length, take, get_or, ap, sym, ◌∙◌, arith, map}
use Rattle.std.specs.List.{enumerate_from, range_with_len}
use Rattle.std.proofs.lemmas.List.{map-append, take_all, take_more}
use Rattle.std.proofs.lemmas.List.FromFn.{get_or-enumerate_from, length-enumerate_from, map-range_with_len_more}
use Rattle.sb_packet.specs.Networks.{NetHost, Network}
use Rattle.sb_flow.specs.Tables.{FlowTable, HostTable, flow_table_of, host_table_of}

-- one entry more
pub table_push : {A : Type 0} (f : ℕ → A) (items more : List A) (i : ℕ) (x : A) → more ≡ items ++ x ∷ [] → x ≡ f i → items ≡ map f (range_with_len 0 i) → more ≡ map f (range_with_len 0 (i + 1))
table_push f items more i x pushed is so_far =
    pushed ∙ ap (λ xs. xs ++ x ∷ []) so_far ∙ ap (λ y. map f (range_with_len 0 i) ++ y ∷ []) is ∙ sym (map-range_with_len_more f 0 i i (omega arith))

-- the same of entries that are seen through a function
pub seen_push : {A B : Type 0} (see : A → B) (f : ℕ → B) (items more : List A) (i : ℕ) (x : A) → more ≡ items ++ x ∷ [] → see x ≡ f i → map see items ≡ map f (range_with_len 0 i) → map see more ≡ map f (range_with_len 0 (i + 1))
seen_push see f items more i x pushed is so_far =
    table_push f (map see items) (map see more) i (see x) (ap (map see) pushed ∙ map-append see items (x ∷ [])) is so_far

-- all entries
pub table_end : {A : Type 0} (f : ℕ → A) (items : List A) (i n : ℕ) → i ≤ n → n ≤ i → items ≡ map f (range_with_len 0 i) → items ≡ map f (range_with_len 0 n)
table_end f items i n low high so_far = let e : i ≡ n = omega arith in rw e at so_far

-- one entry more of a table over the items of a list, with their places
pub enumerated_push : {A B : Type 0} (f : ℕ × A → B) (xs : List A) (items more : List B) (i : ℕ) (x : B) (d : A) → i < length xs → more ≡ items ++ x ∷ [] → x ≡ f (i, get_or xs i d) → items ≡ map f (take i (enumerate_from 0 xs)) → more ≡ map f (take (i + 1) (enumerate_from 0 xs))
enumerated_push f xs items more i x d h pushed is so_far =
    let there : i < length (enumerate_from 0 xs) = omega (arith, length-enumerate_from 0 xs) in
    let last : get_or (enumerate_from 0 xs) i (0, d) ≡ (i, get_or xs i d) = get_or-enumerate_from 0 xs i (0, d) h ∙ ap (λ n. (n, get_or xs i d)) (let e : 0 + i ≡ i = omega arith in e) in
    pushed ∙ ap (λ ys. ys ++ x ∷ []) so_far ∙ ap (λ y. map f (take i (enumerate_from 0 xs)) ++ y ∷ []) (is ∙ ap f (sym last))
    ∙ sym (map-append f (take i (enumerate_from 0 xs)) (get_or (enumerate_from 0 xs) i (0, d) ∷ [])) ∙ ap (map f) (sym (take_more (enumerate_from 0 xs) i (0, d) there))

-- and all of them
pub enumerated_end : {A B : Type 0} (f : ℕ × A → B) (xs : List A) (items : List B) (i : ℕ) → length xs ≤ i → items ≡ map f (take i (enumerate_from 0 xs)) → items ≡ map f (enumerate_from 0 xs)
enumerated_end f xs items i h so_far = so_far ∙ ap (map f) (take_all i (enumerate_from 0 xs) (omega (arith, length-enumerate_from 0 xs)))

-- the table of a host, from its id and its ways
pub host_table_from : (network : Network) (h n : ℕ) (host : NetHost) (flows : List FlowTable) → n ≡ host.id → flows ≡ map (flow_table_of network h host) (range_with_len 0 (length network.devices)) → record { id = n; flows = flows } ≡ host_table_of network h host
host_table_from network h n host flows id are =
    ap (λ (m : ℕ). let t : HostTable = record { id = m; flows = flows } in t) id ∙ ap (λ (ys : List FlowTable). let t : HostTable = record { id = host.id; flows = ys } in t) are
