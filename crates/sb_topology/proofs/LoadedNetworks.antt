-- What is loaded is accepted, and what is accepted is loaded.
use Rattle.std.proofs.Common.{◌≡◌, ℕ, true, List, [], length, map, refl, ap, sym, subst, ◌∙◌, Option, None, Ok}
use Rattle.std.specs.Prelude.{nat_le}
use Rattle.std.proofs.lemmas.Bool.{le-leb}
use Rattle.std.proofs.lemmas.List.{length-map}
use Rattle.sb_packet.specs.Networks.{NetHost, NetLink, Network}
use Rattle.sb_text.specs.Sentences.{◌>>=◌, some_or}
use Rattle.sb_flow.specs.Accepted.{IsAccepted, repeated_id, word_count}
use Rattle.sb_flow.specs.Ends.{unlinked_place}
use Rattle.sb_fields.specs.Counts.{bundle_counts}
use Rattle.sb_fields.specs.Json.{spelled, written_by, written_in}
use Rattle.sb_fields.specs.Objects.{bundle_in}
use Rattle.sb_fields.specs.Written.{WrittenBundle}
use Rattle.sb_fields.specs.declared.fault.LoadFault.TheVariants as faults
use Rattle.sb_topology.specs.Bundles.{bundle_of, network_written}
use Rattle.sb_topology.specs.Lines.{hosts_by}
use Rattle.sb_topology.specs.Places.{named_network, silent_host}
use Rattle.sb_topology.specs.Tests.{devices_tested, links_tested, scripts_tested, unless_found}
use Rattle.sb_topology.proofs.Chains.{bind_ok}
use Rattle.sb_topology.proofs.KeptNetworks.{asked, kept, made, named_then, same_ids, silent_ids}
use Rattle.sb_topology.proofs.ToldHosts.{ToldBehind, hosts_by_then}

-- What fields say, once all are in range, is accepted.
pub accepted_written : (b : WrittenBundle) (network : Network) (u : Unit {0}) → bundle_counts b ≡ Ok u → network_written b ≡ Ok network → IsAccepted network
accepted_written b network u counted written = let facts = kept b network u counted written in record {
  limits = facts.limits;
  names = facts.names;
  link_names = facts.link_names;
  named = facts.named;
  ids = facts.ids;
  placed = facts.placed;
  apart = facts.apart;
  images = facts.images;
  widths = facts.widths;
  ends = facts.ends;
  forward = facts.forward;
  linked = facts.linked;
  lines = asked b network written;
  routes = facts.routes;
  words = facts.words;
}

-- A network that a text spells without a fault is accepted.
pub loaded_is_accepted : (text : List ℕ) (network : Network) → bundle_of text ≡ Ok network → IsAccepted network
loaded_is_accepted text network e =
    let written = bind_ok (written_by text) network_written network e in
    let value = bind_ok (some_or (spelled text) faults.Json) written_in written.0 written.1 in
    let fields = bind_ok (bundle_in value.0) (λ fields. bundle_counts fields >>= (λ done. Ok fields)) written.0 value.2 in
    let counted = bind_ok (bundle_counts fields.0) (λ done. Ok fields.0) written.0 fields.2 in
    let is : fields.0 ≡ written.0 = cc counted.2 in
    accepted_written written.0 network counted.0 (subst (λ (b : WrittenBundle). bundle_counts b ≡ Ok counted.0) is counted.1) written.2

-- no test finds a fault in an accepted network
made_is_loaded : (b : WrittenBundle) (links : List NetLink) (wire : Option ℕ) (hosts : List NetHost) → named_network b ≡ Ok (made b links wire) → hosts_by 0 [] b.hosts ≡ Ok hosts
    → IsAccepted (record (made b links wire) { hosts = hosts }) → network_written b ≡ Ok (record (made b links wire) { hosts = hosts })
unfolding devices_tested links_tested scripts_tested unless_found
made_is_loaded b links wire hosts named read whole =
    rw (named, ids, whole.placed, whole.apart, whole.images, whole.widths, whole.ends, whole.forward, linked, read, whole.routes, few) refl
  where
    told : ToldBehind [] b.hosts hosts
    told = hosts_by_then 0 [] b.hosts hosts read

    ids : repeated_id (made b links wire) ≡ None
    ids = same_ids (map silent_host b.hosts) hosts (silent_ids b.hosts ∙ sym told.ids ∙ sym (ap (map (λ (h : NetHost). h.id)) told.all_are)) ∙ whole.ids

    linked : unlinked_place (made b links wire) ≡ None
    linked = let e : length (map silent_host b.hosts) ≡ length hosts = length-map b.hosts silent_host ∙ sym told.many ∙ sym (ap length told.all_are) in rw e whole.linked

    few : nat_le (word_count (record (made b links wire) { hosts = hosts })) 262144 ≡ true
    few = le-leb (word_count (record (made b links wire) { hosts = hosts })) 262144 whole.words

-- An accepted network is loaded from the fields whose names and lines are its own.
pub accepted_is_loaded : (b : WrittenBundle) (draft : Network) (hosts : List NetHost) → named_network b ≡ Ok draft → hosts_by 0 [] b.hosts ≡ Ok hosts
    → IsAccepted (record draft { hosts = hosts }) → network_written b ≡ Ok (record draft { hosts = hosts })
accepted_is_loaded b draft hosts named read accepted =
    let n = named_then b draft named in
    let named' = subst (λ (p : Network). named_network b ≡ Ok p) (sym n.is) named in
    let accepted' = subst (λ (p : Network). IsAccepted (record p { hosts = hosts })) (sym n.is) accepted in
    subst (λ (p : Network). network_written b ≡ Ok (record p { hosts = hosts })) n.is (made_is_loaded b n.links n.wire hosts named' read accepted')
