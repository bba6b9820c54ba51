-- What is found in the tables is what the bundle's routes give.
use Rattle.std.proofs.Common.{◌∙◌, ap, List}
use Rattle.std.specs.Prelude.{option_map}
use Rattle.std.specs.List.{find}
use Rattle.sb_flow.specs.Ways.{is_some_number}
use Rattle.sb_flow.specs.NetworkOf.{network_of}
use Rattle.sb_flow.specs.Tables.{HostTable, PathTable}
use Rattle.sb_flow.specs.Gathered.{legs_at}
use Rattle.sb_flow.specs.declared.leg.Leg.{Leg}
use Rattle.sb_flow.proofs.TableReads.{link_down-is}
use Rattle.sb_flow.proofs.paths.Paths.down.Goals as goal

pub returns : goal.returns
returns c = λ bundle made.
    c.link_from.ensures
    ∙ ap (λ (legs : List Leg). option_map (λ (leg : Leg). leg.link) (find (λ (leg : Leg). is_some_number c.args.router leg.from) legs)) c.legs_of.ensures
    ∙ ap (λ (hosts : List HostTable). option_map (λ (leg : Leg). leg.link) (find (λ (leg : Leg). is_some_number c.args.router leg.from) (legs_at hosts c.args.host c.args.device))) (c.deref.ensures.value ∙ ap (λ (t : PathTable). t.hosts) (c.self.view_is ∙ made))
    ∙ link_down-is (network_of bundle) c.args.router (record { host = c.args.host; device = c.args.device }) bundle.ids
