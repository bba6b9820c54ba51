-- is_silent: what is found of each ring is so.
use Rattle.std.proofs.Common.{ap, ◌∙◌}
use Rattle.std.specs.List.{list_all}
use Rattle.sb_router.proofs.Silences.{is_silent, silent_found}
use Rattle.sb_router.proofs.lane.Lane.is_silent.Goals as goal

pub returns-clause-no : goal.returns-clause-no
returns-clause-no g c = λ all. c.are_silent.ensures.silent ∙ ap (list_all is_silent) c.deref.ensures.value ∙ silent_found c.args.self.now.inlets.items all
